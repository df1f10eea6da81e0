use Rattle.std.proofs.Common.{◌≡◌, ℕ, ◌+◌, ◌<◌, ◌≤◌, Bool, true, false, ◌||◌, eqb, List, [], ◌∷◌, length, get_or, take, set, sym, refl, ap, ◌∙◌, inl, inr, arith}
use Rattle.std.proofs.lemmas.List.{length-replicate, length-set, take_more}
use Rattle.std.proofs.lemmas.Result.{err_from_is_err_and}
use Rattle.scene.specs.declared.refusals.Refusal.{Refusal}
use Rattle.scene.specs.declared.refusals.Refusal.TheVariants.{NoSuchRow}
use Rattle.scene.specs.Checks.{First}
use Rattle.scene.specs.Marks.{marked, low}
use Rattle.scene.proofs.Marking.{set_marks, no_marks, marked_push, low_push, not_low}
use Rattle.scene.proofs.Pile.{at_most}
use Rattle.scene.proofs.left_out.mark_table.Goals as goal

pub loop-mark-init : goal.loop-mark-init
loop-mark-init c = (length-replicate 4096 false, refl, no_marks 4096)

-- a mark that is refused
above : (m : ℕ) (e : Refusal) → First ((NoSuchRow, 4095 < m) ∷ []) e → (NoSuchRow ≡ e) × (4096 ≤ m)
above m e (inl h) = (h.0, h.1)
above m e (inr h) = absurd h.1

pub returns-in_err-check_mark : goal.returns-in_err-check_mark
returns-in_err-check_mark c =
    let p = err_from_is_err_and c.from_residual.result c.from_residual.ensures.1 in
    let i = c.loop-mark.mark-index in
    let h = above (get_or c.args.marks.now i 0) c.in_err-check_mark.field-0.0 c.in_err-check_mark.ensures in
    rw (p.1, p.2) (inl (h.0, not_low c.args.marks.now i (omega arith) h.1))

-- one more mark is set
marks_more : (table : List Bool) (ms : List ℕ) (i k : ℕ) → i < length ms → get_or ms i 0 < length table
    → get_or table k false ≡ marked (take i ms) k → get_or (set table (get_or ms i 0) true) k false ≡ marked (take (i + 1) ms) k
marks_more table ms i k l b h =
    let m = get_or ms i 0 in
    set_marks table m k b ∙ ap (λ t. t || eqb m k) h ∙ sym (ap (λ xs. marked xs k) (take_more ms i 0 l) ∙ marked_push (take i ms) m k)

pub loop-mark-preserved : goal.loop-mark-preserved
loop-mark-preserved c =
    let ms = c.args.marks.now in
    let i = c.loop-mark.mark-index in
    let m = get_or ms i 0 in
    let small = at_most 4095 m c.in_ok-check_mark.ensures.0.0 in (
      length-set c.loop-mark.table m true ∙ c.loop-mark.invariant.0,
      ap low (take_more ms i 0 (omega arith)) ∙ low_push (take i ms) m c.loop-mark.invariant.1 (omega arith),
      λ k. marks_more c.loop-mark.table ms i k (omega arith) (omega arith) (c.loop-mark.invariant.2 k),
    )
