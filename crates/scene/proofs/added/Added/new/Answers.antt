use Rattle.std.proofs.Common.{◌≡◌, ℕ, ◌+◌, ◌≤◌, true, List, ◌++◌, length, take, sym, ap, ◌∙◌, subst, inr, arith}
use Rattle.std.proofs.lemmas.List.{take_all}
use Rattle.std.proofs.lemmas.Result.{err_from_is_err_and}
use Rattle.algebra.specs.Placements.{Row}
use Rattle.scene.specs.Checks.{First}
use Rattle.scene.specs.Layers.{row_by_row, of_count}
use Rattle.scene.specs.Scenes.{all_fit}
use Rattle.scene.proofs.Pile.{at_most, pile_whole}
use Rattle.scene.proofs.RowByRow.{first_at, first_last, all_clear, fits_more}
use Rattle.scene.proofs.added.Added.new.Goals as goal

pub returns-in_err-check_row : goal.returns-in_err-check_row
returns-in_err-check_row g c =
    let p = err_from_is_err_and c.from_residual.result c.from_residual.ensures.1 in
    let s = g.S.Source.scene c.args.below.now in
    let more = c.args.more.now in
    let e = c.in_err-check_row.field-0.0 in
    rw (p.1, p.2) (subst (λ n. First (row_by_row n more ++ of_count (length s.rows) (length more)) e) c.moments-moments.ensures
    (first_at c.moments-moments.result (of_count (length s.rows) (length more)) more c.loop-row.row-index (0, 0, 0) e (omega arith) c.loop-row.invariant c.in_err-check_row.ensures))

pub loop-row-preserved : goal.loop-row-preserved
loop-row-preserved g c =
    fits_more c.moments-moments.result c.args.more.now c.loop-row.row-index (0, 0, 0) (omega arith) c.loop-row.invariant c.in_ok-check_row.ensures.0

-- the loop is done, so all rows fit
all_own : (m n : ℕ) (rs : List Row) (i : ℕ) → m ≡ n → length rs ≤ i → all_fit m (take i rs) ≡ true → all_fit n rs ≡ true
all_own m n rs i e h t = ap (all_fit n) (sym (take_all i rs h)) ∙ ap (λ k. all_fit k (take i rs)) (sym e) ∙ t

pub returns-in_err-check_count : goal.returns-in_err-check_count
returns-in_err-check_count g c =
    let p = err_from_is_err_and c.from_residual-in_err-check_count.result c.from_residual-in_err-check_count.ensures.1 in
    let s = g.S.Source.scene c.args.below.now in
    let more = c.args.more.now in
    let e = c.in_err-check_count.field-0.0 in
    rw (p.1, p.2) (first_last s.moments (of_count (length s.rows) (length more)) more e
    (all_own c.moments-moments.result s.moments more c.loop-row.row-index c.moments-moments.ensures (omega arith) c.loop-row.invariant)
    c.in_err-check_count.ensures)

pub returns : goal.returns
returns g c =
    let s = g.S.Source.scene c.args.below.now in
    let more = c.args.more.now in
    let passed = c.in_ok-check_count.ensures.0 in (
      all_clear s.moments (of_count (length s.rows) (length more)) more
          (all_own c.moments-moments.result s.moments more c.loop-row.row-index c.moments-moments.ensures (omega arith) c.loop-row.invariant) passed,
      (omega (arith, c.moments-moments.ensures), pile_whole s.rows more (at_most 8192 (length s.rows + length more) (λ h. passed.0 (inr h)))),
    )
