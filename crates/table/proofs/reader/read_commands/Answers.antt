use Rattle.std.proofs.Common.{◌≡◌, ℕ, ◌+◌, Bool, false, List, [], ◌∷◌, ◌++◌, get_or, Ok, Err, vec_items, Result, sym, refl, ap, ◌∙◌, subst, arith}
use Rattle.std.proofs.lemmas.List.{take_rest}
use Rattle.std.proofs.lemmas.Slice.{pushed}
use Rattle.std.proofs.lemmas.Result.{err_from_is_err_and}
use Rattle.std.specs.Result.{result_map_both}
use Rattle.scene.specs.declared.refusals.Refusal.{Refusal}
use Rattle.scene.specs.Checks.{Check, First, Clear, Answers}
use Rattle.table.specs.declared.reader.ReadError.{ReadError}
use Rattle.table.specs.declared.stating.Statement.{Statement}
use Rattle.table.specs.Commands.{Begins, stated, of_command}
use Rattle.table.specs.Statements.{rows_in}
use Rattle.table.specs.Told.{same, fault_at, Commanded}
use Rattle.table.proofs.Reading.{Progress, refused_here, progress_more}
use Rattle.table.proofs.reader.read_commands.Goals as goal

-- a refusal that gained its place is that of the first check
module _ (place : ℕ) (cs : List (Check Refusal)) (Good : Statement → Type 0) where
  told_refused : (r : Result Statement Refusal) (e : ReadError) → Answers cs Good r → Err e ≡ result_map_both same (fault_at place) r → (x : Refusal) × (fault_at place x ≡ e) × First cs x
  told_refused (Ok s) e a is = let z : ◌≡◌ {A = ℕ} 0 1 = cc in absurd (omega arith)
  told_refused (Err x) e a is = (x, cc, a)

  told_good : (r : Result Statement Refusal) (s : Statement) → Answers cs Good r → Ok s ≡ result_map_both same (fault_at place) r → Clear cs × Good s
  told_good (Ok t) s a is = let e : t ≡ s = cc in (a.0, subst Good e a.1)
  told_good (Err x) s a is = let z : ◌≡◌ {A = ℕ} 0 1 = cc in absurd (omega arith)

pub returns-in_err-statement : goal.returns-in_err-statement
returns-in_err-statement c =
    let p = err_from_is_err_and c.from_residual.result c.from_residual.ensures.1 in
    let bytes = c.args.bytes.now in
    let l = c.loop-command in
    let k = c.in-Some.command in
    let known : ℕ → Bool = λ t. get_or l.context.declared t false in
    let Good : Statement → Type 0 = λ s. rows_in s ≡ stated k in
    let b = subst (λ bs. Begins bs k) (take_rest bytes l.place) c.in-Some.ensures in
    let a = subst (λ n. Answers (of_command n known k) Good c.rows_stated.result) l.invariant.0 c.rows_stated.ensures in
    let t = told_refused l.place (of_command (c.args.last + 1) known k) Good c.rows_stated.result c.in_err-statement.field-0.0 a c.in_err-statement.ensures in
    rw p.1 (subst (λ e. Commanded bytes c.args.last (Err e)) (t.1 ∙ sym p.2)
    (refused_here bytes c.args.last l.place l.context.declared (vec_items l.rows) l.invariant.1 l.invariant.2 k b t.0 t.2))

pub loop-command-preserved : goal.loop-command-preserved
loop-command-preserved c =
    let bytes = c.args.bytes.now in
    let l = c.loop-command in
    let k = c.in-Some.command in
    let s = c.in_ok-statement.statement in
    let known : ℕ → Bool = λ t. get_or l.context.declared t false in
    let Good : Statement → Type 0 = λ s. rows_in s ≡ stated k in
    let b = subst (λ bs. Begins bs k) (take_rest bytes l.place) c.in-Some.ensures in
    let a = subst (λ n. Answers (of_command n known k) Good c.rows_stated.result) l.invariant.0 c.rows_stated.ensures in
    let t = told_good l.place (of_command (c.args.last + 1) known k) Good c.rows_stated.result s a c.in_ok-statement.ensures in
    let rows : vec_items c.add_to.new.rows ≡ vec_items l.rows ++ rows_in s = pushed (rows_in s) refl c.in_ok-add_to.was c.add_to.ensures in (
      c.declare.ensures.moments ∙ l.invariant.0,
      l.invariant.1 ++ k ∷ [],
      subst (λ n. Progress bytes c.args.last (l.place + n) c.declare.new.self.declared (vec_items c.add_to.new.rows) (l.invariant.1 ++ k ∷ [])) (sym c.size-place.ensures)
          (progress_more bytes c.args.last l.place l.context.declared (vec_items l.rows) l.invariant.1 l.invariant.2 k b c.declare.new.self.declared (vec_items c.add_to.new.rows)
          t.0 c.declare.ensures.declared (rows ∙ ap (λ rs. vec_items l.rows ++ rs) t.1)),
    )
