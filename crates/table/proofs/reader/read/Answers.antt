use Rattle.std.proofs.Common.{◌≡◌, ℕ, ◌+◌, ◌-◌, true, List, length, take, drop, Some, None, Option, MatchOption, Err, vec_items, sym, ap, ◌∙◌, subst, arith}
use Rattle.std.proofs.lemmas.List.{take_rest}
use Rattle.std.proofs.lemmas.Result.{err_from_is_err_and}
use Rattle.scene.specs.declared.refusals.Refusal.TheVariants.{TableMalformed, TooManyRows}
use Rattle.scene.specs.Scenes.{all_fit}
use Rattle.table.specs.Readings.{NoStart, NoEnd, EndBefore, Reads, found, too_long, no_start}
use Rattle.table.specs.Told.{Told}
use Rattle.table.proofs.Closing.{none_of, some_of, lacking, given, told_refusal, rows_fit, no_end, bytes_late, rows_many, whole}
use Rattle.table.proofs.reader.read.Goals as goal

-- what is told of the end at a place
module _ (bytes : List ℕ) (place : ℕ) (o : Option ℕ) where
  abbrev rest : List ℕ
  rest = take (length bytes - place) (drop place bytes)

  abbrev Ended : Type 0
  Ended = MatchOption o (NoEnd rest) (EndBefore rest)

  not_ended : o ≡ None → Ended → NoEnd (drop place bytes)
  not_ended is told = subst NoEnd (take_rest bytes place) (none_of (NoEnd rest) (EndBefore rest) o is told)

  ended : (n : ℕ) → o ≡ Some n → Ended → EndBefore (drop place bytes) n
  ended n is told = subst (λ bs. EndBefore bs n) (take_rest bytes place) (some_of (NoEnd rest) (EndBefore rest) o n is told)

pub returns-then-bytes-gt-MOST_BYTES : goal.returns-then-bytes-gt-MOST_BYTES
returns-then-bytes-gt-MOST_BYTES c = told_refusal c.args.bytes.now c.refuse.result TableMalformed 0 c.refuse.ensures (too_long (omega arith))

pub returns-in_err-last : goal.returns-in_err-last
returns-in_err-last c =
    let p = err_from_is_err_and c.from_residual.result c.from_residual.ensures.1 in
    let bytes = c.args.bytes.now in
    let l = lacking c.refuse-2.result c.start_of.result c.ok_or.result c.in_err-last.field-0.0 c.ok_or.ensures.value c.in_err-last.was in
    let none = none_of (NoStart bytes) _ c.start_of.result l.0 c.start_of.ensures in
    subst (Told (Reads bytes)) (sym (p.1 ∙ ap Err (p.2 ∙ l.1))) (told_refusal bytes c.refuse-2.result TableMalformed 0 c.refuse-2.ensures (no_start (omega arith) none))

pub returns-in_err-after : goal.returns-in_err-after
returns-in_err-after c =
    let p = err_from_is_err_and c.from_residual-in_err-after.result c.from_residual-in_err-after.ensures.1 in
    let bytes = c.args.bytes.now in
    let s = c.in_ok-rows.field-0 in
    let held = c.in_ok-rows.ensures in
    let l = lacking c.refuse-3.result c.after_end.result c.ok_or-2.result c.in_err-after.field-0.0 c.ok_or-2.ensures.value c.in_err-after.was in
    let none = not_ended bytes s.place c.after_end.result l.0 c.after_end.ensures in
    subst (Told (Reads bytes)) (sym (p.1 ∙ ap Err (p.2 ∙ l.1))) (told_refusal bytes c.refuse-3.result TableMalformed s.place c.refuse-3.ensures (no_end bytes c.in_ok-last.last s held.0 held.1 none))

pub returns-then-after-gt0 : goal.returns-then-after-gt0
returns-then-after-gt0 c =
    let bytes = c.args.bytes.now in
    let s = c.in_ok-rows.field-0 in
    let held = c.in_ok-rows.ensures in
    let end = ended bytes s.place c.after_end.result c.in_ok-after.after (given c.refuse-3.result c.after_end.result c.ok_or-2.result c.in_ok-after.after c.ok_or-2.ensures.value c.in_ok-after.was) c.after_end.ensures in
    let e = c.refuse-then-after-gt0.result in
    told_refusal bytes e TableMalformed (s.place + 1) c.refuse-then-after-gt0.ensures (bytes_late bytes c.in_ok-last.last s held.0 held.1 (drop 1 (drop s.place bytes)) end.0 (omega (arith, end.1)))

pub returns-then-len-gt-MOST_WORKING_ROWS : goal.returns-then-len-gt-MOST_WORKING_ROWS
returns-then-len-gt-MOST_WORKING_ROWS c =
    let bytes = c.args.bytes.now in
    let s = c.in_ok-rows.field-0 in
    let held = c.in_ok-rows.ensures in
    let end = ended bytes s.place c.after_end.result c.in_ok-after.after (given c.refuse-3.result c.after_end.result c.ok_or-2.result c.in_ok-after.after c.ok_or-2.ensures.value c.in_ok-after.was) c.after_end.ensures in
    let e = c.refuse-then-len-gt-MOST_WORKING_ROWS.result in
    told_refusal bytes e TooManyRows 0 c.refuse-then-len-gt-MOST_WORKING_ROWS.ensures
    (rows_many bytes c.in_ok-last.last s held.0 held.1 (drop 1 (drop s.place bytes)) end.0 (omega (arith, end.1)) (omega (arith, s.rows.ok.0)))

pub invariant_of-result : goal.invariant_of-result
invariant_of-result c =
    let s = c.in_ok-rows.field-0 in
    let held = c.in_ok-rows.ensures in
    record {
      some = omega arith;
      few = omega arith;
      short = omega (arith, s.rows.ok.0);
      own = subst (λ n. all_fit (n + 1) (vec_items s.rows) ≡ true) (sym c.from.ensures) (rows_fit c.args.bytes.now c.in_ok-last.last s held.0 held.1);
    }

pub returns : goal.returns
returns c =
    let bytes = c.args.bytes.now in
    let s = c.in_ok-rows.field-0 in
    let held = c.in_ok-rows.ensures in
    let end = ended bytes s.place c.after_end.result c.in_ok-after.after (given c.refuse-3.result c.after_end.result c.ok_or-2.result c.in_ok-after.after c.ok_or-2.ensures.value c.in_ok-after.was) c.after_end.ensures in
    subst (λ n. Reads bytes (found (n + 1) (vec_items s.rows))) (sym c.from.ensures)
    (whole bytes c.in_ok-last.last s held.0 held.1 (drop 1 (drop s.place bytes)) end.0 (omega (arith, end.1)) (omega (arith, s.rows.ok.0)))
