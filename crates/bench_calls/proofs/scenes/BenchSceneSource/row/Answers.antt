use Rattle.std.proofs.Common.{◌≡◌, length, Some, None, sym, ap, ◌∙◌, arith, rules}
use Rattle.std.proofs.lemmas.Option.{slice_get-get_or, slice_get_within}
use Rattle.std.specs.List.{slice_get}
use Rattle.scene.proofs.Pile.{at_most}
use Rattle.scene.proofs.Positions.{nth_there}
use Rattle.bench_calls.specs.Lent.{blank, seen}
use Rattle.bench_calls.proofs.Rows.{row_at, none_past}
use Rattle.bench_calls.proofs.scenes.BenchSceneSource.row.Goals as goal

pub returns-in_err-row : goal.returns-in_err-row
returns-in_err-row c =
    let rows = c.args.self.now.rows in
    let k = c.args.position in
    let long : length rows ≡ 4096 = search rules in
    let none : None ≡ slice_get rows k = sym c.in_err-row.was ∙ c.row_in.ensures in
    let past = at_most k (length rows) (λ h. nth_there rows k h none) in c.from_residual.ensures ∙ none_past rows 0 4096 k (omega arith)

pub returns : goal.returns
returns c =
    let rows = c.args.self.now.rows in
    let k = c.args.position in
    let row = c.in_ok-row.row in
    let long : length rows ≡ 4096 = search rules in
    let some : slice_get rows k ≡ Some row = sym c.row_in.ensures ∙ c.in_ok-row.was in
    let below = slice_get_within rows k row some in
    let h = slice_get-get_or rows k blank below in
    ap Some (c.from.ensures ∙ ap seen (search rules)) ∙ row_at rows 0 4096 k k (omega arith) (omega arith)
