use Rattle.std.proofs.Common.{◌≡◌, not, length, set, refl, ◌∙◌, arith, length-set, rules}
use Rattle.graph.proofs.Growth.{put_row}
use Rattle.graph.proofs.closure.Matrix.put_steps.Goals as goal

pub returns : goal.returns
returns c = λ x y hx hy.
    let rows = c.args.self.now.rows in
    let left = c.args.row.0 in
    let right = c.args.row.2 in
    let once = set rows left c.put_if.new.self in
    let long : length rows ≡ 256 = search rules in
    let still : length once ≡ 256 = length-set rows left c.put_if.new.self ∙ long in
    let first = put_row rows (not c.is_in.result) left right c.put_if.new.self (omega arith) c.put_if.ensures x y hy in
    let second = put_row once (not c.is_in-2.result) right left c.put_if-2.new.self (omega arith) c.put_if-2.ensures x y hy in
    second ∙ rw (first, c.is_in.ensures, c.is_in-2.ensures) refl
