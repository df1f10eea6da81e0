use Rattle.std.proofs.Common.{sym, ◌∙◌, arith}
use Rattle.algebra.specs.Placements.{Row}
use Rattle.scene.proofs.Owned.{small_ends}
use Rattle.scene.proofs.Positions.{rest_at}
use Rattle.scene.proofs.sources.RowsIterator.next.Goals as goal

pub overflow_cast-result : goal.overflow_cast-result
overflow_cast-result g c =
    let self = c.args.self.now in
    let row : Row = (c.in_ok-left.left, c.in_ok-left.set, c.in_ok-left.right) in
    omega (arith, (small_ends (g.S.Source.scene self.source.now) self.position row (g.S.Source.lawful self.source.now) (sym c.in_ok-left.was ∙ c.row.ensures)).0)

pub overflow_cast-result-2 : goal.overflow_cast-result-2
overflow_cast-result-2 g c =
    let self = c.args.self.now in
    let row : Row = (c.in_ok-left.left, c.in_ok-left.set, c.in_ok-left.right) in
    omega (arith, (small_ends (g.S.Source.scene self.source.now) self.position row (g.S.Source.lawful self.source.now) (sym c.in_ok-left.was ∙ c.row.ensures)).1)

pub returns-clause-steps : goal.returns-clause-steps
returns-clause-steps g c =
    let self = c.args.self.now in
    rest_at (g.S.Source.scene self.source.now).rows self.position (c.in_ok-left.left, c.in_ok-left.set, c.in_ok-left.right) (sym c.in_ok-left.was ∙ c.row.ensures)
