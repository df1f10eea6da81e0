use Rattle.std.proofs.Common.{◌∙◌, arith, rules}
use Rattle.scene.proofs.Pile.{pile_below, pile_past}
use Rattle.scene.proofs.piles.pile_row.Goals as goal

pub returns-then-position-ge-MOST_ROWS : goal.returns-then-position-ge-MOST_ROWS
returns-then-position-ge-MOST_ROWS g c = λ more told. pile_past (g.S.Source.scene c.args.below.now).rows more c.args.position (omega arith)

pub returns-in-None : goal.returns-in-None
returns-in-None g c =
    let s = g.S.Source.scene c.args.below.now in
    λ more told. c.row.ensures ∙ pile_below s.rows more c.args.position c.args.position (g.S.Source.lawful c.args.below.now).short (search rules)
