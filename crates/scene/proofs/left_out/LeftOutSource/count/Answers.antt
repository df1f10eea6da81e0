use Rattle.std.proofs.Common.{◌+◌, ◌-◌, ap, ◌∙◌, arith}
use Rattle.scene.specs.Marks.{unmarked}
use Rattle.scene.proofs.Marking.{count_without, count_after}
use Rattle.scene.proofs.left_out.LeftOutSource.count.Goals as goal

pub returns-then-below-le-MARKABLE : goal.returns-then-below-le-MARKABLE
returns-then-below-le-MARKABLE g c =
    let marks = c.args.self.now.marks.now in
    c.rank.ensures ∙ ap (unmarked marks) c.count-below.ensures ∙ count_without marks (g.S.Source.scene c.args.self.now.below.now).rows

pub returns-else-below-le-MARKABLE : goal.returns-else-below-le-MARKABLE
returns-else-below-le-MARKABLE g c =
    let marks = c.args.self.now.marks.now in
    (λ i. c.rank-else-below-le-MARKABLE.ensures i + (c.count-below.ensures i - 4096))
    ∙ count_after marks (g.S.Source.scene c.args.self.now.below.now).rows c.args.self.now.markable (omega (arith, c.count-below.ensures))
