use Rattle.std.proofs.Common.{◌+◌, ◌-◌, ap, ◌∙◌, arith}
use Rattle.std.specs.List.{slice_get}
use Rattle.scene.proofs.Marking.{nth_without, nth_after, none_past}
use Rattle.scene.proofs.left_out.LeftOutSource.row.Goals as goal

pub returns-then-position-ge-MOST_ROWS : goal.returns-then-position-ge-MOST_ROWS
returns-then-position-ge-MOST_ROWS g c =
    let self = c.args.self.now in
    let s = g.S.Source.scene self.below.now in
    none_past self.marks.now s.rows c.args.position (omega (arith, (g.S.Source.lawful self.below.now).short))

pub returns-in-Some : goal.returns-in-Some
returns-in-Some g c =
    let self = c.args.self.now in
    let kept = c.in-Some.ensures in
    c.row.ensures ∙ nth_without self.marks.now (g.S.Source.scene self.below.now).rows c.in-Some.below c.args.position kept.0 kept.1

pub returns-in-None : goal.returns-in-None
returns-in-None g c =
    let self = c.args.self.now in
    let rows = (g.S.Source.scene self.below.now).rows in
    let k = c.args.position in
    c.row-in-None.ensures ∙ ap (λ n. slice_get rows (4096 + (k - n))) c.rank.ensures ∙ nth_after self.marks.now rows k self.markable c.in-None.ensures
