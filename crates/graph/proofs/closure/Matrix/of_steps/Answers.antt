use Rattle.std.proofs.Common.{length, take, sym, subst, arith}
use Rattle.std.proofs.lemmas.List.{length_push, take_all}
use Rattle.scene.proofs.Rows.{all_rows, row_turn, row_end}
use Rattle.graph.specs.Reaching.{TellsSteps, reaches}
use Rattle.graph.proofs.Reading.{steps_more}
use Rattle.graph.proofs.closure.Matrix.of_steps.Goals as goal

pub loop-row-preserved : goal.loop-row-preserved
loop-row-preserved g c =
    let rs = (g.S.Source.scene c.args.source.now).rows in
    let i = length c.loop-row.yielded in
    let t = row_turn g.S.Source.scene c.args.source.now (all_rows g.S.Source.scene c.args.source.now (cc) (cc))
    c.loop-row.yielded c.loop-row.row-iterator c.loop-row.yielded_by _ c.next.new.self c.in-Some.row c.in-Some.is c.next.ensures.steps in
    subst (λ n. TellsSteps (reaches c.put_steps.new.self.rows) (take n rs)) (sym (length_push c.loop-row.yielded c.in-Some.row))
    (steps_more rs i c.in-Some.row (reaches c.loop-row.matrix.rows) (reaches c.put_steps.new.self.rows) t.1 c.put_steps.ensures c.loop-row.invariant)

pub returns : goal.returns
returns g c =
    let rs = (g.S.Source.scene c.args.source.now).rows in
    let all = row_end g.S.Source.scene c.args.source.now (all_rows g.S.Source.scene c.args.source.now (cc) (cc))
    c.loop-row.yielded c.loop-row.row-iterator c.loop-row.yielded_by _ c.next.new.self c.in-None.is c.next.ensures.steps in
    subst (TellsSteps (reaches c.loop-row.matrix.rows)) (take_all (length c.loop-row.yielded) rs (omega (arith, all))) c.loop-row.invariant
