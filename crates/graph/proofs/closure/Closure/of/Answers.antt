use Rattle.graph.specs.Reaching.{Tells, reaches}
use Rattle.graph.proofs.Closed.{tells_selfs, tells_joins}
use Rattle.graph.proofs.Reading.{lawful_inside}
use Rattle.graph.proofs.closure.Closure.of.Goals as goal

pub invariant_of-result : goal.invariant_of-result
invariant_of-result g c =
    let s = g.S.Source.scene c.args.source.now in
    let t = reaches c.close.new.self.rows in
    let tells : Tells t s.rows = c.close.ensures s.rows (lawful_inside s.moments s.rows (g.S.Source.lawful c.args.source.now)) c.of_steps-matrix.ensures in
    record { selfs = tells_selfs t s.rows tells; joins = tells_joins t s.rows tells }

pub returns : goal.returns
returns g c =
    let s = g.S.Source.scene c.args.source.now in
    c.close.ensures s.rows (lawful_inside s.moments s.rows (g.S.Source.lawful c.args.source.now)) c.of_steps-matrix.ensures
