use Rattle.graph.proofs.Verdict.{clash_theorem}
use Rattle.graph.proofs.consistency.consistent.Goals as goal

pub returns-clause-theorem : goal.returns-clause-theorem
returns-clause-theorem g c = let s = g.S.Source.scene c.args.source.now in let law = g.S.Source.lawful c.args.source.now in clash_theorem s.moments s.rows law.few law.own
