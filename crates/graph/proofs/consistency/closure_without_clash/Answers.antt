use Rattle.std.proofs.Common.{subst}
use Rattle.graph.specs.Reaching.{Tells, reaches}
use Rattle.graph.proofs.Tables.{tells_again}
use Rattle.graph.proofs.consistency.closure_without_clash.Goals as goal

pub returns : goal.returns
returns g c =
    let e = c.in_ok-reached.ensures in
    let reached = c.in_ok-reached.reached in
    let s = g.S.Source.scene reached.source.now in
    (e.0, subst (λ v. Tells (reaches reached.closure.matrix.rows) (g.S.Source.scene v).rows) e.1 (tells_again s.moments s.rows (g.S.Source.lawful reached.source.now) (reaches reached.closure.matrix.rows) reached.tells))
