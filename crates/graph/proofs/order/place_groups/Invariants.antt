use Rattle.std.proofs.Common.{◌≡◌}
use Rattle.graph.specs.Sets.{holds}
use Rattle.graph.proofs.Progress.{State, unmarked}
use Rattle.graph.proofs.order.place_groups.Given as goal

abbrev pub invariant-loop-leader : goal.invariant-loop-leader
invariant-loop-leader g l =
    let s = g.S.Source.scene l.fn.reached.source.now in
    (l.placing.reached.now ≡ l.fn.reached) × State s.moments s.rows l.initial.entries l.entries (holds l.placing.placed) l.places

abbrev pub decreases-loop-leader : goal.decreases-loop-leader
decreases-loop-leader g l = unmarked (holds l.placing.placed) (g.S.Source.scene l.fn.reached.source.now).moments
