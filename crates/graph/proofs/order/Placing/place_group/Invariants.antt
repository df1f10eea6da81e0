use Rattle.std.proofs.Common.{◌≡◌, ◌&&◌}
use Rattle.graph.specs.Free.{Grouped}
use Rattle.graph.specs.Reaching.{reaches}
use Rattle.graph.specs.Sets.{holds}
use Rattle.graph.proofs.Moves.{Marks}
use Rattle.graph.proofs.order.Placing.place_group.Given as goal

abbrev pub invariant-loop-m : goal.invariant-loop-m
invariant-loop-m g l =
    let t = reaches l.initial.self.reached.now.closure.matrix.rows in
    (l.self.reached.now ≡ l.initial.self.reached.now)
    × Grouped t l.m l.leader (record { place = l.place; leader = l.leader }) l.initial.entries l.entries
    × Marks (λ x. t l.leader x && t x l.leader) (holds l.initial.self.placed) l.m (holds l.self.placed)
