use Rattle.std.proofs.Common.{false, get_or}
use Rattle.scene.proofs.Marking.{Turned}
use Rattle.scene.proofs.left_out.find_remaining.Given as goal

abbrev pub invariant-loop-k : goal.invariant-loop-k
invariant-loop-k l = Turned (λ k. get_or l.table k false) l.positions l.ranks l.open l.k
