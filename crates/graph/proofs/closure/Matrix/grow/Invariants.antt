use Rattle.std.proofs.Common.{◌≡◌, length}
use Rattle.graph.specs.Reaching.{grown, reaches}
use Rattle.graph.proofs.Growth.{Changed}
use Rattle.graph.proofs.closure.Matrix.grow.Given as goal

abbrev pub invariant-loop-row : goal.invariant-loop-row
invariant-loop-row l = (length l.row-items ≡ 256) × Changed l.initial.row-items (grown (reaches l.initial.row-items) l.p l.q) l.row-index l.row-items
