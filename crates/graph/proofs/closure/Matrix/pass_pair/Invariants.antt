use Rattle.std.proofs.Common.{◌≡◌, length}
use Rattle.graph.specs.Reaching.{reaches}
use Rattle.graph.proofs.Growth.{Changed, paired}
use Rattle.graph.proofs.closure.Matrix.pass_pair.Given as goal

abbrev pub invariant-loop-row : goal.invariant-loop-row
invariant-loop-row l = (length l.row-items ≡ 256) × Changed l.initial.row-items (paired (reaches l.initial.row-items) l.unions l.first) l.row-index l.row-items
