use Rattle.std.proofs.Common.{◌≡◌, eqb, length}
use Rattle.graph.proofs.Growth.{Changed}
use Rattle.graph.proofs.closure.Matrix.alone.Given as goal

abbrev pub invariant-loop-x : goal.invariant-loop-x
invariant-loop-x l = (length l.row-items ≡ 256) × Changed l.initial.row-items eqb l.x l.row-items
