use Rattle.std.proofs.Common.{length, take}
use Rattle.graph.specs.Reaching.{TellsSteps, reaches}
use Rattle.graph.proofs.closure.Matrix.of_steps.Given as goal

abbrev pub invariant-loop-row : goal.invariant-loop-row
invariant-loop-row g l = TellsSteps (reaches l.matrix.rows) (take (length l.yielded) (g.S.Source.scene l.source).rows)
