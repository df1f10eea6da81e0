use Rattle.std.proofs.Common.{◌≡◌, ◌%◌, ◌<◌, List}
use Rattle.algebra.specs.Placements.{Row}
use Rattle.graph.specs.Reaching.{TellsSteps, reaches}
use Rattle.graph.specs.Within.{TellsWithin}
use Rattle.graph.proofs.closure.Matrix.close.Given as goal

abbrev pub invariant-loop-first : goal.invariant-loop-first
invariant-loop-first l = (l.first % 2 ≡ 0) × (l.first < 256) × ((rs : List Row) → TellsSteps (reaches l.initial.self.rows) rs → TellsWithin (reaches l.self.rows) rs l.first)
