use Rattle.std.proofs.Common.{eqb}
use Rattle.graph.specs.Reaching.{reaches}
use Rattle.graph.proofs.Closed.{same_tells}
use Rattle.graph.proofs.Tables.{right_none}
use Rattle.graph.proofs.closure.Closure.new.Goals as goal

pub returns : goal.returns
returns c = record {
  alone = c.alone.ensures;
  paths = same_tells (reaches c.alone.result.rows) eqb c.alone.ensures right_none;
}
