use Rattle.std.proofs.Common.{refl}
use Rattle.algebra.specs.Rules.{shown, closed, Worked}
use Rattle.algebra.proofs.rules.pointisable_sets.Goals as goal

worked : Worked
unfolding shown closed
worked = refl

pub returns : goal.returns
returns c = record { value = c.sets_where.ensures; worked = worked }
