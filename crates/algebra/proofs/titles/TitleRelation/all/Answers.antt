use Rattle.std.proofs.Common.{sym, subst}
use Rattle.algebra.specs.Titles.{OneHolds}
use Rattle.algebra.proofs.Standing.{one_holds}
use Rattle.algebra.proofs.titles.TitleRelation.all.Goals as goal

pub returns : goal.returns
returns c = record { list = c.listed.ensures; one = subst OneHolds (sym c.listed.ensures) one_holds }
