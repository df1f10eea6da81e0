-- Sets of title relations, as the sums of the values of their members.
use Rattle.std.specs.Prelude.{ℕ, Bool, cond, List, sum_by, ◌==◌}
use Rattle.algebra.specs.declared.titles.TitleRelation.{TitleRelation}
use Rattle.std.specs.List.{list_any}
use Rattle.algebra.specs.Titles.{facts, thirteen}

-- whether two title relations are the same
abbrev pub alike : TitleRelation → TitleRelation → Bool
alike t u = (facts t).value == (facts u).value

-- whether a title relation occurs in a list
abbrev pub occurs : List TitleRelation → TitleRelation → Bool
occurs ts u = list_any (λ t. alike t u) ts

-- what a title relation adds to the set of those that pass
abbrev pub weight : (TitleRelation → Bool) → TitleRelation → ℕ
weight f t = cond (f t) (facts t).value 0

-- the set of the title relations that pass
unfoldable pub set_where : (TitleRelation → Bool) → ℕ
set_where f = sum_by (weight f) thirteen

-- the set of the title relations in a list; one that stands there twice counts once
abbrev pub set_of : List TitleRelation → ℕ
set_of ts = set_where (occurs ts)
