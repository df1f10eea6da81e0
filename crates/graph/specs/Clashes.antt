-- When rows clash, said of groups.
use Rattle.std.specs.Prelude.{◌≡◌, false, ◌⊎◌, List, [], ◌∷◌}
use Rattle.algebra.specs.Points.{has}
use Rattle.algebra.specs.Placements.{Row}
use Rattle.algebra.specs.declared.points.Relation.TheVariants.{Together}
use Rattle.scene.specs.Scenes.{Clash}
use Rattle.graph.specs.Steps.{SameGroup}

-- a row that cannot be obeyed together with all: it lacks together, and both its ends are in one group
abbrev pub Impossible : List Row → Row → Type 0
Impossible all r = (has r.1 Together ≡ false) × SameGroup all r.0 r.2

-- some row of the list is impossible
abbrev pub SomeImpossible : List Row → List Row → Type 0
SomeImpossible all [] = ⊥
SomeImpossible all (r ∷ rs) = Impossible all r ⊎ SomeImpossible all rs

-- rows clash if and only if one of them is impossible in this sense
abbrev pub ClashTheorem : List Row → Type 0
ClashTheorem rs = (Clash rs → SomeImpossible rs rs) × (SomeImpossible rs rs → Clash rs)
