-- Rows over moments, and the placements that obey them.
use Rattle.std.specs.Prelude.{◌≡◌, ℕ, true, List, [], ◌∷◌, ℤ}
use Rattle.algebra.specs.declared.points.Relation.{Relation}
use Rattle.algebra.specs.Points.{Holds, has}

-- a row: the left moment, a set of relations, the right moment
abbrev pub Row : Type 0
Row = ℕ × ℕ × ℕ

-- a placement gives each moment a whole number
abbrev pub Placement : Type 0
Placement = ℕ → ℤ

-- the relation of the left number to the right one is in the row's set
abbrev pub Obeys : Placement → Row → Type 0
Obeys p r = (q : Relation) → Holds q (p r.0) (p r.2) → has r.1 q ≡ true

-- the placement obeys each row
abbrev pub ObeysAll : Placement → List Row → Type 0
ObeysAll p [] = Unit {0}
ObeysAll p (r ∷ rs) = Obeys p r × ObeysAll p rs
