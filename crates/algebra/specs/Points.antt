-- The three relations between moments, and sets of them.
use Rattle.std.specs.Prelude.{◌≡◌, ℕ, ◌/◌, ◌%◌, Bool, List, ℤ, ◌<ℤ◌, codes, ◌==◌}
use Rattle.algebra.specs.declared.points.Relation.{Relation}
use Rattle.algebra.specs.declared.points.Relation.TheVariants.{Before, Together, After}

-- what a relation adds to a set
abbrev pub value_of : Relation → ℕ
value_of Before = 1
value_of Together = 2
value_of After = 4

-- the word for a relation
abbrev pub word_of : Relation → List ℕ
word_of Before = codes "before"
word_of Together = codes "together"
word_of After = codes "after"

-- whether a set holds a relation: a set is the sum of the values of its members
abbrev pub has : ℕ → Relation → Bool
has set q = (set / value_of q % 2) == 1

-- the relation holds of two whole numbers
abbrev pub Holds : Relation → ℤ → ℤ → Type 0
Holds Before x y = x <ℤ y
Holds Together x y = x ≡ y
Holds After x y = y <ℤ x
