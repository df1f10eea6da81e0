-- A placement that obeys rows rises along their paths, so an impossible row leaves none.
use Rattle.std.proofs.Common.{◌≡◌, ℕ, true, false, List, [], ◌∷◌, ℤ, ◌≤ℤ◌, subst, subst₂, inl, inr, arith}
use lib.Signed.{≤ℤ_refl}
use Rattle.std.proofs.lemmas.Int.{ints}
use Rattle.std.proofs.lemmas.Bool.{both_ways}
use Rattle.algebra.specs.Placements.{Row, Placement, Obeys, ObeysAll}
use Rattle.algebra.specs.Points.{has, Holds}
use Rattle.algebra.specs.declared.points.Relation.{Relation}
use Rattle.algebra.specs.declared.points.Relation.TheVariants.{Before, Together, After}
use Rattle.algebra.proofs.Signs.{trichotomy}
use Rattle.scene.specs.Scenes.{Clash}
use Rattle.graph.specs.Steps.{Path, stay, onward, Step, StepOf, SameGroup}
use Rattle.graph.specs.Clashes.{SomeImpossible}

-- whatever relation but after holds of two numbers, the first is not the larger
up : (a b : ℤ) (s : ℕ) → has s After ≡ false → (q : Relation) → Holds q a b → has s q ≡ true → a ≤ℤ b
up a b s e Before h k = omega (arith, ints)
up a b s e Together h k = subst (λ v. a ≤ℤ v) h (≤ℤ_refl a)
up a b s e After h k = absurd (both_ways (has s After) e k)

down : (a b : ℤ) (s : ℕ) → has s Before ≡ false → (q : Relation) → Holds q a b → has s q ≡ true → b ≤ℤ a
down a b s e Before h k = absurd (both_ways (has s Before) e k)
down a b s e Together h k = subst (λ v. v ≤ℤ a) h (≤ℤ_refl a)
down a b s e After h k = omega (arith, ints)

row_rises : (p : Placement) (r : Row) (x y : ℕ) → Obeys p r → StepOf r x y → p x ≤ℤ p y
row_rises p r x y o (inl s) =
    let t = trichotomy (p r.0) (p r.2) in
    subst₂ (λ u v. p u ≤ℤ p v) s.0 s.1 (up (p r.0) (p r.2) r.1 s.2 t.0 t.1 (o t.0 t.1))
row_rises p r x y o (inr s) =
    let t = trichotomy (p r.0) (p r.2) in
    subst₂ (λ u v. p u ≤ℤ p v) s.0 s.1 (down (p r.0) (p r.2) r.1 s.2 t.0 t.1 (o t.0 t.1))

step_rises : (p : Placement) (rs : List Row) (x y : ℕ) → ObeysAll p rs → Step rs x y → p x ≤ℤ p y
step_rises p [] x y o s = absurd s
step_rises p (r ∷ rs) x y o (inl s) = row_rises p r x y o.0 s
step_rises p (r ∷ rs) x y o (inr s) = step_rises p rs x y o.1 s

le_trans : (a b c : ℤ) → a ≤ℤ b → b ≤ℤ c → a ≤ℤ c
le_trans a b c h k = omega (arith, ints)

-- along a path the numbers do not fall
pub path_rises : (p : Placement) (rs : List Row) → ObeysAll p rs → {x y : ℕ} → Path (Step rs) x y → p x ≤ℤ p y
path_rises p rs o {x = x} stay = ≤ℤ_refl (p x)
path_rises p rs o (onward {x = x} {y = y} {z = z} s r) = le_trans (p x) (p y) (p z) (step_rises p rs x y o s) (path_rises p rs o r)

level : (a b : ℤ) → a ≤ℤ b → b ≤ℤ a → a ≡ b
level a b h k = omega (arith, ints)

-- a group has one number
pub group_level : (p : Placement) (rs : List Row) → ObeysAll p rs → (x y : ℕ) → SameGroup rs x y → p x ≡ p y
group_level p rs o x y s = level (p x) (p y) (path_rises p rs o s.0) (path_rises p rs o s.1)

impossible_stops : (p : Placement) (all rs : List Row) → ObeysAll p all → ObeysAll p rs → SomeImpossible all rs → ⊥
impossible_stops p all [] o os t = t
impossible_stops p all (r ∷ rs) o os (inl t) = both_ways (has r.1 Together) t.0 (os.0 Together (group_level p all o r.0 r.2 t.1))
impossible_stops p all (r ∷ rs) o os (inr t) = impossible_stops p all rs o os.1 t

-- where a row is impossible, no placement obeys all
pub impossible_clashes : (rs : List Row) → SomeImpossible rs rs → Clash rs
impossible_clashes rs t agree = impossible_stops agree.0 rs rs agree.1 agree.1 t
