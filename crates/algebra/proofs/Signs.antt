-- How two whole numbers stand to each other.
use Rattle.std.proofs.Common.{◌≡◌, Bool, true, ◌||◌, List, [], ◌∷◌, ℤ, ◌+ℤ◌, ◌<ℤ◌, refl, ap, arith, lit<}
use Rattle.std.specs.List.{ContainsAt as Has, list_all}
use Rattle.std.proofs.lemmas.Int.{ints, by_lt_z}
use Rattle.std.proofs.lemmas.Bool.{eq-eqb}
use Rattle.std.proofs.lemmas.Bool.Decides.{nat_tests}
use Rattle.algebra.specs.declared.points.Relation.{Relation}
use Rattle.algebra.specs.declared.points.Relation.TheVariants.{Before, Together, After}
use Rattle.algebra.specs.Points.{value_of, Holds}
use Rattle.algebra.specs.Rules.{same}
use Rattle.algebra.proofs.Passing.{passes}

pub trichotomy : (x y : ℤ) → (q : Relation) × Holds q x y
trichotomy x y = by_lt_z x y (λ h. (Before, h)) (λ h. by_lt_z y x (λ k. (After, k)) (λ k. (Together, omega (arith, ints))))

pub holds_same : (q r : Relation) (x y : ℤ) → Holds q x y → Holds r x y → q ≡ r
holds_same q r x y h k = grind (arith, ints)

pub same_true : (q r : Relation) → same q r ≡ true → q ≡ r
same_true q r e = grind (arith, nat_tests)

pub same_from : {q r : Relation} → q ≡ r → same q r ≡ true
same_from {q} {r} e = eq-eqb (value_of q) (value_of r) (ap value_of e)

-- the sign of two moments, and then with the left one later or the right one earlier: first before, or then after
abbrev pub step : Relation → Relation → Bool
step q r = same q Before || same r After

pub step_from : (q r : Relation) (a b c d : ℤ) → Holds q a b → Holds r c d → (a +ℤ d) <ℤ (c +ℤ b) → step q r ≡ true
step_from q r a b c d h k l = grind (arith, ints)

abbrev pub three : List Relation
three = Before ∷ Together ∷ After ∷ []

in_three : (q : Relation) → Has three q
in_three Before = (0, lit< tt, λ _. refl)
in_three Together = (1, lit< tt, λ _. refl)
in_three After = (2, lit< tt, λ _. refl)

pub at_each : (f : Relation → Bool) → list_all f three ≡ true → (q : Relation) → f q ≡ true
at_each f e q = passes f three q (in_three q) e
