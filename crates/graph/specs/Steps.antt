-- Steps between moments, the paths that they make, groups and their leaders.
use Rattle.std.specs.Prelude.{◌≡◌, ℕ, ◌≤◌, false, ◌⊎◌, List, [], ◌∷◌}
use Rattle.algebra.specs.Points.{has}
use Rattle.algebra.specs.Placements.{Row}
use Rattle.algebra.specs.declared.points.Relation.TheVariants.{Before, After}

-- a row makes a step from p to q: its moments are p and q and it lacks after, or they are q and p and it lacks before
abbrev pub StepOf : Row → ℕ → ℕ → Type 0
StepOf r p q = ((r.0 ≡ p) × (r.2 ≡ q) × (has r.1 After ≡ false)) ⊎ ((r.2 ≡ p) × (r.0 ≡ q) × (has r.1 Before ≡ false))

-- a step from p to q: some row makes it
abbrev pub Step : List Row → ℕ → ℕ → Type 0
Step [] p q = ⊥
Step (r ∷ rs) p q = StepOf r p q ⊎ Step rs p q

-- a path: any number of steps, one after another
pub data Path (E : ℕ → ℕ → Type 0) : ℕ → ℕ → Type 0 where
  stay : {x : ℕ} → Path E x x
  onward : {x y z : ℕ} → E x y → Path E y z → Path E x z

-- two moments share a group: paths of steps lead each way; a moment shares its own
abbrev pub SameGroup : List Row → ℕ → ℕ → Type 0
SameGroup rs x y = Path (Step rs) x y × Path (Step rs) y x

-- l is the leader of the group of m: its lowest moment
abbrev pub Leads : List Row → ℕ → ℕ → Type 0
Leads rs l m = SameGroup rs m l × ((k : ℕ) → SameGroup rs m k → l ≤ k)
