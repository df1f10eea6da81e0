-- Which moment reaches which, read from a set of moments for each.
use Rattle.std.specs.Prelude.{◌≡◌, ℕ, ◌<◌, Bool, true, not, ◌&&◌, ◌||◌, ◌⊎◌, List, [], Decides, ◌==◌, slice_index_or}
use Rattle.algebra.specs.Placements.{Row}
use Rattle.algebra.specs.Points.{has}
use Rattle.algebra.specs.declared.points.Relation.TheVariants.{Before, After}
use Rattle.graph.specs.declared.moments.Moments.{Moments}
use Rattle.graph.specs.Sets.{holds}
use Rattle.graph.specs.Steps.{Path, Step}

-- the set of a moment past the end
abbrev pub none : Moments
none = record { words = [] }

-- whether the set of x has y
abbrev pub reaches : List Moments → ℕ → ℕ → Bool
reaches rows x y = holds (slice_index_or rows x none) y

-- the moment x reaches y just when a path of steps leads there
abbrev pub Tells : (ℕ → ℕ → Bool) → List Row → Type 0
Tells t rs = (x y : ℕ) → x < 256 → y < 256 → Decides (t x y) (Path (Step rs) x y)

-- a step of the rows, or the one from p to q
abbrev pub StepOr : List Row → ℕ → ℕ → ℕ → ℕ → Type 0
StepOr rs p q x y = Step rs x y ⊎ ((x ≡ p) × (y ≡ q))

-- the moment x reaches y just when a path of these leads there
abbrev pub TellsMore : (ℕ → ℕ → Bool) → List Row → ℕ → ℕ → Type 0
TellsMore t rs p q = (x y : ℕ) → x < 256 → y < 256 → Decides (t x y) (Path (StepOr rs p q) x y)

-- the set of x has x, and each moment that one step leads to
abbrev pub TellsSteps : (ℕ → ℕ → Bool) → List Row → Type 0
TellsSteps t rs = (x y : ℕ) → x < 256 → y < 256 → Decides (t x y) ((x ≡ y) ⊎ Step rs x y)

-- steps are between moments below 256
abbrev pub Inside : List Row → Type 0
Inside rs = (x y : ℕ) → Step rs x y → (x < 256) × (y < 256)

-- a table that also has y for x, where it is told to
abbrev pub put : Bool → (ℕ → ℕ → Bool) → ℕ → ℕ → ℕ → ℕ → Bool
put told t p q x y = t x y || (told && (x == p && y == q))

-- a table with the steps of one row
abbrev pub stepped : Row → (ℕ → ℕ → Bool) → ℕ → ℕ → Bool
stepped r t = put (not (has r.1 Before)) (put (not (has r.1 After)) t r.0 r.2) r.2 r.0

-- with one more step from p to q: x reaches y where it did, or where x reached p and q reached y
abbrev pub grown : (ℕ → ℕ → Bool) → ℕ → ℕ → ℕ → ℕ → Bool
grown t p q x y = t x y || (t x p && t q y)

-- each moment reaches itself
abbrev pub Selfs : (ℕ → ℕ → Bool) → Type 0
Selfs t = (x : ℕ) → x < 256 → t x x ≡ true

-- what is reached from a moment reached is reached
abbrev pub Joins : (ℕ → ℕ → Bool) → Type 0
Joins t = (v : ℕ × ℕ × ℕ) → (v.0 < 256) × (v.1 < 256) × (v.2 < 256) × (t v.0 v.1 ≡ true) × (t v.1 v.2 ≡ true) → t v.0 v.2 ≡ true
