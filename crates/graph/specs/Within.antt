-- Paths that pass only through low moments.
use Rattle.std.specs.Prelude.{ℕ, ◌<◌, Bool, List, Decides}
use Rattle.algebra.specs.Placements.{Row}
use Rattle.graph.specs.Steps.{Step}

-- a path whose inner moments are below k
pub data Within (E : ℕ → ℕ → Type 0) (k : ℕ) : ℕ → ℕ → Type 0 where
  here : {x : ℕ} → Within E k x x
  last : {x y : ℕ} → E x y → Within E k x y
  more : {x y z : ℕ} → E x y → y < k → Within E k y z → Within E k x z

-- a moment reaches another just when such a path of steps leads there
abbrev pub TellsWithin : (ℕ → ℕ → Bool) → List Row → ℕ → Type 0
TellsWithin t rs k = (x y : ℕ) → x < 256 → y < 256 → Decides (t x y) (Within (Step rs) k x y)
