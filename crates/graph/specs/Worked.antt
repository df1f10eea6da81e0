-- Small scenes, worked by hand from the rules.
use Rattle.std.specs.Prelude.{ℕ, List, [], ◌∷◌}
use Rattle.algebra.specs.Placements.{Row}
use Rattle.scene.specs.Scenes.{Clash}
use Rattle.graph.specs.declared.order.Entry.{Entry}
use Rattle.graph.specs.Orders.{Ordered}

-- an entry
abbrev pub at : ℕ → ℕ → Entry
at place leader = record { place = place; leader = leader }

-- before or together, each way
abbrev pub both_ways : List Row
both_ways = (0, 3, 1) ∷ (1, 3, 0) ∷ []

-- two ways from 0 to 3, by moments that are apart
abbrev pub diamond : List Row
diamond = (0, 3, 1) ∷ (0, 3, 2) ∷ (1, 3, 3) ∷ (2, 3, 3) ∷ (1, 5, 2) ∷ []

-- a moment before itself
abbrev pub before_itself : List Row
before_itself = (0, 1, 0) ∷ []

-- both moments are at place 1; the diamond's are at 1, 2, 3 and 4; no moment is before itself
abbrev pub Worked : Type 0
Worked = Ordered 2 both_ways (at 1 0 ∷ at 1 0 ∷ []) 1 × Ordered 4 diamond (at 1 0 ∷ at 2 1 ∷ at 3 2 ∷ at 4 3 ∷ []) 4 × Clash before_itself
