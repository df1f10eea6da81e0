-- What the order of a lent scene is, as a number and a list of entries.
use Rattle.std.specs.Prelude.{◌≡◌, ℕ, ◌≤◌, ◌⊎◌, List}
use Rattle.scene.specs.Scenes.{Clash, Scene}
use Rattle.graph.specs.Orders.{Owed}
use Rattle.graph.specs.declared.order.Entry.{Entry}

-- 0 and the entries as they were where the rows clash, or else the number of places, with their order written
abbrev pub Answered : Scene → List Entry → List Entry → ℕ → Type 0
Answered s old new r = ((r ≡ 0) × Clash s.rows × (new ≡ old)) ⊎ ((1 ≤ r) × Owed s new r)
