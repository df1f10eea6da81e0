-- A table as a source.
use Rattle.std.specs.Prelude.{◌≡◌, ℕ, ◌≤◌, true, List, length}
use Rattle.std.proofs.Common.{arith}
use Rattle.algebra.specs.Placements.{Row}
use Rattle.scene.specs.Scenes.{Scene, Lawful, all_fit}

-- the scene of a table: its moments and rows
abbrev pub tabled : ℕ → List Row → Scene
tabled n rows = record { moments = n; rows = rows }

-- 1 to 256 moments, and at most 4,096 rows that fit them, are lawful
pub tabled_lawful : (n : ℕ) (rows : List Row) → 1 ≤ n → n ≤ 256 → length rows ≤ 4096 → all_fit n rows ≡ true → Lawful (tabled n rows)
tabled_lawful n rows some few short own = record { some = some; few = few; short = omega arith; own = own }
