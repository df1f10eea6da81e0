-- A chain: each moment before the next.
use Rattle.std.specs.Prelude.{◌≡◌, ℕ, zero, suc, ◌+◌, ◌-◌, ◌<◌, ◌≤◌, true, ◌&&◌, ◌⊎◌, List, [], ◌∷◌, length, nat_lt, refl}
use Rattle.std.proofs.Common.{ap, arith}
use Rattle.std.proofs.lemmas.Bool.{and_from, lt-ltb}
use Rattle.algebra.specs.Placements.{Row}
use Rattle.scene.specs.declared.refusals.Refusal.{Refusal}
use Rattle.scene.specs.declared.refusals.Refusal.TheVariants.{MomentCountWrong}
use Rattle.scene.specs.Checks.{Check}
use Rattle.scene.specs.Scenes.{Scene, Lawful, names, ranged, all_fit}

-- n rows, of which the first has the left moment i
unfoldable pub links : ℕ → ℕ → List Row
links i zero = []
links i (suc n) = (i, 1, suc i) ∷ links (suc i) n

pub length_links : (i n : ℕ) → length (links i n) ≡ n
unfolding links
length_links i zero = refl
length_links i (suc n) = ap suc (length_links (suc i) n)

pub fit_links : (m i n : ℕ) → i + n < m → all_fit m (links i n) ≡ true
unfolding links
fit_links m i zero h = refl
fit_links m i (suc n) h =
    let r : Row = (i, 1, suc i) in
    and_from (names m r && ranged r) (all_fit m (links (suc i) n))
    (and_from (names m r) (ranged r) (and_from (nat_lt i m) (nat_lt (suc i) m) (lt-ltb i m (omega arith)) (lt-ltb (suc i) m (omega arith))) refl)
    (fit_links m (suc i) n (omega arith))

-- the scene of a chain of n moments
abbrev pub chained : ℕ → Scene
chained n = record { moments = n; rows = links 0 (n - 1) }

-- a chain of 1 to 256 moments is lawful
pub chained_lawful : (n : ℕ) → 1 ≤ n → n ≤ 256 → Lawful (chained n)
chained_lawful n some few = record { some = some; few = few; short = omega (arith, length_links 0 (n - 1)); own = fit_links n 0 (n - 1) (omega arith) }

-- what the making of a chain checks
abbrev pub chaining : ℕ → List (Check Refusal)
chaining n = (MomentCountWrong, (n < 1) ⊎ (256 < n)) ∷ []
