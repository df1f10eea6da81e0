-- Rows without the marked positions.
use Rattle.std.specs.Prelude.{◌≡◌, ℕ, zero, suc, ◌+◌, ◌<◌, ◌≤◌, Bool, true, false, cond, ◌&&◌, ◌||◌, List, [], ◌∷◌, length, ◌==◌, nat_le, slice_index, refl}
use Rattle.std.proofs.Common.{arith}
use Rattle.std.proofs.lemmas.Bool.{and_parts, and_from}
use Rattle.algebra.specs.Placements.{Row}
use Rattle.scene.specs.Scenes.{names, ranged, all_fit}

-- whether a position is marked
abbrev pub marked : List ℕ → ℕ → Bool
marked [] k = false
marked (m ∷ ms) k = m == k || marked ms k

-- whether no mark is above 4,095
abbrev pub low : List ℕ → Bool
low [] = true
low (m ∷ ms) = nat_le m 4095 && low ms

-- the rows whose positions are not marked, where the first stands at position i
abbrev pub without_from : List ℕ → ℕ → List Row → List Row
without_from ms i [] = []
without_from ms i (r ∷ rs) = cond (marked ms i) (without_from ms (suc i) rs) (r ∷ without_from ms (suc i) rs)

-- the rows of a whole list whose positions are not marked
abbrev pub without : List ℕ → List Row → List Row
without ms rs = without_from ms 0 rs

-- a position that is hit counts nothing
abbrev pub tally : Bool → ℕ
tally true = 0
tally false = 1

-- how many of the n positions from i on a test does not hit
unfoldable pub missed : (ℕ → Bool) → ℕ → ℕ → ℕ
missed hit i zero = 0
missed hit i (suc n) = tally (hit i) + missed hit (suc i) n

-- how many positions below n are not marked
abbrev pub unmarked : List ℕ → ℕ → ℕ
unmarked ms n = missed (marked ms) 0 n

-- each entry up to the n-th counts the positions below it that the test does not hit
abbrev pub Ranked : (ℕ → Bool) → List ℕ → ℕ → Type 0
Ranked hit ranks n = (k : ℕ) → k ≤ n → slice_index ranks k ≡ missed hit 0 k

-- the first n entries are positions that the test does not hit
abbrev pub Open : (ℕ → Bool) → List ℕ → ℕ → Type 0
Open hit positions n = (k : ℕ) → k < n → hit (slice_index positions k) ≡ false

-- in rising sequence, and none is passed over
abbrev pub InTurn : (ℕ → Bool) → List ℕ → ℕ → Type 0
InTurn hit positions n = (k : ℕ) → k < n → missed hit 0 (slice_index positions k) ≡ k

-- what holds where a row is left out and where it stays holds of both
choice : {X : Type 0} (P : X → Type 0) (b : Bool) (x y : X) → P x → P y → P (cond b x y)
choice P true x y a b = a
choice P false x y a b = b

length_from : (ms : List ℕ) (i : ℕ) (rs : List Row) → length (without_from ms i rs) ≤ length rs
length_from ms i [] = omega arith
length_from ms i (r ∷ rs) =
    let h = length_from ms (suc i) rs in
    choice (λ ss. length ss ≤ suc (length rs)) (marked ms i) (without_from ms (suc i) rs) (r ∷ without_from ms (suc i) rs) (omega arith) (omega arith)

pub length_without : (ms : List ℕ) (rs : List Row) → length (without ms rs) ≤ length rs
length_without ms rs = length_from ms 0 rs

fit_from : (n : ℕ) (ms : List ℕ) (i : ℕ) (rs : List Row) → all_fit n rs ≡ true → all_fit n (without_from ms i rs) ≡ true
fit_from n ms i [] h = refl
fit_from n ms i (r ∷ rs) h =
    let p = and_parts (names n r && ranged r) (all_fit n rs) h in
    let t = fit_from n ms (suc i) rs p.1 in
    choice (λ ss. all_fit n ss ≡ true) (marked ms i) (without_from ms (suc i) rs) (r ∷ without_from ms (suc i) rs) t (and_from (names n r && ranged r) (all_fit n (without_from ms (suc i) rs)) p.0 t)

pub fit_without : (n : ℕ) (ms : List ℕ) (rs : List Row) → all_fit n rs ≡ true → all_fit n (without ms rs) ≡ true
fit_without n ms rs h = fit_from n ms 0 rs h
