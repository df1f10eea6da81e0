-- The scene that lent bytes stand for.
use Rattle.std.specs.Prelude.{◌≡◌, ℕ, zero, suc, ◌%◌, true, cond, ◌&&◌, List, [], ◌∷◌, length, ◌==◌, nat_le, nat_lt, slice_index_or, refl}
use Rattle.std.proofs.Common.{ap, arith}
use Rattle.std.proofs.lemmas.Bool.{and_from, cond_both, eqb-false, le-leb, lt-ltb}
use Rattle.algebra.specs.Placements.{Row}
use Rattle.scene.specs.Scenes.{Scene, Lawful, names, ranged, all_fit}
use Rattle.bench_calls.specs.declared.scenes.BenchRow.{BenchRow}

-- a set from 1 to 7 for any byte: its three low bits, and 7 where these are 0
abbrev pub inside : ℕ → ℕ
inside b = cond (b % 8 == 0) 7 (b % 8)

-- the row as the scene has it
abbrev pub seen : BenchRow → Row
seen r = (r.left % 256, inside r.set, r.right % 256)

-- the row past the end of an array
abbrev pub blank : BenchRow
blank = record { left = 0; set = 0; right = 0 }

-- the rows at n positions of an array, of which the first is k
unfoldable pub seen_from : List BenchRow → ℕ → ℕ → List Row
seen_from rs k zero = []
seen_from rs k (suc n) = seen (slice_index_or rs k blank) ∷ seen_from rs (suc k) n

pub length_seen : (rs : List BenchRow) (k n : ℕ) → length (seen_from rs k n) ≡ n
unfolding seen_from
length_seen rs k zero = refl
length_seen rs k (suc n) = ap suc (length_seen rs (suc k) n)

pub inside_ranged : (b : ℕ) → (nat_le 1 (inside b) && nat_le (inside b) 7) ≡ true
inside_ranged b =
    cond_both (b % 8 == 0) 7 (b % 8) (λ n. (nat_le 1 n && nat_le n 7) ≡ true) (λ _. refl)
    (λ e.
    let h = eqb-false (b % 8) 0 e in
    and_from (nat_le 1 (b % 8)) (nat_le (b % 8) 7) (le-leb 1 (b % 8) (omega arith)) (le-leb (b % 8) 7 (omega arith)))

-- a row as the scene has it names moments below 256 and has a set from 1 to 7
pub seen_fits : (r : BenchRow) → (names 256 (seen r) && ranged (seen r)) ≡ true
seen_fits r =
    and_from (names 256 (seen r)) (ranged (seen r))
    (and_from (nat_lt (r.left % 256) 256) (nat_lt (r.right % 256) 256) (lt-ltb (r.left % 256) 256 (omega arith)) (lt-ltb (r.right % 256) 256 (omega arith)))
    (inside_ranged r.set)

pub all_seen_fit : (rs : List BenchRow) (k n : ℕ) → all_fit 256 (seen_from rs k n) ≡ true
unfolding seen_from
all_seen_fit rs k zero = refl
all_seen_fit rs k (suc n) =
    let r = seen (slice_index_or rs k blank) in
    and_from (names 256 r && ranged r) (all_fit 256 (seen_from rs (suc k) n)) (seen_fits (slice_index_or rs k blank)) (all_seen_fit rs (suc k) n)

-- the scene of an array of 4,096 rows
abbrev pub lent : List BenchRow → Scene
lent rs = record { moments = 256; rows = seen_from rs 0 4096 }

-- whatever the array holds, its scene is lawful
pub lent_lawful : (rs : List BenchRow) → Lawful (lent rs)
lent_lawful rs = record { some = omega arith; few = omega arith; short = omega (arith, length_seen rs 0 4096); own = all_seen_fit rs 0 4096 }
