-- The rows of a lent scene, by position.
use Rattle.std.proofs.Common.{◌≡◌, ℕ, zero, suc, ◌+◌, ◌<◌, ◌≤◌, List, get_or, Some, None, sym, arith}
use Rattle.std.proofs.lemmas.Option.{slice_get_past}
use Rattle.std.specs.List.{slice_get}
use Rattle.bench_calls.specs.Lent.{blank, seen, seen_from, length_seen}
use Rattle.bench_calls.specs.declared.scenes.BenchRow.{BenchRow}

-- at the position p counted from k stands the row of the array at j = k + p
pub row_at : (rs : List BenchRow) (k n p j : ℕ) → j ≡ k + p → p < n → Some (seen (get_or rs j blank)) ≡ slice_get (seen_from rs k n) p
unfolding seen_from
row_at rs k zero p j e h = absurd (omega arith)
row_at rs k (suc n) zero j e h =
    let same : j ≡ k = omega arith in cc
row_at rs k (suc n) (suc p) j e h = row_at rs (suc k) n p j (omega arith) (omega arith)

pub none_past : (rs : List BenchRow) (k n p : ℕ) → n ≤ p → None ≡ slice_get (seen_from rs k n) p
none_past rs k n p h = sym (slice_get_past (seen_from rs k n) p (omega (arith, length_seen rs k n)))
