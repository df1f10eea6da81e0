-- The row at a position of a chain.
use Rattle.std.proofs.Common.{◌≡◌, ℕ, zero, suc, ◌+◌, ◌<◌, ◌≤◌, ltb, Option, Some, None, IfSome, is_some, sym, ap, ◌∙◌, arith}
use Rattle.std.proofs.lemmas.Option.{slice_get_past}
use Rattle.std.proofs.lemmas.Bool.{ltb-true, ltb-false}
use Rattle.std.specs.List.{slice_get}
use Rattle.algebra.specs.Placements.{Row}
use Rattle.chain.specs.Links.{links, length_links}

pub row_at : (i n k left : ℕ) → left ≡ i + k → k < n → Some (left, 1, left + 1) ≡ slice_get (links i n) k
unfolding links
row_at i zero k left e h = absurd (omega arith)
row_at i (suc n) zero left e h =
    let l : left ≡ i = omega arith in
    let r : left + 1 ≡ suc i = omega arith in cc
row_at i (suc n) (suc k) left e h = row_at (suc i) n k left (omega arith) (omega arith)

pub none_past : (i n k : ℕ) → n ≤ k → None ≡ slice_get (links i n) k
none_past i n k h = sym (slice_get_past (links i n) k (omega (arith, length_links i n)))

-- an answer that is there just where the position is below the end, and is then the row there
pub row_where : (n k : ℕ) (P : Row → Type 0) (r : Option Row) → is_some r ≡ ltb k n → IfSome r P → ((x : Row) → P x → x ≡ (k, 1, k + 1)) → r ≡ slice_get (links 0 n) k
row_where n k P (Some x) below is told = ap Some (told x is) ∙ row_at 0 n k k (omega arith) (ltb-true k n (sym below))
row_where n k P None below is told = none_past 0 n k (ltb-false k n (sym below))
