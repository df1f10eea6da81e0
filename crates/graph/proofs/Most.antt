-- No placement that obeys the rows gives more separate numbers than there are places.
use Rattle.std.proofs.Common.{◌≡◌, ℕ, ◌<◌, ◌≤◌, Bool, false, ◌||◌, eqb, List, [], ◌∷◌, length, Decides, sym, refl, subst, inl, inr, arith}
use Rattle.std.proofs.lemmas.Bool.{false_from_ne_true, or_right, true≢false}
use Rattle.std.proofs.lemmas.Bool.Decides.{Decides-eqb, Decides-or}
use Rattle.algebra.specs.Placements.{Row, Placement, ObeysAll}
use Rattle.graph.specs.Orders.{Separate, MostPlaces}
use Rattle.graph.specs.Turns.{In, Placed}
use Rattle.graph.proofs.Finite.{count, count_lt, count_bound}
use Rattle.graph.proofs.Rising.{group_level}
use Rattle.graph.proofs.Sequences.{IndexOf, placed_index, index_below, index_together}

-- no number stands twice in a list
abbrev pub Apart : List ℕ → Type 0
Apart [] = Unit {0}
Apart (j ∷ js) = (In j js → ⊥) × Apart js

-- whether a number is in a list
abbrev within : List ℕ → ℕ → Bool
within [] j = false
within (k ∷ ks) j = eqb j k || within ks j

decides_in : (j : ℕ) (js : List ℕ) → Decides (within js j) (In j js)
decides_in j [] = ((λ e. absurd (true≢false (sym e))), (λ h. absurd h))
decides_in j (k ∷ ks) = Decides-or (eqb j k) (within ks j) (Decides-eqb j k) (decides_in j ks)

out_of : (j : ℕ) (js : List ℕ) → (In j js → ⊥) → within js j ≡ false
out_of j js h = false_from_ne_true (within js j) (λ e. h ((decides_in j js).0 e))

counted : (k : ℕ) (js : List ℕ) → ((j : ℕ) → In j js → j < k) → Apart js → length js ≤ count (within js) k
counted k [] below apart = omega arith
counted k (j ∷ js) below apart = omega (
  arith,
  counted k js (λ i h. below i (inr h)) apart.1,
  count_lt (within js) (within (j ∷ js)) k j (below j (inl refl)) (out_of j js apart.0) ((decides_in j (j ∷ js)).1 (inl refl)) (λ i _ e. or_right (eqb i j) (within js i) e),
)

-- a list of separate numbers below k has at most k of them
pub at_most : (k : ℕ) (js : List ℕ) → ((j : ℕ) → In j js → j < k) → Apart js → length js ≤ k
at_most k js below apart = omega (arith, counted k js below apart, count_bound (within js) k)

-- the indices of the places of the moments ms: as many, each of one of them, and none twice
abbrev IndicesOf : List Row → List ℕ → List ℕ → Type 0
IndicesOf rs ls ms = (js : List ℕ) × (length js ≡ length ms) × ((j : ℕ) → In j js → (m : ℕ) × (In m ms × IndexOf rs ls m j)) × Apart js

module _ (n : ℕ) (rs : List Row) (ls : List ℕ) (all : (m : ℕ) → m < n → Placed rs ls m) (p : Placement) (obeys : ObeysAll p rs) where
  indices_more : (m : ℕ) (ms : List ℕ) → m < n → ((k : ℕ) → In k ms → p m ≡ p k → ⊥) → IndicesOf rs ls ms → IndicesOf rs ls (m ∷ ms)
  indices_more m ms hm new (js, long, each, apart) =
      let s = placed_index rs ls m (all m hm) in
      (s.0 ∷ js, omega (arith, long), index_of s, ((λ h. let k = each s.0 h in new k.0 k.1.0 (group_level p rs obeys m k.0 (index_together rs ls m k.0 s.0 s.1 k.1.1))), apart))
    where
      index_of : (s : (j : ℕ) × IndexOf rs ls m j) (j : ℕ) → In j (s.0 ∷ js) → (k : ℕ) × (In k (m ∷ ms) × IndexOf rs ls k j)
      index_of s j (inl e) = (m, (inl refl, subst (λ v. IndexOf rs ls m v) (sym e) s.1))
      index_of s j (inr h) = let k = each j h in (k.0, (inr k.1.0, k.1.1))

  indices : (ms : List ℕ) → ((m : ℕ) → In m ms → m < n) → Separate p ms → IndicesOf rs ls ms
  indices [] below apart = ([], refl, (λ j h. absurd h), tt)
  indices (m ∷ ms) below apart = indices_more m ms (below m (inl refl)) apart.0 (indices ms (λ k h. below k (inr h)) apart.1)

-- all places are enough for each placement that obeys the rows
pub most_places : (n : ℕ) (rs : List Row) (ls : List ℕ) → ((m : ℕ) → m < n → Placed rs ls m) → MostPlaces n rs (length ls)
most_places n rs ls all p obeys ms below apart =
    let s = indices n rs ls all p obeys ms below apart in
    omega (arith, s.1, at_most (length ls) s.0 (λ j h. let k = s.2 j h in index_below rs ls k.0 j k.1.1) s.3)
