-- Lists of leaders: what is in one, what stands at an index, and what one more at the end changes.
use Rattle.std.proofs.Common.{◌≡◌, ℕ, zero, suc, ◌<◌, ◌⊎◌, List, [], ◌∷◌, ◌++◌, length, Some, None, Option, sym, refl, ap, inl, inr, arith}
use Rattle.std.specs.List.{slice_get}
use Rattle.graph.specs.Turns.{In}

pub in_more : (m : ℕ) (ls : List ℕ) (l : ℕ) → In m ls → In m (ls ++ l ∷ [])
in_more m [] l h = absurd h
in_more m (k ∷ ks) l (inl e) = inl e
in_more m (k ∷ ks) l (inr h) = inr (in_more m ks l h)

pub in_last : (ls : List ℕ) (l : ℕ) → In l (ls ++ l ∷ [])
in_last [] l = inl refl
in_last (k ∷ ks) l = inr (in_last ks l)

pub in_cases : (m : ℕ) (ls : List ℕ) (l : ℕ) → In m (ls ++ l ∷ []) → In m ls ⊎ (m ≡ l)
in_cases m [] l (inl e) = inr e
in_cases m [] l (inr h) = absurd h
in_cases m (k ∷ ks) l (inl e) = inl (inl e)
in_cases m (k ∷ ks) l (inr h) = elim (in_cases m ks l h) [ inl i ↦ inl (inr i) | inr e ↦ inr e ]

none_some : (k : ℕ) → ◌≡◌ {A = Option ℕ} None (Some k) → ⊥
none_some k e = let z : ◌≡◌ {A = ℕ} 0 1 = cc in omega arith

pub some_same : (a b : ℕ) → ◌≡◌ {A = Option ℕ} (Some a) (Some b) → a ≡ b
some_same a b e = cc

pub nth_more : (ls : List ℕ) (l j k : ℕ) → slice_get ls j ≡ Some k → slice_get (ls ++ l ∷ []) j ≡ Some k
nth_more [] l j k e = absurd (none_some k e)
nth_more (x ∷ xs) l zero k e = e
nth_more (x ∷ xs) l (suc j) k e = nth_more xs l j k e

pub nth_last : (ls : List ℕ) (l : ℕ) → slice_get (ls ++ l ∷ []) (length ls) ≡ Some l
nth_last [] l = refl
nth_last (x ∷ xs) l = nth_last xs l

pub nth_cases : (ls : List ℕ) (l j k : ℕ) → slice_get (ls ++ l ∷ []) j ≡ Some k → (slice_get ls j ≡ Some k) ⊎ ((j ≡ length ls) × (k ≡ l))
nth_cases [] l zero k e = inr (refl, sym (some_same l k e))
nth_cases [] l (suc j) k e = absurd (none_some k e)
nth_cases (x ∷ xs) l zero k e = inl e
nth_cases (x ∷ xs) l (suc j) k e = elim (nth_cases xs l j k e) [ inl h ↦ inl h | inr h ↦ inr (ap suc h.0, h.1) ]

pub nth_in : (ls : List ℕ) (j k : ℕ) → slice_get ls j ≡ Some k → In k ls
nth_in [] j k e = absurd (none_some k e)
nth_in (x ∷ xs) zero k e = inl (sym (some_same x k e))
nth_in (x ∷ xs) (suc j) k e = inr (nth_in xs j k e)

pub in_nth : (ls : List ℕ) (k : ℕ) → In k ls → (j : ℕ) × (slice_get ls j ≡ Some k)
in_nth [] k h = absurd h
in_nth (x ∷ xs) k (inl e) = (0, ap Some (sym e))
in_nth (x ∷ xs) k (inr h) = let r = in_nth xs k h in (suc r.0, r.1)

pub nth_below : (ls : List ℕ) (j k : ℕ) → slice_get ls j ≡ Some k → j < length ls
nth_below [] j k e = absurd (none_some k e)
nth_below (x ∷ xs) zero k e = omega arith
nth_below (x ∷ xs) (suc j) k e = omega (arith, nth_below xs j k e)
