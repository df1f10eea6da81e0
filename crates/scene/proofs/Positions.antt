-- The row at a position of a list that is made of others.
use Rattle.std.proofs.Common.{◌≡◌, ℕ, zero, suc, ◌+◌, ◌-◌, ◌<◌, ◌≤◌, List, [], ◌∷◌, ◌++◌, length, take, drop, Some, None, sym, refl, ap, ◌∙◌, arith}
use Rattle.std.proofs.lemmas.Option.{slice_get_within}
use Rattle.std.specs.List.{slice_get}

pub nth_append_left : {X : Type 0} (xs ys : List X) (k : ℕ) → k < length xs → slice_get (xs ++ ys) k ≡ slice_get xs k
nth_append_left [] ys k h = absurd (omega arith)
nth_append_left (x ∷ xs) ys zero h = refl
nth_append_left (x ∷ xs) ys (suc k) h = nth_append_left xs ys k (omega arith)

pub nth_append_right : {X : Type 0} (xs ys : List X) (k : ℕ) → length xs ≤ k → slice_get (xs ++ ys) k ≡ slice_get ys (k - length xs)
nth_append_right [] ys k h = ap (slice_get ys) (omega arith)
nth_append_right (x ∷ xs) ys zero h = absurd (omega arith)
nth_append_right (x ∷ xs) ys (suc k) h = nth_append_right xs ys k (omega arith) ∙ ap (slice_get ys) (omega arith)

pub nth_take : {X : Type 0} (n : ℕ) (xs : List X) (k : ℕ) → k < n → slice_get (take n xs) k ≡ slice_get xs k
nth_take zero xs k h = absurd (omega arith)
nth_take (suc n) [] k h = refl
nth_take (suc n) (x ∷ xs) zero h = refl
nth_take (suc n) (x ∷ xs) (suc k) h = nth_take n xs k (omega arith)

-- a row stands at each position below the end
pub nth_there : {X : Type 0} (xs : List X) (k : ℕ) → k < length xs → None ≡ slice_get xs k → ⊥
nth_there [] k l e = omega arith
nth_there (x ∷ xs) zero l e = let z : ◌≡◌ {A = ℕ} 0 1 = cc in omega arith
nth_there (x ∷ xs) (suc k) l e = nth_there xs k (omega arith) e

-- what is left from a position on: the row there, and what is left from the next one; nothing where no row is there
pub rest_at : {X : Type 0} (xs : List X) (k : ℕ) (x : X) → Some x ≡ slice_get xs k → drop k xs ≡ x ∷ drop (k + 1) xs
rest_at [] k x e = let z : ◌≡◌ {A = ℕ} 0 1 = cc in absurd (omega arith)
rest_at (y ∷ ys) zero x e = let is : y ≡ x = cc in ap (λ z. z ∷ ys) is
rest_at (y ∷ ys) (suc k) x e = let same : suc (k + 1) ≡ suc k + 1 = omega arith in rest_at ys k x e ∙ ap (λ n. x ∷ drop n (y ∷ ys)) same

pub rest_past : {X : Type 0} (xs : List X) (k : ℕ) → None ≡ slice_get xs k → drop k xs ≡ []
rest_past [] zero e = refl
rest_past [] (suc k) e = refl
rest_past (y ∷ ys) zero e = let z : ◌≡◌ {A = ℕ} 0 1 = cc in absurd (omega arith)
rest_past (y ∷ ys) (suc k) e = rest_past ys k e

pub there_below : {X : Type 0} (xs : List X) (k : ℕ) (x : X) → Some x ≡ slice_get xs k → k < length xs
there_below xs k x e = slice_get_within xs k x (sym e)
