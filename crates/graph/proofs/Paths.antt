-- Paths joined, carried over, and kept among the moments of the scene.
use Rattle.std.proofs.Common.{◌≡◌, ℕ, ◌<◌, true, ◌&&◌, ltb, List, [], ◌∷◌, subst, inl, inr}
use Rattle.std.proofs.lemmas.Bool.{and_parts, ltb-true}
use Rattle.algebra.specs.Placements.{Row}
use Rattle.scene.specs.Scenes.{names, ranged, all_fit}
use Rattle.graph.specs.Steps.{Path, stay, onward, Step, StepOf}

pub path_join : {E : ℕ → ℕ → Type 0} {x y z : ℕ} → Path E x y → Path E y z → Path E x z
path_join stay b = b
path_join (onward e a) b = onward e (path_join a b)

-- steps that are steps of another kind
pub path_map : {E F : ℕ → ℕ → Type 0} {x y : ℕ} → ((a b : ℕ) → E a b → F a b) → Path E x y → Path F x y
path_map f stay = stay
path_map f (onward {x = a} {y = b} e r) = onward (f a b e) (path_map f r)

-- the two ends of a row that fits n moments
pub row_ends : (n : ℕ) (r : Row) → (names n r && ranged r) ≡ true → (r.0 < n) × (r.2 < n)
row_ends n r h =
    let p = and_parts (ltb r.0 n) (ltb r.2 n) (and_parts (names n r) (ranged r) h).0 in
    (ltb-true r.0 n p.0, ltb-true r.2 n p.1)

row_inside : (n : ℕ) (r : Row) → (names n r && ranged r) ≡ true → (x y : ℕ) → StepOf r x y → (x < n) × (y < n)
row_inside n r h x y (inl s) = let e = row_ends n r h in (subst (λ v. v < n) s.0 e.0, subst (λ v. v < n) s.1 e.1)
row_inside n r h x y (inr s) = let e = row_ends n r h in (subst (λ v. v < n) s.0 e.1, subst (λ v. v < n) s.1 e.0)

-- steps of rows that fit n moments are between moments below n
pub step_inside : (n : ℕ) (rs : List Row) → all_fit n rs ≡ true → (x y : ℕ) → Step rs x y → (x < n) × (y < n)
step_inside n [] h x y s = absurd s
step_inside n (r ∷ rs) h x y (inl s) = row_inside n r (and_parts (names n r && ranged r) (all_fit n rs) h).0 x y s
step_inside n (r ∷ rs) h x y (inr s) = step_inside n rs (and_parts (names n r && ranged r) (all_fit n rs) h).1 x y s

-- a path to a moment below n starts below n
pub path_inside : (n : ℕ) (rs : List Row) → all_fit n rs ≡ true → {x y : ℕ} → Path (Step rs) x y → y < n → x < n
path_inside n rs h stay l = l
path_inside n rs h (onward {x = x} {y = y} s r) l = (step_inside n rs h x y s).0
