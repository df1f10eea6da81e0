-- Rows read from right to left turn each step, and so each path, round.
use Rattle.std.proofs.Common.{ℕ, List, [], ◌∷◌, map, inl, inr}
use Rattle.algebra.specs.Placements.{Row}
use Rattle.graph.specs.Steps.{Path, stay, onward, Step}
use Rattle.graph.specs.Turned.{turned}
use Rattle.graph.proofs.Paths.{path_join}

pub path_reversed : {E F : ℕ → ℕ → Type 0} {x y : ℕ} → ((a b : ℕ) → E a b → F b a) → Path E x y → Path F y x
path_reversed f stay = stay
path_reversed f (onward {x = a} {y = b} e r) = path_join (path_reversed f r) (onward (f a b e) stay)

pub step_turned : (rs : List Row) (x y : ℕ) → Step rs x y → Step (map turned rs) y x
step_turned [] x y s = absurd s
step_turned (r ∷ rs) x y (inl (inl s)) = inl (inl (s.1, s.0, s.2))
step_turned (r ∷ rs) x y (inl (inr s)) = inl (inr (s.1, s.0, s.2))
step_turned (r ∷ rs) x y (inr s) = inr (step_turned rs x y s)

pub turned_step : (rs : List Row) (x y : ℕ) → Step (map turned rs) x y → Step rs y x
turned_step [] x y s = absurd s
turned_step (r ∷ rs) x y (inl (inl s)) = inl (inl (s.1, s.0, s.2))
turned_step (r ∷ rs) x y (inl (inr s)) = inl (inr (s.1, s.0, s.2))
turned_step (r ∷ rs) x y (inr s) = inr (turned_step rs x y s)

pub path_turned : (rs : List Row) (x y : ℕ) → Path (Step rs) x y → Path (Step (map turned rs)) y x
path_turned rs x y p = path_reversed (step_turned rs) p

pub turned_path : (rs : List Row) (x y : ℕ) → Path (Step (map turned rs)) x y → Path (Step rs) y x
turned_path rs x y p = path_reversed (turned_step rs) p
