-- Rows read one after another.
use Rattle.std.proofs.Common.{◌≡◌, ℕ, zero, suc, ◌+◌, Bool, true, not, ◌&&◌, eqb, ◌⊎◌, List, [], ◌∷◌, ◌++◌, take, Some, Decides, sym, ap, ◌∙◌, subst, inl, inr, add-one, arith}
use Rattle.std.specs.List.{slice_get}
use Rattle.std.proofs.lemmas.Bool.{not-true, not_from_false}
use Rattle.std.proofs.lemmas.Bool.Decides.{Decides-at, Decides-like, Decides-and, Decides-or, Decides-eqb}
use Rattle.algebra.specs.Placements.{Row}
use Rattle.algebra.specs.Points.{has}
use Rattle.algebra.specs.declared.points.Relation.TheVariants.{Before, After}
use Rattle.scene.specs.Scenes.{Lawful}
use Rattle.graph.specs.Steps.{Step, StepOf}
use Rattle.graph.specs.Reaching.{Inside, TellsSteps, put, stepped}
use Rattle.graph.proofs.Closed.{Same}
use Rattle.graph.proofs.Paths.{step_inside}

take_suc : {X : Type 0} (xs : List X) (i : ℕ) (x : X) → Some x ≡ slice_get xs i → take (suc i) xs ≡ take i xs ++ x ∷ []
take_suc [] i x e = let z : ◌≡◌ {A = ℕ} 0 1 = cc in absurd (omega arith)
take_suc (y ∷ xs) zero x e = let is : y ≡ x = cc in ap (λ v. v ∷ []) is
take_suc (y ∷ xs) (suc i) x e = ap (λ v. y ∷ v) (take_suc xs i x e)

-- the rows up to a position, and the one there
pub take_nth : {X : Type 0} (xs : List X) (i : ℕ) (x : X) → Some x ≡ slice_get xs i → take (i + 1) xs ≡ take i xs ++ x ∷ []
take_nth xs i x e = ap (λ k. take k xs) (add-one i) ∙ take_suc xs i x e

-- steps of a lawful scene are between moments below 256
pub lawful_inside : (n : ℕ) (rs : List Row) → Lawful (record { moments = n; rows = rs }) → Inside rs
lawful_inside n rs lawful x y s = let p = step_inside n rs lawful.own x y s in let few = lawful.few in (omega (arith, p.0), omega (arith, p.1))

-- the steps of rows with one more at the end
pub step_push : (rs : List Row) (r : Row) (x y : ℕ) → StepOf r x y ⊎ Step rs x y → Step (rs ++ r ∷ []) x y
step_push [] r x y (inl s) = inl s
step_push [] r x y (inr s) = absurd s
step_push (a ∷ rs) r x y (inl s) = inr (step_push rs r x y (inl s))
step_push (a ∷ rs) r x y (inr (inl s)) = inl s
step_push (a ∷ rs) r x y (inr (inr s)) = inr (step_push rs r x y (inr s))

pub step_pop : (rs : List Row) (r : Row) (x y : ℕ) → Step (rs ++ r ∷ []) x y → StepOf r x y ⊎ Step rs x y
step_pop [] r x y (inl s) = inl s
step_pop [] r x y (inr s) = absurd s
step_pop (a ∷ rs) r x y (inl s) = inr (inl s)
step_pop (a ∷ rs) r x y (inr s) = elim (step_pop rs r x y s) [ inl h ↦ inl h | inr t ↦ inr (inr t) ]

-- the step from p to q, where it is told to be there
abbrev Told : Bool → ℕ → ℕ → ℕ → ℕ → Type 0
Told told p q x y = (told ≡ true) × ((x ≡ p) × (y ≡ q))

put_tells : (told : Bool) (t : ℕ → ℕ → Bool) (p q x y : ℕ) (A : Type 0) → Decides (t x y) A → Decides (put told t p q x y) (A ⊎ Told told p q x y)
put_tells told t p q x y A d =
    Decides-or (t x y) (told && (eqb x p && eqb y q)) d
    (Decides-and told (eqb x p && eqb y q) (λ e. e, λ e. e) (Decides-and (eqb x p) (eqb y q) (Decides-eqb x p) (Decides-eqb y q)))

-- the steps that one row adds
Added : List Row → Row → ℕ → ℕ → Type 0
Added rs r x y = (((x ≡ y) ⊎ Step rs x y) ⊎ Told (not (has r.1 After)) r.0 r.2 x y) ⊎ Told (not (has r.1 Before)) r.2 r.0 x y

to_added : (rs : List Row) (r : Row) (x y : ℕ) → (x ≡ y) ⊎ Step (rs ++ r ∷ []) x y → Added rs r x y
unfolding Added
to_added rs r x y (inl e) = inl (inl (inl e))
to_added rs r x y (inr s) = elim (step_pop rs r x y s) [
  | inl (inl h) ↦ inl (inr (not_from_false (has r.1 After) h.2, (sym h.0, sym h.1)))
  | inl (inr h) ↦ inr (not_from_false (has r.1 Before) h.2, (sym h.0, sym h.1))
  | inr h ↦ inl (inl (inr h))
]

from_added : (rs : List Row) (r : Row) (x y : ℕ) → Added rs r x y → (x ≡ y) ⊎ Step (rs ++ r ∷ []) x y
unfolding Added
from_added rs r x y (inl (inl (inl e))) = inl e
from_added rs r x y (inl (inl (inr s))) = inr (step_push rs r x y (inr s))
from_added rs r x y (inl (inr h)) = inr (step_push rs r x y (inl (inl (sym h.1.0, sym h.1.1, not-true (has r.1 After) h.0))))
from_added rs r x y (inr h) = inr (step_push rs r x y (inl (inr (sym h.1.0, sym h.1.1, not-true (has r.1 Before) h.0))))

stepped_tells : (t : ℕ → ℕ → Bool) (rs : List Row) (r : Row) (x y : ℕ) → Decides (t x y) ((x ≡ y) ⊎ Step rs x y) → Decides (stepped r t x y) (Added rs r x y)
unfolding Added
stepped_tells t rs r x y d =
    let once = put (not (has r.1 After)) t r.0 r.2 in
    put_tells (not (has r.1 Before)) once r.2 r.0 x y (((x ≡ y) ⊎ Step rs x y) ⊎ Told (not (has r.1 After)) r.0 r.2 x y)
    (put_tells (not (has r.1 After)) t r.0 r.2 x y ((x ≡ y) ⊎ Step rs x y) d)

-- the table takes the steps of the row at i
pub steps_more : (rs : List Row) (i : ℕ) (r : Row) (t u : ℕ → ℕ → Bool) → Some r ≡ slice_get rs i → Same u (stepped r t)
    → TellsSteps t (take i rs) → TellsSteps u (take (i + 1) rs)
steps_more rs i r t u e is tells = subst (TellsSteps u) (sym (take_nth rs i r e)) (λ x y hx hy.
    Decides-at (u x y) (stepped r t x y) (is x y hx hy)
    (Decides-like (stepped r t x y) (from_added (take i rs) r x y) (to_added (take i rs) r x y) (stepped_tells t (take i rs) r x y (tells x y hx hy))))
