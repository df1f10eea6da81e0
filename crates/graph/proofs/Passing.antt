-- How paths through low moments grow with what counts as low.
use Rattle.std.proofs.Common.{◌≡◌, ℕ, ◌+◌, ◌<◌, ◌≤◌, Bool, ◌&&◌, ◌||◌, ◌⊎◌, List, Decides, refl, subst, inl, inr, arith}
use Rattle.std.proofs.lemmas.Bool.{cases_eq}
use Rattle.std.proofs.lemmas.Bool.Decides.{Decides-at, Decides-like, Decides-and, Decides-or}
use Rattle.algebra.specs.Placements.{Row}
use Rattle.graph.specs.Steps.{Path, stay, onward, Step}
use Rattle.graph.specs.Reaching.{Inside, Tells, TellsSteps}
use Rattle.graph.specs.Within.{Within, here, last, more, TellsWithin}

-- either it avoids k, or it leads to k and on from there
within_split : (E : ℕ → ℕ → Type 0) (k : ℕ) {x y : ℕ} → Within E (k + 1) x y → Within E k x y ⊎ (Within E k x k × Within E k k y)
within_split E k here = inl here
within_split E k (last e) = inl (last e)
within_split E k (more {x = x} {y = m} {z = z} e h r) = elim (cases_eq m k) [
  | inl is ↦ (
      let to : Within E k x k = last (subst (λ v. E x v) is e) in
      elim (within_split E k r) [ inl a ↦ inr (to, subst (λ v. Within E k v z) is a) | inr b ↦ inr (to, b.1) ])
  | inr ne ↦ (
      let below : m < k = omega arith in
      elim (within_split E k r) [ inl a ↦ inl (more e below a) | inr b ↦ inr (more e below b.0, b.1) ])
]

within_on : (E : ℕ → ℕ → Type 0) (k j : ℕ) {x m z : ℕ} → k ≤ j → m < j → Within E k x m → Within E j m z → Within E j x z
within_on E k j le h here r = r
within_on E k j le h (last e) r = more e h r
within_on E k j le h (more e l a) r = more e (omega arith) (within_on E k j le h a r)

within_wider : (E : ℕ → ℕ → Type 0) (k j : ℕ) {x y : ℕ} → k ≤ j → Within E k x y → Within E j x y
within_wider E k j le here = here
within_wider E k j le (last e) = last e
within_wider E k j le (more e l a) = more e (omega arith) (within_wider E k j le a)

within_up : (E : ℕ → ℕ → Type 0) (k : ℕ) {x y : ℕ} → Within E k x y → Within E (k + 1) x y
within_up E k w = within_wider E k (k + 1) (omega arith) w

within_join : (E : ℕ → ℕ → Type 0) (k : ℕ) {x y : ℕ} → Within E k x y ⊎ (Within E k x k × Within E k k y) → Within E (k + 1) x y
within_join E k (inl a) = within_up E k a
within_join E k (inr b) = within_on E k (k + 1) (omega arith) (omega arith) b.0 (within_up E k b.1)

-- the turn of k, for the row of x
within_at : (E : ℕ → ℕ → Type 0) (k x y : ℕ) (xy xk ky : Bool) → Decides xy (Within E k x y) → Decides xk (Within E k x k) → Decides ky (Within E k k y)
    → Decides (xy || (xk && ky)) (Within E (k + 1) x y)
within_at E k x y xy xk ky d e f = Decides-like (xy || (xk && ky)) (within_join E k) (within_split E k) (Decides-or xy (xk && ky) d (Decides-and xk ky e f))

-- its own turn brings k nothing
within_own : (E : ℕ → ℕ → Type 0) (k : ℕ) {y : ℕ} → Within E (k + 1) k y → Within E k k y
within_own E k w = elim (within_split E k w) [ inl a ↦ a | inr b ↦ b.1 ]

own_turn : (E : ℕ → ℕ → Type 0) (k y : ℕ) (b : Bool) → Decides b (Within E k k y) → Decides b (Within E (k + 1) k y)
own_turn E k y b d = Decides-like b (within_up E k) (within_own E k) d

-- a path through k and the next moment: the first of the two that it meets, and on from there
Met : (ℕ → ℕ → Type 0) → ℕ → ℕ → ℕ → Type 0
Met E k x y = Within E k x y ⊎ ((Within E k x k × Within E (k + 2) k y) ⊎ (Within E k x (k + 1) × Within E (k + 2) (k + 1) y))

meet_more : (E : ℕ → ℕ → Type 0) (k x m y : ℕ) → E x m → m < k → Met E k m y → Met E k x y
unfolding Met
meet_more E k x m y e h (inl a) = inl (more e h a)
meet_more E k x m y e h (inr (inl b)) = inr (inl (more e h b.0, b.1))
meet_more E k x m y e h (inr (inr b)) = inr (inr (more e h b.0, b.1))

meet : (E : ℕ → ℕ → Type 0) (k : ℕ) {x y : ℕ} → Within E (k + 2) x y → Met E k x y
unfolding Met
meet E k here = inl here
meet E k (last e) = inl (last e)
meet E k (more {x = x} {y = m} {z = z} e h r) = elim (cases_eq m k) [
  | inl is ↦ inr (inl (last (subst (λ v. E x v) is e), subst (λ v. Within E (k + 2) v z) is r))
  | inr ne ↦ elim (cases_eq m (k + 1)) [
    | inl is ↦ inr (inr (last (subst (λ v. E x v) is e), subst (λ v. Within E (k + 2) v z) is r))
    | inr ne-next ↦ meet_more E k x m z e (omega arith) (meet E k r)
  ]
]

unmeet : (E : ℕ → ℕ → Type 0) (k : ℕ) {x y : ℕ} → Met E k x y → Within E (k + 2) x y
unfolding Met
unmeet E k (inl a) = within_wider E k (k + 2) (omega arith) a
unmeet E k (inr (inl b)) = within_on E k (k + 2) (omega arith) (omega arith) b.0 b.1
unmeet E k (inr (inr b)) = within_on E k (k + 2) (omega arith) (omega arith) b.0 b.1

-- the turns of k and the next moment together: a and b are their own rows, closed under one another
pub within_pair : (t u : ℕ → ℕ → Bool) (a b : ℕ → Bool) (rs : List Row) (k : ℕ) → k + 1 < 256
    → ((y : ℕ) → y < 256 → b y ≡ (t (k + 1) y || (t (k + 1) k && t k y)))
    → ((y : ℕ) → y < 256 → a y ≡ (t k y || (t k (k + 1) && b y)))
    → ((x y : ℕ) → x < 256 → y < 256 → u x y ≡ (t x y || ((t x k && a y) || (t x (k + 1) && b y))))
    → TellsWithin t rs k → TellsWithin u rs (k + 2)
unfolding Met
within_pair t u a b rs k l b-is a-is u-is tells x y hx hy =
    let E = Step rs in
    let hk : k < 256 = omega arith in
    let b_once : (z : ℕ) → z < 256 → Decides (b z) (Within E (k + 1) (k + 1) z) = λ z hz.
    Decides-at (b z) _ (b-is z hz) (within_at E k (k + 1) z (t (k + 1) z) (t (k + 1) k) (t k z) (tells (k + 1) z l hz) (tells (k + 1) k l hk) (tells k z hk hz)) in
    let a_twice : Decides (a y) (Within E ((k + 1) + 1) k y) =
    Decides-at (a y) _ (a-is y hy) (within_at E (k + 1) k y (t k y) (t k (k + 1)) (b y) (own_turn E k y (t k y) (tells k y hk hy)) (own_turn E k (k + 1) (t k (k + 1)) (tells k (k + 1) hk l)) (b_once y hy)) in
    let two : (k + 1) + 1 ≡ k + 2 = omega arith in
    let a_all = subst (λ j. Decides (a y) (Within E j k y)) two a_twice in
    let b_all = subst (λ j. Decides (b y) (Within E j (k + 1) y)) two (own_turn E (k + 1) y (b y) (b_once y hy)) in
    Decides-at (u x y) _ (u-is x y hx hy)
    (Decides-like _ (unmeet E k) (meet E k)
    (Decides-or (t x y) _ (tells x y hx hy) (Decides-or (t x k && a y) (t x (k + 1) && b y)
    (Decides-and (t x k) (a y) (tells x k hx hk) a_all) (Decides-and (t x (k + 1)) (b y) (tells x (k + 1) hx l) b_all))))

from_step : (rs : List Row) {x y : ℕ} → (x ≡ y) ⊎ Step rs x y → Within (Step rs) 0 x y
from_step rs {x = x} (inl e) = subst (λ v. Within (Step rs) 0 x v) e here
from_step rs (inr s) = last s

to_step : (rs : List Row) {x y : ℕ} → Within (Step rs) 0 x y → (x ≡ y) ⊎ Step rs x y
to_step rs here = inl refl
to_step rs (last s) = inr s
to_step rs (more s h r) = absurd (omega arith)

pub within_none : (t : ℕ → ℕ → Bool) (rs : List Row) → TellsSteps t rs → TellsWithin t rs 0
within_none t rs tells x y hx hy = Decides-like (t x y) (from_step rs) (to_step rs) (tells x y hx hy)

to_path : (rs : List Row) {x y : ℕ} → Within (Step rs) 256 x y → Path (Step rs) x y
to_path rs here = stay
to_path rs (last s) = onward s stay
to_path rs (more s h r) = onward s (to_path rs r)

from_path : (rs : List Row) → Inside rs → {x y : ℕ} → Path (Step rs) x y → Within (Step rs) 256 x y
from_path rs inside stay = here
from_path rs inside (onward {x = x} {y = y} s r) = more s (inside x y s).1 (from_path rs inside r)

pub within_all : (t : ℕ → ℕ → Bool) (rs : List Row) → Inside rs → TellsWithin t rs 256 → Tells t rs
within_all t rs inside tells x y hx hy = Decides-like (t x y) (to_path rs) (from_path rs inside) (tells x y hx hy)
