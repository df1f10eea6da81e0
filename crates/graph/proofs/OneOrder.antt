-- The rule of turns leaves one sequence.
use Rattle.std.proofs.Common.{◌≡◌, ℕ, ◌<◌, List, length, sym, refl, subst, inl, inr, arith}
use Rattle.std.proofs.lemmas.List.{length_push}
use Rattle.std.proofs.lemmas.Bool.{cases_order, cases_eq}
use Rattle.algebra.specs.Placements.{Row}
use Rattle.graph.specs.Turns.{Placed, Ready, Turns, start, turn, AllTurns, OneSequence}

-- as many turns, the same leaders
pub turns_same : (n : ℕ) (rs : List Row) {a b : List ℕ} → Turns n rs a → Turns n rs b → length a ≡ length b → a ≡ b
turns_same n rs start start e = refl
turns_same n rs start (turn {placed = b} {l = k} q w low) e = absurd (omega (arith, e, length_push b k))
turns_same n rs (turn {placed = a} {l = l} p r lowest) start e = absurd (omega (arith, e, length_push a l))
turns_same n rs (turn {placed = a} {l = l} p r lowest) (turn {placed = b} {l = k} q w low) e =
    let same = turns_same n rs p q (omega (arith, e, length_push a l, length_push b k)) in
    let le = lowest k (subst (λ v. Ready n rs v k) (sym same) w) in
    let ge = low l (subst (λ v. Ready n rs v l) same r) in
    let is : l ≡ k = omega (arith, le, ge) in
    rw (same, is)

-- what stood before a turn
before_turn : (n : ℕ) (rs : List Row) {b : List ℕ} → Turns n rs b → (k : ℕ) → k < length b → (c : List ℕ) × (l : ℕ) × (Turns n rs c × (length c ≡ k) × Ready n rs c l)
before_turn n rs start k h = absurd (omega arith)
before_turn n rs (turn {placed = b} {l = l} q w low) k h = elim (cases_eq k (length b)) [
  | inl e ↦ (b, l, (q, sym e, w))
  | inr ne ↦ before_turn n rs q k (omega (arith, h, ne, length_push b l))
]

-- turns that have placed all are not outlasted
not_longer : (n : ℕ) (rs : List Row) (a b : List ℕ) → AllTurns n rs a → Turns n rs b → length a < length b → ⊥
not_longer n rs a b all q h =
    let w = before_turn n rs q (length a) h in
    let ready = w.2.2 in
    ready.2 (subst (λ v. Placed rs v w.1) (turns_same n rs all.0 w.2.0 (sym w.2.1)) (all.1 w.1 ready.0))

pub one_sequence : (n : ℕ) (rs : List Row) → OneSequence n rs
one_sequence n rs a b p q = elim (cases_order (length a) (length b)) [
  | inl e ↦ turns_same n rs p.0 q.0 e
  | inr (inl lt) ↦ absurd (not_longer n rs a b p q.0 lt)
  | inr (inr gt) ↦ absurd (not_longer n rs b a q p.0 gt)
]
