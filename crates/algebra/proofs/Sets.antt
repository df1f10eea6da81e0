-- The sets of a title rule, and what its rows say.
use Rattle.std.proofs.Common.{◌≡◌, ℕ, zero, suc, ◌/◌, ◌%◌, ◌^◌, ◌<◌, ◌≤◌, Bool, true, cond, ◌&&◌, eqb, List, get_or, Some, None, Option, sym, refl, ap, ◌∙◌, subst, inl, inr, pow-suc, div-one, arith}
use Rattle.std.proofs.lemmas.Nat.{shr-shr}
use Rattle.std.proofs.lemmas.Bool.{and_from, and_parts, or_cases, both_ways, cases_eq, cond_both, eq-eqb, leb-true, not-true}
use Rattle.std.proofs.lemmas.Bool.Decides.{Decides-below_and, Decides-eqb, nat_tests}
use Rattle.algebra.specs.declared.points.Relation.{Relation}
use Rattle.algebra.specs.declared.titles.Pair.{Pair}
use Rattle.algebra.specs.declared.titles.Pair.TheVariants.{RiseRise, RiseFall, FallRise, FallFall}
use Rattle.algebra.specs.declared.titles.TitleRelation.{TitleRelation}
use Rattle.algebra.specs.declared.titles.TitleRelation.TheVariants.{Equals}
use Rattle.algebra.specs.Points.{has}
use Rattle.algebra.specs.Placements.{Row, Placement, Obeys, ObeysAll}
use Rattle.algebra.specs.Titles.{facts, thirteen, pairs, place, sign, holds, left, right, Stands}
use Rattle.algebra.specs.Rules.{shows, shown, sign_set, sign_sets, fits, settled, closed, pointisable, ruled, Exact}
use Rattle.algebra.proofs.Passing.{passes, passed_by, every_from}
use Rattle.algebra.proofs.Signs.{holds_same, same_from}
use Rattle.algebra.proofs.Table.{in_thirteen}

module _ (set : ℕ) where
  -- a pair's set has the signs that are shown
  has_shown : (k : Pair) (q : Relation) → has (sign_set set k) q ≡ shown set k q
  has_shown k q = grind (arith, nat_tests)

  has_sign : (t : TitleRelation) (k : Pair) → holds set t ≡ true → has (sign_set set k) (sign t k) ≡ true
  unfolding shown
  has_sign t k e = has_shown k (sign t k) ∙ passed_by (shows set k (sign t k)) thirteen t (in_thirteen t) (and_from _ _ e (same_from refl))

  set_at : (k : Pair) → sign_set set k ≡ get_or (sign_sets set) (place k) 0
  set_at RiseRise = refl
  set_at RiseFall = refl
  set_at FallRise = refl
  set_at FallFall = refl

  fits_from : (t : TitleRelation) → ((k : Pair) → has (sign_set set k) (sign t k) ≡ true) → fits t (sign_sets set) ≡ true
  fits_from t h = every_from (λ k. has (get_or (sign_sets set) (place k) 0) (sign t k)) (λ k. subst (λ s. has s (sign t k) ≡ true) (set_at k) (h k)) pairs

  holds_from : pointisable set ≡ true → (t : TitleRelation) → fits t (sign_sets set) ≡ true → holds set t ≡ true
  unfolding closed
  holds_from e t f = elim (or_cases _ _ (passes (settled set) thirteen t (in_thirteen t) (and_parts _ _ e).1)) [
    | inl h ↦ h
    | inr h ↦ absurd (both_ways _ (not-true _ h) f)
  ]

abbrev row : ℕ → ℕ → ℕ → Pair → Row
row x set y k = (left k x, sign_set set k, right k y)

module _ (p : Placement) (x set y : ℕ) where
  obeys_each : ObeysAll p (ruled x set y) → (k : Pair) → Obeys p (row x set y k)
  obeys_each h RiseRise = h.0
  obeys_each h RiseFall = h.1.0
  obeys_each h FallRise = h.1.1.0
  obeys_each h FallFall = h.1.1.1.0

  obeys_all : ((k : Pair) → Obeys p (row x set y k)) → ObeysAll p (ruled x set y)
  obeys_all h = (h RiseRise, (h RiseFall, (h FallRise, (h FallFall, tt))))

module _ (p : Placement) (t : TitleRelation) (x set y : ℕ) (s : Stands t p x y) where
  rule_from_rows : pointisable set ≡ true → ObeysAll p (ruled x set y) → holds set t ≡ true
  rule_from_rows e o = holds_from set e t (fits_from set t (λ k. obeys_each p x set y o k (sign t k) (s.2 k)))

  rows_from_rule : holds set t ≡ true → ObeysAll p (ruled x set y)
  rows_from_rule e = obeys_all p x set y (λ k q h. subst (λ r. has (sign_set set k) r ≡ true) (holds_same (sign t k) q _ _ (s.2 k) h) (has_sign set t k e))

-- the rule's rows are obeyed just where its set holds the relation that stands
pub exact_from : (x set y : ℕ) (r : Option (List Row)) → r ≡ cond (pointisable set) (Some (ruled x set y)) None → Exact x set y r
exact_from x set y r e =
    subst (Exact x set y) (sym e)
    (cond_both (pointisable set) (Some (ruled x set y)) None (Exact x set y)
    (λ e p t hx hy s. (rule_from_rows p t x set y s e, rows_from_rule p t x set y s)) (λ _. tt))

-- a number above 0 has a bit
bit_found : (n s : ℕ) → 0 < s → s < 2 ^ n → (i : ℕ) × (i < n) × (eqb (s / 2 ^ i % 2) 1 ≡ true)
bit_found zero s h l = absurd (omega arith)
bit_found (suc n) s h l = elim (cases_eq (s % 2) 1) [
  | inl e ↦ (0, omega arith, eq-eqb _ 1 (ap (λ v. v % 2) (div-one s) ∙ e))
  | inr ne ↦ (
      let r = bit_found n (s / 2) (omega arith) (omega (arith, pow-suc 2 n)) in
      (suc r.0, omega (arith, r.1), ap (λ v. eqb (v % 2) 1) (sym (shr-shr s 1 r.0 ∙ ap (λ v. s / 2 ^ v) (omega arith))) ∙ r.2))
]

-- the values of the thirteen are the powers of two
abbrev powers : ℕ → Bool
powers zero = true
powers (suc n) = eqb (facts (get_or thirteen n Equals)).value (2 ^ n) && powers n

all_powers : powers 13 ≡ true
all_powers = refl

is_power : (i : ℕ) → i < 13 → (facts (get_or thirteen i Equals)).value ≡ 2 ^ i
is_power = (Decides-below_and (λ i. eqb (facts (get_or thirteen i Equals)).value (2 ^ i)) (λ i. (facts (get_or thirteen i Equals)).value ≡ 2 ^ i) powers (λ i. Decides-eqb _ _) refl (λ _. refl) 13).0 all_powers

member : (set : ℕ) → 1 ≤ set → set ≤ 8191 → (t : TitleRelation) × (holds set t ≡ true)
member set h l =
    let b = bit_found 13 set h (omega arith) in
    (get_or thirteen b.0 Equals, subst (λ v. eqb (set / v % 2) 1 ≡ true) (sym (is_power b.0 b.1)) b.2)

above_zero : (s : ℕ) (q : Relation) → has s q ≡ true → 1 ≤ s
above_zero s q e = grind (arith, nat_tests)

pub ruled_sets : (set : ℕ) → pointisable set ≡ true → (k : Pair) → (1 ≤ sign_set set k) × (sign_set set k ≤ 7)
ruled_sets set e k =
    let bounds = and_parts _ _ (and_parts _ _ e).0 in
    let m = member set (leb-true 1 set bounds.0) (leb-true set 8191 bounds.1) in
    (above_zero (sign_set set k) (sign m.0 k) (has_sign set m.0 k m.1), grind arith)
