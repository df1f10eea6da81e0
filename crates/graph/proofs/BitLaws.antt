-- What a bit of a word is, after the operations on words.
use Rattle.std.proofs.Common.{◌≡◌, ℕ, zero, suc, ◌+◌, ◌*◌, ◌/◌, ◌%◌, ◌^◌, ◌<◌, max, Bool, true, false, ◌&&◌, ◌||◌, eqb, List, length, get_or, set, sym, refl, ap, ◌∙◌, subst, subst₂, inl, inr, arith, get_or-set_other, get_or-set_same}
use mir.Val.{bool_byte}
use lib.Bits.{bit_and, bit_or, and_mask, or_zero_r}
use Rattle.std.specs.Int.{bit_at}
use Rattle.std.proofs.lemmas.Bool.Decides.{nat_tests}
use Rattle.std.proofs.lemmas.Bool.{cases_eq, cases_lt, eq-eqb, ne_eqb, eqb-true, or_left}
use Rattle.std.proofs.lemmas.Nat.{shr-shr, one_shl}
use Rattle.std.proofs.lemmas.Nat.Bits.{bit_at-lt, bit_at_or, bit_at_above, bit_at-pow_same, bit_at-pow_other, same_from_bits}
use Rattle.std.proofs.Math.Bool.{or-false}
use Rattle.graph.specs.Sets.{bit, pair}

-- what holds of each of the four words of a set
pub each_word : (P : ℕ → Type 0) → P 0 → P 1 → P 2 → P 3 → (i : ℕ) → i < 4 → P i
each_word P a b c d zero h = a
each_word P a b c d (suc zero) h = b
each_word P a b c d (suc (suc zero)) h = c
each_word P a b c d (suc (suc (suc zero))) h = d
each_word P a b c d (suc (suc (suc (suc i)))) h = absurd (omega arith)

pub same_test : (a b c d : ℕ) → (a ≡ b → c ≡ d) → (c ≡ d → a ≡ b) → eqb a b ≡ eqb c d
same_test a b c d f g = elim (cases_eq a b) [ inl e ↦ eq-eqb a b e ∙ sym (eq-eqb c d (f e)) | inr ne ↦ ne_eqb a b ne ∙ sym (ne_eqb c d (λ e. ne (g e))) ]

max_one : (m n : ℕ) → m < 2 → n < 2 → eqb (max m n) 1 ≡ (eqb m 1 || eqb n 1)
max_one m n h k = grind (arith, nat_tests)

pub bit_or_lem : (a b k : ℕ) → bit (bit_or a b) k ≡ (bit a k || bit b k)
bit_or_lem a b k = rw (bit_at_or a b k) (max_one (bit_at a k) (bit_at b k) (bit_at-lt a k) (bit_at-lt b k))

-- the word 2 ^ j has the bit j alone
bit_one : (i j : ℕ) → bit (2 ^ j) i ≡ eqb i j
bit_one i j = elim (cases_eq i j) [
  | inl e ↦ subst (λ v. bit (2 ^ j) v ≡ eqb v j) (sym e) (eq-eqb _ 1 (bit_at-pow_same j) ∙ sym (eq-eqb j j refl))
  | inr ne ↦ (let z = bit_at-pow_other j i ne in ne_eqb _ 1 (λ f. omega arith) ∙ sym (ne_eqb i j ne))
]

-- one more bit in a list of words
bit_set : (ws : List ℕ) (m k : ℕ) → m / 64 < length ws
    → bit (get_or (set ws (m / 64) (bit_or (get_or ws (m / 64) 0) ((1 * 2 ^ (m % 64)) % 2 ^ 64))) (k / 64) 0) (k % 64)
    ≡ (bit (get_or ws (k / 64) 0) (k % 64) || eqb k m)
bit_set ws m k h = elim (cases_eq (k / 64) (m / 64)) [
  | inl e ↦ (
      rw (e, get_or-set_same ws (m / 64) (bit_or (get_or ws (m / 64) 0) ((1 * 2 ^ (m % 64)) % 2 ^ 64)) 0 h, one_shl (m % 64) 64 (omega arith), bit_or_lem (get_or ws (m / 64) 0) (2 ^ (m % 64)) (k % 64), bit_one (k % 64) (m % 64))
      (ap (λ b. bit (get_or ws (m / 64) 0) (k % 64) || b) (same_test (k % 64) (m % 64) k m (λ f. omega arith) (λ f. omega arith))))
  | inr ne ↦ (
      rw (get_or-set_other, ne_eqb k m (λ f. ne (ap (λ v. v / 64) f))) (sym (or-false _)))
]

-- a word in a list, and the others as they were
word_set : (ws : List ℕ) (i j w : ℕ) → i < length ws → (i ≡ j → w ≡ get_or ws i 0) → get_or (set ws i w) j 0 ≡ get_or ws j 0
word_set ws i j w h same = elim (cases_eq j i) [
  | inl e ↦ subst (λ v. get_or (set ws i w) v 0 ≡ get_or ws v 0) (sym e) (get_or-set_same ws i w 0 h ∙ same (sym e))
  | inr ne ↦ get_or-set_other ws i j w 0 ne
]

-- the same where it is told
pub bit_put : (ws : List ℕ) (told : Bool) (m k : ℕ) → m / 64 < length ws
    → bit (get_or (set ws (m / 64) (bit_or (get_or ws (m / 64) 0) ((bool_byte told * 2 ^ (m % 64)) % 2 ^ 64))) (k / 64) 0) (k % 64)
    ≡ (bit (get_or ws (k / 64) 0) (k % 64) || (told && eqb k m))
bit_put ws true m k h = bit_set ws m k h
bit_put ws false m k h =
    let w = get_or ws (m / 64) 0 in
    let none : (0 * 2 ^ (m % 64)) % 2 ^ 64 ≡ 0 = omega arith in
    ap (λ v. bit v (k % 64)) (word_set ws (m / 64) (k / 64) (bit_or w ((0 * 2 ^ (m % 64)) % 2 ^ 64)) h (λ _. ap (bit_or w) none ∙ or_zero_r w)) ∙ sym (or-false _)

-- a word whose bits are all in another adds nothing to it
or_within : (w a b : ℕ) → a < 2 ^ w → ((k : ℕ) → k < w → bit a k ≡ true → bit b k ≡ true) → bit_or a b ≡ b
or_within w a b h each = same_from_bits (bit_or a b) b (λ i.
    let low = bit_at-lt a i in
    let top = bit_at-lt b i in
    elim (cases_eq (bit_at a i) 1) [
      | inl e ↦ elim (cases_lt i w) [
        | inl l ↦ (let f : bit_at b i ≡ 1 = eqb-true (bit_at b i) 1 (each i l (eq-eqb (bit_at a i) 1 e)) in omega (arith, bit_at_or a b i))
        | inr le ↦ absurd (omega (arith, bit_at_above a w i h le))
      ]
      | inr ne ↦ omega (arith, bit_at_or a b i)
    ])

-- the same in a list of words
pub words_within : (vs bs : List ℕ) (i : ℕ) → i < 4 → get_or vs i 0 < 2 ^ 64
    → ((k : ℕ) → k < 256 → bit (get_or vs (k / 64) 0) (k % 64) ≡ true → bit (get_or bs (k / 64) 0) (k % 64) ≡ true)
    → bit_or (get_or vs i 0) (get_or bs i 0) ≡ get_or bs i 0
words_within vs bs i h fits each = or_within 64 (get_or vs i 0) (get_or bs i 0) fits (λ k l e.
    let q : (i * 64 + k) / 64 ≡ i = omega arith in
    let r : (i * 64 + k) % 64 ≡ k = omega arith in
    subst₂ (λ x y. bit (get_or bs x 0) y ≡ true) q r (each (i * 64 + k) (omega arith) (subst₂ (λ x y. bit (get_or vs x 0) y ≡ true) (sym q) (sym r) e)))

pub within_or : (a b k : ℕ) → bit_or a b ≡ b → bit a k ≡ true → bit b k ≡ true
within_or a b k e h = ap (λ v. bit v k) (sym e) ∙ bit_or_lem a b k ∙ or_left (bit a k) (bit b k) h

pair_of : (v : ℕ) → v % 4 ≡ pair (eqb (v % 2) 1) (eqb (v / 2 % 2) 1)
pair_of v = elim (cases_eq (v % 2) 1) [
  | inl e ↦ elim (cases_eq (v / 2 % 2) 1) [
    | inl f ↦ rw (eq-eqb (v % 2) 1 e, eq-eqb (v / 2 % 2) 1 f) (omega arith)
    | inr f ↦ rw (eq-eqb (v % 2) 1 e, ne_eqb (v / 2 % 2) 1 f) (omega arith)
  ]
  | inr e ↦ elim (cases_eq (v / 2 % 2) 1) [
    | inl f ↦ rw (ne_eqb (v % 2) 1 e, eq-eqb (v / 2 % 2) 1 f) (omega arith)
    | inr f ↦ rw (ne_eqb (v % 2) 1 e, ne_eqb (v / 2 % 2) 1 f) (omega arith)
  ]
]

-- two neighbouring bits of a word, as one number
pub pair_bits : (w s : ℕ) → bit_and (w / 2 ^ s) 3 ≡ pair (bit w s) (bit w (s + 1))
pair_bits w s =
    let v = w / 2 ^ s in
    let half : v / 2 ≡ w / 2 ^ (s + 1) = shr-shr w s 1 in
    let low = and_mask v 2 in
    subst (λ u. bit_and v 3 ≡ pair (bit w s) (eqb (u % 2) 1)) half (low ∙ pair_of v)
