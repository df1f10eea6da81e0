-- A set has exactly the members that it is the sum of.
use Rattle.std.proofs.Common.{◌≡◌, ℕ, ◌+◌, ◌*◌, ◌/◌, ◌%◌, ◌≤◌, Bool, true, false, cond, ◌||◌, eqb, List, [], ◌∷◌, ◌++◌, refl, ap, ◌∙◌, arith}
use Rattle.std.proofs.lemmas.Bool.{cond_both}
use Rattle.std.specs.List.{AllByRecursion as All}
use Rattle.algebra.specs.declared.titles.TitleRelation.{TitleRelation}
use Rattle.algebra.specs.declared.titles.TitleRelation.TheVariants.{Precedes, PrecededBy, Meets, MetBy, Overlaps, OverlappedBy, During, Contains, Starts, StartedBy, Finishes, FinishedBy, Equals}
use Rattle.algebra.specs.Members.{alike, occurs, set_where, set_of}
use Rattle.algebra.specs.Titles.{facts, thirteen, holds}

abbrev bit : Bool → ℕ
bit true = 1
bit false = 0

bit_le : (b : Bool) → bit b ≤ 1
bit_le true = omega arith
bit_le false = omega arith

weighed : (b : Bool) (v : ℕ) → cond b v 0 ≡ v * bit b
weighed true v = omega arith
weighed false v = omega arith

swap : (x y z : Bool) → (x || (y || z)) ≡ (y || (x || z))
swap true true z = refl
swap true false z = refl
swap false y z = refl

sure : (b : Bool) → eqb (bit b) 1 ≡ b
sure true = refl
sure false = refl

module _ (f : TitleRelation → Bool) where
  abbrev b : TitleRelation → ℕ
  b t = bit (f t)

  in_bits : set_where f ≡ b Precedes + 2 * b PrecededBy + 4 * b Meets + 8 * b MetBy + 16 * b Overlaps + 32 * b OverlappedBy + 64 * b During + 128 * b Contains + 256 * b Starts + 512 * b StartedBy + 1024 * b Finishes + 2048 * b FinishedBy + 4096 * b Equals
  unfolding set_where
  in_bits = omega (arith, weighed (f Precedes) 1, weighed (f PrecededBy) 2, weighed (f Meets) 4, weighed (f MetBy) 8, weighed (f Overlaps) 16, weighed (f OverlappedBy) 32, weighed (f During) 64, weighed (f Contains) 128, weighed (f Starts) 256, weighed (f StartedBy) 512, weighed (f Finishes) 1024, weighed (f FinishedBy) 2048, weighed (f Equals) 4096)

module _ (f : TitleRelation → Bool) where
  bounded : (ts : List TitleRelation) → All (λ t. b f t ≤ 1) ts
  bounded [] = tt
  bounded (t ∷ ts) = (bit_le (f t), bounded ts)

  digit : (t : TitleRelation) → set_where f / (facts t).value % 2 ≡ b f t
  digit t =
      let sum = in_bits f in
      let bounds : All (λ t. b f t ≤ 1) thirteen = bounded thirteen in
      elim t as (λ t. set_where f / (facts t).value % 2 ≡ b f t) [
        | Precedes ↦ omega arith
        | PrecededBy ↦ omega arith
        | Meets ↦ omega arith
        | MetBy ↦ omega arith
        | Overlaps ↦ omega arith
        | OverlappedBy ↦ omega arith
        | During ↦ omega arith
        | Contains ↦ omega arith
        | Starts ↦ omega arith
        | StartedBy ↦ omega arith
        | Finishes ↦ omega arith
        | FinishedBy ↦ omega arith
        | Equals ↦ omega arith
      ]

  -- a set has the members that pass, and no others
  pub holds_where : (t : TitleRelation) → holds (set_where f) t ≡ f t
  holds_where t = ap (λ n. eqb n 1) (digit t) ∙ sure (f t)

  pub set_small : set_where f ≤ 8191
  set_small =
      let sum = in_bits f in
      let bounds : All (λ t. b f t ≤ 1) thirteen = bounded thirteen in omega arith

  -- a set with one more member, in bits
  put : (t : TitleRelation) → set_where (λ u. alike t u || f u) + (facts t).value * b f t ≡ set_where f + (facts t).value
  put t =
      let sum = in_bits f in
      elim t as (λ t. set_where (λ u. alike t u || f u) + (facts t).value * b f t ≡ set_where f + (facts t).value) [
        | Precedes ↦ omega (arith, in_bits (λ u. alike Precedes u || f u))
        | PrecededBy ↦ omega (arith, in_bits (λ u. alike PrecededBy u || f u))
        | Meets ↦ omega (arith, in_bits (λ u. alike Meets u || f u))
        | MetBy ↦ omega (arith, in_bits (λ u. alike MetBy u || f u))
        | Overlaps ↦ omega (arith, in_bits (λ u. alike Overlaps u || f u))
        | OverlappedBy ↦ omega (arith, in_bits (λ u. alike OverlappedBy u || f u))
        | During ↦ omega (arith, in_bits (λ u. alike During u || f u))
        | Contains ↦ omega (arith, in_bits (λ u. alike Contains u || f u))
        | Starts ↦ omega (arith, in_bits (λ u. alike Starts u || f u))
        | StartedBy ↦ omega (arith, in_bits (λ u. alike StartedBy u || f u))
        | Finishes ↦ omega (arith, in_bits (λ u. alike Finishes u || f u))
        | FinishedBy ↦ omega (arith, in_bits (λ u. alike FinishedBy u || f u))
        | Equals ↦ omega (arith, in_bits (λ u. alike Equals u || f u))
      ]

  -- a member more changes a set that lacks it
  pub set_put : (t : TitleRelation) → set_where (λ u. alike t u || f u) ≡ cond (holds (set_where f) t) (set_where f) (set_where f + (facts t).value)
  set_put t =
      let h = put t in
      rw (holds_where t) (cond_both (f t) (set_where f) (set_where f + (facts t).value) (λ n. set_where (λ u. alike t u || f u) ≡ n)
      (λ e. omega (arith, ap (λ x. (facts t).value * bit x) e)) (λ e. omega (arith, ap (λ x. (facts t).value * bit x) e)))

occurs_push : (ts : List TitleRelation) (t u : TitleRelation) → occurs (ts ++ t ∷ []) u ≡ (alike t u || occurs ts u)
occurs_push [] t u = refl
occurs_push (s ∷ ts) t u = ap (λ x. alike s u || x) (occurs_push ts t u) ∙ swap (alike s u) (alike t u) (occurs ts u)

pub set_push : (ts : List TitleRelation) (t : TitleRelation) → set_of (ts ++ t ∷ []) ≡ cond (holds (set_of ts) t) (set_of ts) (set_of ts + (facts t).value)
set_push ts t = ap set_where (λ i u. occurs_push ts t u i) ∙ set_put (occurs ts) t
