-- The table of the thirteen: its rules, each by one test that is computed over the whole of it.
use Rattle.std.proofs.Common.{◌≡◌, ℕ, ◌<◌, Bool, true, false, not, ◌&&◌, ◌||◌, eqb, List, [], ◌∷◌, get_or, sym, refl, ap, ◌∙◌, lit<}
use Rattle.std.specs.List.{ContainsAt as Has, list_any, list_all}
use Rattle.std.proofs.lemmas.Bool.{and_from, eq-eqb, eqb-true, false≢true}
use Rattle.algebra.specs.declared.points.Relation.{Relation}
use Rattle.algebra.specs.declared.titles.Pair.{Pair}
use Rattle.algebra.specs.declared.titles.Pair.TheVariants.{RiseRise, RiseFall, FallRise, FallFall}
use Rattle.algebra.specs.declared.titles.TitleRelation.{TitleRelation}
use Rattle.algebra.specs.declared.titles.TitleRelation.TheVariants.{Precedes, PrecededBy, Meets, MetBy, Overlaps, OverlappedBy, During, Contains, Starts, StartedBy, Finishes, FinishedBy, Equals}
use Rattle.algebra.specs.Titles.{facts, thirteen, pairs, sign}
use Rattle.algebra.specs.Rules.{same}
use Rattle.algebra.proofs.Passing.{passes, one_passes, every_from}
use Rattle.algebra.proofs.Signs.{three, at_each, same_true, same_from, step}

-- where each pair and each relation stands
pub in_pairs : (k : Pair) → Has pairs k
in_pairs RiseRise = (0, lit< tt, λ _. refl)
in_pairs RiseFall = (1, lit< tt, λ _. refl)
in_pairs FallRise = (2, lit< tt, λ _. refl)
in_pairs FallFall = (3, lit< tt, λ _. refl)

abbrev pub in_thirteen : (t : TitleRelation) → Has thirteen t
in_thirteen Precedes = (0, lit< tt, λ _. refl)
in_thirteen PrecededBy = (1, lit< tt, λ _. refl)
in_thirteen Meets = (2, lit< tt, λ _. refl)
in_thirteen MetBy = (3, lit< tt, λ _. refl)
in_thirteen Overlaps = (4, lit< tt, λ _. refl)
in_thirteen OverlappedBy = (5, lit< tt, λ _. refl)
in_thirteen During = (6, lit< tt, λ _. refl)
in_thirteen Contains = (7, lit< tt, λ _. refl)
in_thirteen Starts = (8, lit< tt, λ _. refl)
in_thirteen StartedBy = (9, lit< tt, λ _. refl)
in_thirteen Finishes = (10, lit< tt, λ _. refl)
in_thirteen FinishedBy = (11, lit< tt, λ _. refl)
in_thirteen Equals = (12, lit< tt, λ _. refl)

-- the signs of a title relation are those
abbrev agrees : (Pair → Relation) → TitleRelation → Bool
agrees s t = list_all (λ k. same (sign t k) (s k)) pairs

-- what four signs have to be where both titles rise before they fall
abbrev pub possible : (Pair → Relation) → Bool
possible s = (step (s RiseRise) (s FallRise) && step (s RiseFall) (s FallFall)) && (step (s RiseFall) (s RiseRise) && step (s FallFall) (s FallRise))

abbrev four : Relation → Relation → Relation → Relation → Pair → Relation
four a b c d RiseRise = a
four a b c d RiseFall = b
four a b c d FallRise = c
four a b c d FallFall = d

abbrev named : (Pair → Relation) → Bool
named s = not (possible s) || list_any (agrees s) thirteen

-- computed at all 81 choices of four signs
all_named : list_all (λ a. list_all (λ b. list_all (λ c. list_all (λ d. named (four a b c d)) three) three) three) three ≡ true
all_named = refl

is_named : (a b c d : Relation) → named (four a b c d) ≡ true
is_named a b c =
    at_each (λ d. named (four a b c d))
    (at_each (λ z. list_all (λ d. named (four a b z d)) three)
    (at_each (λ y. list_all (λ c. list_all (λ d. named (four a y c d)) three) three)
    (at_each (λ x. list_all (λ b. list_all (λ c. list_all (λ d. named (four x b c d)) three) three) three) all_named a) b) c)

implied : (p q : Bool) → (not p || q) ≡ true → p ≡ true → q ≡ true
implied true q h e = h
implied false q h e = absurd (false≢true e)

module _ (s : Pair → Relation) where
  agrees_at : (t : TitleRelation) → agrees s t ≡ true → (k : Pair) → sign t k ≡ s k
  agrees_at t e k = same_true (sign t k) (s k) (passes (λ k. same (sign t k) (s k)) pairs k (in_pairs k) e)

  -- signs that can be are those of one of the thirteen
  pub found : possible s ≡ true → (i : ℕ) × (i < 13) × ((k : Pair) → sign (get_or thirteen i Equals) k ≡ s k)
  found e =
      let h = (one_passes (agrees s) thirteen).0
      (implied (possible s) (list_any (agrees s) thirteen) (is_named (s RiseRise) (s RiseFall) (s FallRise) (s FallFall)) e) in
      (h.0, h.1, agrees_at (get_or thirteen h.0 Equals) (h.2 Equals))

-- what stands at the same place is the same
same_place : (t u : TitleRelation) → eqb (in_thirteen t).0 (in_thirteen u).0 ≡ true → t ≡ u
same_place t u h = sym ((in_thirteen t).2 Equals) ∙ ap (λ i. get_or thirteen i Equals) (eqb-true (in_thirteen t).0 (in_thirteen u).0 h) ∙ (in_thirteen u).2 Equals

-- no two of them have the same four signs
abbrev alone : TitleRelation → TitleRelation → Bool
alone t u = not (agrees (sign u) t) || eqb (in_thirteen t).0 (in_thirteen u).0

all_alone : list_all (λ t. list_all (alone t) thirteen) thirteen ≡ true
all_alone = refl

pub same_title : (t u : TitleRelation) → ((k : Pair) → sign t k ≡ sign u k) → t ≡ u
same_title t u h =
    let agree : agrees (sign u) t ≡ true = every_from (λ k. same (sign t k) (sign u k)) (λ k. same_from (h k)) pairs in
    let at : alone t u ≡ true = passes (alone t) thirteen u (in_thirteen u) (passes (λ t. list_all (alone t) thirteen) thirteen t (in_thirteen t) all_alone) in
    same_place t u (implied (agrees (sign u) t) _ at agree)

-- no two of them have the same symbol
abbrev same_bytes : List ℕ → List ℕ → Bool
same_bytes [] [] = true
same_bytes [] (y ∷ ys) = false
same_bytes (x ∷ xs) [] = false
same_bytes (x ∷ xs) (y ∷ ys) = eqb x y && same_bytes xs ys

bytes_same : (xs : List ℕ) → same_bytes xs xs ≡ true
bytes_same [] = refl
bytes_same (x ∷ xs) = and_from (eqb x x) (same_bytes xs xs) (eq-eqb x x refl) (bytes_same xs)

abbrev apart : TitleRelation → TitleRelation → Bool
apart t u = not (same_bytes (facts t).symbol (facts u).symbol) || eqb (in_thirteen t).0 (in_thirteen u).0

all_apart : list_all (λ t. list_all (apart t) thirteen) thirteen ≡ true
all_apart = refl

pub same_symbol : (t u : TitleRelation) → (facts t).symbol ≡ (facts u).symbol → t ≡ u
same_symbol t u h =
    let same : same_bytes (facts t).symbol (facts u).symbol ≡ true = ap (same_bytes (facts t).symbol) (sym h) ∙ bytes_same (facts t).symbol in
    let at : apart t u ≡ true = passes (apart t) thirteen u (in_thirteen u) (passes (λ t. list_all (apart t) thirteen) thirteen t (in_thirteen t) all_apart) in
    same_place t u (implied (same_bytes (facts t).symbol (facts u).symbol) _ at same)
