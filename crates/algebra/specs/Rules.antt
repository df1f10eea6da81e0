-- What a title rule says of the moments of its titles.
use Rattle.std.specs.Prelude.{◌≡◌, ℕ, ◌+◌, Bool, true, cond, not, ◌&&◌, ◌||◌, List, [], ◌∷◌, map, Some, None, Option, MatchOption, ◌==◌, nat_le, slice_index}
use Rattle.std.specs.List.{list_any, list_all}
use Rattle.algebra.specs.declared.points.Relation.{Relation}
use Rattle.algebra.specs.declared.points.Relation.TheVariants.{Before, Together, After}
use Rattle.algebra.specs.declared.titles.Pair.{Pair}
use Rattle.algebra.specs.declared.titles.TitleRelation.{TitleRelation}
use Rattle.algebra.specs.Points.{value_of, has}
use Rattle.algebra.specs.Placements.{Row, Placement, ObeysAll}
use Rattle.algebra.specs.Titles.{thirteen, pairs, place, sign, holds, left, right, Rises, Stands}

-- whether two relations are the same
abbrev pub same : Relation → Relation → Bool
same q r = value_of q == value_of r

-- whether a title relation is in the set, with that sign at the pair
abbrev pub shows : ℕ → Pair → Relation → TitleRelation → Bool
shows set k q t = holds set t && same (sign t k) q

-- whether a member of the set has the sign at the pair
unfoldable pub shown : ℕ → Pair → Relation → Bool
shown set k q = list_any (shows set k q) thirteen

-- what the sign adds to the pair's set
abbrev pub share : ℕ → Pair → Relation → ℕ
share set k q = cond (shown set k q) (value_of q) 0

-- the signs that the members of the set have at the pair
abbrev pub sign_set : ℕ → Pair → ℕ
sign_set set k = share set k Before + share set k Together + share set k After

-- the four sets of a rule
abbrev pub sign_sets : ℕ → List ℕ
sign_sets set = map (sign_set set) pairs

-- whether all four signs of a title relation are in the sets
abbrev pub fits : TitleRelation → List ℕ → Bool
fits t sets = list_all (λ k. has (slice_index sets (place k)) (sign t k)) pairs

-- whether a title relation is in the set, or has a sign outside the set's four sets
abbrev pub settled : ℕ → TitleRelation → Bool
settled set t = holds set t || not (fits t (sign_sets set))

-- whether no relation outside the set has all four signs in its sets
unfoldable pub closed : ℕ → Bool
closed set = list_all (settled set) thirteen

-- the set of a rule is from 1 to 8191, and a pointisable one is closed
abbrev pub pointisable : ℕ → Bool
pointisable set = (nat_le 1 set && nat_le set 8191) && closed set

-- the rows of four sets from title x to title y
abbrev pub rows_with : ℕ → List ℕ → ℕ → List Row
rows_with x sets y = map (λ k. (left k x, slice_index sets (place k), right k y)) pairs

-- the four rows of a rule
abbrev pub ruled : ℕ → ℕ → ℕ → List Row
ruled x set y = rows_with x (sign_sets set) y

-- where both titles rise before they fall, the rows say just that the relation between them is in the set
abbrev pub Exact : ℕ → ℕ → ℕ → Option (List Row) → Type 0
Exact x set y r =
    MatchOption r (Unit {0}) (λ rows. (p : Placement) (t : TitleRelation) → Rises p x → Rises p y → Stands t p x y
    → (ObeysAll p rows → holds set t ≡ true) × (holds set t ≡ true → ObeysAll p rows))

-- the four sets where the rule is pointisable
abbrev pub sets_if : ℕ → Option (List ℕ)
sets_if set = cond (pointisable set) (Some (sign_sets set)) None

-- worked by hand from the signs
abbrev pub Worked : Type 0
Worked = map sets_if (5 ∷ 4096 ∷ 3 ∷ []) ≡ Some (1 ∷ 1 ∷ 3 ∷ 1 ∷ []) ∷ Some (2 ∷ 1 ∷ 4 ∷ 2 ∷ []) ∷ None ∷ []
