-- The thirteen relations between titles.
use Rattle.std.specs.Prelude.{◌≡◌, ℕ, ◌+◌, ◌*◌, ◌/◌, ◌%◌, ◌<◌, Bool, List, [], ◌∷◌, length, ◌<ℤ◌, codes, ◌==◌, ◌≢◌, slice_index_or}
use Rattle.algebra.specs.declared.points.Relation.{Relation}
use Rattle.algebra.specs.declared.points.Relation.TheVariants.{Before, Together, After}
use Rattle.algebra.specs.declared.titles.Pair.{Pair}
use Rattle.algebra.specs.declared.titles.Pair.TheVariants.{RiseRise, RiseFall, FallRise, FallFall}
use Rattle.algebra.specs.declared.titles.TitleRelation.{TitleRelation}
use Rattle.algebra.specs.declared.titles.TitleRelation.TheVariants.{Precedes, PrecededBy, Meets, MetBy, Overlaps, OverlappedBy, During, Contains, Starts, StartedBy, Finishes, FinishedBy, Equals}
use Rattle.algebra.specs.Points.{Holds}
use Rattle.algebra.specs.Placements.{Placement}

-- what is fixed of a title relation: its symbol, its value in a set, and its four signs, which
-- compare rise with rise, rise with fall, fall with rise and fall with fall
pub record Facts : Type 0 where
  pub symbol : List ℕ
  pub value : ℕ
  pub signs : List Relation

-- an entry of the table
abbrev entry : List ℕ → ℕ → Relation → Relation → Relation → Relation → Facts
entry s v q₁ q₂ q₃ q₄ = record { symbol = s; value = v; signs = q₁ ∷ q₂ ∷ q₃ ∷ q₄ ∷ [] }

-- the table
abbrev pub facts : TitleRelation → Facts
facts Precedes = entry (codes "b") 1 Before Before Before Before
facts PrecededBy = entry (codes "bi") 2 After After After After
facts Meets = entry (codes "m") 4 Before Before Together Before
facts MetBy = entry (codes "mi") 8 After Together After After
facts Overlaps = entry (codes "o") 16 Before Before After Before
facts OverlappedBy = entry (codes "oi") 32 After Before After After
facts During = entry (codes "d") 64 After Before After Before
facts Contains = entry (codes "di") 128 Before Before After After
facts Starts = entry (codes "s") 256 Together Before After Before
facts StartedBy = entry (codes "si") 512 Together Before After After
facts Finishes = entry (codes "f") 1024 After Before After Together
facts FinishedBy = entry (codes "fi") 2048 Before Before After Together
facts Equals = entry (codes "eq") 4096 Together Before After Together

-- no relation has these bytes as its symbol
abbrev pub NoSymbol : List ℕ → Type 0
NoSymbol bytes = (t : TitleRelation) → bytes ≢ (facts t).symbol

-- the relations, by rising value
abbrev pub thirteen : List TitleRelation
thirteen = Precedes ∷ PrecededBy ∷ Meets ∷ MetBy ∷ Overlaps ∷ OverlappedBy ∷ During ∷ Contains ∷ Starts ∷ StartedBy ∷ Finishes ∷ FinishedBy ∷ Equals ∷ []

-- the pairs, in the sequence of the signs
abbrev pub pairs : List Pair
pairs = RiseRise ∷ RiseFall ∷ FallRise ∷ FallFall ∷ []

-- a title rises at an even moment, and falls at the next
abbrev pub rise : ℕ → ℕ
rise t = 2 * t

abbrev pub fall : ℕ → ℕ
fall t = 2 * t + 1

-- the two moments of a pair, of a title x beside a title y
abbrev pub left : Pair → ℕ → ℕ
left RiseRise x = rise x
left RiseFall x = rise x
left FallRise x = fall x
left FallFall x = fall x

abbrev pub right : Pair → ℕ → ℕ
right RiseRise y = rise y
right RiseFall y = fall y
right FallRise y = rise y
right FallFall y = fall y

-- where a pair stands among the four
abbrev pub place : Pair → ℕ
place RiseRise = 0
place RiseFall = 1
place FallRise = 2
place FallFall = 3

-- the sign that a title relation has at a pair
abbrev pub sign : TitleRelation → Pair → Relation
sign t k = slice_index_or (facts t).signs (place k) Together

-- whether a set of title relations, the sum of their values, holds one
abbrev pub holds : ℕ → TitleRelation → Bool
holds set t = (set / (facts t).value % 2) == 1

-- the title rises before it falls
abbrev pub Rises : Placement → ℕ → Type 0
Rises p x = p (rise x) <ℤ p (fall x)

-- the title relation holds between x and y: each rises before it falls, and the signs agree
abbrev pub Stands : TitleRelation → Placement → ℕ → ℕ → Type 0
Stands t p x y = Rises p x × Rises p y × ((k : Pair) → Holds (sign t k) (p (left k x)) (p (right k y)))

-- exactly one relation of the list holds between two titles that rise before they fall
abbrev pub OneHolds : List TitleRelation → Type 0
OneHolds ts =
    (p : Placement) (x y : ℕ) → Rises p x → Rises p y
    → (i : ℕ) × (i < length ts) × Stands (slice_index_or ts i Equals) p x y
    × ((t : TitleRelation) → Stands t p x y → t ≡ slice_index_or ts i Equals)
