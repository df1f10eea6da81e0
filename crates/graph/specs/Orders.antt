-- The order: a place and a leader for each moment.
use Rattle.std.specs.Prelude.{◌≡◌, ℕ, ◌-◌, ◌<◌, ◌≤◌, List, [], ◌∷◌, length, get_or, pos, Some, ◌≢◌, slice_index_or}
use Rattle.std.specs.List.{slice_get}
use Rattle.algebra.specs.Placements.{Row, Placement, ObeysAll}
use Rattle.scene.specs.Checks.{Check}
use Rattle.scene.specs.Scenes.{Scene, Clash}
use Rattle.scene.specs.declared.refusals.Refusal.{Refusal}
use Rattle.scene.specs.declared.refusals.Refusal.TheVariants.{ListTooShort, Clash as Clashing}
use Rattle.graph.specs.declared.order.Entry.{Entry}
use Rattle.graph.specs.Steps.{Leads}
use Rattle.graph.specs.Turns.{In, AllTurns, OneReady, OneSequence}

-- the entry past the end of a list
abbrev pub blank : Entry
blank = record { place = 0; leader = 0 }

-- the entry of m has its group's leader, and the place that this leader took, counted from 1
abbrev pub EntryOf : List Row → List ℕ → ℕ → Entry → Type 0
EntryOf rs placed m e = Leads rs e.leader m × (1 ≤ e.place) × (slice_get placed (e.place - 1) ≡ Some e.leader)

-- the entries of n moments have the places and leaders of all turns, and count is the number of places
abbrev pub Ordered : ℕ → List Row → List Entry → ℕ → Type 0
Ordered n rs entries count =
    (placed : List ℕ) × (AllTurns n rs placed × (length placed ≡ count) × ((m : ℕ) → m < n → EntryOf rs placed m (slice_index_or entries m blank)))

-- the entries read as a placement
abbrev pub placing : List Entry → Placement
placing entries m = pos (get_or entries m blank).place

-- the places of n moments are the numbers from 1 to count: each moment has one of them, and each of them has a moment
abbrev pub CountsPlaces : ℕ → List Entry → ℕ → Type 0
CountsPlaces n entries count =
    ((m : ℕ) → m < n → (1 ≤ (get_or entries m blank).place) × ((get_or entries m blank).place ≤ count))
    × ((k : ℕ) → 1 ≤ k → k ≤ count → (m : ℕ) × ((m < n) × ((get_or entries m blank).place ≡ k)))

-- the moments of a list have separate numbers
abbrev pub Separate : Placement → List ℕ → Type 0
Separate p [] = Unit {0}
Separate p (m ∷ ms) = ((k : ℕ) → In k ms → p m ≢ p k) × Separate p ms

-- no placement that obeys the rows gives n moments more separate numbers than count
abbrev pub MostPlaces : ℕ → List Row → ℕ → Type 0
MostPlaces n rs count =
    (p : Placement) → ObeysAll p rs → (ms : List ℕ) → ((m : ℕ) → In m ms → m < n) → Separate p ms → length ms ≤ count

-- what an order owes: the places and leaders of all turns; how many places these are; that they obey every row; and
-- that no placement which does has more separate numbers
pub record Owed (s : Scene) (entries : List Entry) (count : ℕ) : Type 0 where
  pub ordered : Ordered s.moments s.rows entries count
  pub counted : CountsPlaces s.moments entries count
  pub obeyed : ObeysAll (placing entries) s.rows
  pub most : MostPlaces s.moments s.rows count

-- while a group has no place one is ready, and the turns are one list
abbrev pub OneOrder : Scene → Type 0
OneOrder s = OneReady s.moments s.rows × OneSequence s.moments s.rows

-- entries from n on are as they were
abbrev pub Beyond : ℕ → List Entry → List Entry → Type 0
Beyond n old new = (length new ≡ length old) × ((k : ℕ) → n ≤ k → (e : Entry) → slice_index_or new k e ≡ slice_index_or old k e)

-- the checks of an order: the list has an entry for each moment, and the rows do not clash
abbrev pub ordering : Scene → List Entry → List (Check Refusal)
ordering s entries = (ListTooShort, length entries < s.moments) ∷ (Clashing, Clash s.rows) ∷ []
