-- Groups take their places turn by turn.
use Rattle.std.specs.Prelude.{◌≡◌, ℕ, ◌<◌, ◌≤◌, ◌⊎◌, List, [], ◌∷◌, ◌++◌}
use Rattle.algebra.specs.Placements.{Row}
use Rattle.graph.specs.Steps.{Step, SameGroup, Leads}

-- a number is in a list
abbrev pub In : ℕ → List ℕ → Type 0
In m [] = ⊥
In m (k ∷ ks) = (m ≡ k) ⊎ In m ks

-- the group of m has a place: one of the leaders placed so far shares it
abbrev pub Placed : List Row → List ℕ → ℕ → Type 0
Placed rs placed m = (l : ℕ) × (In l placed × SameGroup rs l m)

-- l leads a group without a place, and no step enters it from another group without a place
abbrev pub Ready : ℕ → List Row → List ℕ → ℕ → Type 0
Ready n rs placed l =
    (l < n) × Leads rs l l × (Placed rs placed l → ⊥)
    × ((p q : ℕ) → Step rs p q → SameGroup rs q l → (Placed rs placed p → ⊥) → SameGroup rs p l)

-- the leaders in the sequence of their places: each turn the lowest that is ready takes the next place
pub data Turns (n : ℕ) (rs : List Row) : List ℕ → Type 0 where
  start : Turns n rs []
  turn : {placed : List ℕ} {l : ℕ} → Turns n rs placed → Ready n rs placed l → ((k : ℕ) → Ready n rs placed k → l ≤ k) → Turns n rs (placed ++ l ∷ [])

-- the turns of all groups of n moments
abbrev pub AllTurns : ℕ → List Row → List ℕ → Type 0
AllTurns n rs placed = Turns n rs placed × ((m : ℕ) → m < n → Placed rs placed m)

-- while a group has no place, one is ready
abbrev pub OneReady : ℕ → List Row → Type 0
OneReady n rs = (placed : List ℕ) (m : ℕ) → m < n → (Placed rs placed m → ⊥) → (l : ℕ) × Ready n rs placed l

-- the turns of all groups are one list
abbrev pub OneSequence : ℕ → List Row → Type 0
OneSequence n rs = (a b : List ℕ) → AllTurns n rs a → AllTurns n rs b → a ≡ b
