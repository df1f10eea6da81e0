-- The first check that strikes gives the answer: one rule for every call.
use Rattle.std.specs.Prelude.{◌≡◌, ◌⊎◌, List, [], ◌∷◌, Ok, Err, Result}

-- a check: what it answers, and the condition under which it strikes
abbrev pub Check : Type 0 → Type 1
Check C = C × Type 0

-- the first of the checks that strikes answers c
abbrev pub First : {C : Type 0} → List (Check C) → C → Type 0
First [] c = ⊥
First (d ∷ ds) c = ((d.0 ≡ c) × d.1) ⊎ ((d.1 → ⊥) × First ds c)

-- no check strikes
abbrev pub Clear : {C : Type 0} → List (Check C) → Type 0
Clear [] = Unit {0}
Clear (d ∷ ds) = (d.1 → ⊥) × Clear ds

-- a call that makes these checks in sequence answers a value, or the first check that strikes
abbrev pub Answers : {C V : Type 0} → List (Check C) → (V → Type 0) → Result V C → Type 0
Answers cs Good (Ok v) = Clear cs × Good v
Answers cs Good (Err c) = First cs c

-- the checks of a part as those of the whole, where the whole answers more than the part
abbrev pub raised : {C D : Type 0} → (C → D) → List (Check C) → List (Check D)
raised f [] = []
raised f (d ∷ ds) = (f d.0, d.1) ∷ raised f ds
