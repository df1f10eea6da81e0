-- The line of a refusal, whose end stands after the fault's text.
use Rattle.std.proofs.Common.{◌≡◌, ℕ, List, [], ◌∷◌, ◌++◌}
use Rattle.std.proofs.lemmas.List.{append_assoc}

pub fault_line : (number place : List ℕ) → (number ++ 9 ∷ place) ++ (10 ∷ []) ≡ number ++ (9 ∷ (place ++ (10 ∷ [])))
fault_line number place = append_assoc number (9 ∷ place) (10 ∷ [])
