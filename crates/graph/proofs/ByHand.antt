-- The scenes that are worked by hand.
use Rattle.std.proofs.Common.{[], ◌∷◌, refl, inl, arith}
use Rattle.scene.specs.Scenes.{Clash}
use Rattle.graph.specs.Orders.{Ordered}
use Rattle.graph.specs.Steps.{stay}
use Rattle.graph.specs.Turns.{Turns, start}
use Rattle.graph.specs.Worked.{Worked, at, before_itself, both_ways, diamond}
use Rattle.graph.proofs.Rising.{impossible_clashes}
use Rattle.graph.proofs.Trials.{turn_told, ordered_told}

both_ways_ordered : Ordered 2 both_ways (at 1 0 ∷ at 1 0 ∷ []) 1
both_ways_ordered =
    let turns : Turns 2 both_ways (0 ∷ []) = turn_told 2 both_ways refl (omega arith) [] 0 start (omega arith) refl refl in
    ordered_told 2 both_ways refl (omega arith) (0 ∷ []) (at 1 0 ∷ at 1 0 ∷ []) turns refl refl

diamond_ordered : Ordered 4 diamond (at 1 0 ∷ at 2 1 ∷ at 3 2 ∷ at 4 3 ∷ []) 4
diamond_ordered =
    let one : Turns 4 diamond (0 ∷ []) = turn_told 4 diamond refl (omega arith) [] 0 start (omega arith) refl refl in
    let two : Turns 4 diamond (0 ∷ 1 ∷ []) = turn_told 4 diamond refl (omega arith) (0 ∷ []) 1 one (omega arith) refl refl in
    let three : Turns 4 diamond (0 ∷ 1 ∷ 2 ∷ []) = turn_told 4 diamond refl (omega arith) (0 ∷ 1 ∷ []) 2 two (omega arith) refl refl in
    let four : Turns 4 diamond (0 ∷ 1 ∷ 2 ∷ 3 ∷ []) = turn_told 4 diamond refl (omega arith) (0 ∷ 1 ∷ 2 ∷ []) 3 three (omega arith) refl refl in
    ordered_told 4 diamond refl (omega arith) (0 ∷ 1 ∷ 2 ∷ 3 ∷ []) (at 1 0 ∷ at 2 1 ∷ at 3 2 ∷ at 4 3 ∷ []) four refl refl

before_itself_clashes : Clash before_itself
before_itself_clashes = impossible_clashes before_itself (inl (refl, (stay, stay)))

pub worked : Worked
worked = (both_ways_ordered, diamond_ordered, before_itself_clashes)
