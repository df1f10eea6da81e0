use Rattle.std.proofs.Common.{◌≡◌, ℕ, ◌<◌, length, get_or}
use lib.Bits.{bit_or}
use Rattle.graph.proofs.moments.Moments.within.Given as goal

abbrev pub invariant-loop-word : goal.invariant-loop-word
invariant-loop-word l = (j : ℕ) → j < length l.yielded → bit_or (get_or l.fn.self.words j 0) (get_or l.fn.other.words j 0) ≡ get_or l.fn.other.words j 0
