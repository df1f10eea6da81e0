-- A set of moments, as four words of 64 bits.
use Rattle.std.specs.Prelude.{◌≡◌, ℕ, ◌+◌, ◌/◌, ◌%◌, ◌^◌, ◌<◌, Bool, true, cond, ◌==◌, slice_index}
use Rattle.graph.specs.declared.moments.Moments.{Moments}

-- whether bit k of a word is set
abbrev pub bit : ℕ → ℕ → Bool
bit w k = w / 2 ^ k % 2 == 1

-- whether a moment is in the set
abbrev pub holds : Moments → ℕ → Bool
holds m k = bit (slice_index m.words (k / 64)) (k % 64)

-- each moment of a set is in another
abbrev pub Within : Moments → Moments → Type 0
Within a b = (k : ℕ) → k < 256 → holds a k ≡ true → holds b k ≡ true

-- two truths as one number
abbrev pub pair : Bool → Bool → ℕ
pair a b = cond a 1 0 + cond b 2 0
