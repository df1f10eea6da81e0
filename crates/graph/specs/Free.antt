-- Readiness and groups as the code reads them from two tables: t has whom a moment reaches, b who reaches it.
use Rattle.std.specs.Prelude.{◌≡◌, ℕ, ◌<◌, ◌≤◌, Bool, true, false, cond, ◌&&◌, ◌||◌, List, length, Option, MatchOption, slice_index_or}
use Rattle.graph.specs.declared.order.Entry.{Entry}

-- whoever reaches m is marked, or is reached by m too
abbrev pub Clear : (t b : ℕ → ℕ → Bool) → (ℕ → Bool) → ℕ → Type 0
Clear t b marked m = (v : ℕ) → v < 256 → b m v ≡ true → (t m v || marked v) ≡ true

-- m is not marked, and clear
pub record Free (t b : ℕ → ℕ → Bool) (marked : ℕ → Bool) (m : ℕ) : Type 0 where
  pub unmarked : marked m ≡ false
  pub clear : Clear t b marked m

-- the entries of the moments below n in the group of m are e, and all others are as they were
abbrev pub Grouped : (t : ℕ → ℕ → Bool) → ℕ → ℕ → Entry → List Entry → List Entry → Type 0
Grouped t n m e old new =
    (length new ≡ length old)
    × ((x : ℕ) → x < n → (d : Entry) → slice_index_or new x d ≡ cond (t m x && t x m) e (slice_index_or old x d))
    × ((x : ℕ) → n ≤ x → (d : Entry) → slice_index_or new x d ≡ slice_index_or old x d)

-- the lowest free moment below n, if there is one
abbrev pub LowestFree : (t b : ℕ → ℕ → Bool) → (ℕ → Bool) → ℕ → Option ℕ → Type 0
LowestFree t b marked n r =
    MatchOption r ((m : ℕ) → m < n → Free t b marked m → ⊥) (λ m. (m < n) × Free t b marked m × ((v : ℕ) → v < m → Free t b marked v → ⊥))
