-- What a source means: a number of moments, and rows over them.
use Rattle.std.specs.Prelude.{◌≡◌, ℕ, ◌≤◌, Bool, true, ◌&&◌, List, [], ◌∷◌, length, nat_le, nat_lt}
use Rattle.algebra.specs.Placements.{Row, Placement, ObeysAll}

-- some placement obeys all rows
abbrev pub Agree : List Row → Type 0
Agree rs = (p : Placement) × ObeysAll p rs

-- no placement does
abbrev pub Clash : List Row → Type 0
Clash rs = Agree rs → ⊥

-- whether a row names moments below n
abbrev pub names : ℕ → Row → Bool
names n r = nat_lt r.0 n && nat_lt r.2 n

-- whether its set is from 1 to 7
abbrev pub ranged : Row → Bool
ranged r = nat_le 1 r.1 && nat_le r.1 7

-- whether each row does both
abbrev pub all_fit : ℕ → List Row → Bool
all_fit n [] = true
all_fit n (r ∷ rs) = (names n r && ranged r) && all_fit n rs

-- what a source means
pub record Scene : Type 0 where
  pub moments : ℕ
  pub rows : List Row

-- the law of every source: 1 to 256 moments, at most 8,192 rows, which name its own moments and have sets from 1 to 7
pub record Lawful (s : Scene) : Type 0 where
  pub some : 1 ≤ s.moments
  pub few : s.moments ≤ 256
  pub short : length s.rows ≤ 8192
  pub own : all_fit s.moments s.rows ≡ true
