-- A scene whose rows are read from right to left, which turns each step round.
use Rattle.std.specs.Prelude.{◌≡◌, ℕ, true, ◌&&◌, List, [], ◌∷◌, map, nat_lt, refl}
use Rattle.std.proofs.Common.{arith}
use Rattle.std.proofs.lemmas.List.{length-map}
use Rattle.std.proofs.lemmas.Bool.{and_parts, and_from}
use Rattle.algebra.specs.Placements.{Row}
use Rattle.scene.specs.Scenes.{Scene, Lawful, names, ranged, all_fit}

-- the row read from its right moment to its left one
abbrev pub turned : Row → Row
turned r = (r.2, r.1, r.0)

-- turned rows fit the same moments
pub turned_fit : (n : ℕ) (rs : List Row) → all_fit n rs ≡ true → all_fit n (map turned rs) ≡ true
turned_fit n [] h = refl
turned_fit n (r ∷ rs) h =
    let p = and_parts (names n r && ranged r) (all_fit n rs) h in
    let q = and_parts (names n r) (ranged r) p.0 in
    let s = and_parts (nat_lt r.0 n) (nat_lt r.2 n) q.0 in
    and_from (names n (turned r) && ranged r) (all_fit n (map turned rs))
    (and_from (names n (turned r)) (ranged r) (and_from (nat_lt r.2 n) (nat_lt r.0 n) s.1 s.0) q.1) (turned_fit n rs p.1)

-- the scene with each row turned
abbrev pub turned_scene : Scene → Scene
turned_scene s = record { moments = s.moments; rows = map turned s.rows }

-- a lawful scene is so with its rows turned
pub turned_lawful : (s : Scene) → Lawful s → Lawful (turned_scene s)
turned_lawful s l = record { some = l.some; few = l.few; short = omega (arith, length-map s.rows turned, l.short); own = turned_fit s.moments s.rows l.own }
