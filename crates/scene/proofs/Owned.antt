-- Each row of a lawful list names moments of the scene, and its set is from 1 to 7.
use Rattle.std.proofs.Common.{◌≡◌, ℕ, zero, suc, ◌<◌, ◌≤◌, true, ◌&&◌, ltb, leb, List, [], ◌∷◌, Some, subst, arith}
use Rattle.std.proofs.lemmas.Bool.{and_parts, ltb-true, leb-true}
use Rattle.std.specs.List.{slice_get}
use Rattle.algebra.specs.Placements.{Row}
use Rattle.scene.specs.Scenes.{Scene, Lawful, names, ranged, all_fit}

pub record Owned (n : ℕ) (r : Row) : Type 0 where
  pub left : r.0 < n
  pub right : r.2 < n
  pub low : 1 ≤ r.1
  pub high : r.1 ≤ 7

owned : (n : ℕ) (r : Row) → (names n r && ranged r) ≡ true → Owned n r
owned n r h =
    let p = and_parts (names n r) (ranged r) h in
    let q = and_parts (ltb r.0 n) (ltb r.2 n) p.0 in
    let s = and_parts (leb 1 r.1) (leb r.1 7) p.1 in
    record { left = ltb-true r.0 n q.0; right = ltb-true r.2 n q.1; low = leb-true 1 r.1 s.0; high = leb-true r.1 7 s.1 }

-- the row at a position is owned
pub own_row : (n : ℕ) (rs : List Row) (k : ℕ) (r : Row) → all_fit n rs ≡ true → Some r ≡ slice_get rs k → Owned n r
own_row n [] k r h e = let z : ◌≡◌ {A = ℕ} 0 1 = cc in absurd (omega arith)
own_row n (q ∷ rs) zero r h e =
    let p = and_parts (names n q && ranged q) (all_fit n rs) h in
    let is : q ≡ r = cc in subst (Owned n) is (owned n q p.0)
own_row n (q ∷ rs) (suc k) r h e = own_row n rs k r (and_parts (names n q && ranged q) (all_fit n rs) h).1 e

-- the moments of a row of a source are below 256
pub small_ends : (s : Scene) (k : ℕ) (r : Row) → Lawful s → Some r ≡ slice_get s.rows k → (r.0 < 256) × (r.2 < 256)
small_ends s k r law e = let own = own_row s.moments s.rows k r law.own e in (omega (arith, own.left, law.few), omega (arith, own.right, law.few))
