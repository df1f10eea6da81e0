-- Rows that fit a scene fit a larger one; parts and joins of such lists fit too.
use Rattle.std.specs.Prelude.{◌≡◌, ℕ, zero, suc, ◌≤◌, true, ◌&&◌, List, [], ◌∷◌, ◌++◌, take, nat_lt, refl}
use Rattle.std.proofs.Common.{arith}
use Rattle.std.proofs.lemmas.Bool.{and_parts, and_from, ltb-true, lt-ltb}
use Rattle.algebra.specs.Placements.{Row}
use Rattle.scene.specs.Scenes.{names, ranged, all_fit}

names_more : (m n : ℕ) (r : Row) → m ≤ n → names m r ≡ true → names n r ≡ true
names_more m n r h t =
    let p = and_parts (nat_lt r.0 m) (nat_lt r.2 m) t in
    let a = ltb-true r.0 m p.0 in
    let b = ltb-true r.2 m p.1 in
    and_from (nat_lt r.0 n) (nat_lt r.2 n) (lt-ltb r.0 n (omega arith)) (lt-ltb r.2 n (omega arith))

pub fit_more : (m n : ℕ) (rs : List Row) → m ≤ n → all_fit m rs ≡ true → all_fit n rs ≡ true
fit_more m n [] h t = refl
fit_more m n (r ∷ rs) h t =
    let p = and_parts (names m r && ranged r) (all_fit m rs) t in
    let q = and_parts (names m r) (ranged r) p.0 in
    and_from (names n r && ranged r) (all_fit n rs) (and_from (names n r) (ranged r) (names_more m n r h q.0) q.1) (fit_more m n rs h p.1)

pub fit_append : (n : ℕ) (rs ss : List Row) → all_fit n rs ≡ true → all_fit n ss ≡ true → all_fit n (rs ++ ss) ≡ true
fit_append n [] ss t u = u
fit_append n (r ∷ rs) ss t u =
    let p = and_parts (names n r && ranged r) (all_fit n rs) t in
    and_from (names n r && ranged r) (all_fit n (rs ++ ss)) p.0 (fit_append n rs ss p.1 u)

pub fit_take : (n k : ℕ) (rs : List Row) → all_fit n rs ≡ true → all_fit n (take k rs) ≡ true
fit_take n zero rs t = refl
fit_take n (suc k) [] t = refl
fit_take n (suc k) (r ∷ rs) t =
    let p = and_parts (names n r && ranged r) (all_fit n rs) t in
    and_from (names n r && ranged r) (all_fit n (take k rs)) p.0 (fit_take n k rs p.1)
