-- The rows that standing commands state are lawful.
use Rattle.std.proofs.Common.{◌≡◌, ℕ, ◌+◌, ◌*◌, ◌<◌, ◌≤◌, Bool, true, ◌&&◌, ltb, leb, List, [], ◌∷◌, ◌++◌, refl, arith}
use Rattle.std.proofs.lemmas.Bool.{and_from, and_parts, ltb-true, lt-ltb, le-leb}
use Rattle.std.specs.List.{flat_map}
use Rattle.algebra.specs.declared.titles.Pair.{Pair}
use Rattle.algebra.specs.declared.titles.Pair.TheVariants.{RiseRise, RiseFall, FallRise, FallFall}
use Rattle.algebra.specs.Rules.{sign_set, pointisable, ruled}
use Rattle.algebra.specs.Titles.{left, right, fall}
use Rattle.algebra.proofs.Sets.{ruled_sets}
use Rattle.scene.specs.Checks.{Clear}
use Rattle.scene.specs.Laws.{fit_append}
use Rattle.scene.specs.Scenes.{names, ranged, all_fit}
use Rattle.scene.proofs.RowByRow.{is_true}
use Rattle.table.specs.declared.commands.Command.{Command}
use Rattle.table.specs.declared.commands.Command.TheVariants.{Row as row, Title as title, Rule as rule}
use Rattle.table.specs.Commands.{set_of, has_title, stated, declared, of_command, Stand}

row_fits : (n a s b : ℕ) → a < n → b < n → 1 ≤ s → s ≤ 7 → (names n (a, s, b) && ranged (a, s, b)) ≡ true
row_fits n a s b l r low high =
    and_from (names n (a, s, b)) (ranged (a, s, b))
    (and_from (ltb a n) (ltb b n) (lt-ltb a n l) (lt-ltb b n r)) (and_from (leb 1 s) (leb s 7) (le-leb 1 s low) (le-leb s 7 high))

left_below : (k : Pair) (x n : ℕ) → fall x < n → left k x < n
left_below RiseRise x n h = omega arith
left_below RiseFall x n h = omega arith
left_below FallRise x n h = h
left_below FallFall x n h = h

right_below : (k : Pair) (x n : ℕ) → fall x < n → right k x < n
right_below RiseRise x n h = omega arith
right_below RiseFall x n h = h
right_below FallRise x n h = omega arith
right_below FallFall x n h = h

module _ (n x set y : ℕ) (p : pointisable set ≡ true) (hx : fall x < n) (hy : fall y < n) where
  one_fits : (k : Pair) → (names n (left k x, sign_set set k, right k y) && ranged (left k x, sign_set set k, right k y)) ≡ true
  one_fits k = let s = ruled_sets set p k in row_fits n (left k x) (sign_set set k) (right k y) (left_below k x n hx) (right_below k y n hy) s.0 s.1

  rule_fits : all_fit n (ruled x set y) ≡ true
  rule_fits = and_from _ _ (one_fits RiseRise) (and_from _ _ (one_fits RiseFall) (and_from _ _ (one_fits FallRise) (and_from _ _ (one_fits FallFall) refl)))

command_fits : (n : ℕ) (known : ℕ → Bool) (k : Command) → Clear (of_command n known k) → all_fit n (stated k) ≡ true
command_fits n known (row a s b) h = and_from (names n (a, s, b) && ranged (a, s, b)) true (is_true (names n (a, s, b) && ranged (a, s, b)) h.0) refl
command_fits n known (title t) h =
    let f = ltb-true (fall t) n (is_true (has_title n t) h.0) in
    and_from _ true (row_fits n (2 * t) 1 (2 * t + 1) (omega arith) (omega arith) (omega arith) (omega arith)) refl
command_fits n known (rule t hi lo u) h =
    let s = set_of hi lo in
    let q = and_parts (leb 1 s && leb s 8191) (has_title n t && has_title n u) (is_true ((leb 1 s && leb s 8191) && (has_title n t && has_title n u)) h.0) in
    let titles = and_parts (has_title n t) (has_title n u) q.1 in
    rule_fits n t s u (is_true (pointisable s) h.1.1.0) (ltb-true (fall t) n titles.0) (ltb-true (fall u) n titles.1)

pub stands_fit : (n : ℕ) (done ks : List Command) → Stand n done ks → all_fit n (flat_map stated ks) ≡ true
stands_fit n done [] h = refl
stands_fit n done (k ∷ ks) h = fit_append n (stated k) (flat_map stated ks) (command_fits n (declared done) k h.0) (stands_fit n (done ++ k ∷ []) ks h.1)
