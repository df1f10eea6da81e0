-- Which positions remain where some are marked.
use Rattle.std.proofs.Common.{◌≡◌, ℕ, zero, suc, ◌+◌, ◌-◌, ◌<◌, ◌≤◌, Bool, true, false, cond, ◌||◌, eqb, leb, ◌≢◌, List, [], ◌∷◌, ◌++◌, length, get_or, set, replicate, None, sym, refl, ap, ◌∙◌, ⊎_elim, arith}
use Rattle.std.proofs.lemmas.List.{get_or-set_same, get_or-set_other, get_or_past, get_or-replicate, length-replicate, length-set}
use Rattle.std.proofs.lemmas.Option.{slice_get_past}
use Rattle.std.proofs.lemmas.Bool.{and_parts, and_from, and_left, and_right, or_from, or_right, cases_lt, cases_eq, eq-eqb, leb-true, le-leb, lt-leb, ne_eqb}
use Rattle.std.specs.List.{slice_get}
use Rattle.algebra.specs.Placements.{Row}
use Rattle.scene.specs.Marks.{marked, low, without_from, without, tally, missed, unmarked, Ranked, Open, InTurn, length_without}

pub or_group : (a b c : Bool) → (a || (b || c)) ≡ ((a || b) || c)
or_group true b c = refl
or_group false b c = refl

pub or_false : (b : Bool) → (b || false) ≡ b
or_false true = refl
or_false false = refl

-- a table of marks with one more
pub set_marks : (table : List Bool) (m k : ℕ) → m < length table → get_or (set table m true) k false ≡ (get_or table k false || eqb m k)
set_marks table m k l =
    ⊎_elim
    (λ (e : k ≡ m). ap (λ j. get_or (set table m true) j false) e ∙ get_or-set_same table m true false l ∙ sym (or_right (get_or table k false) (eqb m k) (eq-eqb m k (sym e))))
    (λ (ne : k ≡ m → ⊥). get_or-set_other table m k true false ne ∙ sym (ap (λ t. get_or table k false || t) (ne_eqb m k (λ e. ne (sym e))) ∙ or_false (get_or table k false)))
    (cases_eq k m)

-- no mark
pub no_marks : (n k : ℕ) → get_or (replicate n false) k false ≡ false
no_marks n k = ⊎_elim (λ h. get_or-replicate n k false false h) (λ h. get_or_past (replicate n false) k false (omega (arith, length-replicate n false))) (cases_lt k n)

-- one more mark
pub marked_push : (ms : List ℕ) (m k : ℕ) → marked (ms ++ m ∷ []) k ≡ (marked ms k || eqb m k)
marked_push [] m k = or_false (eqb m k)
marked_push (n ∷ ms) m k = ap (λ b. eqb n k || b) (marked_push ms m k) ∙ or_group (eqb n k) (marked ms k) (eqb m k)

pub low_push : (ms : List ℕ) (m : ℕ) → low ms ≡ true → m ≤ 4095 → low (ms ++ m ∷ []) ≡ true
low_push [] m h l = and_from (leb m 4095) true (le-leb m 4095 l) refl
low_push (n ∷ ms) m h l = let p = and_parts (leb n 4095) (low ms) h in and_from (leb n 4095) (low (ms ++ m ∷ [])) p.0 (low_push ms m p.1 l)

pub not_low : (ms : List ℕ) (i : ℕ) → i < length ms → 4096 ≤ get_or ms i 0 → low ms ≡ false
not_low [] i h l = absurd (omega arith)
not_low (m ∷ ms) zero h l = and_left (leb m 4095) (low ms) (lt-leb m 4095 (omega arith))
not_low (m ∷ ms) (suc i) h l = and_right (leb m 4095) (low ms) (not_low ms i (omega arith) l)

-- no mark is above 4,095
pub unmarked_above : (ms : List ℕ) (k : ℕ) → low ms ≡ true → 4096 ≤ k → marked ms k ≡ false
unmarked_above [] k h l = refl
unmarked_above (m ∷ ms) k h l =
    let p = and_parts (leb m 4095) (low ms) h in
    let b = leb-true m 4095 p.0 in
    or_from (eqb m k) (marked ms k) (ne_eqb m k (λ e. omega arith)) (unmarked_above ms k p.1 l)

tally_le : (b : Bool) → tally b ≤ 1
tally_le true = omega arith
tally_le false = omega arith

module _ (hit : ℕ → Bool) where
  pub missed_le : (i n : ℕ) → missed hit i n ≤ n
  unfolding missed
  missed_le i zero = omega arith
  missed_le i (suc n) = omega (arith, missed_le (suc i) n, tally_le (hit i))

  -- one more position at the end
  pub missed_push : (i n : ℕ) → missed hit i (n + 1) ≡ missed hit i n + tally (hit (i + n))
  unfolding missed
  missed_push i zero =
      let e : i ≡ i + 0 = omega arith in
      let h : tally (hit i) ≡ tally (hit (i + 0)) = ap (λ k. tally (hit k)) e in omega arith
  missed_push i (suc n) =
      let e : suc n + 1 ≡ suc (n + 1) = omega arith in
      let f : suc i + n ≡ i + suc n = omega arith in
      let h = missed_push (suc i) n in
      let k : tally (hit (suc i + n)) ≡ tally (hit (i + suc n)) = ap (λ k. tally (hit k)) f in
      ap (missed hit i) e ∙ omega arith

  missed_at : (n : ℕ) (b : Bool) → hit n ≡ b → missed hit 0 (n + 1) ≡ missed hit 0 n + tally b
  missed_at n b h = let e : 0 + n ≡ n = omega arith in missed_push 0 n ∙ ap (λ t. missed hit 0 n + tally t) (ap hit e ∙ h)

  pub missed_hit : (n : ℕ) → hit n ≡ true → missed hit 0 (n + 1) ≡ missed hit 0 n
  missed_hit n h = omega (arith, missed_at n true h)

  pub missed_open : (n : ℕ) → hit n ≡ false → missed hit 0 (n + 1) ≡ missed hit 0 n + 1
  missed_open n h = missed_at n false h

  pub ranked_more : (ranks : List ℕ) (n v : ℕ) → n + 1 < length ranks → Ranked hit ranks n → v ≡ missed hit 0 (n + 1) → Ranked hit (set ranks (n + 1) v) (n + 1)
  ranked_more ranks n v l h e k b =
      ⊎_elim (λ is. let s = get_or-set_same ranks (n + 1) v 0 l in ap (λ j. get_or (set ranks (n + 1) v) j 0) is ∙ s ∙ e ∙ ap (missed hit 0) (sym is))
      (λ ne. get_or-set_other ranks (n + 1) k v 0 ne ∙ h k (let d : k ≢ n + 1 = ne in omega arith)) (cases_eq k (n + 1))

  pub open_more : (ps : List ℕ) (n p : ℕ) → n < length ps → Open hit ps n → hit p ≡ false → Open hit (set ps n p) (n + 1)
  open_more ps n p l h e k b =
      ⊎_elim (λ is. ap (λ j. hit (get_or (set ps n p) j 0)) is ∙ ap hit (get_or-set_same ps n p 0 l) ∙ e)
      (λ ne. ap hit (get_or-set_other ps n k p 0 ne) ∙ h k (let d : k ≢ n = ne in omega arith)) (cases_eq k n)

  pub turn_more : (ps : List ℕ) (n p : ℕ) → n < length ps → InTurn hit ps n → missed hit 0 p ≡ n → InTurn hit (set ps n p) (n + 1)
  turn_more ps n p l h e k b =
      ⊎_elim (λ is. ap (λ j. missed hit 0 (get_or (set ps n p) j 0)) is ∙ ap (missed hit 0) (get_or-set_same ps n p 0 l) ∙ e ∙ sym is)
      (λ ne. ap (missed hit 0) (get_or-set_other ps n k p 0 ne) ∙ h k (let d : k ≢ n = ne in omega arith)) (cases_eq k n)

-- after k turns: the count so far, and what the two tables hold
pub record Turned (hit : ℕ → Bool) (positions ranks : List ℕ) (count k : ℕ) : Type 0 where
  pub below : count ≤ k
  pub size : length positions ≡ 4096
  pub ranks_size : length ranks ≡ 4097
  pub counted : count ≡ missed hit 0 k
  pub ranked : Ranked hit ranks k
  pub untouched : Open hit positions count
  pub sequence : InTurn hit positions count

module _ (hit : ℕ → Bool) where
  none_ranked : (n : ℕ) → Ranked hit (replicate (n + 1) 0) 0
  unfolding missed
  none_ranked n k h =
      let z : k ≡ 0 = omega arith in
      ap (λ j. get_or (replicate (n + 1) 0) j 0) z ∙ get_or-replicate (n + 1) 0 0 0 (omega arith) ∙ ap (missed hit 0) (sym z)

  none_counted : ◌≡◌ {A = ℕ} 0 (missed hit 0 0)
  unfolding missed
  none_counted = refl

  pub not_turned : Turned hit (replicate 4096 0) (replicate 4097 0) 0 0
  not_turned = record {
    below = omega arith;
    size = length-replicate {A = ℕ} 4096 0;
    ranks_size = length-replicate {A = ℕ} 4097 0;
    counted = none_counted;
    ranked = none_ranked 4096;
    untouched = λ k h. absurd (omega arith);
    sequence = λ k h. absurd (omega arith);
  }

  module _ (ps rs : List ℕ) (n k : ℕ) (t : Turned hit ps rs n k) (l : k < 4096) where
    pub turned_hit : hit k ≡ true → Turned hit ps (set rs (k + 1) n) n (k + 1)
    turned_hit h =
        let v = t.counted ∙ sym (missed_hit hit k h) in
        record {
          below = omega (arith, t.below);
          size = t.size;
          ranks_size = length-set rs (k + 1) n ∙ t.ranks_size;
          counted = v;
          ranked = ranked_more hit rs k n (omega (arith, t.ranks_size)) t.ranked v;
          untouched = t.untouched;
          sequence = t.sequence;
        }

    pub turned_open : hit k ≡ false → Turned hit (set ps n k) (set rs (k + 1) (n + 1)) (n + 1) (k + 1)
    turned_open h =
        let v = ap (λ m. m + 1) t.counted ∙ sym (missed_open hit k h) in
        let b : n < length ps = omega (arith, t.below, t.size) in
        record {
          below = omega (arith, t.below);
          size = length-set ps n k ∙ t.size;
          ranks_size = length-set rs (k + 1) (n + 1) ∙ t.ranks_size;
          counted = v;
          ranked = ranked_more hit rs k (n + 1) (omega (arith, t.ranks_size)) t.ranked v;
          untouched = open_more hit ps n k b t.untouched h;
          sequence = turn_more hit ps n k b t.sequence (sym t.counted);
        }

-- two tests that agree below n miss as many positions
pub missed_same : (f g : ℕ → Bool) (i n : ℕ) → ((k : ℕ) → k < i + n → f k ≡ g k) → missed f i n ≡ missed g i n
unfolding missed
missed_same f g i zero h = refl
missed_same f g i (suc n) h =
    let a = missed_same f g (suc i) n (λ k l. h k (omega arith)) in
    let b : tally (f i) ≡ tally (g i) = ap (λ t. tally t) (h i (omega arith)) in omega arith

-- tables made for one test serve another that agrees with it
module _ (f g : ℕ → Bool) (same : (k : ℕ) → f k ≡ g k) where
  as_many : (n : ℕ) → missed f 0 n ≡ missed g 0 n
  as_many n = missed_same f g 0 n (λ k h. same k)

  pub ranked_as : (rs : List ℕ) (n : ℕ) → Ranked f rs n → Ranked g rs n
  ranked_as rs n h k l = h k l ∙ as_many k

  pub open_as : (ps : List ℕ) (n : ℕ) → Open f ps (missed f 0 n) → Open g ps (missed g 0 n)
  open_as ps n h k l = sym (same (get_or ps k 0)) ∙ h k (omega (arith, as_many n))

  pub turn_as : (ps : List ℕ) (n : ℕ) → InTurn f ps (missed f 0 n) → InTurn g ps (missed g 0 n)
  turn_as ps n h k l = sym (as_many (get_or ps k 0)) ∙ h k (omega (arith, as_many n))

-- all positions from 4,096 on remain
pub unmarked_past : (ms : List ℕ) (d : ℕ) → low ms ≡ true → unmarked ms (4096 + d) ≡ unmarked ms 4096 + d
unmarked_past ms zero h = let e : 4096 + 0 ≡ 4096 = omega arith in omega (arith, ap (unmarked ms) e)
unmarked_past ms (suc d) h =
    let e : 4096 + suc d ≡ (4096 + d) + 1 = omega arith in
    let a = missed_open (marked ms) (4096 + d) (unmarked_above ms (4096 + d) h (omega arith)) in
    let b = unmarked_past ms d h in
    ap (unmarked ms) e ∙ omega arith

step : (b : Bool) (r : Row) (rs : List Row) (k : ℕ) → slice_get (cond b rs (r ∷ rs)) (tally b + k) ≡ slice_get rs k
step true r rs k = ap (slice_get rs) (omega arith)
step false r rs k = let e : 1 + k ≡ suc k = omega arith in ap (slice_get (r ∷ rs)) e

-- a row that is not marked stands behind as many rows as there are unmarked positions below its own
nth_from : (ms : List ℕ) (i : ℕ) (rs : List Row) (p : ℕ) → marked ms (i + p) ≡ false → slice_get (without_from ms i rs) (missed (marked ms) i p) ≡ slice_get rs p
unfolding missed
nth_from ms i [] p h = refl
nth_from ms i (r ∷ rs) zero h =
    let e : i ≡ i + 0 = omega arith in ap (λ b. slice_get (cond b (without_from ms (suc i) rs) (r ∷ without_from ms (suc i) rs)) 0) (ap (marked ms) e ∙ h)
nth_from ms i (r ∷ rs) (suc p) h =
    let e : suc i + p ≡ i + suc p = omega arith in
    step (marked ms i) r (without_from ms (suc i) rs) (missed (marked ms) (suc i) p) ∙ nth_from ms (suc i) rs p (ap (marked ms) e ∙ h)

pub nth_without : (ms : List ℕ) (rs : List Row) (p k : ℕ) → marked ms p ≡ false → unmarked ms p ≡ k → slice_get rs p ≡ slice_get (without ms rs) k
nth_without ms rs p k h e = let z : 0 + p ≡ p = omega arith in sym (nth_from ms 0 rs p (ap (marked ms) z ∙ h)) ∙ ap (slice_get (without ms rs)) e

pub nth_after : (ms : List ℕ) (rs : List Row) (k : ℕ) → low ms ≡ true → unmarked ms 4096 ≤ k → slice_get rs (4096 + (k - unmarked ms 4096)) ≡ slice_get (without ms rs) k
nth_after ms rs k h l =
    let d = k - unmarked ms 4096 in
    nth_without ms rs (4096 + d) k (unmarked_above ms (4096 + d) h (omega arith)) (let a = unmarked_past ms d h in omega arith)

pub none_past : (ms : List ℕ) (rs : List Row) (k : ℕ) → length rs ≤ k → None ≡ slice_get (without ms rs) k
none_past ms rs k h = sym (slice_get_past (without ms rs) k (omega (arith, length_without ms rs)))

count_step : (b : Bool) (r : Row) (rs : List Row) → length (cond b rs (r ∷ rs)) ≡ tally b + length rs
count_step true r rs = omega arith
count_step false r rs = omega arith

count_from : (ms : List ℕ) (i : ℕ) (rs : List Row) → length (without_from ms i rs) ≡ missed (marked ms) i (length rs)
unfolding missed
count_from ms i [] = refl
count_from ms i (r ∷ rs) = count_step (marked ms i) r (without_from ms (suc i) rs) ∙ ap (λ n. tally (marked ms i) + n) (count_from ms (suc i) rs)

pub count_without : (ms : List ℕ) (rs : List Row) → unmarked ms (length rs) ≡ length (without ms rs)
count_without ms rs = sym (count_from ms 0 rs)

pub count_after : (ms : List ℕ) (rs : List Row) → low ms ≡ true → 4096 ≤ length rs → unmarked ms 4096 + (length rs - 4096) ≡ length (without ms rs)
count_after ms rs h l =
    let d = length rs - 4096 in
    let e : 4096 + d ≡ length rs = omega arith in
    sym (unmarked_past ms d h) ∙ ap (unmarked ms) e ∙ count_without ms rs
