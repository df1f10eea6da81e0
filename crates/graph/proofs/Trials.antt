-- Readiness, leaders and entries of a given scene by computed tests.
use Rattle.std.proofs.Common.{◌≡◌, ℕ, zero, suc, ◌-◌, ◌<◌, ◌≤◌, Bool, true, false, not, ◌&&◌, ◌||◌, eqb, ltb, leb, List, [], ◌∷◌, ◌++◌, length, get_or, Some, Decides, sym, refl, subst, inl, inr, arith}
use Rattle.std.specs.List.{slice_get}
use Rattle.std.proofs.lemmas.Option.{slice_get-get_or}
use Rattle.std.proofs.lemmas.Bool.{and_parts, and_from, cases_Bool, cases_eq, cases_lt, both_ways, eqb-true, leb-true, ltb-true, not-true, not_from_false, or_cases, or_left, or_right}
use Rattle.std.proofs.lemmas.Bool.Decides.{not_from_Decides}
use Rattle.algebra.specs.Placements.{Row}
use Rattle.scene.specs.Scenes.{all_fit}
use Rattle.graph.specs.declared.order.Entry.{Entry}
use Rattle.graph.specs.Orders.{Ordered, EntryOf, blank}
use Rattle.graph.specs.Reaching.{Tells}
use Rattle.graph.specs.Steps.{Leads}
use Rattle.graph.specs.Turns.{Placed, Turns, turn}
use Rattle.graph.proofs.Groups.{group_self, decides_same, decides_placed, has_place}
use Rattle.graph.proofs.Paths.{path_inside}
use Rattle.graph.proofs.Readiness.{Eligible, eligible_group, eligible_ready}
use Rattle.graph.proofs.Sequences.{ready_eligible, sequence_closed, turns_sequence}
use Rattle.graph.proofs.Tables.{table, table_tells}

-- whether each number below n passes
abbrev pub each : (ℕ → Bool) → ℕ → Bool
each P zero = true
each P (suc n) = P n && each P n

pub each_at : (P : ℕ → Bool) (n k : ℕ) → each P n ≡ true → k < n → P k ≡ true
each_at P zero k e l = absurd (omega arith)
each_at P (suc n) k e l = let p = and_parts (P n) (each P n) e in elim (cases_eq k n) [
  | inl is ↦ subst (λ v. P v ≡ true) (sym is) p.0
  | inr ne ↦ each_at P n k p.1 (omega arith)
]

pub each_from : (P : ℕ → Bool) (n : ℕ) → ((k : ℕ) → k < n → P k ≡ true) → each P n ≡ true
each_from P zero h = refl
each_from P (suc n) h = and_from (P n) (each P n) (h n (omega arith)) (each_from P n (λ k l. h k (omega arith)))

-- whether m has no place, and no other group without a place reaches it
abbrev pub eligible : ℕ → (ℕ → ℕ → Bool) → List ℕ → ℕ → Bool
eligible n t ls m = not (has_place n t ls m) && each (λ v. not (t v m) || (has_place n t ls v || t m v)) n

-- whether l is the lowest moment of the group of m
abbrev pub leads : ℕ → (ℕ → ℕ → Bool) → ℕ → ℕ → Bool
leads n t l m = (t m l && t l m) && each (λ k. not (t m k && t k m) || leb l k) n

-- whether an entry is that of m
abbrev pub entered : ℕ → (ℕ → ℕ → Bool) → List ℕ → ℕ → Entry → Bool
entered n t ls m e = (ltb e.leader n && leads n t e.leader m) && (leb 1 e.place && (ltb (e.place - 1) (length ls) && eqb (get_or ls (e.place - 1) 0) e.leader))

implied : (a b : Bool) → (a ≡ true → b ≡ true) → (not a || b) ≡ true
implied true b h = h refl
implied false b h = refl

from_implied : (a b : Bool) → (not a || b) ≡ true → a ≡ true → b ≡ true
from_implied true b h e = h
from_implied false b h e = absurd (both_ways false refl e)

module _ (n : ℕ) (rs : List Row) (own : all_fit n rs ≡ true) (few : n ≤ 256) where
  tells : Tells (table rs) rs
  tells = table_tells n rs few own

  placed_told : (ls : List ℕ) (v : ℕ) → v < n → Decides (has_place n (table rs) ls v) (Placed rs ls v)
  placed_told = decides_placed n rs own few (table rs) tells

  eligible_told : (ls : List ℕ) (m : ℕ) → m < n → eligible n (table rs) ls m ≡ true → Eligible n rs ls m
  eligible_told ls m hm e =
      let t = table rs in
      let p = and_parts (not (has_place n t ls m)) (each (λ v. not (t v m) || (has_place n t ls v || t m v)) n) e in (
        hm,
        not_from_Decides (has_place n t ls m) (placed_told ls m hm) (not-true (has_place n t ls m) p.0),
        λ v path un.
            let hv = path_inside n rs own path hm in
            let told = from_implied (t v m) (has_place n t ls v || t m v) (each_at (λ k. not (t k m) || (has_place n t ls k || t m k)) n v p.1 hv) ((tells v m (omega arith) (omega arith)).1 path) in
            elim (or_cases (has_place n t ls v) (t m v) told) [
              | inl h ↦ absurd (un ((placed_told ls v hv).0 h))
              | inr h ↦ (tells m v (omega arith) (omega arith)).0 h
            ],
      )

  told_eligible : (ls : List ℕ) (m : ℕ) → Eligible n rs ls m → eligible n (table rs) ls m ≡ true
  told_eligible ls m e =
      let t = table rs in
      let hm = e.0 in
      let unplaced = elim (cases_Bool (has_place n t ls m)) as (λ _. has_place n t ls m ≡ false) [ inl h ↦ absurd (e.1 ((placed_told ls m hm).0 h)) | inr h ↦ h ] in
      and_from (not (has_place n t ls m)) (each (λ v. not (t v m) || (has_place n t ls v || t m v)) n) (not_from_false (has_place n t ls m) unplaced)
      (each_from (λ v. not (t v m) || (has_place n t ls v || t m v)) n (λ v hv. implied (t v m) (has_place n t ls v || t m v) (λ h. elim (cases_Bool (has_place n t ls v)) [
        | inl s ↦ or_left (has_place n t ls v) (t m v) s
        | inr s ↦ or_right (has_place n t ls v) (t m v) ((tells m v (omega arith) (omega arith)).1 (e.2 v ((tells v m (omega arith) (omega arith)).0 h) (not_from_Decides (has_place n t ls v) (placed_told ls v hv) s)))
      ])))

  none_lower : (ls : List ℕ) (m : ℕ) → each (λ v. not (eligible n (table rs) ls v)) m ≡ true → (k : ℕ) → k < m → Eligible n rs ls k → ⊥
  none_lower ls m low k l e = both_ways (eligible n (table rs) ls k) (not-true (eligible n (table rs) ls k) (each_at (λ v. not (eligible n (table rs) ls v)) m k low l)) (told_eligible ls k e)

  -- the lowest eligible moment takes the next turn
  pub turn_told : (ls : List ℕ) (m : ℕ) → Turns n rs ls → m < n → eligible n (table rs) ls m ≡ true → each (λ v. not (eligible n (table rs) ls v)) m ≡ true → Turns n rs (ls ++ m ∷ [])
  turn_told ls m turns hm e low =
      let el = eligible_told ls m hm e in
      let closed = sequence_closed n rs own few (table rs) tells (turns_sequence n rs turns) in
      let first : (k : ℕ) → Eligible n rs ls k → m ≤ k = λ k h. elim (cases_lt k m) [ inl l ↦ absurd (none_lower ls m low k l h) | inr le ↦ le ] in
      turn turns (eligible_ready n rs ls m el (group_self rs m, λ k g. first k (eligible_group n rs own ls m k g el)))
      (λ k ready. first k (ready_eligible n rs own few (table rs) tells ls k closed ready))

  leads_told : (l m : ℕ) → l < n → m < n → leads n (table rs) l m ≡ true → Leads rs l m
  leads_told l m hl hm e =
      let t = table rs in
      let p = and_parts (t m l && t l m) (each (λ k. not (t m k && t k m) || leb l k) n) e in
      let same = decides_same n rs own few t tells in (
        (same m l hm hl).0 p.0,
        λ k g.
            let hk = path_inside n rs own g.1 hm in
            leb-true l k (from_implied (t m k && t k m) (leb l k) (each_at (λ v. not (t m v && t v m) || leb l v) n k p.1 hk) ((same m k hm hk).1 g)),
      )

  entered_told : (ls : List ℕ) (m : ℕ) (e : Entry) → m < n → entered n (table rs) ls m e ≡ true → EntryOf rs ls m e
  entered_told ls m e hm h =
      let t = table rs in
      let p = and_parts (ltb e.leader n && leads n t e.leader m) (leb 1 e.place && (ltb (e.place - 1) (length ls) && eqb (get_or ls (e.place - 1) 0) e.leader)) h in
      let q = and_parts (ltb e.leader n) (leads n t e.leader m) p.0 in
      let r = and_parts (leb 1 e.place) (ltb (e.place - 1) (length ls) && eqb (get_or ls (e.place - 1) 0) e.leader) p.1 in
      let s = and_parts (ltb (e.place - 1) (length ls)) (eqb (get_or ls (e.place - 1) 0) e.leader) r.1 in
      let is = eqb-true (get_or ls (e.place - 1) 0) e.leader s.1 in (
        leads_told e.leader m (ltb-true e.leader n q.0) hm q.1,
        leb-true 1 e.place r.0,
        subst (λ v. slice_get ls (e.place - 1) ≡ Some v) is (slice_get-get_or ls (e.place - 1) 0 (ltb-true (e.place - 1) (length ls) s.0)),
      )

  -- turns after which all have a place and the entries fit are the order
  pub ordered_told : (ls : List ℕ) (es : List Entry) → Turns n rs ls → each (has_place n (table rs) ls) n ≡ true
      → each (λ m. entered n (table rs) ls m (get_or es m blank)) n ≡ true → Ordered n rs es (length ls)
  ordered_told ls es turns all fit = (
    ls,
    (
      (turns, λ m hm. (placed_told ls m hm).0 (each_at (has_place n (table rs) ls) n m all hm)),
      refl,
      λ m hm. entered_told ls m (get_or es m blank) hm (each_at (λ k. entered n (table rs) ls k (get_or es k blank)) n m fit hm),
    ),
  )
