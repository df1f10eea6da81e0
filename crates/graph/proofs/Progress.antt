-- What stands after each turn of the loop that places groups.
use Rattle.std.proofs.Common.{◌≡◌, ℕ, ◌+◌, ◌-◌, ◌<◌, ◌≤◌, Bool, true, false, not, ◌&&◌, ◌||◌, ltb, List, [], ◌∷◌, ◌++◌, map, length, get_or, Some, None, Decides, sym, refl, ap, ◌∙◌, subst, inl, inr, arith}
use Rattle.std.specs.List.{slice_get}
use Rattle.std.proofs.lemmas.List.{length_push}
use Rattle.std.proofs.lemmas.Bool.{cases_Bool, cond-true, cond-false, not-true, not_from_false, not_from_true, or_left, both_ways}
use Rattle.algebra.specs.Placements.{Row}
use Rattle.scene.specs.Scenes.{Scene, Lawful, all_fit}
use Rattle.graph.specs.declared.order.Entry.{Entry}
use Rattle.graph.specs.Free.{Free, Grouped, LowestFree}
use Rattle.graph.specs.Orders.{Beyond, Ordered, EntryOf, blank}
use Rattle.graph.specs.Reaching.{Tells}
use Rattle.graph.specs.Steps.{SameGroup, Leads}
use Rattle.graph.specs.Turned.{turned, turned_lawful, turned_scene}
use Rattle.graph.specs.Turns.{Placed, Ready, Turns, start, turn}
use Rattle.graph.proofs.Finite.{count, count_lt, count_bound}
use Rattle.graph.proofs.FreeIsReady.{lowest_ready, lowest_first, none_free, marks_more}
use Rattle.graph.proofs.Groups.{group_self, group_turned, group_join, placed_cases, placed_last, decides_same}
use Rattle.graph.proofs.LeaderLists.{nth_more, nth_last}
use Rattle.graph.proofs.Sequences.{sequence_closed, turns_sequence}
use Rattle.graph.proofs.Tables.{tells_again}

-- how many moments below n are not marked
abbrev pub unmarked : (ℕ → Bool) → ℕ → ℕ
unmarked marked n = count (λ v. not (marked v)) n

pub record State (n : ℕ) (rs : List Row) (old new : List Entry) (marked : ℕ → Bool) (places : ℕ) : Type 0 where
  pub placed : List ℕ
  pub turns : Turns n rs placed
  pub long : length placed ≡ places
  pub marks : (v : ℕ) → v < 256 → Decides (marked v) (Placed rs placed v)
  pub entries_fit : (m : ℕ) → m < n → Placed rs placed m → EntryOf rs placed m (get_or new m blank)
  pub rest : Beyond n old new
  pub left : places + unmarked marked n ≤ n

pub state_start : (n : ℕ) (rs : List Row) (es : List Entry) (marked : ℕ → Bool) → ((v : ℕ) → v < 256 → marked v ≡ false) → State n rs es es marked 0
state_start n rs es marked none = record {
  placed = [];
  turns = start;
  long = refl;
  marks = λ v hv. ((λ e. absurd (both_ways (marked v) (none v hv) e)), (λ p. absurd p.1.0));
  entries_fit = λ m hm p. absurd p.1.0;
  rest = (refl, λ k h e. refl);
  left = omega (arith, count_bound (λ v. not (marked v)) n);
}

-- the entry of a leader's group
pub entry_last : (rs : List Row) (ls : List ℕ) (l x places : ℕ) → length ls ≡ places → Leads rs l l → SameGroup rs l x → EntryOf rs (ls ++ l ∷ []) x (record { place = places + 1; leader = l })
entry_last rs ls l x places long leads g = (
  (group_turned rs l x g, λ k h. leads.1 k (group_join rs l x k g h)),
  omega arith,
  subst (λ v. slice_get (ls ++ l ∷ []) v ≡ Some l) (omega (arith, long)) (nth_last ls l),
)

-- an entry stays when one more leader has a place
pub entry_more : (rs : List Row) (ls : List ℕ) (l x : ℕ) (e : Entry) → EntryOf rs ls x e → EntryOf rs (ls ++ l ∷ []) x e
entry_more rs ls l x e s = (s.0, s.1, nth_more ls l (e.place - 1) e.leader s.2)

module _ (n : ℕ) (rs : List Row) (own : all_fit n rs ≡ true) (few : n ≤ 256) (t : ℕ → ℕ → Bool) (tells : Tells t rs)
    (b : ℕ → ℕ → Bool) (back : Tells b (map turned rs)) (old new : List Entry) (marked : ℕ → Bool) (places : ℕ) (s : State n rs old new marked places) where
  -- where none is free, the order is made
  pub state_done : ((m : ℕ) → m < n → Free t b marked m → ⊥) → Ordered n rs new places
  state_done none =
      let all = none_free n rs own few t tells b back s.placed marked s.marks none in
      (s.placed, ((s.turns, all), s.long, λ m hm. s.entries_fit m hm (all m hm)))

  module _ (m : ℕ) (hm : m < n) (free : Free t b marked m) (low : (v : ℕ) → v < m → Free t b marked v → ⊥) where
    ready : Ready n rs s.placed m
    ready = lowest_ready n rs own few t tells b back s.placed marked s.marks m hm free low

    module _ (later : List Entry) (more : ℕ → Bool) (written : Grouped t n m (record { place = places + 1; leader = m }) new later)
        (is : (v : ℕ) → v < 256 → more v ≡ (marked v || (ltb v n && (t m v && t v m)))) where
      marks_now : (v : ℕ) → v < 256 → Decides (more v) (Placed rs (s.placed ++ m ∷ []) v)
      marks_now = marks_more n rs own few t tells b back s.placed marked s.marks more m hm is

      -- fewer are left
      pub state_fewer : unmarked more n < unmarked marked n
      state_fewer = count_lt (λ v. not (more v)) (λ v. not (marked v)) n m hm
          (not_from_true (more m) ((marks_now m (omega arith)).1 (placed_last rs s.placed m m (group_self rs m))))
          (not_from_false (marked m) free.unmarked)
          (λ v hv e. not_from_false (marked v) (still v (omega arith) (not-true (more v) e)))
        where
          still : (v : ℕ) → v < 256 → more v ≡ false → marked v ≡ false
          still v hv e = elim (cases_Bool (marked v)) [
            | inl h ↦ absurd (both_ways (more v) e (is v hv ∙ or_left (marked v) (ltb v n && (t m v && t v m)) h))
            | inr h ↦ h
          ]

      entries_now : (x : ℕ) → x < n → Placed rs (s.placed ++ m ∷ []) x → EntryOf rs (s.placed ++ m ∷ []) x (get_or later x blank)
      entries_now x hx p =
          let d = decides_same n rs own few t tells m x hm hx in
          let e : Entry = record { place = places + 1; leader = m } in
          elim (cases_Bool (t m x && t x m)) [
            | inl h ↦ subst (λ v. EntryOf rs (s.placed ++ m ∷ []) x v) (sym (written.1 x hx blank ∙ cond-true (t m x && t x m) e (get_or new x blank) h))
                (entry_last rs s.placed m x places s.long ready.1 (d.0 h))
            | inr h ↦ subst (λ v. EntryOf rs (s.placed ++ m ∷ []) x v) (sym (written.1 x hx blank ∙ cond-false (t m x && t x m) e (get_or new x blank) h))
                (elim (placed_cases rs s.placed m x p) [
                  | inl q ↦ entry_more rs s.placed m x (get_or new x blank) (s.entries_fit x hx q)
                  | inr g ↦ absurd (both_ways (t m x && t x m) h (d.1 g))
                ])
          ]

      pub state_turn : State n rs old later more (places + 1)
      state_turn = record {
        placed = s.placed ++ m ∷ [];
        turns = turn s.turns ready (lowest_first n rs own few t tells b back s.placed marked s.marks (sequence_closed n rs own few t tells (turns_sequence n rs s.turns)) m low);
        long = omega (arith, length_push s.placed m, s.long);
        marks = marks_now;
        entries_fit = entries_now;
        rest = (written.0 ∙ s.rest.0, λ k h e. written.2 k h e ∙ s.rest.1 k h e);
        left = omega (arith, s.left, state_fewer);
      }

-- the same of scenes that are one: what a turn leads to, and where the turns end
module _ (s r : Scene) (law : Lawful s) (is : s ≡ r) (t : ℕ → ℕ → Bool) (tells : ∥ Tells t s.rows ∥₁) (b : ℕ → ℕ → Bool) (back : ∥ Tells b (turned_scene s).rows ∥₁)
    (old new : List Entry) (marked : ℕ → Bool) (places : ℕ) where
  forth : Tells t s.rows
  forth = tells_again s.moments s.rows law t tells

  back_again : Tells b (map turned s.rows)
  back_again = tells_again s.moments (map turned s.rows) (turned_lawful s law) b back

  pub next_state : (m : ℕ) → LowestFree t b marked s.moments (Some m) → (later : List Entry) (more : ℕ → Bool) (n : ℕ) → n ≡ r.moments
      → Grouped t n m (record { place = places + 1; leader = m }) new later
      → ((v : ℕ) → v < 256 → more v ≡ (marked v || (ltb v n && (t m v && t v m))))
      → State r.moments r.rows old new marked places
      → State r.moments r.rows old later more (places + 1) × (unmarked more r.moments < unmarked marked r.moments)
  next_state m free later more n long written marks = subst (λ v. State v.moments v.rows old new marked places → State v.moments v.rows old later more (places + 1) × (unmarked more v.moments < unmarked marked v.moments)) is (λ st.
      let same : n ≡ s.moments = long ∙ ap (λ v. v.moments) (sym is) in
      let w = subst (λ k. Grouped t k m (record { place = places + 1; leader = m }) new later) same written in
      let k = subst (λ j. (v : ℕ) → v < 256 → more v ≡ (marked v || (ltb v j && (t m v && t v m)))) same marks in (
        state_turn s.moments s.rows law.own law.few t forth b back_again old new marked places st m free.0 free.1 free.2 later more w k,
        state_fewer s.moments s.rows law.own law.few t forth b back_again old new marked places st m free.0 free.1 free.2 later more w k,
      ))

  pub last_state : LowestFree t b marked s.moments None → State r.moments r.rows old new marked places → Ordered r.moments r.rows new places
  last_state none = subst (λ v. State v.moments v.rows old new marked places → Ordered v.moments v.rows new places) is (λ st.
      state_done s.moments s.rows law.own law.few t forth b back_again old new marked places st none)
