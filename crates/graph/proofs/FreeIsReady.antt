-- What the code reads from its tables and marks is readiness.
use Rattle.std.proofs.Common.{◌≡◌, ℕ, ◌<◌, ◌≤◌, Bool, true, ◌&&◌, ◌||◌, ltb, List, [], ◌∷◌, ◌++◌, map, Decides, inl, inr, arith}
use Rattle.std.proofs.lemmas.Bool.{and_parts, and_from, cases_Bool, false_from_ne_true, cases_lt, lt-ltb, ltb-true, or_cases, or_left, or_right}
use Rattle.std.proofs.lemmas.Bool.Decides.{Decides-at, Decides-like, Decides-or, not_from_Decides}
use Rattle.algebra.specs.Placements.{Row}
use Rattle.scene.specs.Scenes.{all_fit}
use Rattle.graph.specs.Free.{Free}
use Rattle.graph.specs.Reaching.{Tells}
use Rattle.graph.specs.Steps.{SameGroup, Leads}
use Rattle.graph.specs.Turned.{turned}
use Rattle.graph.specs.Turns.{Placed, Ready}
use Rattle.graph.proofs.Groups.{group_self, placed_cases, placed_last, placed_more, decides_same, placed_or_not}
use Rattle.graph.proofs.Paths.{path_inside}
use Rattle.graph.proofs.Readiness.{Eligible, eligible_group, eligible_ready, one_eligible}
use Rattle.graph.proofs.Reversal.{path_turned, turned_path}
use Rattle.graph.proofs.Sequences.{Closed, ready_eligible}

module _ (n : ℕ) (rs : List Row) (own : all_fit n rs ≡ true) (few : n ≤ 256) (t : ℕ → ℕ → Bool) (tells : Tells t rs)
    (b : ℕ → ℕ → Bool) (back : Tells b (map turned rs)) (ls : List ℕ) (marked : ℕ → Bool)
    (marks : (v : ℕ) → v < 256 → Decides (marked v) (Placed rs ls v)) where
  pub free_eligible : (m : ℕ) → m < n → Free t b marked m → Eligible n rs ls m
  free_eligible m hm f = (
    hm,
    not_from_Decides (marked m) (marks m (omega arith)) f.unmarked,
    λ v p un.
        let hv = path_inside n rs own p hm in
        elim (or_cases (t m v) (marked v) (f.clear v (omega arith) ((back m v (omega arith) (omega arith)).1 (path_turned rs v m p)))) [
          | inl e ↦ (tells m v (omega arith) (omega arith)).0 e
          | inr e ↦ absurd (un ((marks v (omega arith)).0 e))
        ],
  )

  pub eligible_free : (m : ℕ) → Eligible n rs ls m → Free t b marked m
  eligible_free m e =
      let hm : m < 256 = omega (arith, e.0) in
      record {
        unmarked = false_from_ne_true (marked m) (λ h. e.1 ((marks m hm).0 h));
        clear = λ v hv h. elim (cases_Bool (marked v)) [
          | inl k ↦ or_right (t m v) (marked v) k
          | inr k ↦ or_left (t m v) (marked v) ((tells m v hm hv).1 (e.2 v (turned_path rs m v ((back m v hm hv).0 h)) (not_from_Decides (marked v) (marks v hv) k)))
        ];
      }

  -- the lowest that is free leads its group
  pub lowest_leads : (m : ℕ) → m < n → Free t b marked m → ((v : ℕ) → v < m → Free t b marked v → ⊥) → Leads rs m m
  lowest_leads m hm f low = (
    group_self rs m,
    λ k g. elim (cases_lt k m) [
      | inl lt ↦ absurd (low k lt (eligible_free k (eligible_group n rs own ls m k g (free_eligible m hm f))))
      | inr le ↦ le
    ],
  )

  pub lowest_ready : (m : ℕ) → m < n → Free t b marked m → ((v : ℕ) → v < m → Free t b marked v → ⊥) → Ready n rs ls m
  lowest_ready m hm f low = eligible_ready n rs ls m (free_eligible m hm f) (lowest_leads m hm f low)

  -- and no ready leader is lower
  pub lowest_first : Closed rs ls → (m : ℕ) → ((v : ℕ) → v < m → Free t b marked v → ⊥) → (k : ℕ) → Ready n rs ls k → m ≤ k
  lowest_first closed m low k ready = elim (cases_lt k m) [
    | inl lt ↦ absurd (low k lt (eligible_free k (ready_eligible n rs own few t tells ls k closed ready)))
    | inr le ↦ le
  ]

  -- where none is free, all have a place
  pub none_free : ((m : ℕ) → m < n → Free t b marked m → ⊥) → (m : ℕ) → m < n → Placed rs ls m
  none_free none m hm = elim (placed_or_not n rs own few t tells ls m hm) [
    | inl p ↦ p
    | inr un ↦ (let r = one_eligible n rs own few t tells ls m hm un in absurd (none r.0 r.1.0 (eligible_free r.0 r.1)))
  ]

  -- with the group of m marked too
  pub marks_more : (more : ℕ → Bool) (m : ℕ) → m < n → ((v : ℕ) → v < 256 → more v ≡ (marked v || (ltb v n && (t m v && t v m))))
      → (v : ℕ) → v < 256 → Decides (more v) (Placed rs (ls ++ m ∷ []) v)
  marks_more more m hm is v hv =
      Decides-at (more v) (marked v || (ltb v n && (t m v && t v m))) (is v hv)
      (Decides-like (marked v || (ltb v n && (t m v && t v m)))
      (λ s. elim s [ inl p ↦ placed_more rs ls m v p | inr g ↦ placed_last rs ls m v g ])
      (placed_cases rs ls m v)
      (Decides-or (marked v) (ltb v n && (t m v && t v m)) (marks v hv) below))
    where
      below : Decides (ltb v n && (t m v && t v m)) (SameGroup rs m v)
      below = (
        (λ e. let p = and_parts (ltb v n) (t m v && t v m) e in (decides_same n rs own few t tells m v hm (ltb-true v n p.0)).0 p.1),
        (λ g. let hn = path_inside n rs own g.1 hm in and_from (ltb v n) (t m v && t v m) (lt-ltb v n hn) ((decides_same n rs own few t tells m v hm hn).1 g)),
      )
