-- Sequences of places, whichever ready leader takes each turn: the place of a moment, and who has an earlier one.
use Rattle.std.proofs.Common.{◌≡◌, ℕ, ◌<◌, ◌≤◌, Bool, true, ◌⊎◌, List, [], ◌∷◌, ◌++◌, length, Some, sym, ◌∙◌, subst, inl, inr, arith}
use Rattle.std.specs.List.{slice_get}
use Rattle.algebra.specs.Placements.{Row}
use Rattle.scene.specs.Scenes.{all_fit}
use Rattle.graph.specs.Reaching.{Tells}
use Rattle.graph.specs.Steps.{Path, stay, onward, Step, SameGroup}
use Rattle.graph.specs.Turns.{Placed, Ready, Turns, start, turn}
use Rattle.graph.proofs.Groups.{group_self, group_turned, group_join, placed_or_not}
use Rattle.graph.proofs.Paths.{step_inside}
use Rattle.graph.proofs.Readiness.{Eligible}
use Rattle.graph.proofs.LeaderLists.{nth_more, nth_last, nth_cases, nth_in, in_nth, nth_below, some_same}

-- the leaders in the sequence of their places: each turn one that is ready takes the next place
pub data Sequence (n : ℕ) (rs : List Row) : List ℕ → Type 0 where
  begin : Sequence n rs []
  next : {placed : List ℕ} {l : ℕ} → Sequence n rs placed → Ready n rs placed l → Sequence n rs (placed ++ l ∷ [])

pub turns_sequence : (n : ℕ) (rs : List Row) {ls : List ℕ} → Turns n rs ls → Sequence n rs ls
turns_sequence n rs start = begin
turns_sequence n rs (turn s r low) = next (turns_sequence n rs s) r

-- the group of m has the place with index j, counted from 0
abbrev pub IndexOf : List Row → List ℕ → ℕ → ℕ → Type 0
IndexOf rs ls m j = (l : ℕ) × ((slice_get ls j ≡ Some l) × SameGroup rs l m)

pub index_placed : (rs : List Row) (ls : List ℕ) (m j : ℕ) → IndexOf rs ls m j → Placed rs ls m
index_placed rs ls m j s = (s.0, (nth_in ls j s.0 s.1.0, s.1.1))

pub placed_index : (rs : List Row) (ls : List ℕ) (m : ℕ) → Placed rs ls m → (j : ℕ) × IndexOf rs ls m j
placed_index rs ls m p = let r = in_nth ls p.0 p.1.0 in (r.0, (p.0, (r.1, p.1.1)))

pub index_below : (rs : List Row) (ls : List ℕ) (m j : ℕ) → IndexOf rs ls m j → j < length ls
index_below rs ls m j s = nth_below ls j s.0 s.1.0

pub index_more : (rs : List Row) (ls : List ℕ) (l m j : ℕ) → IndexOf rs ls m j → IndexOf rs (ls ++ l ∷ []) m j
index_more rs ls l m j s = (s.0, (nth_more ls l j s.0 s.1.0, s.1.1))

pub index_last : (rs : List Row) (ls : List ℕ) (l m : ℕ) → SameGroup rs l m → IndexOf rs (ls ++ l ∷ []) m (length ls)
index_last rs ls l m g = (l, (nth_last ls l, g))

pub index_cases : (rs : List Row) (ls : List ℕ) (l m j : ℕ) → IndexOf rs (ls ++ l ∷ []) m j → IndexOf rs ls m j ⊎ ((j ≡ length ls) × SameGroup rs l m)
index_cases rs ls l m j s = elim (nth_cases ls l j s.0 s.1.0) [
  | inl h ↦ inl (s.0, (h, s.1.1))
  | inr h ↦ inr (h.0, subst (λ v. SameGroup rs v m) h.1 s.1.1)
]

-- moments at one place share a group
pub index_together : (rs : List Row) (ls : List ℕ) (x y j : ℕ) → IndexOf rs ls x j → IndexOf rs ls y j → SameGroup rs x y
index_together rs ls x y j a b =
    let e = some_same a.0 b.0 (sym a.1.0 ∙ b.1.0) in
    group_join rs x b.0 y (group_turned rs b.0 x (subst (λ v. SameGroup rs v x) e a.1.1)) b.1.1

-- who reaches a moment that has a place has one
abbrev pub Closed : List Row → List ℕ → Type 0
Closed rs ls = (x y : ℕ) → Path (Step rs) x y → Placed rs ls y → Placed rs ls x

module _ (n : ℕ) (rs : List Row) (own : all_fit n rs ≡ true) (few : n ≤ 256) (t : ℕ → ℕ → Bool) (tells : Tells t rs) where
  -- whoever reaches the group of a ready leader has a place, or is of that group
  pub enters : (ls : List ℕ) (l : ℕ) → Closed rs ls → Ready n rs ls l → {x y : ℕ} → Path (Step rs) x y → SameGroup rs y l → Placed rs ls x ⊎ SameGroup rs x l
  enters ls l closed ready stay g = inr g
  enters ls l closed ready (onward {x = x} {y = y} s p) g = elim (enters ls l closed ready p g) [
    | inl h ↦ inl (closed x y (onward s stay) h)
    | inr h ↦ elim (placed_or_not n rs own few t tells ls x (step_inside n rs own x y s).0) [
      | inl i ↦ inl i
      | inr un ↦ inr (ready.3 x y s h un)
    ]
  ]

  -- a ready leader is eligible
  pub ready_eligible : (ls : List ℕ) (l : ℕ) → Closed rs ls → Ready n rs ls l → Eligible n rs ls l
  ready_eligible ls l closed ready = (
    ready.0,
    ready.2,
    λ v p un. elim (enters ls l closed ready p (group_self rs l)) [
      | inl h ↦ absurd (un h)
      | inr g ↦ g.1
    ],
  )

  -- who reaches a moment has no later place
  pub index_back : {ls : List ℕ} → Sequence n rs ls → (x y j : ℕ) → Path (Step rs) x y → IndexOf rs ls y j → (i : ℕ) × ((i ≤ j) × IndexOf rs ls x i)
  index_back begin x y j p s = absurd (index_placed rs [] y j s).1.0
  index_back (next {placed = ls} {l = l} q ready) x y j p s =
      let closed : Closed rs ls = λ a b w h. (
      let r = placed_index rs ls b h in
      let k = index_back q a b r.0 w r.1 in
      index_placed rs ls a k.0 k.1.1) in
      elim (index_cases rs ls l y j s) [
        | inl h ↦ (let k = index_back q x y j p h in (k.0, (k.1.0, index_more rs ls l x k.0 k.1.1)))
        | inr h ↦ elim (enters ls l closed ready p (group_turned rs l y h.1)) [
          | inl w ↦ (let k = placed_index rs ls x w in (k.0, (omega (arith, index_below rs ls x k.0 k.1, h.0), index_more rs ls l x k.0 k.1)))
          | inr g ↦ (length ls, (omega (arith, h.0), index_last rs ls l x (group_turned rs x l g)))
        ]
      ]

  pub sequence_closed : {ls : List ℕ} → Sequence n rs ls → Closed rs ls
  sequence_closed {ls} q x y p h =
      let r = placed_index rs ls y h in
      let k = index_back q x y r.0 p r.1 in
      index_placed rs ls x k.0 k.1.1

-- a moment has one place
pub index_once : (n : ℕ) (rs : List Row) {ls : List ℕ} → Sequence n rs ls → (m i j : ℕ) → IndexOf rs ls m i → IndexOf rs ls m j → i ≡ j
index_once n rs begin m i j a b = absurd (index_placed rs [] m i a).1.0
index_once n rs (next {placed = ls} {l = l} q ready) m i j a b = elim (index_cases rs ls l m i a) [
  | inl h ↦ elim (index_cases rs ls l m j b) [
    | inl k ↦ index_once n rs q m i j h k
    | inr k ↦ absurd (ready.2 (let p = index_placed rs ls m i h in (p.0, (p.1.0, group_join rs p.0 m l p.1.1 (group_turned rs l m k.1)))))
  ]
  | inr h ↦ elim (index_cases rs ls l m j b) [
    | inl k ↦ absurd (ready.2 (let p = index_placed rs ls m j k in (p.0, (p.1.0, group_join rs p.0 m l p.1.1 (group_turned rs l m h.1)))))
    | inr k ↦ h.0 ∙ sym k.0
  ]
]
