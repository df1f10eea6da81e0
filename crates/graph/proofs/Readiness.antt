-- While a group has no place, one is ready.
use Rattle.std.proofs.Common.{◌≡◌, ℕ, ◌<◌, ◌≤◌, Bool, true, false, not, ◌&&◌, List, inl, inr, arith}
use Rattle.std.proofs.lemmas.Bool.{cases_Bool, both_ways}
use Rattle.std.proofs.lemmas.Bool.Decides.{Decides-not}
use Rattle.algebra.specs.Placements.{Row}
use Rattle.scene.specs.Scenes.{all_fit}
use Rattle.graph.specs.Reaching.{Tells}
use Rattle.graph.specs.Steps.{Path, stay, onward, Step, SameGroup, Leads}
use Rattle.graph.specs.Turns.{Placed, Ready, OneReady}
use Rattle.graph.proofs.Finite.{count, count_le, count_lt, first, first_found, least, Least}
use Rattle.graph.proofs.Groups.{group_self, group_turned, group_join, placed_group, has_place, decides_same, decides_placed}
use Rattle.graph.proofs.Paths.{path_join, path_inside}

-- a moment without a place that no other group without a place reaches
abbrev pub Eligible : ℕ → List Row → List ℕ → ℕ → Type 0
Eligible n rs ls m =
    (m < n) × (Placed rs ls m → ⊥) × ((v : ℕ) → Path (Step rs) v m → (Placed rs ls v → ⊥) → Path (Step rs) m v)

-- the moments of a group are eligible together
pub eligible_group : (n : ℕ) (rs : List Row) → all_fit n rs ≡ true → (ls : List ℕ) (m k : ℕ) → SameGroup rs m k → Eligible n rs ls m → Eligible n rs ls k
eligible_group n rs own ls m k g e = (
  path_inside n rs own g.1 e.0,
  (λ p. e.1 (placed_group rs ls k m (group_turned rs m k g) p)),
  (λ v p un. path_join g.1 (e.2 v (path_join p g.1) un)),
)

-- an eligible moment that leads its group is ready
pub eligible_ready : (n : ℕ) (rs : List Row) (ls : List ℕ) (l : ℕ) → Eligible n rs ls l → Leads rs l l → Ready n rs ls l
eligible_ready n rs ls l e leads = (e.0, leads, e.1, λ p q s g un. let path = onward s g.0 in (path, e.2 p path un))

-- how many moments reach x
abbrev pub rank : ℕ → (ℕ → ℕ → Bool) → ℕ → ℕ
rank n t x = count (λ z. t z x) n

-- the lowest moment of the group of x
abbrev pub leader : ℕ → (ℕ → ℕ → Bool) → ℕ → ℕ
leader n t x = first (λ z. t x z && t z x) n

module _ (n : ℕ) (rs : List Row) (own : all_fit n rs ≡ true) (few : n ≤ 256) (t : ℕ → ℕ → Bool) (tells : Tells t rs) where
  tell : (x y : ℕ) → x < n → y < n → Path (Step rs) x y → t x y ≡ true
  tell x y hx hy p = (tells x y (omega arith) (omega arith)).1 p

  told : (x y : ℕ) → x < n → y < n → t x y ≡ true → Path (Step rs) x y
  told x y hx hy e = (tells x y (omega arith) (omega arith)).0 e

  -- one that reaches another is reached by no more moments
  pub rank_le : (x y : ℕ) → x < n → y < n → Path (Step rs) x y → rank n t x ≤ rank n t y
  rank_le x y hx hy p = count_le (λ z. t z x) (λ z. t z y) n (λ z hz h. tell z y hz hy (path_join (told z x hz hx h) p))

  -- and by fewer, where it is not reached back
  pub rank_lt : (x y : ℕ) → x < n → y < n → Path (Step rs) x y → t y x ≡ false → rank n t x < rank n t y
  rank_lt x y hx hy p e = count_lt (λ z. t z x) (λ z. t z y) n y hy e (tell y y hy hy stay) (λ z hz h. tell z y hz hy (path_join (told z x hz hx h) p))

  pub leader_leads : (x : ℕ) → x < n → Leads rs (leader n t x) x
  leader_leads x hx =
      let f = first_found (λ z. t x z && t z x) n x hx ((decides_same n rs own few t tells x x hx hx).1 (group_self rs x)) in (
        (decides_same n rs own few t tells x (leader n t x) hx (omega arith)).0 f.1,
        (λ k g. let hk = path_inside n rs own g.1 hx in (first_found (λ z. t x z && t z x) n k hk ((decides_same n rs own few t tells x k hx hk).1 g)).0),
      )

  -- the leader of an eligible moment is ready
  pub leader_ready : (ls : List ℕ) (m : ℕ) → Eligible n rs ls m → Ready n rs ls (leader n t m)
  leader_ready ls m e =
      let l = leader n t m in
      let leads = leader_leads m e.0 in
      eligible_ready n rs ls l (eligible_group n rs own ls m l leads.0 e)
      (group_self rs l, λ k g. leads.1 k (group_join rs m l k leads.0 g))

  -- of the moments without a place, one that the fewest moments reach is eligible
  least_eligible : (ls : List ℕ) → Least (λ x. not (has_place n t ls x)) (rank n t) n → (m : ℕ) × Eligible n rs ls m
  least_eligible ls (m, hm, un, low) = (
    m,
    (
      hm,
      (Decides-not (has_place n t ls m) (decides_placed n rs own few t tells ls m hm)).0 un,
      λ v p free.
          let hv = path_inside n rs own p hm in
          elim (cases_Bool (t m v)) [
            | inl e ↦ told m v hm hv e
            | inr e ↦ absurd (omega (arith, rank_lt v m hv hm p e, low v hv ((Decides-not (has_place n t ls v) (decides_placed n rs own few t tells ls v hv)).1 free)))
          ],
    ),
  )

  pub one_eligible : (ls : List ℕ) (m : ℕ) → m < n → (Placed rs ls m → ⊥) → (l : ℕ) × Eligible n rs ls l
  one_eligible ls m hm un = elim (least (λ x. not (has_place n t ls x)) (rank n t) n) [
    | inl none ↦ absurd (both_ways (not (has_place n t ls m)) (none m hm) ((Decides-not (has_place n t ls m) (decides_placed n rs own few t tells ls m hm)).1 un))
    | inr low ↦ least_eligible ls low
  ]

  pub one_ready : OneReady n rs
  one_ready ls m hm un = let r = one_eligible ls m hm un in (leader n t r.0, leader_ready ls r.0 r.1)
