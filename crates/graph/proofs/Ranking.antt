-- A placement of groups: by how many moments reach them, then by their leader.
use Rattle.std.proofs.Common.{◌≡◌, ℕ, ◌+◌, ◌*◌, ◌<◌, ◌≤◌, Bool, true, false, List, sym, subst, inl, inr, arith}
use Rattle.std.proofs.lemmas.Bool.{cases_Bool}
use Rattle.algebra.specs.Placements.{Row}
use Rattle.scene.specs.Scenes.{all_fit}
use Rattle.graph.specs.Reaching.{Tells}
use Rattle.graph.specs.Steps.{Path, Step, SameGroup}
use Rattle.graph.proofs.Groups.{group_join, group_turned}
use Rattle.graph.proofs.Paths.{path_inside}
use Rattle.graph.proofs.Readiness.{leader, leader_leads, rank, rank_le, rank_lt}
use Rattle.graph.proofs.Spread.{Spread}

-- leaders are below 256, so the rank counts first
abbrev pub ranking : ℕ → (ℕ → ℕ → Bool) → ℕ → ℕ
ranking n t x = rank n t x * 256 + leader n t x

module _ (n : ℕ) (rs : List Row) (own : all_fit n rs ≡ true) (few : n ≤ 256) (t : ℕ → ℕ → Bool) (tells : Tells t rs) where
  leads : (x : ℕ) → x < n → SameGroup rs x (leader n t x)
  leads x hx = (leader_leads n rs own few t tells x hx).0

  leader_small : (x : ℕ) → x < n → leader n t x < 256
  leader_small x hx = let l = path_inside n rs own (leads x hx).1 hx in omega arith

  same_leader : (x y : ℕ) → x < n → y < n → SameGroup rs x y → leader n t x ≤ leader n t y
  same_leader x y hx hy g = (leader_leads n rs own few t tells x hx).1 (leader n t y) (group_join rs x y (leader n t y) g (leads y hy))

  -- moments of one group stand together
  same_ranking : (x y : ℕ) → x < n → y < n → SameGroup rs x y → ranking n t x ≡ ranking n t y
  same_ranking x y hx hy g =
      let back = group_turned rs x y g in
      omega (arith, rank_le n rs own few t tells x y hx hy g.0, rank_le n rs own few t tells y x hy hx g.1, same_leader x y hx hy g, same_leader y x hy hx back)

  -- a moment that reaches another, and is not reached back, stands before it
  lower_ranking : (x y : ℕ) → x < n → y < n → Path (Step rs) x y → t y x ≡ false → ranking n t x ≤ ranking n t y
  lower_ranking x y hx hy p e = omega (arith, rank_lt n rs own few t tells x y hx hy p e, leader_small x hx)

  one_leader : (x y : ℕ) → x < n → y < n → leader n t x ≡ leader n t y → SameGroup rs x y
  one_leader x y hx hy e =
      group_join rs x (leader n t x) y (leads x hx) (subst (λ v. SameGroup rs v y) (sym e) (group_turned rs y (leader n t y) (leads y hy)))

  pub ranking_spread : Spread n rs (ranking n t)
  ranking_spread = record {
    up = λ x y hx hy p. elim (cases_Bool (t y x)) [
      | inl e ↦ (let same = same_ranking x y hx hy (p, (tells y x (omega arith) (omega arith)).0 e) in omega arith)
      | inr e ↦ lower_ranking x y hx hy p e
    ];
    one = λ x y hx hy e. (let l : leader n t x ≡ leader n t y = omega (arith, leader_small x hx, leader_small y hy) in one_leader x y hx hy l);
  }
