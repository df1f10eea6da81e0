-- Groups, who has a place, and a test of that.
use Rattle.std.proofs.Common.{◌≡◌, ℕ, ◌<◌, ◌≤◌, Bool, true, false, ◌&&◌, ◌||◌, ltb, ◌⊎◌, List, [], ◌∷◌, ◌++◌, Decides, sym, refl, subst, inl, inr, arith}
use Rattle.std.proofs.lemmas.Bool.{and_parts, and_from, cases_Bool, lt-ltb, ltb-true, true≢false}
use Rattle.std.proofs.lemmas.Bool.Decides.{Decides-and, Decides-like, Decides-or, not_from_Decides}
use Rattle.algebra.specs.Placements.{Row}
use Rattle.scene.specs.Scenes.{all_fit}
use Rattle.graph.specs.Reaching.{Tells}
use Rattle.graph.specs.Steps.{stay, SameGroup}
use Rattle.graph.specs.Turns.{In, Placed}
use Rattle.graph.proofs.Paths.{path_join, path_inside}
use Rattle.graph.proofs.LeaderLists.{in_more, in_last, in_cases}

pub group_self : (rs : List Row) (x : ℕ) → SameGroup rs x x
group_self rs x = (stay, stay)

pub group_turned : (rs : List Row) (x y : ℕ) → SameGroup rs x y → SameGroup rs y x
group_turned rs x y g = (g.1, g.0)

pub group_join : (rs : List Row) (x y z : ℕ) → SameGroup rs x y → SameGroup rs y z → SameGroup rs x z
group_join rs x y z a b = (path_join a.0 b.0, path_join b.1 a.1)

-- a group that has a place has it for each of its moments
pub placed_group : (rs : List Row) (ls : List ℕ) (x y : ℕ) → SameGroup rs x y → Placed rs ls x → Placed rs ls y
placed_group rs ls x y g p = (p.0, (p.1.0, group_join rs p.0 x y p.1.1 g))

pub placed_more : (rs : List Row) (ls : List ℕ) (l x : ℕ) → Placed rs ls x → Placed rs (ls ++ l ∷ []) x
placed_more rs ls l x p = (p.0, (in_more p.0 ls l p.1.0, p.1.1))

pub placed_last : (rs : List Row) (ls : List ℕ) (l x : ℕ) → SameGroup rs l x → Placed rs (ls ++ l ∷ []) x
placed_last rs ls l x g = (l, (in_last ls l, g))

pub placed_cases : (rs : List Row) (ls : List ℕ) (l x : ℕ) → Placed rs (ls ++ l ∷ []) x → Placed rs ls x ⊎ SameGroup rs l x
placed_cases rs ls l x p = elim (in_cases p.0 ls l p.1.0) [
  | inl h ↦ inl (p.0, (h, p.1.1))
  | inr e ↦ inr (subst (λ v. SameGroup rs v x) e p.1.1)
]

-- whether two moments below n share a group
abbrev pub grouped : ℕ → (ℕ → ℕ → Bool) → ℕ → ℕ → Bool
grouped n t l v = ltb l n && (t l v && t v l)

-- whether one of the leaders placed so far shares the group of v
abbrev pub has_place : ℕ → (ℕ → ℕ → Bool) → List ℕ → ℕ → Bool
has_place n t [] v = false
has_place n t (l ∷ ls) v = grouped n t l v || has_place n t ls v

placed_here : (rs : List Row) (ls : List ℕ) (l v : ℕ) → SameGroup rs l v ⊎ Placed rs ls v → Placed rs (l ∷ ls) v
placed_here rs ls l v (inl g) = (l, (inl refl, g))
placed_here rs ls l v (inr p) = (p.0, (inr p.1.0, p.1.1))

here_placed : (rs : List Row) (ls : List ℕ) (l v k : ℕ) → In k (l ∷ ls) → SameGroup rs k v → SameGroup rs l v ⊎ Placed rs ls v
here_placed rs ls l v k (inl e) g = inl (subst (λ u. SameGroup rs u v) e g)
here_placed rs ls l v k (inr h) g = inr (k, (h, g))

module _ (n : ℕ) (rs : List Row) (own : all_fit n rs ≡ true) (few : n ≤ 256) (t : ℕ → ℕ → Bool) (tells : Tells t rs) where
  pub decides_same : (x y : ℕ) → x < n → y < n → Decides (t x y && t y x) (SameGroup rs x y)
  decides_same x y hx hy = Decides-and (t x y) (t y x) (tells x y (omega arith) (omega arith)) (tells y x (omega arith) (omega arith))

  pub decides_grouped : (l v : ℕ) → v < n → Decides (grouped n t l v) (SameGroup rs l v)
  decides_grouped l v hv = (
    (λ e. let p = and_parts (ltb l n) (t l v && t v l) e in (decides_same l v (ltb-true l n p.0) hv).0 p.1),
    (λ g. let hl = path_inside n rs own g.0 hv in and_from (ltb l n) (t l v && t v l) (lt-ltb l n hl) ((decides_same l v hl hv).1 g)),
  )

  pub decides_placed : (ls : List ℕ) (v : ℕ) → v < n → Decides (has_place n t ls v) (Placed rs ls v)
  decides_placed [] v hv = ((λ e. absurd (true≢false (sym e))), (λ p. absurd p.1.0))
  decides_placed (l ∷ ls) v hv =
      Decides-like (grouped n t l v || has_place n t ls v) (placed_here rs ls l v) (λ p. here_placed rs ls l v p.0 p.1.0 p.1.1)
      (Decides-or (grouped n t l v) (has_place n t ls v) (decides_grouped l v hv) (decides_placed ls v hv))

  pub placed_or_not : (ls : List ℕ) (v : ℕ) → v < n → Placed rs ls v ⊎ (Placed rs ls v → ⊥)
  placed_or_not ls v hv = elim (cases_Bool (has_place n t ls v)) [
    | inl e ↦ inl ((decides_placed ls v hv).0 e)
    | inr e ↦ inr (not_from_Decides (has_place n t ls v) (decides_placed ls v hv) e)
  ]
