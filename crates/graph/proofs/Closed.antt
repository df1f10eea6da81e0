-- A closed table that takes one more step is closed again.
use Rattle.std.proofs.Common.{◌≡◌, ℕ, ◌<◌, Bool, true, false, ◌&&◌, ◌⊎◌, List, Decides, sym, refl, ◌∙◌, inl, inr}
use Rattle.std.proofs.lemmas.Bool.{or_cases, or_left, or_right, and_parts, and_from}
use Rattle.std.proofs.lemmas.Bool.Decides.{Decides-at}
use Rattle.algebra.specs.Placements.{Row}
use Rattle.graph.specs.Steps.{Path, stay}
use Rattle.graph.specs.Reaching.{Joins, Selfs, Tells, grown}
use Rattle.graph.proofs.Paths.{path_join}

-- tables that are one below 256
abbrev pub Same : (ℕ → ℕ → Bool) → (ℕ → ℕ → Bool) → Type 0
Same u t = (x y : ℕ) → x < 256 → y < 256 → u x y ≡ t x y

-- truth values that imply one another
pub same_bool : (a b : Bool) → (a ≡ true → b ≡ true) → (b ≡ true → a ≡ true) → a ≡ b
same_bool true b h k = sym (h refl)
same_bool false true h k = k refl
same_bool false false h k = refl

module _ (t u : ℕ → ℕ → Bool) (p q : ℕ) (hp : p < 256) (hq : q < 256) (joins : Joins t) where
  -- a step that is already a path changes nothing
  pub grown_known : t p q ≡ true → Same t (grown t p q)
  grown_known h x y hx hy = same_bool (t x y) (grown t p q x y) (λ e. or_left (t x y) (t x p && t q y) e)
      (λ e. elim (or_cases (t x y) (t x p && t q y) e) [
        | inl a ↦ a
        | inr b ↦ (
            let c = and_parts (t x p) (t q y) b in
            joins (x, p, y) (hx, hp, hy, c.0, joins (p, q, y) (hp, hq, hy, h, c.1)))
      ])

  pub grown_selfs : Same u (grown t p q) → Selfs t → Selfs u
  grown_selfs is selfs x hx = is x x hx hx ∙ or_left (t x x) (t x p && t q x) (selfs x hx)

  -- the two ways from x to y in the grown table
  Ways : ℕ → ℕ → Type 0
  Ways x y = (t x y ≡ true) ⊎ ((t x p ≡ true) × (t q y ≡ true))

  ways : Same u (grown t p q) → (x y : ℕ) → x < 256 → y < 256 → u x y ≡ true → Ways x y
  unfolding Ways
  ways is x y hx hy e = elim (or_cases (t x y) (t x p && t q y) (sym (is x y hx hy) ∙ e)) [ inl a ↦ inl a | inr b ↦ inr (and_parts (t x p) (t q y) b) ]

  through : (x z : ℕ) → t x p ≡ true → t q z ≡ true → grown t p q x z ≡ true
  through x z e f = or_right (t x z) (t x p && t q z) (and_from (t x p) (t q z) e f)

  both : (x y z : ℕ) → x < 256 → y < 256 → z < 256 → Ways x y → Ways y z → grown t p q x z ≡ true
  unfolding Ways
  both x y z hx hy hz (inl e) (inl f) = or_left (t x z) (t x p && t q z) (joins (x, y, z) (hx, hy, hz, e, f))
  both x y z hx hy hz (inl e) (inr f) = through x z (joins (x, y, p) (hx, hy, hp, e, f.0)) f.1
  both x y z hx hy hz (inr e) (inl f) = through x z e.0 (joins (q, y, z) (hq, hy, hz, e.1, f))
  both x y z hx hy hz (inr e) (inr f) = through x z e.0 f.1

  pub grown_joins : Same u (grown t p q) → Joins u
  grown_joins is (x, y, z) (hx, hy, hz, a, b) = is x z hx hz ∙ both x y z hx hy hz (ways is x y hx hy a) (ways is y z hy hz b)

-- tables that are one tell of the same paths
pub same_tells : (u t : ℕ → ℕ → Bool) → Same u t → {E : ℕ → ℕ → Type 0} → ((x y : ℕ) → x < 256 → y < 256 → Decides (t x y) (Path E x y)) → (x y : ℕ) → x < 256 → y < 256 → Decides (u x y) (Path E x y)
same_tells u t is right x y hx hy = Decides-at (u x y) (t x y) (is x y hx hy) (right x y hx hy)

-- where a table tells of paths
pub tells_selfs : (t : ℕ → ℕ → Bool) (rs : List Row) → Tells t rs → Selfs t
tells_selfs t rs tells x hx = (tells x x hx hx).1 stay

pub tells_joins : (t : ℕ → ℕ → Bool) (rs : List Row) → Tells t rs → Joins t
tells_joins t rs tells (x, y, z) (hx, hy, hz, a, b) = (tells x z hx hz).1 (path_join ((tells x y hx hy).0 a) ((tells y z hy hz).0 b))
