-- Numbers that go up along paths, and that only a group shares, obey rows none of which is impossible.
use Rattle.std.proofs.Common.{◌≡◌, ℕ, ◌<◌, ◌≤◌, true, ◌&&◌, List, [], ◌∷◌, pos, ◌<ℤ◌, refl, inl, inr, arith}
use Rattle.std.proofs.lemmas.Int.{ints}
use Rattle.std.proofs.lemmas.Bool.{and_parts}
use Rattle.algebra.specs.Placements.{Row, Placement, Obeys, ObeysAll}
use Rattle.algebra.specs.Points.{has}
use Rattle.algebra.specs.declared.points.Relation.TheVariants.{Before, Together, After}
use Rattle.scene.specs.Scenes.{all_fit, names, ranged}
use Rattle.scene.proofs.RowByRow.{is_true}
use Rattle.graph.specs.Clashes.{SomeImpossible, Impossible}
use Rattle.graph.specs.Steps.{Path, stay, onward, Step, StepOf, SameGroup}
use Rattle.graph.proofs.Paths.{row_ends}

pub record Spread (n : ℕ) (rs : List Row) (f : ℕ → ℕ) : Type 0 where
  pub up : (x y : ℕ) → x < n → y < n → Path (Step rs) x y → f x ≤ f y
  pub one : (x y : ℕ) → x < n → y < n → f x ≡ f y → SameGroup rs x y

-- natural numbers as a placement
abbrev pub numbers : (ℕ → ℕ) → Placement
numbers f m = pos (f m)

pos_under : (a b : ℕ) → pos a <ℤ pos b → a < b
pos_under a b h = omega (arith, ints)

pos_same : (a b : ℕ) → pos a ≡ pos b → a ≡ b
pos_same a b h = omega (arith, ints)

module _ (n : ℕ) (rs : List Row) (f : ℕ → ℕ) (spread : Spread n rs f) where
  row_obeyed : (r : Row) → r.0 < n → r.2 < n → ((x y : ℕ) → StepOf r x y → Step rs x y) → (Impossible rs r → ⊥) → Obeys (numbers f) r
  row_obeyed r hx hy sub possible Before h = is_true (has r.1 Before) (λ e.
      omega (arith, pos_under (f r.0) (f r.2) h, spread.up r.2 r.0 hy hx (onward (sub r.2 r.0 (inr (refl, refl, e))) stay)))
  row_obeyed r hx hy sub possible Together h = is_true (has r.1 Together) (λ e. possible (e, spread.one r.0 r.2 hx hy (pos_same (f r.0) (f r.2) h)))
  row_obeyed r hx hy sub possible After h = is_true (has r.1 After) (λ e.
      omega (arith, pos_under (f r.2) (f r.0) h, spread.up r.0 r.2 hx hy (onward (sub r.0 r.2 (inl (refl, refl, e))) stay)))

  rows_obeyed : (qs : List Row) → all_fit n qs ≡ true → ((x y : ℕ) → Step qs x y → Step rs x y) → (SomeImpossible rs qs → ⊥) → ObeysAll (numbers f) qs
  rows_obeyed [] fit sub possible = tt
  rows_obeyed (r ∷ qs) fit sub possible =
      let parts = and_parts (names n r && ranged r) (all_fit n qs) fit in
      let ends = row_ends n r parts.0 in
      (row_obeyed r ends.0 ends.1 (λ x y s. sub x y (inl s)) (λ t. possible (inl t)), rows_obeyed qs parts.1 (λ x y s. sub x y (inr s)) (λ t. possible (inr t)))

  pub spread_obeys : all_fit n rs ≡ true → (SomeImpossible rs rs → ⊥) → ObeysAll (numbers f) rs
  spread_obeys own possible = rows_obeyed rs own (λ x y s. s) possible
