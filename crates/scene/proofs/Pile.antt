-- Two lists of rows as one, of which at most the first 8,192 are answered.
use Rattle.std.proofs.Common.{◌≡◌, ℕ, ◌+◌, ◌-◌, ◌<◌, ◌≤◌, min, List, ◌++◌, length, None, sym, ap, ◌∙◌, ⊎_elim, arith}
use Rattle.std.proofs.lemmas.List.{length-take, length-append, take_all}
use Rattle.std.proofs.lemmas.Option.{slice_get_past}
use Rattle.std.proofs.lemmas.Bool.{cases_lt}
use Rattle.std.specs.List.{slice_get}
use Rattle.algebra.specs.Placements.{Row}
use Rattle.scene.specs.Layers.{pile}
use Rattle.scene.proofs.Positions.{nth_append_left, nth_append_right, nth_take}

pub at_most : (a b : ℕ) → (a < b → ⊥) → b ≤ a
at_most a b h = ⊎_elim (λ (l : a < b). absurd (h l)) (λ l. l) (cases_lt a b)

module _ (rs ss : List Row) where
  pub pile_length : (n : ℕ) → n ≡ min (length rs + length ss) 8192 → n ≡ length (pile rs ss)
  pile_length n h = omega (arith, length-take 8192 (rs ++ ss), length-append rs ss)

  pub pile_whole : length rs + length ss ≤ 8192 → pile rs ss ≡ rs ++ ss
  pile_whole h = take_all 8192 (rs ++ ss) (omega (arith, length-append rs ss))

  -- the row at a position, by where that stands
  pub pile_below : (k j : ℕ) → length rs ≤ 8192 → (k < length rs) × (j ≡ k) → slice_get rs j ≡ slice_get (pile rs ss) k
  pile_below k j h l = ap (slice_get rs) l.1 ∙ sym (nth_take 8192 (rs ++ ss) k (omega arith) ∙ nth_append_left rs ss k l.0)

  pub pile_above : (k j : ℕ) → (length rs ≤ k) × (k < 8192) × (j ≡ k - length rs) → slice_get ss j ≡ slice_get (pile rs ss) k
  pile_above k j l = ap (slice_get ss) l.2 ∙ sym (nth_take 8192 (rs ++ ss) k l.1 ∙ nth_append_right rs ss k l.0)

  pub pile_past : (k : ℕ) → 8192 ≤ k → None ≡ slice_get (pile rs ss) k
  pile_past k h = sym (slice_get_past (pile rs ss) k (omega (arith, length-take 8192 (rs ++ ss))))
