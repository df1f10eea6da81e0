-- The rows that a loop over a source takes are those of its scene, in their sequence.
use Rattle.std.proofs.Common.{◌≡◌, ℕ, ◌+◌, ◌<◌, List, length, get_or, drop, Some, None, Option, sym, ap, ◌∙◌, arith}
use Rattle.std.proofs.lemmas.Iterator.{YieldsList}
use Rattle.std.proofs.lemmas.Iterator.Consumers.{YieldsList-from_first, YieldsList-from_enumerate, YieldsList-turn, YieldsList-end}
use Rattle.std.proofs.lemmas.List.FromFn.{length-enumerate_from, get_or-enumerate_from}
use Rattle.std.proofs.lemmas.Option.{slice_get-get_or}
use Rattle.std.specs.Iterator.{Yields, YieldsFirst}
use Rattle.std.specs.Iterator.Adapters.{enumerate_source, enumerate_count, enumerate_steps}
use Rattle.std.specs.List.{enumerate_from, slice_get}
use Rattle.algebra.specs.Placements.{Row}
use Rattle.scene.specs.declared.sources.Rows.{Rows}
use Rattle.scene.specs.Scenes.{Scene}

module _ {S : Type 0} (scene : S → Scene) where
  abbrev pub rest : Rows S → List Row
  rest r = drop r.position (scene r.source.now).rows

  pub all_rows : {it : Rows S} (s : S) → it.source.now ≡ s → it.position ≡ 0 → YieldsList (YieldsFirst rest) (λ x. x) it (scene s).rows
  all_rows {it} s same start = YieldsList-from_first (λ x. x) rest (scene s).rows (λ i. drop (start i) (scene (same i)).rows)

  -- the row of a turn stands behind those taken so far, and at the end all were taken
  pub row_turn : {it : Rows S} (s : S) → YieldsList (YieldsFirst rest) (λ x. x) it (scene s).rows → (xs : List Row) (t : Rows S) → Yields (YieldsFirst rest) it xs t
      → (r : Option Row) (u : Rows S) (row : Row) → r ≡ Some row → YieldsFirst rest t r u → (length xs < length (scene s).rows) × (Some row ≡ slice_get (scene s).rows (length xs))
  row_turn s all xs t y r u row is steps =
      let turn = YieldsList-turn all xs t y r u row is steps in
      (turn.0, ap Some turn.1 ∙ sym (slice_get-get_or (scene s).rows (length xs) row turn.0))

  pub row_end : {it : Rows S} (s : S) → YieldsList (YieldsFirst rest) (λ x. x) it (scene s).rows → (xs : List Row) (t : Rows S) → Yields (YieldsFirst rest) it xs t
      → (r : Option Row) (u : Rows S) → r ≡ None → YieldsFirst rest t r u → length xs ≡ length (scene s).rows
  row_end s all xs t y r u is steps = (YieldsList-end all xs t y r u is steps).1

  -- the same, each with its position
  pub all_numbered : {it : _} (s : S) → (enumerate_source {I = Rows S} it).source.now ≡ s → (enumerate_source {I = Rows S} it).position ≡ 0 → enumerate_count it ≡ 0
      → YieldsList {B = ℕ × Row} (enumerate_steps (YieldsFirst rest)) (λ p. (p.0, p.1)) it (enumerate_from 0 (scene s).rows)
  all_numbered s same start count = YieldsList-from_enumerate (all_rows s same start) count

  -- the row of a turn stands behind those taken so far
  pub numbered_turn : {it : _} (s : S) → YieldsList {B = ℕ × Row} (enumerate_steps (YieldsFirst rest)) (λ p. (p.0, p.1)) it (enumerate_from 0 (scene s).rows)
      → (xs : List (ℕ × Row)) (t : _) → Yields (enumerate_steps (YieldsFirst rest)) it xs t
      → (r : Option (ℕ × Row)) (u : _) (i : ℕ) (row : Row) → r ≡ Some (i, row) → enumerate_steps (YieldsFirst rest) t r u
      → (i ≡ length xs) × (length xs < length (scene s).rows) × (Some row ≡ slice_get (scene s).rows (length xs))
  numbered_turn s all xs t y r u i row is steps =
      let rows = (scene s).rows in
      let k = length xs in
      let turn = YieldsList-turn all xs t y r u (i, row) is steps in
      let below : k < length rows = omega (arith, turn.0, length-enumerate_from 0 rows) in
      let same : (i, row) ≡ (0 + k, get_or rows k row) = turn.1 ∙ get_or-enumerate_from 0 rows k (i, row) below in
      let row_is : row ≡ get_or rows k row = ap (λ p. p.1) same in
      (ap (λ p. p.0) same ∙ omega arith, below, ap Some row_is ∙ sym (slice_get-get_or rows k row below))

  -- at the end all were taken
  pub numbered_end : {it : _} (s : S) → YieldsList {B = ℕ × Row} (enumerate_steps (YieldsFirst rest)) (λ p. (p.0, p.1)) it (enumerate_from 0 (scene s).rows)
      → (xs : List (ℕ × Row)) (t : _) → Yields (enumerate_steps (YieldsFirst rest)) it xs t
      → (r : Option (ℕ × Row)) (u : _) → r ≡ None → enumerate_steps (YieldsFirst rest) t r u → length xs ≡ length (scene s).rows
  numbered_end s all xs t y r u is steps = (YieldsList-end all xs t y r u is steps).1 ∙ length-enumerate_from 0 (scene s).rows
