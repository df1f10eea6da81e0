-- Rows clash exactly when one of them is impossible.
use Rattle.std.proofs.Common.{◌≡◌, ℕ, ◌<◌, ◌≤◌, Bool, true, not, ◌&&◌, List, [], ◌∷◌, Decides, inl, inr, arith}
use Rattle.std.proofs.lemmas.Bool.{and_parts, cases_Bool, not-true, not_from_false, false≢true}
use Rattle.std.proofs.lemmas.Bool.Decides.{Decides-and, Decides-or, not_from_Decides}
use Rattle.std.specs.List.{list_any}
use Rattle.algebra.specs.Placements.{Row}
use Rattle.algebra.specs.Points.{has}
use Rattle.algebra.specs.declared.points.Relation.TheVariants.{Together}
use Rattle.scene.specs.Scenes.{Agree, Clash, names, ranged, all_fit}
use Rattle.graph.specs.Clashes.{ClashTheorem, SomeImpossible, Impossible}
use Rattle.graph.specs.Reaching.{Tells}
use Rattle.graph.proofs.Paths.{row_ends}
use Rattle.graph.proofs.Ranking.{ranking, ranking_spread}
use Rattle.graph.proofs.Rising.{impossible_clashes}
use Rattle.graph.proofs.Spread.{numbers, spread_obeys}
use Rattle.graph.proofs.Tables.{table, table_tells}

-- whether a row is impossible, read from a table
abbrev pub impossible_by : (ℕ → ℕ → Bool) → Row → Bool
impossible_by t r = not (has r.1 Together) && (t r.0 r.2 && t r.2 r.0)

pub impossible_told : (t : ℕ → ℕ → Bool) (all : List Row) (r : Row) → Tells t all → r.0 < 256 → r.2 < 256 → Decides (impossible_by t r) (Impossible all r)
impossible_told t all r tells hx hy =
    Decides-and (not (has r.1 Together)) (t r.0 r.2 && t r.2 r.0)
    (not-true (has r.1 Together), not_from_false (has r.1 Together))
    (Decides-and (t r.0 r.2) (t r.2 r.0) (tells r.0 r.2 hx hy) (tells r.2 r.0 hy hx))

module _ (t : ℕ → ℕ → Bool) (all : List Row) (tells : Tells t all) (n : ℕ) (few : n ≤ 256) where
  -- whether some row is impossible
  pub some_told : (rs : List Row) → all_fit n rs ≡ true → Decides (list_any (impossible_by t) rs) (SomeImpossible all rs)
  some_told [] own = (λ e. absurd (false≢true e), λ s. absurd s)
  some_told (r ∷ rs) own =
      let p = and_parts (names n r && ranged r) (all_fit n rs) own in
      let e = row_ends n r p.0 in
      Decides-or (impossible_by t r) (list_any (impossible_by t) rs) (impossible_told t all r tells (omega (arith, e.0)) (omega (arith, e.1))) (some_told rs p.1)

-- without an impossible row some placement obeys all
pub possible_agrees : (n : ℕ) (rs : List Row) → n ≤ 256 → all_fit n rs ≡ true → (SomeImpossible rs rs → ⊥) → Agree rs
possible_agrees n rs few own possible =
    let f = ranking n (table rs) in
    (numbers f, spread_obeys n rs f (ranking_spread n rs own few (table rs) (table_tells n rs few own)) own possible)

pub clash_impossible : (n : ℕ) (rs : List Row) → n ≤ 256 → all_fit n rs ≡ true → Clash rs → SomeImpossible rs rs
clash_impossible n rs few own clash =
    let t = table rs in
    let d = some_told t rs (table_tells n rs few own) n few rs own in
    elim (cases_Bool (list_any (impossible_by t) rs)) [
      | inl some ↦ d.0 some
      | inr none ↦ absurd (clash (possible_agrees n rs few own (not_from_Decides (list_any (impossible_by t) rs) d none)))
    ]

pub clash_theorem : (n : ℕ) (rs : List Row) → n ≤ 256 → all_fit n rs ≡ true → ClashTheorem rs
clash_theorem n rs few own = (clash_impossible n rs few own, impossible_clashes rs)
