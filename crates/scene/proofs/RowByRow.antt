-- Rows that are checked one after another.
use Rattle.std.proofs.Common.{◌≡◌, ℕ, zero, suc, ◌+◌, ◌<◌, Bool, true, false, ◌&&◌, List, [], ◌∷◌, ◌++◌, length, get_or, take, drop, refl, ap, ◌∙◌, inl, inr}
use Rattle.std.proofs.lemmas.List.{take_more, drop_more}
use Rattle.std.proofs.lemmas.Bool.{and_parts, and_from, both_ways}
use Rattle.algebra.specs.Placements.{Row}
use Rattle.scene.specs.declared.refusals.Refusal.{Refusal}
use Rattle.scene.specs.Checks.{Check, First, Clear}
use Rattle.scene.specs.Laws.{fit_append}
use Rattle.scene.specs.Layers.{of_row, row_by_row}
use Rattle.scene.specs.Scenes.{names, ranged, all_fit}

not_both : (t : Bool) → t ≡ true → t ≡ false → ⊥
not_both t h e = both_ways t e h

module _ (n : ℕ) (last : List (Check Refusal)) where
  -- rows that fit are passed over
  passed : (rs : List Row) (i : ℕ) (c : Refusal) → all_fit n (take i rs) ≡ true → First (row_by_row n (drop i rs) ++ last) c → First (row_by_row n rs ++ last) c
  passed rs zero c h f = f
  passed [] (suc i) c h f = f
  passed (r ∷ rs) (suc i) c h f =
      let p = and_parts (names n r && ranged r) (all_fit n (take i rs)) h in
      let q = and_parts (names n r) (ranged r) p.0 in
      inr (not_both (names n r) q.0, inr (not_both (ranged r) q.1, passed rs i c p.1 f))

  struck : (r : Row) (rs : List Row) (c : Refusal) → First (of_row n r) c → First (row_by_row n (r ∷ rs) ++ last) c
  struck r rs c (inl a) = inl a
  struck r rs c (inr (a, inl b)) = inr (a, inl b)
  struck r rs c (inr (a, inr b)) = absurd b.1

  -- a check of a row strikes, and the rows before it fit
  pub first_at : (rs : List Row) (i : ℕ) (d : Row) (c : Refusal) → i < length rs → all_fit n (take i rs) ≡ true → First (of_row n (get_or rs i d)) c → First (row_by_row n rs ++ last) c
  first_at rs i d c l h f = passed rs i c h (rw (drop_more rs i d l) (struck (get_or rs i d) (drop (i + 1) rs) c f))

  -- all rows fit, and a later check strikes
  pub first_last : (rs : List Row) (c : Refusal) → all_fit n rs ≡ true → First last c → First (row_by_row n rs ++ last) c
  first_last [] c h f = f
  first_last (r ∷ rs) c h f =
      let p = and_parts (names n r && ranged r) (all_fit n rs) h in
      let q = and_parts (names n r) (ranged r) p.0 in
      inr (not_both (names n r) q.0, inr (not_both (ranged r) q.1, first_last rs c p.1 f))

  -- no check strikes
  pub all_clear : (rs : List Row) → all_fit n rs ≡ true → Clear last → Clear (row_by_row n rs ++ last)
  all_clear [] h l = l
  all_clear (r ∷ rs) h l =
      let p = and_parts (names n r && ranged r) (all_fit n rs) h in
      let q = and_parts (names n r) (ranged r) p.0 in
      (not_both (names n r) q.0, (not_both (ranged r) q.1, all_clear rs p.1 l))

pub is_true : (t : Bool) → (t ≡ false → ⊥) → t ≡ true
is_true true h = refl
is_true false h = absurd (h refl)

-- one more row that no check strikes
pub fits_more : (n : ℕ) (rs : List Row) (i : ℕ) (d : Row) → i < length rs → all_fit n (take i rs) ≡ true → Clear (of_row n (get_or rs i d)) → all_fit n (take (i + 1) rs) ≡ true
fits_more n rs i d h t k =
    let r = get_or rs i d in
    let one : all_fit n (r ∷ []) ≡ true = and_from (names n r && ranged r) true (and_from (names n r) (ranged r) (is_true (names n r) k.0) (is_true (ranged r) k.1.0)) refl in
    ap (all_fit n) (take_more rs i d h) ∙ fit_append n (take i rs) (r ∷ []) t one
