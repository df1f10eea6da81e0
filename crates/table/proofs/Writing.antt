-- Rows written one after another, and why they read back.
use Rattle.std.proofs.Common.{◌≡◌, ℕ, ◌+◌, ◌-◌, ◌*◌, ◌<◌, ◌≤◌, true, ◌&&◌, leb, List, [], ◌∷◌, ◌++◌, map, length, get_or, take, drop, set, Some, sym, refl, ap, ◌∙◌, subst, arith}
use borrow.Rule.Slice.PartMut.{put_mid}
use Rattle.std.proofs.lemmas.List.{append_assoc, length-append, length-take-le, take_at, take_more, drop_at, drop-drop, drop-set-lt, drop_more, map_push, flat_map_more, set_at}
use Rattle.std.proofs.lemmas.Option.{slice_get-get_or}
use Rattle.std.proofs.lemmas.Bool.{and_parts, both_ways, le-leb, cond-true}
use Rattle.std.specs.List.{flat_map, slice_get}
use Rattle.algebra.specs.Placements.{Row}
use Rattle.scene.specs.Scenes.{Scene, Lawful, names, ranged, all_fit}
use Rattle.table.specs.declared.commands.Command.{Command}
use Rattle.table.specs.Commands.{encoding, encoded, stated, Stand}
use Rattle.table.specs.Readings.{found, Begun, closed, Reads, stopped, ended}
use Rattle.table.specs.Writings.{row_command, written, over}

module _ (c : ℕ) where
  pub rows_length : (rs : List Row) → length (encoded c (map row_command rs)) ≡ 2 + 4 * length rs
  rows_length [] = refl
  rows_length (r ∷ rs) = let h = rows_length rs in omega arith

  -- one row more
  pub encoded_more : (rows : List Row) (i : ℕ) (r : Row) → i < length rows → get_or rows i r ≡ r
      → encoded c (map row_command (take (i + 1) rows)) ≡ encoded c (map row_command (take i rows)) ++ encoding (row_command r)
  encoded_more rows i r l is =
      ap (λ rs. encoded c (map row_command rs)) (take_more rows i r l ∙ ap (λ q. take i rows ++ q ∷ []) is)
      ∙ ap (encoded c) (map_push row_command (take i rows) r)
      ∙ sym (flat_map_more encoding (0x10 ∷ c ∷ []) (map row_command (take i rows)) (row_command r))

  -- the bytes of a row put where the last row ended
  put_row : (front tail ys : List ℕ) (at : ℕ) → length front ≡ at → put_mid at 4 (front ++ drop at tail) ys ≡ (front ++ ys) ++ drop (at + 4) tail
  put_row front tail ys at l =
      (λ i. take_at front (drop at tail) at l i ++ (ys ++ drop 4 (drop_at front (drop at tail) at l i)))
      ∙ ap (λ zs. front ++ (ys ++ zs)) (drop-drop 4 at tail) ∙ sym (append_assoc front ys (drop (at + 4) tail))

  -- one turn: the rows so far, then what the list held
  one_turn : (rows : List Row) (i : ℕ) (r : Row) (start out ys : List ℕ) → i < length rows → Some r ≡ slice_get rows i
      → out ≡ encoded c (map row_command (take i rows)) ++ drop (2 + 4 * i) start → ys ≡ encoding (row_command r)
      → put_mid (2 + 4 * i) (2 + 4 * i + 4 - (2 + 4 * i)) out ys ≡ encoded c (map row_command (take (i + 1) rows)) ++ drop (2 + 4 * (i + 1)) start
  one_turn rows i r start out ys l at inv is =
      let k : 2 + 4 * i + 4 - (2 + 4 * i) ≡ 4 = omega arith in
      let front = encoded c (map row_command (take i rows)) in
      let size : length front ≡ 2 + 4 * i = rows_length (take i rows) ∙ ap (λ n. 2 + 4 * n) (length-take-le i rows (omega arith)) in
      let is_r : get_or rows i r ≡ r = (let h = slice_get-get_or rows i r l in cc) in
      let past : 2 + 4 * i + 4 ≡ 2 + 4 * (i + 1) = omega arith in
      (λ j. put_mid (2 + 4 * i) (k j) (inv j) ys) ∙ put_row front start ys (2 + 4 * i) size
      ∙ (λ j. (front ++ is j) ++ drop (past j) start) ∙ ap (λ zs. zs ++ drop (2 + 4 * (i + 1)) start) (sym (encoded_more rows i r l is_r))

  -- the same where the position is counted otherwise
  pub row_turn : (rows : List Row) (i k n : ℕ) (r : Row) (start out ys : List ℕ) → (i ≡ k) × (k < length rows) × (Some r ≡ slice_get rows k) → n ≡ k + 1
      → out ≡ encoded c (map row_command (take k rows)) ++ drop (2 + 4 * k) start → ys ≡ encoding (row_command r)
      → put_mid (2 + 4 * i) (2 + 4 * i + 4 - (2 + 4 * i)) out ys ≡ encoded c (map row_command (take n rows)) ++ drop (2 + 4 * n) start
  row_turn rows i k n r start out ys t next inv is =
      (λ j. put_mid (2 + 4 * t.0 j) (2 + 4 * t.0 j + 4 - (2 + 4 * t.0 j)) out ys) ∙ one_turn rows k r start out ys t.1 t.2 inv is
      ∙ sym (λ j. encoded c (map row_command (take (next j) rows)) ++ drop (2 + 4 * next j) start)

  -- the end after the last row
  pub end_put : (rows : List Row) (start out xs : List ℕ) (n : ℕ) → n ≡ length rows → 3 + 4 * n ≤ length xs
      → drop (2 + 4 * n) start ≡ drop (2 + 4 * n) xs → out ≡ encoded c (map row_command rows) ++ drop (2 + 4 * n) start
      → set out (3 + 4 * n - 1) 0 ≡ over (encoded c (map row_command rows) ++ 0x00 ∷ []) xs
  end_put rows start out xs n is room same inv =
      let front = encoded c (map row_command rows) in
      let size : length front ≡ 2 + 4 * n = rows_length rows ∙ ap (λ m. 2 + 4 * m) (sym is) in
      let k : 3 + 4 * n - 1 ≡ 2 + 4 * n = omega arith in
      let next : drop (2 + 4 * n) xs ≡ get_or xs (2 + 4 * n) 0 ∷ drop (2 + 4 * n + 1) xs = drop_more xs (2 + 4 * n) 0 (omega arith) in
      let past : 2 + 4 * n + 1 ≡ length (front ++ 0x00 ∷ []) = omega (arith, length-append front (0x00 ∷ []), size) in
      (λ j. set (inv j) (k j) 0) ∙ ap (λ zs. set (front ++ zs) (2 + 4 * n) 0) (same ∙ next)
      ∙ set_at front (get_or xs (2 + 4 * n) 0) (drop (2 + 4 * n + 1) xs) 0 (2 + 4 * n) size
      ∙ sym (append_assoc front (0x00 ∷ []) (drop (2 + 4 * n + 1) xs)) ∙ ap (λ m. (front ++ 0x00 ∷ []) ++ drop m xs) past

  pub written_size : (rows : List Row) (n : ℕ) → n ≡ length rows → 3 + 4 * n ≡ length (encoded c (map row_command rows) ++ 0x00 ∷ [])
  written_size rows n is = omega (arith, length-append (encoded c (map row_command rows)) (0x00 ∷ []), rows_length rows)

-- the first two bytes
pub header_put : (xs : List ℕ) (a b : ℕ) → 2 ≤ length xs → set (set xs 0 a) 1 b ≡ a ∷ b ∷ drop 2 (set (set xs 0 a) 1 b)
header_put [] a b h = absurd (omega arith)
header_put (x ∷ []) a b h = absurd (omega arith)
header_put (x ∷ y ∷ zs) a b h = refl

pub header_leaves : (xs : List ℕ) (a b n : ℕ) → 2 ≤ n → drop n (set (set xs 0 a) 1 b) ≡ drop n xs
header_leaves xs a b n h = drop-set-lt n (set xs 0 a) 1 b (omega arith) ∙ drop-set-lt n xs 0 a (omega arith)

-- commands of rows state just these rows
stated_rows : (rs : List Row) → flat_map stated (map row_command rs) ≡ rs
stated_rows [] = refl
stated_rows (r ∷ rs) = ap (λ xs. r ∷ xs) (stated_rows rs)

stand_rows : (n : ℕ) (done : List Command) (rs : List Row) → all_fit n rs ≡ true → Stand n done (map row_command rs)
stand_rows n done [] h = tt
stand_rows n done (r ∷ rs) h =
    let p = and_parts (names n r && ranged r) (all_fit n rs) h in
    (((λ e. both_ways (names n r && ranged r) e p.0), tt), stand_rows n (done ++ row_command r ∷ []) rs p.1)

pub reads_back : (s : Scene) → Lawful s → length s.rows ≤ 4096 → Reads (written s.moments s.rows) (found s.moments s.rows)
reads_back s law few =
    let n = s.moments in
    let rows = s.rows in
    let c = n - 1 in
    let e : c + 1 ≡ n = omega (arith, law.some) in
    let ks = map row_command rows in
    let same : closed (c + 1) ks (length (encoded c ks) + 1) [] ≡ found n rows =
    cond-true (leb (length (flat_map stated ks)) 4096) _ _ (le-leb (length (flat_map stated ks)) 4096 (omega (arith, ap length (stated_rows rows))))
    ∙ (λ j. found (e j) (stated_rows rows j)) in
    let begun : Begun (written n rows) c ks (0x00 ∷ []) = record {
      short = omega (arith, written_size c rows (length rows) refl);
      cut = refl;
      stand = subst (λ m. Stand m [] ks) (sym e) (stand_rows n [] rows law.own);
    } in
    subst (Reads (written n rows)) same (stopped c ks (0x00 ∷ []) begun (ended [] refl))
