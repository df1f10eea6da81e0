-- What the layers over a source mean, and what their making checks.
use Rattle.std.specs.Prelude.{◌≡◌, ℕ, ◌+◌, ◌<◌, ◌≤◌, max, true, false, ◌⊎◌, List, [], ◌∷◌, ◌++◌, length, take}
use Rattle.std.proofs.Common.{arith}
use Rattle.std.proofs.lemmas.List.{length-take}
use Rattle.algebra.specs.Placements.{Row}
use Rattle.scene.specs.declared.refusals.Refusal.{Refusal}
use Rattle.scene.specs.declared.refusals.Refusal.TheVariants.{OutsideScene, SetOutOfRange, TooManyRows, NoSuchRow}
use Rattle.scene.specs.Checks.{Check}
use Rattle.scene.specs.Laws.{fit_more, fit_append, fit_take}
use Rattle.scene.specs.Marks.{low, without, fit_without, length_without}
use Rattle.scene.specs.Scenes.{Scene, Lawful, names, ranged, all_fit}

-- the scene has n moments, the rows below, and more rows after them
abbrev pub Piled : ℕ → List Row → List Row → Scene → Type 0
Piled n below more s = (s.moments ≡ n) × (s.rows ≡ below ++ more)

-- a layer answers at most the first 8,192 of these
abbrev pub pile : List Row → List Row → List Row
pile rs ss = take 8192 (rs ++ ss)

-- added: more rows, which were checked against n moments
abbrev pub added : Scene → ℕ → List Row → Scene
added s n more = record { moments = max s.moments n; rows = pile s.rows more }

-- rows that fit n moments, added to a lawful scene
pub added_lawful : (s : Scene) (n : ℕ) (more : List Row) → Lawful s → n ≤ 256 → all_fit n more ≡ true → Lawful (added s n more)
added_lawful s n more l few own =
    let m = s.moments in
    record {
      some = omega (arith, l.some);
      few = omega (arith, l.few);
      short = omega (arith, length-take 8192 (s.rows ++ more));
      own = fit_take (max m n) 8192 (s.rows ++ more) (fit_append (max m n) s.rows more (fit_more m (max m n) s.rows (omega arith) l.own) (fit_more n (max m n) more (omega arith) own));
    }

-- joined: the rows of another scene
abbrev pub joined : Scene → Scene → Scene
joined a b = added a b.moments b.rows

-- lawful scenes that are joined are lawful
pub joined_lawful : (a b : Scene) → Lawful a → Lawful b → Lawful (joined a b)
joined_lawful a b l m = added_lawful a b.moments b.rows l m.few m.own

-- what is checked of one row over n moments
abbrev pub of_row : ℕ → Row → List (Check Refusal)
of_row n r = (OutsideScene, names n r ≡ false) ∷ (SetOutOfRange, ranged r ≡ false) ∷ []

-- the checks of each row in turn
abbrev pub row_by_row : ℕ → List Row → List (Check Refusal)
row_by_row n [] = []
row_by_row n (r ∷ rs) = of_row n r ++ row_by_row n rs

-- what is checked of their number
abbrev pub of_count : ℕ → ℕ → List (Check Refusal)
of_count below more = (TooManyRows, (6 < more) ⊎ (8192 < below + more)) ∷ []

-- the checks of an addition: row by row, then their number
abbrev pub adding : Scene → List Row → List (Check Refusal)
adding s more = row_by_row s.moments more ++ of_count (length s.rows) (length more)

-- the check of a joining
abbrev pub joining : Scene → Scene → List (Check Refusal)
joining a b = (TooManyRows, 8192 < length a.rows + length b.rows) ∷ []

-- left out: the rows below without the marked positions
abbrev pub left_out : Scene → List ℕ → Scene
left_out s marks = record { moments = s.moments; rows = without marks s.rows }

-- rows that are left are as lawful as all
pub left_lawful : (s : Scene) (marks : List ℕ) → Lawful s → Lawful (left_out s marks)
left_lawful s marks l =
    record { some = l.some; few = l.few; short = omega (arith, length_without marks s.rows, l.short); own = fit_without s.moments marks s.rows l.own }

-- the scene has the moments below, and the rows that are not marked
abbrev pub LeavesOut : Scene → List ℕ → Scene → Type 0
LeavesOut below marks s = (s.moments ≡ below.moments) × (s.rows ≡ without marks below.rows)

-- the check of a leaving out
abbrev pub leaving_out : List ℕ → List (Check Refusal)
leaving_out marks = (NoSuchRow, low marks ≡ false) ∷ []
