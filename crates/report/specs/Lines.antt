-- Rows as lines of text.
use Rattle.std.specs.Prelude.{ℕ, ◌+◌, ◌/◌, ◌%◌, false, cond, List, [], ◌∷◌, ◌++◌, map, codes, decimal, filter}
use Rattle.std.specs.Fmt.{digit_glyph}
use Rattle.algebra.specs.declared.points.Relation.{Relation}
use Rattle.algebra.specs.declared.points.Relation.TheVariants.{Before, Together, After}
use Rattle.algebra.specs.Points.{word_of, has}
use Rattle.algebra.specs.Placements.{Row}

-- texts with " or " between neighbours
abbrev pub or_joined : List (List ℕ) → List ℕ
or_joined [] = []
or_joined (w ∷ []) = w
or_joined (w ∷ v ∷ ws) = w ++ (codes " or " ++ or_joined (v ∷ ws))

-- the relations of a set in words, before and together and after in this sequence
abbrev pub words : ℕ → List ℕ
words set = or_joined (map word_of (filter (has set) (Before ∷ Together ∷ After ∷ [])))

-- a text that another word may follow
abbrev pub before_more : List ℕ → List ℕ
before_more [] = []
before_more (b ∷ bs) = (b ∷ bs) ++ codes " or "

-- a text with the word of a relation after it, if the set holds the relation
abbrev pub with_relation : List ℕ → ℕ → Relation → List ℕ
with_relation text set q = cond (has set q) (before_more text ++ word_of q) text

-- a row at a position, on a line
abbrev pub row_line : ℕ → Row → List ℕ
row_line k r = decimal k ++ (9 ∷ (decimal r.0 ++ (9 ∷ (words r.1 ++ (9 ∷ (decimal r.2 ++ (10 ∷ [])))))))

-- rows from a position on, a line each
abbrev pub row_lines : ℕ → List Row → List ℕ
row_lines k [] = []
row_lines k (r ∷ rs) = row_line k r ++ row_lines (k + 1) rs

-- the number of moments on a line, then the rows
abbrev pub lines : ℕ → List Row → List ℕ
lines n rows = (codes "moments" ++ (9 ∷ (decimal n ++ (10 ∷ [])))) ++ row_lines 0 rows

-- a byte as two lower-case hexadecimal digits
abbrev pub hexed : ℕ → List ℕ
hexed b = digit_glyph false (b / 16) ∷ digit_glyph false (b % 16) ∷ []
