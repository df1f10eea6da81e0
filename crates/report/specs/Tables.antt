-- What is printed of a house table.
use Rattle.std.specs.Prelude.{◌≡◌, ℕ, List, [], ◌∷◌, ◌++◌, length, codes, decimal}
use Rattle.std.specs.List.{flat_map}
use Rattle.algebra.specs.Placements.{Row}
use Rattle.scene.specs.declared.refusals.Refusal.{Refusal}
use Rattle.scene.specs.Refusals.{number_of}
use Rattle.table.specs.Readings.{Answer, found, refused, Reads}
use Rattle.table.specs.Writings.{written}
use Rattle.report.specs.Lines.{lines, hexed}

-- the moments and rows, then the table's bytes as they are written back
abbrev pub found_text : ℕ → List Row → List ℕ
found_text n rows = lines n rows ++ (codes "written" ++ (9 ∷ (decimal (length (written n rows)) ++ (9 ∷ (flat_map hexed (written n rows) ++ (10 ∷ []))))))

-- the refusal's number, and its place
abbrev pub refused_text : Refusal → ℕ → List ℕ
refused_text r place = codes "refused" ++ (9 ∷ (decimal (number_of r) ++ (9 ∷ (decimal place ++ (10 ∷ [])))))

-- the text of an answer
abbrev pub text_of : Answer → List ℕ
text_of (found n rows) = found_text n rows
text_of (refused r place) = refused_text r place

-- the text is that of the answer to the bytes
abbrev pub Shown : List ℕ → List ℕ → Type 0
Shown bytes text = (a : Answer) × Reads bytes a × (text ≡ text_of a)
