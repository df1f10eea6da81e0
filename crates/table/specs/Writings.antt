-- What the writer puts into the caller's list.
use Rattle.std.specs.Prelude.{ℕ, ◌+◌, ◌-◌, ◌*◌, ◌<◌, List, [], ◌∷◌, ◌++◌, map, length, drop}
use Rattle.algebra.specs.Placements.{Row}
use Rattle.scene.specs.declared.refusals.Refusal.{Refusal}
use Rattle.scene.specs.declared.refusals.Refusal.TheVariants.{TooManyRows, ListTooShort}
use Rattle.scene.specs.Checks.{Check}
use Rattle.table.specs.declared.commands.Command.{Command}
use Rattle.table.specs.declared.commands.Command.TheVariants.{Row as row}
use Rattle.table.specs.Commands.{encoded}

-- the command that states just the row
abbrev pub row_command : Row → Command
row_command r = row r.0 r.1 r.2

-- moments and rows as a house table
abbrev pub written : ℕ → List Row → List ℕ
written n rows = encoded (n - 1) (map row_command rows) ++ 0x00 ∷ []

-- a list with bytes written over its start
abbrev pub over : List ℕ → List ℕ → List ℕ
over bytes xs = bytes ++ drop (length bytes) xs

-- what is checked of the rows
abbrev pub of_rows : List Row → List (Check Refusal)
of_rows rows = (TooManyRows, 4096 < length rows) ∷ []

-- what is checked of the list's length
abbrev pub of_room : ℕ → ℕ → List (Check Refusal)
of_room rows room = (ListTooShort, room < 3 + 4 * rows) ∷ []

-- both, in their sequence
abbrev pub writing : List Row → ℕ → List (Check Refusal)
writing rows room = of_rows rows ++ of_room (length rows) room
