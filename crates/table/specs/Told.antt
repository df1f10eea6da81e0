-- The answer that a result of the reader tells; want of memory tells none.
use Rattle.std.specs.Prelude.{◌≡◌, ℕ, ◌≤◌, List, length, drop, Ok, Err, vec_items, Result}
use Rattle.std.specs.List.{flat_map}
use Rattle.scene.specs.declared.refusals.Refusal.{Refusal}
use Rattle.table.specs.declared.commands.Command.{Command}
use Rattle.table.specs.declared.reader.ReadError.{ReadError}
use Rattle.table.specs.declared.reader.ReadError.TheVariants.{Refused, NoMemory}
use Rattle.table.specs.declared.reader.Stop.{Stop}
use Rattle.table.specs.declared.tables.Table.{Table}
use Rattle.table.specs.Commands.{encoded, NoCommand, stated}
use Rattle.table.specs.Readings.{Answer, found, refused, Begun, Reads}

-- a value as it is
abbrev pub same : {T : Type 0} → T → T
same x = x

-- a refusal with its place, as an error of the reader
abbrev pub fault_at : ℕ → Refusal → ReadError
fault_at place r = Refused (record { refusal = r; place = place })

-- the answer that the result tells has the property
abbrev pub Told : (Answer → Type 0) → Result Table ReadError → Type 0
Told P (Ok t) = P (found t.moments (vec_items t.rows))
Told P (Err (Refused f)) = P (refused f.refusal f.place)
Told P (Err NoMemory) = Unit {0}

-- the commands that stand up to a place, and the rows that they state
pub record Held (bytes : List ℕ) (c : ℕ) (s : Stop) (ks : List Command) : Type 0 where
  pub begun : Begun bytes c ks (drop s.place bytes)
  pub at : s.place ≡ length (encoded c ks)
  pub within : s.place ≤ length bytes
  pub rows : vec_items s.rows ≡ flat_map stated ks
  pub last : NoCommand (drop s.place bytes)

-- the commands of a table of c + 1 moments up to the first place where no command follows, or the refusal of one
abbrev pub Commanded : List ℕ → ℕ → Result Stop ReadError → Type 0
Commanded bytes c (Ok s) = (ks : List Command) × Held bytes c s ks
Commanded bytes c (Err (Refused f)) = Reads bytes (refused f.refusal f.place)
Commanded bytes c (Err NoMemory) = Unit {0}
