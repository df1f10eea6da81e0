-- What the reading of a house table answers.
use Rattle.std.specs.Prelude.{◌≡◌, ℕ, ◌+◌, ◌<◌, ◌≤◌, cond, List, [], ◌∷◌, ◌++◌, length, drop, ◌≢◌, nat_le}
use Rattle.std.specs.List.{flat_map}
use Rattle.algebra.specs.Placements.{Row}
use Rattle.scene.specs.declared.refusals.Refusal.{Refusal}
use Rattle.scene.specs.declared.refusals.Refusal.TheVariants.{TableMalformed, TooManyRows}
use Rattle.scene.specs.Checks.{First}
use Rattle.table.specs.declared.commands.Command.{Command}
use Rattle.table.specs.Commands.{encoding, encoded, NoCommand, stated, declared, of_command, Stand}

-- the moments and rows of the table, or a refusal and its place
pub data Answer : Type 0 where
  found : ℕ → List Row → Answer
  refused : Refusal → ℕ → Answer

-- the bytes begin with no whole first command
abbrev pub NoStart : List ℕ → Type 0
NoStart bytes = (c : ℕ) (rest : List ℕ) → bytes ≢ 0x10 ∷ c ∷ rest

-- they begin with no end
abbrev pub NoEnd : List ℕ → Type 0
NoEnd bytes = (more : List ℕ) → bytes ≢ 0x00 ∷ more

-- they begin with the end, and n bytes follow it
abbrev pub EndBefore : List ℕ → ℕ → Type 0
EndBefore bytes n = (bytes ≡ 0x00 ∷ drop 1 bytes) × (length (drop 1 bytes) ≡ n)

-- the bytes begin with a table of c + 1 moments and these commands, each of which stands
pub record Begun (bytes : List ℕ) (c : ℕ) (ks : List Command) (rest : List ℕ) : Type 0 where
  pub short : length bytes ≤ 32768
  pub cut : bytes ≡ encoded c ks ++ rest
  pub stand : Stand (c + 1) [] ks

-- the answer once the end has come: by the bytes after it, which begin at the place given, and by the number of rows
abbrev pub closed : ℕ → List Command → ℕ → List ℕ → Answer
closed n ks place [] = cond (nat_le (length (flat_map stated ks)) 4096) (found n (flat_map stated ks)) (refused TooManyRows 0)
closed n ks place (b ∷ more) = refused TableMalformed place

-- the answer where commands over n moments stand, and what follows them stops the reading
pub data Stops (n : ℕ) (ks : List Command) (place : ℕ) (rest : List ℕ) : Answer → Type 0 where
  -- neither a whole command nor the end follows
  malformed : NoCommand rest → NoEnd rest → Stops n ks place rest (refused TableMalformed place)
  -- a command follows that does not stand
  struck : (k : Command) (more : List ℕ) {r : Refusal} → rest ≡ encoding k ++ more → First (of_command n (declared ks) k) r → Stops n ks place rest (refused r place)
  -- the end follows
  ended : (more : List ℕ) → rest ≡ 0x00 ∷ more → Stops n ks place rest (closed n ks (place + 1) more)

-- the answer to any bytes
pub data Reads (bytes : List ℕ) : Answer → Type 0 where
  too_long : 32768 < length bytes → Reads bytes (refused TableMalformed 0)
  no_start : length bytes ≤ 32768 → NoStart bytes → Reads bytes (refused TableMalformed 0)
  stopped : (c : ℕ) (ks : List Command) (rest : List ℕ) {a : Answer} → Begun bytes c ks rest → Stops (c + 1) ks (length (encoded c ks)) rest a → Reads bytes a

-- there is no other answer
abbrev pub Only : List ℕ → Answer → Type 0
Only bytes a = (b : Answer) → Reads bytes b → b ≡ a
