-- What the commands of a house table are in bytes, which rows they state, and what is checked of each.
use Rattle.std.specs.Prelude.{◌≡◌, ℕ, ◌+◌, ◌*◌, Bool, false, ◌&&◌, ◌||◌, List, [], ◌∷◌, ◌++◌, length, drop, ◌==◌, nat_le, nat_lt}
use Rattle.std.specs.List.{flat_map}
use Rattle.algebra.specs.Placements.{Row}
use Rattle.algebra.specs.Rules.{pointisable, ruled}
use Rattle.algebra.specs.Titles.{rise, fall}
use Rattle.scene.specs.declared.refusals.Refusal.{Refusal}
use Rattle.scene.specs.declared.refusals.Refusal.TheVariants.{OperandOutOfRange, TitleUndeclared, NotPointisable}
use Rattle.scene.specs.Checks.{Check, Clear}
use Rattle.scene.specs.Scenes.{names, ranged}
use Rattle.table.specs.declared.commands.Command.{Command}
use Rattle.table.specs.declared.commands.Command.TheVariants.{Row as row, Title as title, Rule as rule}

-- the bytes of a command: what it is, then its operands
abbrev pub encoding : Command → List ℕ
encoding (row a s b) = 0x01 ∷ a ∷ s ∷ b ∷ []
encoding (title t) = 0x03 ∷ t ∷ []
encoding (rule t h l u) = 0x02 ∷ t ∷ h ∷ l ∷ u ∷ []

-- a table of c + 1 moments up to its end: the first command, then the others
abbrev pub encoded : ℕ → List Command → List ℕ
encoded c ks = 0x10 ∷ c ∷ flat_map encoding ks

-- the bytes begin with the command
abbrev pub Begins : List ℕ → Command → Type 0
Begins bytes k = bytes ≡ encoding k ++ drop (length (encoding k)) bytes

-- they begin with no whole command
abbrev pub NoCommand : List ℕ → Type 0
NoCommand bytes = (k : Command) → Begins bytes k → ⊥

-- the set of a rule, from its two bytes
abbrev pub set_of : ℕ → ℕ → ℕ
set_of h l = 256 * h + l

-- the rows that a command states
abbrev pub stated : Command → List Row
stated (row a s b) = (a, s, b) ∷ []
stated (title t) = (rise t, 1, fall t) ∷ []
stated (rule t h l u) = ruled t (set_of h l) u

-- whether both moments of a title are among n
abbrev pub has_title : ℕ → ℕ → Bool
has_title n t = nat_lt (fall t) n

-- whether the command declares the title
abbrev pub declares : Command → ℕ → Bool
declares (row a s b) t = false
declares (title u) t = u == t
declares (rule u h l v) t = false

-- whether one of the commands does
abbrev pub declared : List Command → ℕ → Bool
declared [] t = false
declared (k ∷ ks) t = declares k t || declared ks t

-- what is checked of a rule over n moments, where some titles were declared before
abbrev pub of_rule : ℕ → (ℕ → Bool) → ℕ → ℕ → ℕ → List (Check Refusal)
of_rule n known t set u =
    (OperandOutOfRange, ((nat_le 1 set && nat_le set 8191) && (has_title n t && has_title n u)) ≡ false)
    ∷ (TitleUndeclared, (known t && known u) ≡ false)
    ∷ (NotPointisable, pointisable set ≡ false)
    ∷ []

-- the same of any command
abbrev pub of_command : ℕ → (ℕ → Bool) → Command → List (Check Refusal)
of_command n known (row a s b) = (OperandOutOfRange, (names n (a, s, b) && ranged (a, s, b)) ≡ false) ∷ []
of_command n known (title t) = (OperandOutOfRange, has_title n t ≡ false) ∷ []
of_command n known (rule t h l u) = of_rule n known t (set_of h l) u

-- no check of a command strikes, where the earlier ones are those before it
abbrev pub Stand : ℕ → List Command → List Command → Type 0
Stand n earlier [] = Unit {0}
Stand n earlier (k ∷ ks) = Clear (of_command n (declared earlier) k) × Stand n (earlier ++ k ∷ []) ks
