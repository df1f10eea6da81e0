-- The number of each refusal.
use Rattle.std.specs.Prelude.{ℕ}
use Rattle.scene.specs.declared.refusals.Refusal.{Refusal}
use Rattle.scene.specs.declared.refusals.Refusal.TheVariants.{SheetTooLong, HeaderWrong, LineMalformed, CueNumberWrong, ItemMalformed, NotPointisable, TitleNotInSheet, TitleCountWrong, TableMalformed, OperandOutOfRange, TitleUndeclared, OutsideScene, SetOutOfRange, TooManyRows, ListTooShort, MomentCountWrong, NoSuchRow, PencilStands, SlipMismatch, BookFull, NumbersSpent, Clash}

-- the number by which people know a refusal
abbrev pub number_of : Refusal → ℕ
number_of SheetTooLong = 1
number_of HeaderWrong = 2
number_of LineMalformed = 3
number_of CueNumberWrong = 4
number_of ItemMalformed = 5
number_of NotPointisable = 6
number_of TitleNotInSheet = 7
number_of TitleCountWrong = 8
number_of TableMalformed = 9
number_of OperandOutOfRange = 10
number_of TitleUndeclared = 11
number_of OutsideScene = 12
number_of SetOutOfRange = 13
number_of TooManyRows = 14
number_of ListTooShort = 15
number_of MomentCountWrong = 16
number_of NoSuchRow = 17
number_of PencilStands = 18
number_of SlipMismatch = 19
number_of BookFull = 20
number_of NumbersSpent = 21
number_of Clash = 22
