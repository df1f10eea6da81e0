-- The rows that a statement holds.
use Rattle.std.specs.Prelude.{List, [], ◌∷◌}
use Rattle.algebra.specs.Placements.{Row}
use Rattle.table.specs.declared.stating.Statement.{Statement}
use Rattle.table.specs.declared.stating.Statement.TheVariants.{One, Four}

-- the rows, one or four
abbrev pub rows_in : Statement → List Row
rows_in (One r) = r ∷ []
rows_in (Four rs) = rs
