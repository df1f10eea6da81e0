use Rattle.std.proofs.Common.{◌≡◌, ◌+◌, ◌-◌, List, length, vec_items}
use Rattle.table.specs.declared.commands.Command.{Command}
use Rattle.table.proofs.Reading.{Progress}
use Rattle.table.proofs.reader.read_commands.Given as goal

abbrev pub invariant-loop-command : goal.invariant-loop-command
invariant-loop-command l = (l.context.moments ≡ l.last + 1) × (ks : List Command) × Progress l.bytes l.last l.place l.context.declared (vec_items l.rows) ks

abbrev pub decreases-loop-command : goal.decreases-loop-command
decreases-loop-command l = length l.bytes - l.place
