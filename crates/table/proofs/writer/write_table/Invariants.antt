use Rattle.std.proofs.Common.{◌≡◌, ◌+◌, ◌-◌, ◌*◌, ◌++◌, map, length, take, drop}
use Rattle.table.specs.Commands.{encoded}
use Rattle.table.specs.Writings.{row_command}
use Rattle.table.proofs.writer.write_table.Given as goal

abbrev pub invariant-loop-i : goal.invariant-loop-i
invariant-loop-i g l =
    l.out ≡ encoded ((g.S.Source.scene l.source).moments - 1) (map row_command (take (length l.yielded) (g.S.Source.scene l.source).rows)) ++ drop (2 + 4 * length l.yielded) l.initial.out
