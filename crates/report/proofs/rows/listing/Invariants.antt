use Rattle.std.proofs.Common.{◌≡◌, ◌++◌, length, drop, string_bytes}
use Rattle.report.specs.Lines.{row_lines, lines}
use Rattle.report.proofs.rows.listing.Given as goal

abbrev pub invariant-loop-position : goal.invariant-loop-position
invariant-loop-position g l =
    string_bytes l.text ++ row_lines (length l.yielded) (drop (length l.yielded) (g.S.Source.scene l.source).rows)
    ≡ lines (g.S.Source.scene l.source).moments (g.S.Source.scene l.source).rows
