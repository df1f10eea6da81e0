use Rattle.table.proofs.Closing.{only_told}
use Rattle.table.proofs.reader.read_table.Goals as goal

pub returns-clause-only : goal.returns-clause-only
returns-clause-only c = only_told c.args.bytes.now c.read.result c.read.ensures
