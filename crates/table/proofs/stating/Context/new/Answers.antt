use Rattle.scene.proofs.Marking.{no_marks}
use Rattle.table.proofs.stating.Context.new.Goals as goal

pub returns-clause-none : goal.returns-clause-none
returns-clause-none c = no_marks 256
