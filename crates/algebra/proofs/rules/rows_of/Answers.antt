use Rattle.std.proofs.Common.{Some, rules}
use Rattle.algebra.proofs.Sets.{exact_from}
use Rattle.algebra.proofs.rules.rows_of.Goals as goal

pub returns-clause-exact : goal.returns-clause-exact
returns-clause-exact c = exact_from c.args.x c.args.set c.args.y (Some c.rows_with.result) (search rules)
