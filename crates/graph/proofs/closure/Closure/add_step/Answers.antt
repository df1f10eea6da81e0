use Rattle.std.proofs.Common.{◌<◌, sym, arith}
use Rattle.graph.specs.Reaching.{grown, reaches}
use Rattle.graph.specs.Steps.{Step}
use Rattle.graph.proofs.Closed.{Same, grown_known, grown_selfs, grown_joins, same_tells}
use Rattle.graph.proofs.Tables.{right_grown}
use Rattle.graph.proofs.closure.Closure.add_step.Goals as goal

pub returns-then-reaches : goal.returns-then-reaches
returns-then-reaches c =
    let t = reaches c.args.self.now.matrix.rows in
    let p : c.args.from < 256 = omega arith in
    let q : c.args.to < 256 = omega arith in
    let known : Same t (grown t c.args.from c.args.to) = grown_known t t c.args.from c.args.to p q c.args.self.now.joins (sym c.if-reaches.ensures) in
    record {
      grown = known;
      paths = λ rs tells. same_tells t (grown t c.args.from c.args.to) known (right_grown t (Step rs) c.args.from c.args.to p q tells);
    }

pub invariant_of-self : goal.invariant_of-self
invariant_of-self c =
    let t = reaches c.args.self.now.matrix.rows in
    let u = reaches c.grow.new.self.rows in
    let p : c.args.from < 256 = omega arith in
    let q : c.args.to < 256 = omega arith in
    let joins = c.args.self.now.joins in
    record {
      selfs = grown_selfs t u c.args.from c.args.to p q joins c.grow.ensures c.args.self.now.selfs;
      joins = grown_joins t u c.args.from c.args.to p q joins c.grow.ensures;
    }

pub returns : goal.returns
returns c =
    let t = reaches c.args.self.now.matrix.rows in
    let u = reaches c.grow.new.self.rows in
    let p : c.args.from < 256 = omega arith in
    let q : c.args.to < 256 = omega arith in
    record {
      grown = c.grow.ensures;
      paths = λ rs tells. same_tells u (grown t c.args.from c.args.to) c.grow.ensures (right_grown t (Step rs) c.args.from c.args.to p q tells);
    }
