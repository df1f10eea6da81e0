use Rattle.std.proofs.Common.{refl, ◌∙◌, arith, length-set}
use Rattle.graph.specs.Reaching.{grown, reaches}
use Rattle.graph.proofs.Growth.{change_more}
use Rattle.graph.proofs.closure.Matrix.grow.Goals as goal

pub loop-row-preserved : goal.loop-row-preserved
loop-row-preserved c =
    let old = c.args.self.now.rows in
    let x = c.loop-row.row-index in (
      simp length-set c.loop-row.invariant.0,
      change_more old c.loop-row.row-items (grown (reaches old) c.args.p c.args.q) x c.follow.new.self c.loop-row.invariant.1 (omega arith)
          (λ y hy. c.follow.ensures y hy ∙ rw (c.loop-row.invariant.1.1 x (omega arith)) refl),
    )
