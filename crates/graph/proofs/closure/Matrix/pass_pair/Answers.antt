use Rattle.std.proofs.Common.{◌+◌, ◌||◌, [], ◌∷◌, refl, ap, ◌∙◌, arith, length-set}
use Rattle.graph.specs.Reaching.{reaches}
use Rattle.graph.specs.Sets.{holds}
use Rattle.graph.proofs.Growth.{change_more, chosen, paired}
use Rattle.graph.proofs.Passing.{within_pair}
use Rattle.graph.proofs.closure.Matrix.pass_pair.Goals as goal

pub loop-row-preserved : goal.loop-row-preserved
loop-row-preserved c =
    let old = c.args.self.now.rows in
    let x = c.loop-row.row-index in
    let unions = c.none.result ∷ c.follow-2.new.self ∷ c.follow.new.self ∷ c.join.result ∷ [] in (
      simp length-set c.loop-row.invariant.0,
      change_more old c.loop-row.row-items (paired (reaches old) unions c.args.first) x c.join-in-loop-row.result c.loop-row.invariant.1 (omega arith)
          (λ y hy. c.join-in-loop-row.ensures y hy ∙ rw (c.pair_from.ensures, c.loop-row.invariant.1.1 x (omega arith)) refl),
    )

pub returns : goal.returns
returns c = λ rs tells.
    let t = reaches c.args.self.now.rows in
    let k = c.args.first in
    within_pair t (reaches c.loop-row.row-items) (holds c.follow-2.new.self) (holds c.follow.new.self) rs k (omega (arith, c.requires)) c.follow.ensures c.follow-2.ensures
    (λ x y hx hy. c.loop-row.invariant.1.0 x (omega arith) y hy
    ∙ ap (λ b. t x y || b) (chosen c.none.result c.follow-2.new.self c.follow.new.self c.join.result y (c.none.ensures y hy) (c.join.ensures y hy) (t x k) (t x (k + 1))))
    tells
