use Rattle.std.proofs.Common.{◌≡◌, ◌+◌, refl, subst, arith}
use Rattle.graph.specs.Reaching.{reaches}
use Rattle.graph.specs.Within.{TellsWithin}
use Rattle.graph.proofs.Passing.{within_none, within_all}
use Rattle.graph.proofs.closure.Matrix.close.Goals as goal

pub loop-first-init : goal.loop-first-init
loop-first-init c = (refl, omega arith, λ rs tells. within_none (reaches c.args.self.now.rows) rs tells)

pub loop-first-preserved : goal.loop-first-preserved
loop-first-preserved c = (omega (arith, c.loop-first.invariant.0), omega arith, λ rs tells. c.pass_pair.ensures rs (c.loop-first.invariant.2 rs tells))

pub returns : goal.returns
returns c = absurd (omega (arith, c.loop-first.invariant.0))

pub returns-2 : goal.returns-2
returns-2 c = λ rs inside tells.
    let all : c.loop-first.first + 2 ≡ 256 = omega (arith, c.loop-first.invariant.0) in
    within_all (reaches c.pass_pair.new.self.rows) rs inside (subst (λ k. TellsWithin (reaches c.pass_pair.new.self.rows) rs k) all (c.pass_pair.ensures rs (c.loop-first.invariant.2 rs tells)))
