use Rattle.std.proofs.Common.{◌||◌, eqb, replicate, sym, ap, ◌∙◌, arith, length-set}
use Rattle.std.proofs.lemmas.List.{get_or-replicate}
use Rattle.graph.specs.Sets.{holds}
use Rattle.graph.specs.Reaching.{none}
use Rattle.graph.proofs.BitLaws.{same_test}
use Rattle.graph.proofs.Growth.{change_more}
use Rattle.graph.proofs.closure.Matrix.alone.Goals as goal

pub loop-x-preserved : goal.loop-x-preserved
loop-x-preserved c =
    let x = c.loop-x.x in (
      simp length-set c.loop-x.invariant.0,
      change_more (replicate 256 c.none-rows.result) c.loop-x.row-items eqb x c.put.new.self c.loop-x.invariant.1 (omega arith)
          (λ y hy. c.put.ensures y hy
          ∙ ap (λ s. holds s y || eqb y x) (c.loop-x.invariant.1.1 x (omega arith) ∙ get_or-replicate 256 x c.none-rows.result none (omega arith))
          ∙ ap (λ b. b || eqb y x) (c.none-rows.ensures y hy) ∙ same_test y x x y sym sym),
    )
