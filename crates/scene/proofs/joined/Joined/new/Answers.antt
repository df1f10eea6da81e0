use Rattle.std.proofs.Common.{◌+◌, length, refl, arith}
use Rattle.scene.proofs.Pile.{at_most, pile_whole}
use Rattle.scene.proofs.joined.Joined.new.Goals as goal

pub returns : goal.returns
returns g c =
    let a = (g.S.Source.scene c.args.first.now).rows in
    let b = (g.T.Source.scene c.args.second.now).rows in
    let few = at_most 8192 (length a + c.count.result) c.in_ok-check_pile.ensures.0.0 in
    (((λ h. omega arith), tt), (refl, pile_whole a b (omega arith)))
