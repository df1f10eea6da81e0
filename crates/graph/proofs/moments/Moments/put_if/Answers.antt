use Rattle.std.proofs.Common.{◌≡◌, length, arith, rules}
use Rattle.graph.proofs.BitLaws.{bit_put}
use Rattle.graph.proofs.moments.Moments.put_if.Goals as goal

pub returns : goal.returns
returns c = λ k h.
    let l : length c.args.self.now.words ≡ 4 = search rules in
    bit_put c.args.self.now.words c.args.told c.args.moment k (omega arith)
