use Rattle.std.proofs.Common.{◌≡◌, ◌/◌, ◌%◌, get_or, ap, ◌∙◌, arith, rules}
use lib.Bits.{bit_or}
use Rattle.graph.specs.Sets.{bit}
use Rattle.graph.proofs.BitLaws.{bit_or_lem, each_word}
use Rattle.graph.proofs.moments.Moments.join.Goals as goal

pub returns : goal.returns
returns c = λ k h.
    let a = c.args.self.words in
    let b = c.args.other.words in
    ap (λ w. bit w (k % 64)) (each_word (λ i. get_or c.from_fn.result i 0 ≡ bit_or (get_or a i 0) (get_or b i 0)) (search rules) (search rules) (search rules) (search rules) (k / 64) (omega arith))
    ∙ bit_or_lem (get_or a (k / 64) 0) (get_or b (k / 64) 0) (k % 64)
