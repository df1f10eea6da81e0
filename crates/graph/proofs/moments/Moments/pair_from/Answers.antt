use Rattle.std.proofs.Common.{◌≡◌, ◌+◌, ◌/◌, ◌%◌, ◌^◌, get_or, subst₂, ap, ◌∙◌, arith}
use lib.Bits.{bit_and}
use Rattle.graph.specs.Sets.{bit, pair}
use Rattle.graph.proofs.BitLaws.{pair_bits}
use Rattle.graph.proofs.moments.Moments.pair_from.Goals as goal

pub returns : goal.returns
returns c =
    let words = c.args.self.now.words in
    let first = c.args.first in
    let word : first / 64 ≡ (first + 1) / 64 = omega (arith, c.requires) in
    let place : first % 64 + 1 ≡ (first + 1) % 64 = omega (arith, c.requires) in
    let v = get_or words (first / 64) 0 in
    ap (λ w. bit_and w 3) c.word_from.ensures
    ∙ subst₂ (λ i j. bit_and (v / 2 ^ (first % 64)) 3 ≡ pair (bit v (first % 64)) (bit (get_or words i 0) j)) word place (pair_bits v (first % 64))
