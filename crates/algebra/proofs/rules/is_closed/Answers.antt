use Rattle.std.proofs.Common.{◌∙◌, rules}
use Rattle.std.proofs.lemmas.Iterator.{YieldsList-from_slice}
use Rattle.std.proofs.lemmas.Iterator.Search.{all_from_yields_List}
use Rattle.algebra.specs.Rules.{settled, closed}
use Rattle.algebra.specs.Titles.{thirteen}
use Rattle.algebra.proofs.rules.is_closed.Goals as goal

pub returns : goal.returns
unfolding closed
returns c =
    all_from_yields_List (settled c.args.set) _ _ _ c.all-2.ensures.ran
    (YieldsList-from_slice thirteen (c.iter.ensures.rest ∙ c.all.ensures.list)) (λ t b q k. search rules)
