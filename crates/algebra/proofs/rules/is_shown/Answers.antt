use Rattle.std.proofs.Common.{◌∙◌, rules}
use Rattle.std.proofs.lemmas.Iterator.{YieldsList-from_slice}
use Rattle.std.proofs.lemmas.Iterator.Search.{any_from_yields_List}
use Rattle.algebra.specs.Rules.{shows, shown}
use Rattle.algebra.specs.Titles.{thirteen}
use Rattle.algebra.proofs.rules.is_shown.Goals as goal

pub returns : goal.returns
unfolding shown
returns c =
    any_from_yields_List (shows c.args.set c.args.pair c.args.sign) _ _ _ c.any.ensures.ran
    (YieldsList-from_slice thirteen (c.iter.ensures.rest ∙ c.all.ensures.list)) (λ t b q k. search rules)
