use Rattle.std.proofs.Common.{◌-◌, sym, ◌∙◌}
use Rattle.chain.specs.Links.{length_links}
use Rattle.chain.proofs.ChainSource.count.Goals as goal

pub returns : goal.returns
returns c = c.last.ensures ∙ sym (length_links 0 (c.args.self.now.moments - 1))
