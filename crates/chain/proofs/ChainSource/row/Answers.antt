use Rattle.std.proofs.Common.{◌-◌, ltb, ap, ◌∙◌, rules}
use Rattle.chain.proofs.Rows.{row_where}
use Rattle.chain.proofs.ChainSource.row.Goals as goal

pub returns : goal.returns
returns c =
    let k = c.args.position in
    row_where (c.args.self.now.moments - 1) k _ c.then.result (c.then.ensures.variant ∙ ap (ltb k) c.last.ensures) c.then.ensures.some (λ x p. search rules)
