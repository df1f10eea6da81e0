use Rattle.std.proofs.Common.{◌+◌, min, length, ap, ◌∙◌}
use Rattle.scene.proofs.Pile.{pile_length}
use Rattle.scene.proofs.joined.JoinedSource.count.Goals as goal

pub returns : goal.returns
returns g c =
    let a = (g.S.Source.scene c.args.self.now.first.now).rows in
    let b = (g.T.Source.scene c.args.self.now.second.now).rows in
    pile_length a b c.pile_count.result (c.pile_count.ensures ∙ ap (λ n. min (length a + n) 8192) c.count.ensures)
