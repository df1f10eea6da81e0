use Rattle.scene.proofs.Pile.{pile_length}
use Rattle.scene.proofs.added.AddedSource.count.Goals as goal

pub returns : goal.returns
returns g c = pile_length (g.S.Source.scene c.args.self.now.below.now).rows c.args.self.now.more.now c.pile_count.result c.pile_count.ensures
