use Rattle.std.proofs.Common.{Decides, sym, subst, rules}
use Rattle.std.proofs.lemmas.Iterator.Search.{any_from_yields_List}
use Rattle.scene.proofs.Rows.{all_rows}
use Rattle.graph.specs.Clashes.{SomeImpossible}
use Rattle.graph.specs.Reaching.{reaches}
use Rattle.graph.proofs.Tables.{tells_again}
use Rattle.graph.proofs.Verdict.{impossible_by, some_told}
use Rattle.graph.proofs.consistency.Reached.has_impossible_row.Goals as goal

pub returns : goal.returns
returns g c =
    let source = c.args.self.now.source.now in
    let s = g.S.Source.scene source in
    let law = g.S.Source.lawful source in
    let t = reaches c.args.self.now.closure.matrix.rows in
    let any = any_from_yields_List (impossible_by t) c.any.new.self _ c.any.result c.any.ensures.ran (all_rows g.S.Source.scene source (cc) (cc)) (λ row b q k. search rules) in
    subst (λ b. Decides b (SomeImpossible s.rows s.rows)) (sym any) (some_told t s.rows (tells_again s.moments s.rows law t c.args.self.now.tells) s.moments law.few s.rows law.own)
