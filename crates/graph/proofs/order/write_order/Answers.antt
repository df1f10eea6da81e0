use Rattle.std.proofs.Common.{◌≡◌, MatchOption, subst, arith}
use Rattle.scene.specs.Scenes.{Agree, Clash}
use Rattle.graph.specs.Orders.{Ordered}
use Rattle.graph.proofs.Outcome.{one_order, ordered_owed}
use Rattle.graph.proofs.order.write_order.Goals as goal

pub returns-then-entries-moments-clause-one : goal.returns-then-entries-moments-clause-one
returns-then-entries-moments-clause-one g c = one_order (g.S.Source.scene c.args.source.now) (g.S.Source.lawful c.args.source.now)

pub returns-in_err-reached-clause-one : goal.returns-in_err-reached-clause-one
returns-in_err-reached-clause-one g c = one_order (g.S.Source.scene c.args.source.now) (g.S.Source.lawful c.args.source.now)

pub returns-clause-one : goal.returns-clause-one
returns-clause-one g c = one_order (g.S.Source.scene c.args.source.now) (g.S.Source.lawful c.args.source.now)

pub returns-clause-answer : goal.returns-clause-answer
returns-clause-answer g c =
    let s = g.S.Source.scene c.args.source.now in
    let es = c.place_all.new.entries in
    let k = c.place_all.result in
    let e = subst (λ o. MatchOption o (Clash s.rows) (λ r. Agree s.rows × (r.source.now ≡ c.args.source.now))) c.in_ok-reached.ensures.ok_part c.without_clash.ensures in
    let o = subst (λ v. Ordered (g.S.Source.scene v).moments (g.S.Source.scene v).rows es k) e.1 c.place_all.ensures.order in
    (((λ h. omega (arith, h, c.if-entries-moments.false, c.moments.ensures)), ((λ h. h e.0), tt)), ordered_owed s (g.S.Source.lawful c.args.source.now) es k o e.0)
