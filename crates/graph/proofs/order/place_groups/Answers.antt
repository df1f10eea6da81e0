use Rattle.std.proofs.Common.{◌∙◌, ap}
use Rattle.graph.specs.Reaching.{reaches}
use Rattle.graph.specs.Sets.{holds}
use Rattle.graph.proofs.Progress.{state_start, next_state, last_state}
use Rattle.graph.proofs.order.place_groups.Goals as goal

pub loop-leader-init : goal.loop-leader-init
loop-leader-init g c =
    let s = g.S.Source.scene c.args.reached.now.source.now in
    (c.new-placing.ensures.same, state_start s.moments s.rows c.args.entries.now (holds c.new-placing.result.placed) c.new-placing.ensures.none)

pub loop-leader-smaller : goal.loop-leader-smaller
loop-leader-smaller g c =
    let p = c.loop-leader.placing in
    let r = p.reached.now in
    let is = ap (λ v. g.S.Source.scene v.source.now) c.loop-leader.invariant.0 in
    (next_state (g.S.Source.scene r.source.now) _ (g.S.Source.lawful r.source.now) is (reaches r.closure.matrix.rows) r.tells (reaches p.back.matrix.rows) p.back_tells
    c.args.entries.now c.loop-leader.entries (holds p.placed) c.loop-leader.places
    c.in-Some.leader c.in-Some.ensures c.place_group.new.entries (holds c.place_group.new.self.placed) _ (c.loop-leader.auto.entries ∙ c.requires)
    c.place_group.ensures.written c.place_group.ensures.marks c.loop-leader.invariant.1).1

pub loop-leader-preserved : goal.loop-leader-preserved
loop-leader-preserved g c =
    let p = c.loop-leader.placing in
    let r = p.reached.now in
    let is = ap (λ v. g.S.Source.scene v.source.now) c.loop-leader.invariant.0 in (
      c.place_group.ensures.kept ∙ c.loop-leader.invariant.0,
      (next_state (g.S.Source.scene r.source.now) _ (g.S.Source.lawful r.source.now) is (reaches r.closure.matrix.rows) r.tells (reaches p.back.matrix.rows) p.back_tells
          c.args.entries.now c.loop-leader.entries (holds p.placed) c.loop-leader.places
          c.in-Some.leader c.in-Some.ensures c.place_group.new.entries (holds c.place_group.new.self.placed) _ (c.loop-leader.auto.entries ∙ c.requires)
          c.place_group.ensures.written c.place_group.ensures.marks c.loop-leader.invariant.1).0,
    )

pub returns : goal.returns
returns g c =
    let p = c.loop-leader.placing in
    let r = p.reached.now in
    let is = ap (λ v. g.S.Source.scene v.source.now) c.loop-leader.invariant.0 in
    record {
      order = last_state (g.S.Source.scene r.source.now) _ (g.S.Source.lawful r.source.now) is (reaches r.closure.matrix.rows) r.tells (reaches p.back.matrix.rows) p.back_tells
          c.args.entries.now c.loop-leader.entries (holds p.placed) c.loop-leader.places c.in_default.ensures c.loop-leader.invariant.1;
      rest = c.loop-leader.invariant.1.rest;
    }
