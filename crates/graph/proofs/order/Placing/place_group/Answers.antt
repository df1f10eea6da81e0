use Rattle.std.proofs.Common.{◌≡◌, ℕ, ◌+◌, Bool, ◌&&◌, set, sym, ap, ◌∙◌, subst, arith}
use Rattle.std.proofs.lemmas.List.{set-get_or}
use Rattle.graph.specs.declared.order.Entry.{Entry}
use Rattle.graph.specs.Free.{Grouped}
use Rattle.graph.specs.Reaching.{reaches}
use Rattle.graph.specs.Sets.{holds}
use Rattle.graph.proofs.Moves.{Marks, grouped_set, grouped_kept, marks_set, marks_kept}
use Rattle.graph.proofs.order.Placing.place_group.Goals as goal
use Rattle.graph.proofs.order.Placing.place_group.Goals.{then-same_group, else-same_group}

pub loop-m-preserved : goal.loop-m-preserved
loop-m-preserved g c =
    let t = reaches c.args.self.now.reached.now.closure.matrix.rows in
    let l = c.args.leader in
    let P : ℕ → Bool = λ x. t l x && t x l in
    let e : Entry = record { place = c.args.place; leader = l } in
    let old = c.args.entries.now in
    let marked = holds c.args.self.now.placed in
    let i = c.loop-m.m in
    let cur = c.loop-m.entries in
    let now = holds c.loop-m.self.placed in
    let inv = c.loop-m.invariant in
    let told : P i ≡ c.same_group.result = ap (λ r. reaches r.closure.matrix.rows l i && reaches r.closure.matrix.rows i l) (sym inv.0) ∙ sym c.same_group.ensures in
    elim c.if-same_group.branch [
      | then-same_group w ↦ (
        ap (λ s. s.reached.now) w.self-is ∙ inv.0,
        subst (λ v. Grouped t (i + 1) l e old v) (sym (w.entries-is ∙ ap (set cur i) w.new.ensures)) (grouped_set t l e old cur i inv.1 (omega arith) (told ∙ w.if-same_group.true)),
        subst (λ s. Marks P marked (i + 1) (holds s.placed)) (sym w.self-is) (marks_set P marked now (holds w.put.new.self) i (told ∙ w.if-same_group.true) w.put.ensures inv.2),
      )
      | else-same_group w ↦ (
        ap (λ s. s.reached.now) w.self-is ∙ inv.0,
        subst (λ v. Grouped t (i + 1) l e old v) (sym (w.entries-is ∙ set-get_or cur i _)) (grouped_kept t l e old cur i inv.1 (told ∙ w.if-same_group.false)),
        subst (λ s. Marks P marked (i + 1) (holds s.placed)) (sym w.self-is) (marks_kept P marked now i (told ∙ w.if-same_group.false) inv.2),
      )
    ]
