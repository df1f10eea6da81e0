use Rattle.std.proofs.Common.{◌≡◌, ℕ, ◌+◌, Bool, false, get_or, set, sym, ap, ◌∙◌, subst, arith}
use Rattle.scene.specs.Marks.{missed}
use Rattle.scene.proofs.Marking.{Turned, not_turned, turned_hit, turned_open}
use Rattle.scene.proofs.left_out.find_remaining.Goals as goal
use Rattle.scene.proofs.left_out.find_remaining.Goals.{then-not-marked, else-not-marked}

pub loop-k-init : goal.loop-k-init
loop-k-init c = not_turned (λ k. get_or c.args.table.now k false)

pub loop-k-preserved : goal.loop-k-preserved
loop-k-preserved c =
    let hit : ℕ → Bool = λ k. get_or c.args.table.now k false in
    let l = c.loop-k in
    elim c.if-not-marked.branch [
      | then-not-marked w ↦ subst (λ n. Turned hit c.if-not-marked.positions (set l.ranks (l.k + 1) n) n (l.k + 1)) (sym w.open-is)
          (subst (λ ps. Turned hit ps (set l.ranks (l.k + 1) (l.open + 1)) (l.open + 1) (l.k + 1)) (sym w.positions-is)
          (turned_open hit l.positions l.ranks l.open l.k l.invariant (omega arith) w.if-not-marked.true))
      | else-not-marked w ↦ subst (λ n. Turned hit c.if-not-marked.positions (set l.ranks (l.k + 1) n) n (l.k + 1)) (sym w.open-is)
          (subst (λ ps. Turned hit ps (set l.ranks (l.k + 1) l.open) l.open (l.k + 1)) (sym w.positions-is)
          (turned_hit hit l.positions l.ranks l.open l.k l.invariant (omega arith) w.if-not-marked.false))
    ]

pub returns : goal.returns
returns c =
    let hit : ℕ → Bool = λ k. get_or c.args.table.now k false in
    let inv = c.loop-k.invariant in
    let e : c.loop-k.k ≡ 4096 = omega arith in
    let n : c.loop-k.open ≡ missed hit 0 4096 = inv.counted ∙ ap (missed hit 0) e in
    record {
      ranked = λ k h. inv.ranked k (omega arith);
      «open» = λ k h. inv.untouched k (omega arith);
      sequence = λ k h. inv.sequence k (omega arith);
    }
