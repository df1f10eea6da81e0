use Rattle.std.proofs.Common.{ℕ, Bool, false, get_or}
use Rattle.scene.specs.Marks.{marked, low}
use Rattle.scene.proofs.Marking.{missed_le, ranked_as, open_as, turn_as}
use Rattle.scene.proofs.RowByRow.{is_true}
use Rattle.scene.proofs.left_out.LeftOut.new.Goals as goal

pub invariant_of-result : goal.invariant_of-result
invariant_of-result g c =
    let marks = c.args.marks.now in
    let hit : ℕ → Bool = λ k. get_or c.in_ok-table.table k false in
    let told = c.in_ok-table.ensures in
    let found = c.find_remaining.ensures in
    let r = c.find_remaining.result in
    record {
      markable = is_true (low marks) told.0.0;
      ranked = ranked_as hit (marked marks) told.1 r.ranks 4096 found.ranked;
      «open» = open_as hit (marked marks) told.1 r.positions 4096 found.«open»;
      bounded = missed_le (marked marks) 0 4096;
      sequence = turn_as hit (marked marks) told.1 r.positions 4096 found.sequence;
    }
