use Rattle.std.proofs.Common.{◌≡◌, ℕ, true, false, length, get_or, take}
use Rattle.scene.specs.Marks.{low, marked}
use Rattle.scene.proofs.left_out.mark_table.Given as goal

abbrev pub invariant-loop-mark : goal.invariant-loop-mark
invariant-loop-mark l =
    (length l.table ≡ 4096)
    × (low (take l.mark-index l.marks) ≡ true)
    × ((k : ℕ) → get_or l.table k false ≡ marked (take l.mark-index l.marks) k)
