use Rattle.std.proofs.Common.{◌≡◌, true, take}
use Rattle.scene.specs.Scenes.{all_fit}
use Rattle.scene.proofs.added.Added.new.Given as goal

abbrev pub invariant-loop-row : goal.invariant-loop-row
invariant-loop-row g l = all_fit l.moments (take l.row-index l.more) ≡ true
