-- The frames of as many epochs as iterations so far.
use Rattle.std.proofs.Common.{◌≡◌, length, take}
use Rattle.std.specs.List.{sum_by}
use Rattle.backup_image.proofs.kept.count.Given as goal

abbrev pub invariant-loop-epoch : goal.invariant-loop-epoch
invariant-loop-epoch l = l.count ≡ sum_by (λ epoch. length epoch.items) (take l.epoch-index l.epochs)
