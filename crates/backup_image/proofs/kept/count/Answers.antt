-- What is still to be counted keeps the sum in range.
use Rattle.std.proofs.{Common.arith, lemmas.List.Sums.sum_by_more_le}
use Rattle.backup_image.proofs.kept.count.Goals as goal

pub overflow_add-count : goal.overflow_add-count
overflow_add-count c = grind (arith, sum_by_more_le)
