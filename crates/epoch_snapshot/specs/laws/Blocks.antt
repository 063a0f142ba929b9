-- How many blocks pages name, page by page.
use Rattle.std.proofs.Common.{◌≡◌, ℕ, ◌+◌, ◌<◌, List, drop, get_or, length, ap, ◌∙◌}
use Rattle.std.proofs.lemmas.List.{drop_more, Sums.sum_by-cons}
use Rattle.std.specs.Prelude.{count_ones}
use Rattle.epoch_snapshot.specs.declared.changes.PageChange.{PageChange}
use Rattle.epoch_snapshot.specs.Checkpoints.{block_count}

pub block_count-drop : (ps : List PageChange) (i : ℕ) (d : PageChange) → i < length ps
    → block_count (drop i ps) ≡ count_ones (get_or ps i d).mask + block_count (drop (i + 1) ps)
block_count-drop ps i d h =
    ap block_count (drop_more ps i d h) ∙ sum_by-cons (λ (p : PageChange). count_ones p.mask) (get_or ps i d) (drop (i + 1) ps)
