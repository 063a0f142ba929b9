-- A disk after whole sectors of it were written.
use Rattle.std.proofs.Common.{◌≡◌, ℕ, ◌+◌, ◌*◌, ◌/◌, ◌≤◌, List, sym, ap, ◌∙◌, subst, length}
use Rattle.block_device.{specs.{Dirty.{Rises, with_written}, Contents.{contents_of, IsDisk}}, proofs.Rising.rises_written}

pub disk_kept : (bytes new dirty marked : List ℕ) (first n : ℕ) → length new ≡ length bytes → marked ≡ with_written dirty first n →
    first + n ≤ length bytes / 512 → IsDisk (contents_of bytes dirty) → IsDisk (contents_of new marked)
disk_kept bytes new dirty marked first n same is within disk =
    let count : length new / 512 ≡ length bytes / 512 = ap (λ k. k / 512) same in
    let rises : Rises 0 (length bytes / 512) marked =
    subst (Rises 0 (length bytes / 512)) (sym is) (rises_written (length bytes / 512) first n dirty within disk.dirty) in
    record {
      whole = same ∙ (disk.whole ∙ ap (λ k. 512 * k) (sym count));
      least = subst (λ (k : ℕ). 1 ≤ k) (sym count) disk.least;
      most = subst (λ (k : ℕ). k ≤ 32768) (sym count) disk.most;
      dirty = subst (λ (k : ℕ). Rises 0 k marked) (sym count) rises;
    }
