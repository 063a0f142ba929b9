-- The window of checkpoints: those from the next to be acknowledged to the last cut are pending.
use Rattle.std.specs.Prelude.{◌≡◌, ℕ, ◌+◌, ◌-◌, ◌≤◌, nat_le, if◌then◌else◌, List, [], ◌∷◌, length, take, drop}
use Rattle.frame_ports.specs.Limits.{number_limit}
use Rattle.output_gate.specs.Epochs.{Epoch}
use Rattle.pair_record.specs.Limits.{most_pending}
use Rattle.pair_record.specs.declared.window.Window.{Window}

-- the boot image counts as checkpoint 0, committed and acknowledged
abbrev pub start_window : Window
start_window = record { to_cut = 1; to_commit = 1; to_acknowledge = 1 }

abbrev pub with_cut : Window → Window
with_cut w = record w { to_cut = w.to_cut + 1 }

abbrev pub with_commit : Window → Window
with_commit w = record w { to_commit = w.to_commit + 1 }

-- an acknowledgement speaks for all numbers up to its own; an earlier one changes nothing
abbrev pub first_after : ℕ → ℕ → ℕ
first_after n next = if nat_le next n then n + 1 else next

abbrev pub with_acknowledged : ℕ → Window → Window
with_acknowledged n w = record w { to_acknowledge = first_after n w.to_acknowledge }

-- none is pending, and the next one has this number
abbrev pub none_pending : ℕ → Window
none_pending n = record { to_cut = n; to_commit = n; to_acknowledge = n }

-- the epochs have consecutive numbers from n on
abbrev pub NumberedFrom : ℕ → List Epoch → Type 0
NumberedFrom n [] = Unit {0}
NumberedFrom n (e ∷ es) = (e.number ≡ n) × NumberedFrom (n + 1) es

-- how many pending checkpoints the backup has committed; these, and the others
abbrev pub committed_count : Window → ℕ
committed_count w = w.to_commit - w.to_acknowledge

abbrev pub committed_of : Window → List Epoch → List Epoch
committed_of w pending = take (committed_count w) pending

abbrev pub uncommitted_of : Window → List Epoch → List Epoch
uncommitted_of w pending = drop (committed_count w) pending

-- the pending checkpoints are those of the window
pub record IsWindow (w : Window) (pending : List Epoch) : Type 0 where
  pub numbers : NumberedFrom w.to_acknowledge pending
  pub count : w.to_acknowledge + length pending ≡ w.to_cut
  pub committed : w.to_acknowledge ≤ w.to_commit
  pub cut : w.to_commit ≤ w.to_cut
  pub few : length pending ≤ most_pending
  pub last : w.to_cut ≤ number_limit
