-- The guest numbers its frames from 1, in the order sent. For each client the ports keep the number of the last one that came for it, so
-- that no frame lands twice.
use Rattle.std.specs.Prelude.{ℕ, ◌-◌, Bool, length, replicate, slice_index_or, slice_set, nat_lt, if◌then◌else◌}
use Rattle.arrayvec.specs.ArrayVec.{ArrayVec}
use Rattle.frame_ports.specs.Lands.{has_room, landed_at}
use Rattle.frame_ports.specs.Ports.{PortsState}
use Rattle.frame_ports.specs.declared.landing.Landing.{Landing}
use Rattle.frame_ports.specs.declared.landing.Landing.TheVariants.{In, Dropped, Old}

-- the number of the last frame that came for client c
abbrev pub last_come : PortsState → ℕ → ℕ
last_come s c = slice_index_or s.numbers (c - 1) 0

-- frame n hasn't come for client c yet
abbrev pub is_new : PortsState → ℕ → ℕ → Bool
is_new s c n = nat_lt (last_come s c) n

-- what becomes of frame n at client c
abbrev pub landing : PortsState → ℕ → ℕ → Landing
landing s c n = if is_new s c n then (if has_room s.boxes c then In else Dropped) else Old

-- the ports after frame n, which is f, has come for client c: a full box drops it, and its number counts all the same
abbrev pub after_landing : PortsState → ℕ → ℕ → ArrayVec ℕ → PortsState
after_landing s c n f =
    if is_new s c n then record s { numbers = slice_set s.numbers (c - 1) n; boxes = landed_at s.boxes c f } else s

-- the ports where the guest's frames are numbered from 1 anew
abbrev pub renumbered : PortsState → PortsState
renumbered s = record s { numbers = replicate (length s.boxes) 0 }
