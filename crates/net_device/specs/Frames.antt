-- Ethernet frames as the guest sends them.
use Rattle.std.specs.Prelude.{ℕ, ◌≤◌, length}
use Rattle.arrayvec.specs.ArrayVec.{ArrayVec}
use Rattle.net_device.specs.Limits.{shortest_frame, longest_frame}

-- a frame has 14 to 1514 bytes: an Ethernet header, and at most 1500 bytes more (IEEE 802.3)
abbrev pub IsFrame : ArrayVec ℕ → Type 0
IsFrame f = (shortest_frame ≤ length f.items) × (length f.items ≤ longest_frame)
