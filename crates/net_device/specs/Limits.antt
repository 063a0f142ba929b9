-- The numbers of the rules that the network card keeps. Every definition cites these; that the code's constants are they is the law
-- `limits_are_the_rules`.
use Rattle.std.specs.Prelude.{ℕ}

-- Ethernet (IEEE 802.3, 3.1.1): before a frame's data stand two addresses of 6 bytes and a length or type of 2; the checksum isn't kept
abbrev pub shortest_frame : ℕ
shortest_frame = 14

-- Ethernet (IEEE 802.3, 3.2.7): those 14 bytes, and at most 1500 of data
abbrev pub longest_frame : ℕ
longest_frame = 1514

-- the machine's rules: the outbox holds at most 256 frames that the guest sent since the last cut
abbrev pub outbox_frames : ℕ
outbox_frames = 256
