-- The numbers of the rules that the ports keep. Every definition cites these, here and in the crates above; that the code's constants
-- are they is the law `limits_are_the_rules`.
use Rattle.std.specs.Prelude.{ℕ, ◌^◌}

-- Ethernet (IEEE 802.3, 3.1.1): before a frame's data stand two addresses of 6 bytes and a length or type of 2; the checksum isn't kept
abbrev pub min_frame : ℕ
min_frame = 14

-- Ethernet (IEEE 802.3, 3.2.7): those 14 bytes, and at most 1500 of data
abbrev pub max_frame : ℕ
max_frame = 1514

-- the pair's rules: clients have the numbers 1 to 16
abbrev pub max_clients : ℕ
max_clients = 16

-- the pair's rules: at most 64 frames wait in a client's inbox, and a delivery beyond them is refused
abbrev pub inbox_frames : ℕ
inbox_frames = 64

-- the pair's rules: at most 256 frames lie in a client's box, and a landing beyond them is dropped
abbrev pub box_frames : ℕ
box_frames = 256

-- the pair's rules: frames, checkpoints, generations and the entries of a history have numbers below 2^62
abbrev pub number_limit : ℕ
number_limit = 2 ^ 62
