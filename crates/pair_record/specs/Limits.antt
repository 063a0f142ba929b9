-- The numbers of the rules that the pair keeps. Every definition cites these; that the code's constants are they is the law
-- `limits_are_the_rules`. Those of frames, clients, inboxes, boxes and numbers are `frame_ports`'s.
use Rattle.std.specs.Prelude.{ℕ, ◌^◌, ◌-◌}

-- the pair's rules: at most 4 checkpoints are pending, and a cut beyond them is refused
abbrev pub most_pending : ℕ
most_pending = 4

-- the guest's network device: a step sends at most 64 frames, as many as its queue has places
abbrev pub step_frames : ℕ
step_frames = 64

-- the guest's outbox of 256 frames: a step is made while it holds at most 192, so that 64 more fit
abbrev pub stepping_frames : ℕ
stepping_frames = 192

-- the pair's rules: a step of a node that is alone counts as 1025 entries, itself and a landing of 64 frames for 16 clients each
abbrev pub lone_step_entries : ℕ
lone_step_entries = 1025

-- the pair's rules: generations count from 1
abbrev pub first_generation : ℕ
first_generation = 1

-- the pair's rules: in each generation the full checkpoint is number 0
abbrev pub full_checkpoint : ℕ
full_checkpoint = 0

-- the pair's rules: the guest's frames have numbers from 1, in the order sent since boot or the last full checkpoint
abbrev pub first_frame : ℕ
first_frame = 1

-- the pair's rules: these numbers stay below 2^62. A cut adds at most 256 frames, and the backup's failure after it 256 more; so nothing is
-- cut, and a node that is alone makes no step, where the next frame's number is above this
abbrev pub last_frame : ℕ
last_frame = 2 ^ 62 - 1023
