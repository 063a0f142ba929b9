-- The numbers of the rules that the gate keeps. Every definition cites these, here and in the crates above; that the code's constants
-- are they is the law `limits_are_the_rules`.
use Rattle.std.specs.Prelude.{ℕ}

-- the pair's rules: at most 4 checkpoints are pending, each of which ends an epoch; and where the backup fails, the epoch that runs is held
-- too, until all of it lands
abbrev pub max_epochs : ℕ
max_epochs = 5

-- the guest's outbox: at most 256 frames, and an epoch's frames are what was in it
abbrev pub max_frames : ℕ
max_frames = 256

-- what a gate holds at most: 5 epochs of 256 frames
abbrev pub max_held : ℕ
max_held = 1280

-- each of them lands for at most 16 clients
abbrev pub most_landings : ℕ
most_landings = 20480
