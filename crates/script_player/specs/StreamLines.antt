-- The lines of check-stream.
use Rattle.std.specs.Prelude.{ℕ, ◌∷◌, [], ◌==◌, if◌then◌else◌, List, length, codes, decimal}
use Rattle.epoch_snapshot.specs.Checkpoints.{Change}
use Rattle.checkpoint_stream.specs.declared.errors.StreamError.TheVariants.{Malformed}
use Rattle.checkpoint_stream.specs.Refusals.{number_of, name_of}
use Rattle.script_player.specs.Printed.{line}

-- how many frames a checkpoint of version 2 carries; one of version 1 says nothing of frames
abbrev pub frames_words : Change → List (List ℕ)
frames_words c = if c.version == 1 then [] else codes "frames" ∷ decimal (length c.frames) ∷ []

-- a whole checkpoint: whether it is full, its generation and number, how many page and sector records it has, and how many frames
abbrev pub checkpoint_line : Change → List ℕ
checkpoint_line c = line ((if c.number == 0 then codes "full" else codes "delta") ∷ decimal c.generation ∷ decimal c.number
    ∷ codes "pages" ∷ decimal (length c.pages) ∷ codes "sectors" ∷ decimal (length c.sectors) ∷ frames_words c)

-- bytes, so many, that end inside a checkpoint
abbrev pub short_line : ℕ → List ℕ
short_line len = line (codes "short" ∷ codes "at" ∷ decimal len ∷ [])

-- the number and the name of the refusal of bytes that are malformed, and the offset
abbrev pub malformed_line : ℕ → List ℕ
malformed_line offset =
    line (codes "refused" ∷ decimal (number_of (Malformed offset)) ∷ name_of (Malformed offset) ∷ decimal offset ∷ [])
