-- The lines that a node prints, where they aren't those of a script (docs/NODES.md, "Lines").
use Rattle.std.specs.Prelude.{ℕ, ◌^◌, nat_lt, List, [], ◌∷◌, ◌++◌, Option, Some, None, if◌then◌else◌, codes, decimal, length}
use Rattle.std.specs.List.{flat_map}
use Rattle.hex.specs.Hex.{encode_lower}
use Rattle.pair_history.specs.Entries.{Frame}
use Rattle.guest_rules.specs.Guest.{sector_in}
use Rattle.script_player.specs.{Printed.{line, sector_line}, Session.bad_answer}
use Rattle.node_player.specs.declared.orders.Form.{Form}
use Rattle.node_player.specs.declared.orders.Form.TheVariants as forms

-- a frame that is let out
abbrev pub frame_line : Frame → List ℕ
frame_line frame = line (codes "frame" ∷ encode_lower frame.items ∷ [])

-- these fields with how many frames there are, and a line for each
abbrev pub frame_lines : List Frame → List ℕ
frame_lines frames = flat_map frame_line frames

-- the guest's step count, how many frames wait in its outbox, and how many are let out; and these
abbrev pub steps_line : ℕ → ℕ → ℕ → List ℕ
steps_line steps waiting frames =
    line (codes "steps" ∷ decimal steps ∷ codes "outbox" ∷ decimal waiting ∷ codes "frames" ∷ decimal frames ∷ [])

abbrev pub steps_lines : ℕ → ℕ → List Frame → List ℕ
steps_lines steps waiting frames = steps_line steps waiting (length frames) ++ frame_lines frames

abbrev pub acked_lines : ℕ → ℕ → List Frame → List ℕ
acked_lines generation number frames =
    line (codes "acked" ∷ decimal generation ∷ decimal number ∷ codes "frames" ∷ decimal (length frames) ∷ []) ++ frame_lines frames

abbrev pub alone_lines : ℕ → List Frame → List ℕ
alone_lines generation frames =
    line (codes "alone" ∷ decimal generation ∷ codes "frames" ∷ decimal (length frames) ∷ []) ++ frame_lines frames

-- a part of a checkpoint's text
abbrev pub text_line : List ℕ → List ℕ
text_line bytes = line (codes "text" ∷ encode_lower bytes ∷ [])

-- the same by the bytes themselves: how many, and behind that line so many, and a newline
abbrev pub raw_text : List ℕ → List ℕ
raw_text bytes = line (codes "rawtext" ∷ decimal (length bytes) ∷ []) ++ (bytes ++ codes "\n")

abbrev pub spelled : Form → List ℕ → List ℕ
spelled forms.Hex bytes = text_line bytes
spelled forms.Raw bytes = raw_text bytes

abbrev pub cut_line : ℕ → ℕ → ℕ → List ℕ
cut_line generation number bytes = line (codes "cut" ∷ decimal generation ∷ decimal number ∷ decimal bytes ∷ [])

abbrev pub malformed_line : ℕ → List ℕ
malformed_line offset = line (codes "refused" ∷ decimal 11 ∷ codes "Malformed" ∷ decimal offset ∷ [])

-- the state in one line: a word for what the node is
abbrev pub show_line : List ℕ → ℕ → ℕ → ℕ → ℕ → List ℕ
show_line word generation pending steps written =
    line (codes "mode" ∷ word ∷ codes "generation" ∷ decimal generation ∷ codes "pending" ∷ decimal pending
    ∷ codes "steps" ∷ decimal steps ∷ codes "written" ∷ decimal written ∷ [])

-- The bytes of the sector that a line's number names, none beyond the disk. A disk has 32768 sectors at most, so a number of more than 32
-- bits is beyond each.
abbrev pub sector_named : List ℕ → ℕ → Option (List ℕ)
sector_named sectors sector = if nat_lt sector (2 ^ 32) then sector_in sectors sector else None

-- a sector, or a bad line
abbrev pub sector_answer : ℕ → Option (List ℕ) → List ℕ
sector_answer sector None = bad_answer
sector_answer sector (Some bytes) = sector_line sector bytes
