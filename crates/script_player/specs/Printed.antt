-- The lines that are printed.
use Rattle.std.specs.Prelude.{ℕ, length, ◌≤◌, ◌<◌, ◌^◌, nat_lt, if◌then◌else◌, ◌++◌, ◌∷◌, [], List, Option, Some, None, codes, decimal}
use Rattle.std.specs.List.{flat_map, join_with_byte}
use Rattle.hex.specs.Hex.{encode_lower, IsBytes}
use Rattle.pair_core.specs.Pair.{Pair}
use Rattle.pair_core.specs.Start.{shown_sector}
use Rattle.pair_core.specs.Words.{word_of}
use Rattle.pair_record.specs.declared.event.Refusal.{Refusal}
use Rattle.pair_record.specs.declared.event.Refusal.TheVariants.{NoMemory}
use Rattle.pair_record.specs.Refusals.{number_of, name_of}
use Rattle.pair_record.specs.declared.event.Show.{Show}
use Rattle.pair_record.specs.declared.event.Reply.{Reply}
use Rattle.pair_record.specs.declared.event.Reply.TheVariants.{Steps, Cut, Sent, Committed, Again, Lost, Acked, Admitted, Empty}
use Rattle.pair_record.specs.declared.event.Reply.TheVariants.{Delivered, Took, Dropped, Stopped, Alone, Live, Protecting, Refused}
use Rattle.script_player.specs.declared.text.Field.{Field}
use Rattle.script_player.specs.declared.text.Field.TheVariants.{Word, Number}

-- fields parted by one space, and the end of the line
abbrev pub line : List (List ℕ) → List ℕ
line fields = join_with_byte 32 fields ++ codes "\n"

-- what a field prints: a word, or a number in decimal
abbrev pub field_text : Field → List ℕ
field_text (Word word) = word.now
field_text (Number n) = decimal n

-- a word that a line has room for; each number is
abbrev pub IsShort : Field → Type 0
IsShort (Word word) = length word.now ≤ 20
IsShort (Number n) = Unit {0}

-- fields, each after a space
abbrev pub spaced : List Field → List ℕ
spaced fields = flat_map (λ field. 32 ∷ field_text field) fields

-- what a refusal prints
abbrev pub refusal_line : Refusal → List ℕ
refusal_line refusal = line (codes "refused" ∷ decimal (number_of refusal) ∷ name_of refusal ∷ [])

-- what a reply prints
abbrev pub reply_line : Reply → List ℕ
reply_line (Steps n) = line (codes "steps" ∷ decimal n ∷ [])
reply_line (Cut g n) = line (codes "cut" ∷ decimal g ∷ decimal n ∷ [])
reply_line (Sent k) = line (codes "sent" ∷ decimal k ∷ [])
reply_line (Committed g n) = line (codes "committed" ∷ decimal g ∷ decimal n ∷ [])
reply_line (Again g n) = line (codes "again" ∷ decimal g ∷ decimal n ∷ [])
reply_line Lost = line (codes "lost" ∷ [])
reply_line (Acked g n m) = line (codes "acked" ∷ decimal g ∷ decimal n ∷ codes "landed" ∷ decimal m ∷ [])
reply_line (Admitted n) = line (codes "admitted" ∷ decimal n ∷ [])
reply_line Empty = line (codes "empty" ∷ [])
reply_line (Delivered n) = line (codes "delivered" ∷ decimal n ∷ [])
reply_line (Took None) = line (codes "none" ∷ [])
reply_line (Took (Some frame)) = line (codes "frame" ∷ encode_lower frame.items ∷ [])
reply_line Dropped = line (codes "dropped" ∷ [])
reply_line Stopped = line (codes "stopped" ∷ codes "primary" ∷ [])
reply_line (Alone g m) = line (codes "alone" ∷ decimal g ∷ codes "landed" ∷ decimal m ∷ [])
reply_line (Live g n) = line (codes "live" ∷ decimal g ∷ codes "steps" ∷ decimal n ∷ [])
reply_line (Protecting g) = line (codes "protecting" ∷ decimal g ∷ [])
reply_line (Refused refusal) = refusal_line refusal

-- The same by a writer that prints this where memory was wanted (`Sink` of streams.rt).
abbrev pub told_refusal : List ℕ → Refusal → List ℕ
told_refusal no_memory (NoMemory w) = no_memory
told_refusal no_memory refusal = refusal_line refusal

abbrev pub told_line : List ℕ → Reply → List ℕ
told_line no_memory (Refused refusal) = told_refusal no_memory refusal
told_line no_memory reply = reply_line reply

-- The numbers are what 64 bits hold, and a frame's items are bytes.
abbrev pub IsPlain : Reply → Type 0
IsPlain (Steps n) = n < 2 ^ 64
IsPlain (Cut g n) = (g < 2 ^ 64) × (n < 2 ^ 64)
IsPlain (Sent k) = k < 2 ^ 64
IsPlain (Committed g n) = (g < 2 ^ 64) × (n < 2 ^ 64)
IsPlain (Again g n) = (g < 2 ^ 64) × (n < 2 ^ 64)
IsPlain (Acked g n m) = (g < 2 ^ 64) × (n < 2 ^ 64) × (m < 2 ^ 64)
IsPlain (Admitted n) = n < 2 ^ 64
IsPlain (Delivered n) = n < 2 ^ 64
IsPlain (Took (Some frame)) = IsBytes frame.items
IsPlain (Alone g m) = (g < 2 ^ 64) × (m < 2 ^ 64)
IsPlain (Live g n) = (g < 2 ^ 64) × (n < 2 ^ 64)
IsPlain (Protecting g) = g < 2 ^ 64
IsPlain reply = Unit {0}

-- the state in one line
abbrev pub show_line : Show → List ℕ
show_line s = line (codes "mode" ∷ word_of s.mode ∷ codes "generation" ∷ decimal s.generation ∷ codes "pending" ∷ decimal s.pending
    ∷ codes "steps" ∷ decimal s.steps ∷ codes "entries" ∷ decimal s.entries ∷ [])

-- The bytes of the sector that a script's number names, none beyond the disk. A disk has 32768 sectors at most, so a number of
-- more than 32 bits is beyond each.
abbrev pub named_sector : Pair → ℕ → Option (List ℕ)
named_sector w sector = if nat_lt sector (2 ^ 32) then shown_sector w sector else None

-- a sector of the disk: its number, and its bytes, each as two hex digits in lower case
abbrev pub sector_line : ℕ → List ℕ → List ℕ
sector_line sector bytes = line (codes "sector" ∷ decimal sector ∷ encode_lower bytes ∷ [])
