-- The lines after the boot line, but for a client's frame: a name, and what it is told.
use Rattle.std.specs.Prelude.{◌≡◌, ℕ, ◌≤◌, nat_eq, List, ◌∷◌, ◌++◌, Option, Some, None, codes, if◌then◌else◌}
use Rattle.std.specs.Option.{option_map_or}
use Rattle.std.specs.Str.{bytes_eq}
use Rattle.script_player.specs.Fields.{number_written, numbered_by, numbers_by}
use Rattle.pair_record.specs.declared.event.Event.{Event}
use Rattle.pair_record.specs.declared.event.Event.TheVariants.{Cut, Send, BackupGet, AckGet, Admit, Take, LoseIn, LoseOut, FailPrimary}
use Rattle.pair_record.specs.declared.event.Event.TheVariants.{FailBackup, GoLive, Protect}
use Rattle.script_player.specs.declared.script.Command.{Command}
use Rattle.script_player.specs.declared.script.Command.TheVariants.{Asks, Steps, Sector, Show}

-- the front, and digits that write n
abbrev pub IsNumbered : List ℕ → ℕ → List ℕ → Type 0
IsNumbered front n text = (digits : List ℕ) × (text ≡ front ++ digits) × (number_written digits ≡ Some n)

-- the front, digits that write m, one space, and digits that write n
abbrev pub HasNumbers : List ℕ → ℕ → ℕ → List ℕ → Type 0
HasNumbers front m n text =
    (first : List ℕ) × (second : List ℕ)
    × (text ≡ front ++ (first ++ 32 ∷ second)) × (number_written first ≡ Some m) × (number_written second ≡ Some n)

-- how each event is spelled, but for a client's frame, which is a delivery, and a single step, which no line asks for
abbrev pub IsEvent : List ℕ → Event → Type 0
IsEvent text Cut = text ≡ codes "cut"
IsEvent text Send = text ≡ codes "send"
IsEvent text (BackupGet k) = IsNumbered (codes "backup ") k text
IsEvent text (AckGet k) = IsNumbered (codes "ack ") k text
IsEvent text (Admit client) = IsNumbered (codes "admit ") client text
IsEvent text (Take client) = IsNumbered (codes "take ") client text
IsEvent text (LoseIn client place) = HasNumbers (codes "losein ") client place text
IsEvent text (LoseOut client place) = HasNumbers (codes "loseout ") client place text
IsEvent text FailPrimary = text ≡ codes "fail primary"
IsEvent text FailBackup = text ≡ codes "fail backup"
IsEvent text GoLive = text ≡ codes "golive"
IsEvent text Protect = text ≡ codes "protect"
IsEvent text other = ⊥

-- how each command is spelled; a count of steps is at least 1
abbrev pub IsCommand : List ℕ → Command → Type 0
IsCommand text (Asks event) = IsEvent text event
IsCommand text (Steps n) = IsNumbered (codes "step ") n text × (1 ≤ n)
IsCommand text (Sector sector) = IsNumbered (codes "sector ") sector text
IsCommand text Show = text ≡ codes "show"

-- ---- what a line spells, by the first form that fits

-- the event that words alone spell
abbrev pub word_event : List ℕ → Option Event
word_event text =
    if bytes_eq text (codes "cut") then Some Cut
    else if bytes_eq text (codes "send") then Some Send
    else if bytes_eq text (codes "fail primary") then Some FailPrimary
    else if bytes_eq text (codes "fail backup") then Some FailBackup
    else if bytes_eq text (codes "golive") then Some GoLive
    else if bytes_eq text (codes "protect") then Some Protect
    else None

-- the event that words and numbers spell
abbrev pub numbered_event : List ℕ → Option Event
numbered_event text =
    option_map_or (λ k. Some (BackupGet k)) (numbered_by (codes "backup ") text)
    (option_map_or (λ k. Some (AckGet k)) (numbered_by (codes "ack ") text)
    (option_map_or (λ client. Some (Admit client)) (numbered_by (codes "admit ") text)
    (option_map_or (λ client. Some (Take client)) (numbered_by (codes "take ") text)
    (option_map_or (λ found. Some (LoseIn found.0 found.1)) (numbers_by (codes "losein ") text)
    (option_map_or (λ found. Some (LoseOut found.0 found.1)) (numbers_by (codes "loseout ") text)
    None)))))

-- the command
abbrev pub command_of : List ℕ → Option Command
command_of text =
    option_map_or (λ n. if nat_eq n 0 then None else Some (Steps n)) (numbered_by (codes "step ") text)
    (option_map_or (λ event. Some (Asks event)) (word_event text)
    (option_map_or (λ event. Some (Asks event)) (numbered_event text)
    (option_map_or (λ sector. Some (Sector sector)) (numbered_by (codes "sector ") text)
    (if bytes_eq text (codes "show") then Some Show else None))))
