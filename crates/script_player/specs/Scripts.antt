-- What a script is to its clients: one run of a pair, of which it prints the answers. That memory was wanted prints `no_memory`.
use Rattle.std.specs.Prelude.{◌≡◌, ℕ, suc, ◌+◌, ◌<◌, true, List, [], ◌∷◌, ◌++◌, Some, codes, length, map, replicate}
use Rattle.std.specs.List.{flat_map, AllByRecursion}
use Rattle.pair_record.specs.declared.event.Event.{Event}
use Rattle.pair_record.specs.declared.event.Event.TheVariants.{Step}
use Rattle.pair_record.specs.declared.event.Reply.{Reply}
use Rattle.pair_core.specs.Pair.{Pair}
use Rattle.pair_core.specs.Service.{HasServed, is_step, moment}
use Rattle.pair_core.specs.Start.{shown}
use Rattle.script_player.specs.declared.script.Command.TheVariants as commands
use Rattle.script_player.specs.Boot.{BootLine, IsBoot}
use Rattle.script_player.specs.Delivery.{IsDelivery}
use Rattle.script_player.specs.Lines.{Line, order}
use Rattle.script_player.specs.Meaning.{AsksFor, Ending, Happens, IsBad, IsLine, IsReady, IsRefused, Stage, Steps, bad, finished, is_silent}
use Rattle.script_player.specs.Meaning.{playing, refused, unbooted}
use Rattle.script_player.specs.Printed.{named_sector, sector_line, show_line}

-- a line that was played: its text, what it printed, the events that it was, and their replies
pub record Played : Type 0 where
  pub text : List ℕ
  pub printed : List ℕ
  pub events : List Event
  pub replies : List Reply

-- it was these events, so answered
abbrev pub Was : Played → List Event → List Reply → Type 0
Was line events replies = (line.events ≡ events) × (line.replies ≡ replies)

-- it was none, and printed that
abbrev pub OnlyPrints : Played → List ℕ → Type 0
OnlyPrints line printed = Was line [] [] × (line.printed ≡ printed)

-- Of so many steps these were made, and the last reply ends them: all are made, or one more is refused.
pub record AreSteps (count : ℕ) (made : List Reply) (last : Reply) : Type 0 where
  pub each : AllByRecursion (λ reply. is_step reply ≡ true) made
  pub most : length made < count
  pub all : is_step last ≡ true → length made + 1 ≡ count

-- These events, so answered, are to the clients of the pair old those of one guest that never fails, and lead to new.
abbrev pub IsServed : Pair → List Event → List Reply → Pair → Type 0
IsServed old events replies new = HasServed old.start (moment old) events replies (moment new)

-- A line after the boot line, from the pair old to new.
pub data Plays (no_memory : List ℕ) (old : Pair) (line : Played) (new : Pair) : Type 0 where
  -- an empty line, or a comment
  silent : is_silent line.text ≡ true → OnlyPrints line [] → new ≡ old → Plays no_memory old line new
  -- one that asks for an event, and prints the reply
  event : (said : Line) (event : Event) (done : Happens no_memory old event line.printed new) → IsLine line.text said → AsksFor said event
      → Was line (event ∷ []) (done.reply ∷ []) → Plays no_memory old line new
  -- one that asks for steps: each is an event, and the last reply is printed
  steps : (count : ℕ) (made : List Reply) (done : Steps no_memory old count line.printed new) → IsLine line.text (order (commands.Steps count))
      → AreSteps count made done.reply → IsServed old (replicate (suc (length made)) Step) (made ++ done.reply ∷ []) new
      → Was line (replicate (suc (length made)) Step) (made ++ done.reply ∷ []) → Plays no_memory old line new
  -- one that shows the pair, or a sector of its disk
  shows : IsLine line.text (order commands.Show) → OnlyPrints line (show_line (shown old)) → new ≡ old → Plays no_memory old line new
  reads : (sector : ℕ) (bytes : List ℕ) → IsLine line.text (order (commands.Sector sector)) → named_sector old sector ≡ Some bytes
      → OnlyPrints line (sector_line sector bytes) → new ≡ old → Plays no_memory old line new
  -- a delivery whose bytes find no memory
  finds_no_memory : (client : ℕ) (bytes : List ℕ) → IsDelivery line.text client bytes → OnlyPrints line no_memory
      → new ≡ old → Plays no_memory old line new

-- These lines, one after another, lead from the pair old to new.
abbrev pub PlaysAll : List ℕ → Pair → List Played → Pair → Type 0
PlaysAll no_memory old [] new = new ≡ old
PlaysAll no_memory old (line ∷ lines) new = (mid : Pair) × Plays no_memory old line mid × PlaysAll no_memory mid lines new

abbrev pub texts_of : List Played → List (List ℕ)
texts_of lines = map (λ line. line.text) lines

abbrev pub printed_of : List Played → List ℕ
printed_of lines = flat_map (λ line. line.printed) lines

abbrev pub events_of : List Played → List Event
events_of lines = flat_map (λ line. line.events) lines

abbrev pub replies_of : List Played → List Reply
replies_of lines = flat_map (λ line. line.replies) lines

-- How a script ends at this stage with the lines that are left: there is none; the next one is bad; it is a boot line that is refused.
abbrev pub Ends : List ℕ → Stage → List (List ℕ) → List ℕ → Ending → Type 0
Ends no_memory stage left printed finished = (left ≡ []) × (printed ≡ [])
Ends no_memory stage left printed (bad number) = (text : List ℕ) × (rest : List (List ℕ)) × (left ≡ text ∷ rest) × IsBad stage text × (printed ≡ [])
Ends no_memory stage left printed refused =
    (text : List ℕ) × (rest : List (List ℕ)) × (left ≡ text ∷ rest) × IsRefused stage text × (printed ≡ no_memory)

abbrev pub AreSilent : List (List ℕ) → Type 0
AreSilent texts = AllByRecursion (λ text. is_silent text ≡ true) texts

-- The lines of a script boot no pair.
pub record BootsNone (no_memory : List ℕ) (lines : List (List ℕ)) (printed : List ℕ) (ending : Ending) : Type 0 where
  pub before : List (List ℕ)
  pub left : List (List ℕ)
  pub parts : lines ≡ before ++ left
  pub are_silent : AreSilent before
  pub ends : Ends no_memory unbooted left printed ending

-- They boot one, and the lines after its boot line are one run of it: what they printed are the answers to its events, line by line, and
-- to its clients these are, one after another, those of one guest that never fails.
pub record IsOneRun (no_memory : List ℕ) (lines : List (List ℕ)) (printed : List ℕ) (ending : Ending) : Type 0 where
  pub before : List (List ℕ)
  pub boot : List ℕ
  pub played : List Played
  pub left : List (List ℕ)
  pub parts : lines ≡ before ++ boot ∷ (texts_of played ++ left)
  pub are_silent : AreSilent before
  pub said : BootLine
  pub is_boot : IsBoot boot said
  pub first : Pair
  pub last : Pair
  pub ready : IsReady said first
  pub plays : PlaysAll no_memory first played last
  pub answers : printed ≡ codes "booted\n" ++ printed_of played
  pub served : IsServed first (events_of played) (replies_of played) last
  pub ends : Ends no_memory (playing last) left [] ending
