-- What the line's losses do, and why one is refused.
use Rattle.std.specs.Prelude.{◌≡◌, ℕ, List, [], ◌∷◌, length, Option, None, Some}
use Rattle.memory_wanted.specs.Wanted.{wanted}
use Rattle.frame_ports.specs.Ports.{PortsState}
use Rattle.pair_history.specs.Entries.{Entry}
use Rattle.pair_record.specs.declared.event.Refusal.{Refusal}
use Rattle.pair_record.specs.declared.event.Refusal.TheVariants.{NoMemory}
use Rattle.pair_record.specs.Protocol.{Row, loss_refusals, loss_done}
use Rattle.growing_history.specs.Steps.{Added}
use Rattle.growing_history.specs.Views.{Member}
use Rattle.pair_book.specs.declared.losses.Lost.{Lost}
use Rattle.pair_book.specs.declared.losses.Lost.TheVariants.{Dropped, Empty}
use Rattle.pair_book.specs.Books.{BookState}
use Rattle.pair_book.specs.Calls.{Makes, Shows, is_word_full}

-- a loss of client c's, whose entry is that one where a frame is there
abbrev pub loss_rows : BookState → ℕ → Option Entry → List Row
loss_rows b c lost = loss_refusals (is_word_full b) (length b.ports.boxes) b.protocol c lost

-- where no row holds, only for want of memory, and only where a frame is there
abbrev pub IsWhyLoss : Option Entry → Option Refusal → Refusal → Type 0
IsWhyLoss entry (Some first) why = why ≡ first
IsWhyLoss (Some e) None why = why ≡ NoMemory wanted
IsWhyLoss None None why = ⊥

-- What a loss leaves that was answered so. Where no frame was there the book is as before, and the seat has seen all of it; else the step
-- adds that entry, and the frame has left.
abbrev pub AfterLoss : Option Entry → PortsState → Lost → BookState → BookState → Member → Member → Type 0
AfterLoss entry ports Empty old new seat seat' = (entry ≡ None) × (new ≡ old) × Shows old seat seat'
AfterLoss entry ports Dropped old new seat seat' =
    (e : Entry)
    × (entry ≡ Some e)
    × Makes (Added (e ∷ [])) old new seat seat'
    × (new.protocol ≡ (loss_done old.protocol e).1)
    × (new.ports ≡ ports)
