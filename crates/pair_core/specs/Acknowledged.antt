-- What acknowledgements let out, as long as no node fails.
use Rattle.std.specs.Prelude.{ℕ, nat_lt, if◌then◌else◌, List, [], ◌∷◌}
use Rattle.pair_record.specs.declared.event.Event.{Event}
use Rattle.pair_record.specs.declared.event.Event.TheVariants.{FailPrimary, FailBackup, GoLive, Protect}
use Rattle.pair_record.specs.declared.event.Reply.{Reply}
use Rattle.pair_record.specs.declared.event.Reply.TheVariants.{Acked}

-- the greater of two numbers
abbrev pub greater : ℕ → ℕ → ℕ
greater a b = if nat_lt a b then b else a

-- the greatest of this number and of those in acknowledgements
abbrev pub acked_to : ℕ → List Reply → ℕ
acked_to greatest [] = greatest
acked_to greatest (Acked generation number landed ∷ replies) = acked_to (greater greatest number) replies
acked_to greatest (other ∷ replies) = acked_to greatest replies

-- the greatest number in an acknowledgement so far, 0 where there was none
abbrev pub greatest_acked : List Reply → ℕ
greatest_acked replies = acked_to 0 replies

-- no node fails at this event, none goes live, and none gets a new backup
abbrev pub IsOrdinary : Event → Type 0
IsOrdinary FailPrimary = ⊥
IsOrdinary FailBackup = ⊥
IsOrdinary GoLive = ⊥
IsOrdinary Protect = ⊥
IsOrdinary other = Unit {0}

abbrev pub AreOrdinary : List Event → Type 0
AreOrdinary [] = Unit {0}
AreOrdinary (event ∷ events) = IsOrdinary event × AreOrdinary events
