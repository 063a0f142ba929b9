-- The stages of a full checkpoint's text: its pages are searched for, and then its records are made.
use Rattle.std.specs.Prelude.{◌≤◌, ℕ, List, length}
use Rattle.guest_rules.specs.Guest.{State}
use Rattle.full_text.specs.Full.{AreIn, IsMadeTo, IsSame, IsSameIn, SearchFits, found_of, whole}
use Rattle.full_text.specs.declared.stage.FullStage.{FullStage}
use Rattle.full_text.specs.declared.stage.FullStage.TheVariants.{Search, Text}

-- the bytes that are made
abbrev pub made : FullStage → List ℕ
made (Search s) = s.head
made (Text f) = f.made

-- the whole text, over the memory that has what isn't kept
abbrev pub text_of : List ℕ → FullStage → List ℕ
text_of ram (Search s) = whole ram (found_of ram s)
text_of ram (Text f) = whole ram f

-- its records are made, and so many bytes of it, or all
abbrev pub IsMade : ℕ → FullStage → Type 0
IsMade count (Search s) = ⊥
IsMade count (Text f) = IsMadeTo count f

-- so many bytes of it are made, or all
abbrev pub IsReadyTo : ℕ → FullStage → Type 0
IsReadyTo count (Search s) = count ≤ length s.head
IsReadyTo count (Text f) = IsMadeTo count f

-- what is left of it is the same of what memory has now: the machine may be settled
abbrev pub IsKept : State → FullStage → Type 0
IsKept m (Search s) = (page : ℕ) → IsSameIn m s.kept page
IsKept m (Text f) = IsSame m f

-- it is one of the memory that a machine had at its last settle
abbrev pub StageFits : State → FullStage → Type 0
StageFits m (Search s) = SearchFits m.settled s
StageFits m (Text f) = AreIn (length m.settled) f.pages
