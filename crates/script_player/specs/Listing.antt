-- A file of checkpoints that is being listed.
use Rattle.std.specs.Prelude.{◌≡◌, ◌≢◌, ℕ, Bool, true, false, List, drop, Option, Some, None, Result, Ok, Err}
use denote.Ref.{Bor}
use Rattle.std.specs.Io.KnownBytes.{Appends}
use Rattle.checkpoint_stream.specs.declared.place.Place.TheVariants.{Whole}
use Rattle.checkpoint_stream.specs.Readings.{Reading, fed, taken}
use Rattle.checkpoint_stream.specs.Sound.{change_in}
use Rattle.script_player.specs.StreamLines.{checkpoint_line}
use Rattle.script_player.specs.StreamMeaning.{FileEnd, complete, EndsFile, end_line, next_after, IsListing}
use Rattle.script_player.specs.Streams.{Writing, WritesFront}

-- the next line, of a whole checkpoint
pub record IsNext (r : Reading) (bytes printed left : List ℕ) (new : Reading) : Type 0 where
  pub whole : (fed r bytes).place ≡ Whole
  pub is_printed : printed ≡ checkpoint_line (change_in (fed r bytes))
  pub are_left : left ≡ drop (taken r bytes) bytes
  pub goes_on : new ≡ next_after (fed r bytes)

-- the last line, after which the file can't be read on
pub record IsLast (no_memory : List ℕ) (len : ℕ) (r : Reading) (bytes printed : List ℕ) : Type 0 where
  pub end : FileEnd
  pub more : end ≢ complete
  pub ends : EndsFile r bytes end
  pub is_printed : printed ≡ end_line no_memory len end

-- what comes next: a whole checkpoint, after which these bytes are left, or the last line
abbrev pub IsFound : List ℕ → ℕ → Reading → List ℕ → Option (Bor (List ℕ)) → Reading → List ℕ → Type 0
IsFound no_memory len r bytes (Some left) new printed = IsNext r bytes printed left.now new
IsFound no_memory len r bytes None new printed = IsLast no_memory len r bytes printed

-- It was written into a text; or there was no memory to read on.
abbrev pub IsSpelled : {E : Type 0} → List ℕ → ℕ → Reading → List ℕ → Result (Option (Bor (List ℕ))) E → Reading → List ℕ → Type 0
IsSpelled no_memory len r bytes (Ok found) new text = IsFound no_memory len r bytes found new text
IsSpelled no_memory len r bytes (Err e) new text = Unit {0}

-- It was printed; or a write failed, and a beginning of it is printed.
abbrev pub IsPrinted : {E : Type 0} → List ℕ → ℕ → Reading → List ℕ → Result (Option (Bor (List ℕ))) E → Reading → Writing → Writing → Type 0
IsPrinted no_memory len r bytes (Ok found) new out out' =
    (printed : List ℕ) × IsFound no_memory len r bytes found new printed × Appends out.bytes out'.bytes printed
IsPrinted no_memory len r bytes (Err e) new out out' =
    (printed : List ℕ) × (found : Option (Bor (List ℕ))) × (after : Reading) × IsFound no_memory len r bytes found after printed
    × WritesFront out out' printed

abbrev pub is_complete : FileEnd → Bool
is_complete complete = true
is_complete end = false

-- The file was listed, and whether it is complete is answered; or a write failed.
abbrev pub IsListedTo : {E : Type 0} → List ℕ → Reading → List ℕ → Result Bool E → Writing → Writing → Type 0
IsListedTo no_memory start bytes (Ok whole) out out' =
    (text : List ℕ) × (end : FileEnd) × IsListing no_memory start bytes text end × Appends out.bytes out'.bytes text
    × (whole ≡ is_complete end)
IsListedTo no_memory start bytes (Err e) out out' =
    (text : List ℕ) × (end : FileEnd) × IsListing no_memory start bytes text end × WritesFront out out' text

-- the exit status of that
abbrev pub listed_status : {E : Type 0} → Result Bool E → ℕ
listed_status (Ok true) = 0
listed_status other = 1
