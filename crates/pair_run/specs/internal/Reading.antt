-- A file of a run that is being read.
use Rattle.std.specs.Prelude.{◌≡◌, ℕ, ◌+◌, true, false, Bool, List, [], length, Option, Some, None, Result, Ok, Err}
use Rattle.script_player.specs.Boot.{boot_line}
use Rattle.script_player.specs.Meaning.{lines_of}
use Rattle.pair_run.specs.RunFile.{Stage, unbooted, booted, told, GoesOn, IsBad, IsRefused}
use Rattle.pair_run.specs.RunFile.{ClientLine, IsClient, IsFree, RunFile, with_client}
use Rattle.pair_run.specs.Views.{run_file}
use Rattle.pair_run.specs.declared.reading.Stage.{Stage as ReadStage}
use Rattle.pair_run.specs.declared.reading.Stage.TheVariants as stages
use Rattle.pair_run.specs.declared.run_file.Unread.{Unread}
use Rattle.pair_run.specs.declared.run_file.Unread.TheVariants as unread

abbrev pub stage_of : ReadStage → Stage
stage_of stages.Unbooted = unbooted
stage_of (stages.Booted boot) = booted (boot_line boot)
stage_of (stages.Told file) = told (run_file file)

-- What became of a line of this number.
abbrev pub IsLineRead : Stage → ℕ → List ℕ → Result ReadStage Unread → Type 0
IsLineRead stage number text (Ok next) = GoesOn stage text (stage_of next)
IsLineRead stage number text (Err (unread.Bad n)) = IsBad stage text × (n ≡ number)
IsLineRead stage number text (Err (unread.NoMemory wanted)) = IsRefused stage text

-- A client's line was added; or the text is none; or there was no memory for it.
abbrev pub IsAdded : {E : Type 0} → RunFile → List ℕ → Result Bool E → RunFile → Type 0
IsAdded old text (Ok true) new = (line : ClientLine) × IsClient text line × IsFree old line.client × (new ≡ with_client old line)
IsAdded old text (Ok false) new = (line : ClientLine) → IsClient text line → IsFree old line.client → ⊥
IsAdded old text (Err e) new = (line : ClientLine) × IsClient text line × IsFree old line.client

-- the lines that are left to read, none once the last one was read
abbrev pub lines_left : Option (List ℕ) → List (List ℕ)
lines_left None = []
lines_left (Some text) = lines_of text

-- how many lines that can be at most
abbrev pub most_lines : Option (List ℕ) → ℕ
most_lines None = 0
most_lines (Some text) = length text + 1
