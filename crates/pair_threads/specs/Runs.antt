-- What is printed of a file that is run in threads, and the exit status (docs/SCRIPTS.md, "A pair in threads").
use Rattle.std.specs.Prelude.{◌≡◌, ◌≢◌, ℕ, ◌+◌, ◌⊎◌, Bool, true, false, List, [], length, codes}
use Rattle.guest_rules.specs.Guest.{boot_guest}
use Rattle.pair_history.specs.HistoryState.{HistoryState}
use Rattle.growing_history.specs.Steps.{Step}
use Rattle.growing_history.specs.LogState.{LogState, LegalSteps, state_at, history_of}
use Rattle.hypervisor.specs.Opening.{start_with}
use Rattle.hypervisor.specs.Service.{HasOneGuest}
use Rattle.pair_run.specs.RunFile.{Means, unbooted, says, bad}
use Rattle.pair_run.specs.RunPrinted.{run_text}
use Rattle.pair_run.specs.Views.{run_file}
use Rattle.pair_run.specs.declared.printing.Answered.{Answered}
use Rattle.pair_run.specs.declared.run_file.ClientLine.{ClientLine}
use Rattle.pair_run.specs.declared.run_file.RunFile.{RunFile}
use Rattle.script_player.specs.Guests.{guest_image, named_guest}
use Rattle.script_player.specs.Meaning.{bad_line, lines_of}
use Rattle.script_player.specs.Streams.{Writing, Writes, WritesFront}
use Rattle.pair_threads.specs.Told.{AreAnswered}

-- All epochs of a run were sealed, so many of the first generation, and each is committed.
pub record IsWhole (epochs : ℕ) (s : LogState) : Type 0 where
  pub generation : s.generation ≡ 1
  pub next : s.next ≡ epochs + 1
  pub sealed : s.sealed ≡ []

-- A run of these lines and so many epochs, of a pair that starts there. There is one legal list of steps, of which no commit is marked: its
-- history is that of one guest that never fails, has so many entries, and tells all lines' answers; and where the run is said to be whole,
-- it is.
pub record IsRunFrom (start : HistoryState) (lines : List ClientLine) (epochs : ℕ) (clients : List Answered) (entries : ℕ) (is_whole : Bool) :
    Type 0 where
  pub all : List Step
  pub legal : LegalSteps start all
  pub unmarked : (state_at start all).marked ≡ 0
  pub guest : HasOneGuest start (history_of start all)
  pub answered : AreAnswered (history_of start all) lines clients
  pub count : entries ≡ length (history_of start all)
  pub whole : is_whole ≡ true → IsWhole epochs (state_at start all)

-- There is a legal list of steps, of a pair that starts there, by which it is in a later generation than its first, and whose history tells
-- answers that all these lines may have got. Whether these steps were made isn't said.
pub record IsLaterRunFrom (start : HistoryState) (lines : List ClientLine) : Type 0 where
  pub all : List Step
  pub legal : LegalSteps start all
  pub generation : (state_at start all).generation ≢ 1
  pub clients : List Answered
  pub answered : AreAnswered (history_of start all) lines clients

-- a pair starts with the guest at boot which the file names
abbrev pub start_of : RunFile → HistoryState
start_of file =
    start_with (boot_guest file.boot.pages file.boot.sectors (guest_image (named_guest file.boot.guest))) file.boot.clients

abbrev pub IsRunOf : RunFile → List Answered → ℕ → Bool → Type 0
IsRunOf file clients count is_whole = IsRunFrom (start_of file) file.clients.items file.epochs clients count is_whole

abbrev pub IsLaterRunOf : RunFile → Type 0
IsLaterRunOf file = IsLaterRunFrom (start_of file) file.clients.items

-- the status of a run that is printed
abbrev pub status_of : Bool → ℕ
status_of true = 0
status_of false = 1

-- all of it was written, or the first of it where a write failed
abbrev pub IsSaid : Writing → Writing → List ℕ → Type 0
IsSaid old new bytes = Writes old new bytes ⊎ WritesFront old new bytes

-- Of a file that was read: what standard output gets, and the status.
pub data IsPlayed (file : RunFile) (out out' : Writing) (status : ℕ) : Type 0 where
  -- the pair ran, and all is printed; the status says whether the run is whole
  printed : (clients : List Answered) (count : ℕ) (is_whole : Bool) → IsRunOf file clients count is_whole
      → Writes out out' (run_text clients count) → status ≡ status_of is_whole → IsPlayed file out out' status
  -- it ran, and a write failed
  cut_short : (clients : List Answered) (count : ℕ) (is_whole : Bool) → IsRunOf file clients count is_whole
      → WritesFront out out' (run_text clients count) → status ≡ 1 → IsPlayed file out out' status
  -- there is no memory for it, or no thread can be made
  refused : IsSaid out out' (codes "refused 12 NoMemory\n") → status ≡ 1 → IsPlayed file out out' status
  -- nothing of the run is printed, and a legal list of steps in a later generation tells all lines' answers
  later : IsLaterRunOf file → IsSaid out out' (codes "refused 9 Stale\n") → status ≡ 1 → IsPlayed file out out' status

-- Of any bytes: what standard output and standard error get, and the status.
pub data IsRun (source : List ℕ) (out out' err err' : Writing) (status : ℕ) : Type 0 where
  played : (file : RunFile) → Means unbooted 0 (lines_of source) (says (run_file file)) → IsPlayed file out out' status → err' ≡ err
      → IsRun source out out' err err' status
  -- its first bad line is told, and nothing is printed
  is_bad : (number : ℕ) → Means unbooted 0 (lines_of source) (bad number) → out' ≡ out → IsSaid err err' (bad_line number) → status ≡ 1
      → IsRun source out out' err err' status
  -- there is no memory for what a line says
  unread : IsSaid out out' (codes "refused 12 NoMemory\n") → err' ≡ err → status ≡ 1 → IsRun source out out' err err' status
