-- What is printed of a run that has ended, and of a file that isn't read.
use Rattle.std.specs.Prelude.{◌≡◌, ℕ, ◌⊎◌, Bool, List, codes}
use Rattle.pair_run.specs.declared.run_file.Unread.{Unread}
use Rattle.pair_run.specs.declared.run_file.Unread.TheVariants.{Bad, NoMemory}
use Rattle.script_player.specs.Meaning.{bad_line}
use Rattle.script_player.specs.Streams.{Writing, Writes, WritesFront}
use Rattle.pair_threads.specs.Runs.{IsSaid, status_of}
use Rattle.pair_threads.specs.declared.file_run.Unplayed.{Unplayed}
use Rattle.pair_threads.specs.declared.file_run.Unplayed.TheVariants as unplayed

-- all of this was written, and the status says whether the run is whole; or a write failed
abbrev pub IsShown : List ℕ → Bool → Writing → Writing → ℕ → Type 0
IsShown bytes is_whole old new status =
    (Writes old new bytes × (status ≡ status_of is_whole))
    ⊎ (WritesFront old new bytes × (status ≡ 1))

-- why a file isn't read: a bad line is told on standard error, and want of memory on standard output
abbrev pub IsTold : Unread → Writing → Writing → Writing → Writing → ℕ → Type 0
IsTold (Bad number) out out' err err' status = (out' ≡ out) × IsSaid err err' (bad_line number) × (status ≡ 1)
IsTold (NoMemory _) out out' err err' status = IsSaid out out' (codes "refused 12 NoMemory\n") × (err' ≡ err) × (status ≡ 1)

-- what is printed where nothing is told of a run
abbrev pub untold_text : Unplayed → List ℕ
untold_text unplayed.NoMemory = codes "refused 12 NoMemory\n"
untold_text (unplayed.Later _) = codes "refused 9 Stale\n"
