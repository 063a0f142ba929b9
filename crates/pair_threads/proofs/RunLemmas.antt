-- What was printed of a run.
use Rattle.std.proofs.Common.{◌≡◌, ℕ, ◌+◌, inl, inr, Bool, List, [], ◌++◌, Result, Ok, Err, IfOk, IfErr, map, subst, sym, ap, ◌∙◌, append_assoc, append-nil}
use Rattle.std.specs.Io.KnownBytes.{Appends}
use Rattle.std.proofs.KnownBytes.{Appends-trans}
use Rattle.pair_history.specs.HistoryState.{HistoryState}
use Rattle.growing_history.specs.LogState.{state_at, history_of}
use Rattle.growing_history.specs.Steps.{Step}
use Rattle.hypervisor.specs.Clients.{own}
use Rattle.hypervisor.specs.Looking.{HasFound}
use Rattle.hypervisor.specs.Opening.{new_client}
use Rattle.hypervisor.specs.declared.looking.Found.{Found}
use Rattle.script_player.specs.Streams.{Writing, Writes, IsPut}
use Rattle.pair_run.specs.RunPrinted.{IsWritten, run_text}
use Rattle.pair_run.specs.declared.printing.Answered.{Answered}
use Rattle.pair_run.specs.declared.run_file.ClientLine.{ClientLine}
use Rattle.pair_run.specs.declared.run_file.RunFile.{RunFile}
use Rattle.pair_threads.specs.Runs.{IsPlayed, IsRun, IsRunFrom, IsRunOf, IsSaid, IsWhole, start_of}
use Rattle.pair_threads.specs.Runs.{printed, cut_short, refused, later, is_bad, unread}
use Rattle.pair_threads.specs.Served.{AreServed}
use Rattle.pair_threads.specs.Told.{AreAnswered}
use Rattle.pair_threads.specs.declared.file_run.Unplayed.{Unplayed}
use Rattle.pair_threads.specs.declared.file_run.Unplayed.TheVariants as unplayed
use Rattle.pair_threads.specs.internal.Scripts.{ScriptState, AreScripts, HasEnded, HasEndedUntold, HasPlayed, IsUntold}
use Rattle.pair_threads.specs.internal.Scripts.{answered_of}
use Rattle.pair_threads.specs.internal.Shown.{IsShown, IsTold, untold_text}
use Rattle.pair_threads.proofs.AnswerLemmas.{all-answered}
use Rattle.pair_run.specs.Views.{IsReadAs}
use Rattle.pair_run.specs.declared.run_file.Unread.{Unread}
use Rattle.pair_run.specs.declared.run_file.Unread.TheVariants.{Bad, NoMemory}

pub written-said : {T E : Type 0} (old new : Writing) (r : Result T E) (bytes : List ℕ) → IsWritten old new r bytes → IsSaid old new bytes
written-said old new (Ok done) bytes w = inl w
written-said old new (Err e) bytes w = inr w

pub put-said : {T E : Type 0} (old new : Writing) (r : Result T E) (bytes : List ℕ) → IsPut old new r bytes → IsSaid old new bytes
put-said old new (Ok done) bytes p = inl p.0
put-said old new (Err e) bytes p = inr p

-- what was put is written out
pub put-shown : {T E : Type 0} (old mid new : Writing) (r : Result T E) (bytes : List ℕ) → Writes old mid bytes → IsPut mid new r []
    → IsWritten old new r bytes
put-shown old mid new (Ok done) bytes w p = record {
  all = subst (Appends old.bytes new.bytes) (append-nil bytes) (Appends-trans old.bytes mid.bytes new.bytes bytes [] w.all p.0.all);
  well = p.0.well;
}
put-shown old mid new (Err e) bytes w p =
    let front = p.front.0 in
    let rest = p.front.1 in
    record {
      front = (
        bytes ++ front,
        rest,
        sym (append-nil bytes) ∙ (ap (λ l. bytes ++ l) p.front.2 ∙ sym (append_assoc bytes front rest)),
        Appends-trans old.bytes mid.bytes new.bytes bytes front w.all p.front.3,
      );
      badly = p.badly;
    }

pub shown-played : (file : RunFile) (clients : List Answered) (entries : ℕ) (is_whole : Bool) (old new : Writing) (status : ℕ)
    → IsRunOf file clients entries is_whole → IsShown (run_text clients entries) is_whole old new status → IsPlayed file old new status
shown-played file clients entries is_whole old new status is (inl shown) = printed clients entries is_whole is shown.0 shown.1
shown-played file clients entries is_whole old new status is (inr shown) = cut_short clients entries is_whole is shown.0 shown.1

-- what was found says whether the run is whole
pub whole-found : (start : HistoryState) (all : List Step) (epochs : ℕ) (found : Found) → HasFound start all found
    → (found.generation ≡ 1) × (found.next ≡ epochs + 1) × (found.pending ≡ 0) → IsWhole epochs (state_at start all)
whole-found start all epochs found has is = record {
  generation = sym has.generation ∙ is.0;
  next = sym has.next ∙ is.1;
  sealed = has.sealed is.2;
}

-- of a value that was had
pub of-had : {T E : Type 0} (r : Result T E) (x : T) (P : T → Type 0) → r ≡ Ok x → IfOk r P → P x
of-had {T} {E} r x P is has = subst (λ (s : Result T E). IfOk s P) is has

-- of one that may have been had
pub if-had : {T E : Type 0} (r : Result T E) (P Q : T → Type 0) → ((x : T) → P x → Q x) → IfOk r P → IfOk r Q
if-had (Ok x) P Q so has = so x has
if-had (Err e) P Q so has = tt

-- likewise of one that may have been refused
pub if-refused : {T E : Type 0} (r : Result T E) (P Q : E → Type 0) → ((e : E) → P e → Q e) → IfErr r P → IfErr r Q
if-refused (Ok x) P Q so has = tt
if-refused (Err e) P Q so has = so e has

-- all that is told of a run that has ended, by the lines of its scripts
pub ended-run : (start : HistoryState) → ((c : ℕ) → own start (new_client c) ≡ []) → (lines : List ClientLine) (scripts ended : List ScriptState)
    (epochs : ℕ) (clients : List Answered) (entries : ℕ) (is_whole : Bool) → AreScripts lines scripts
    → AreServed (HasPlayed start) scripts ended → HasEnded start ended epochs clients entries is_whole
    → IsRunFrom start lines epochs clients entries is_whole
ended-run start unseen lines scripts ended epochs clients entries is_whole are served e = record {
  all = e.all;
  legal = e.has.legal;
  unmarked = e.unmarked;
  guest = e.has.guest e.unmarked;
  answered =
      subst (AreAnswered (history_of start e.all) lines) (sym e.answered)
      (all-answered start unseen e.all lines scripts ended e.looked are served e.see);
  count = e.count ∙ e.has.entries e.unmarked;
  whole = λ is. whole-found start e.all epochs e.found e.has (e.whole is);
}

-- and why nothing is
pub untold-run : (start : HistoryState) → ((c : ℕ) → own start (new_client c) ≡ []) → (lines : List ClientLine) (scripts ended : List ScriptState)
    (why : Unplayed) → AreScripts lines scripts → AreServed (HasPlayed start) scripts ended → HasEndedUntold start ended why
    → IsUntold start lines why
untold-run start unseen lines scripts ended unplayed.NoMemory are served e = tt
untold-run start unseen lines scripts ended (unplayed.Later generation) are served e = record {
  all = e.all;
  legal = e.has.legal;
  generation = λ is. e.later (e.has.generation ∙ is);
  clients = map answered_of ended;
  answered = all-answered start unseen e.all lines scripts ended e.looked are served e.see;
}

pub untold-played : (file : RunFile) (why : Unplayed) (old new : Writing) (status : ℕ) → IsUntold (start_of file) file.clients.items why
    → IsSaid old new (untold_text why) → status ≡ 1 → IsPlayed file old new status
untold-played file unplayed.NoMemory old new status is said failed = refused said failed
untold-played file (unplayed.Later generation) old new status is said failed = later is said failed

pub told-run : (source : List ℕ) (why : Unread) (out out' err err' : Writing) (status : ℕ) → IsReadAs source (Err why)
    → IsTold why out out' err err' status → IsRun source out out' err err' status
told-run source (Bad number) out out' err err' status means told = is_bad number means told.0 told.1 told.2
told-run source (NoMemory wanted) out out' err err' status means told = unread told.0 told.1 told.2
