-- A file of a run, as it is read line by line.
use Rattle.std.proofs.Common.{◌≡◌, ◌<◌, ◌+◌, ℕ, List, [], ◌∷◌, ◌++◌, map, length, Option, Some, None, Bor, MatchOption, IfSome}
use Rattle.std.proofs.Common.{◌==◌, ◌||◌, Bool, true, false, Result, Ok, Err, IsErr, Vec, Global, refl, sym, ap, subst, ◌∙◌, arith}
use Rattle.std.proofs.lemmas.List.{map-append}
use Rattle.std.specs.List.{list_any}
use Rattle.std.specs.Result.{IsErrAnd}
use Rattle.memory_wanted.specs.declared.MemoryWanted.{MemoryWanted}
use Rattle.script_player.specs.Boot.{IsInLimits, boot_line}
use Rattle.script_player.specs.declared.boot.Boot.{Boot}
use Rattle.script_player.specs.Meaning.{lines_of}
use Rattle.pair_run.specs.RunFile.{Stage, unbooted, booted, told, Outcome, refused, bad, GoesOn, is_silence, boots, tells, adds}
use Rattle.pair_run.specs.RunFile.{Means, goes_on, ends_badly, ends_refused}
use Rattle.pair_run.specs.RunFile.{Action, ClientLine, IsClient, IsFree, IsRefused, RunFile, has_line, with_client}
use Rattle.pair_run.specs.declared.run_file.Action.{Action as ReadAction}
use Rattle.pair_run.specs.declared.run_file.ClientLine.{ClientLine as ReadClientLine}
use Rattle.pair_run.specs.declared.run_file.RunFile.{RunFile as ReadRunFile}
use Rattle.pair_run.specs.declared.reading.Stage.{Stage as ReadStage}
use Rattle.pair_run.specs.declared.run_file.Unread.{Unread}
use Rattle.pair_run.specs.declared.run_file.Unread.TheVariants as unread
use Rattle.pair_run.specs.Views.{IsReadAs, action_of, client_line, run_file}
use Rattle.pair_run.specs.internal.Reading.{lines_left, most_lines, IsAdded, IsLineRead}
use Rattle.pair_run.proofs.ActionLemmas.{texts}

-- so many lines of a source were read, and what comes of the others is what comes of all
abbrev pub HasRead : List ℕ → Stage → ℕ → List (List ℕ) → Type 0
HasRead source stage count left = (outcome : Outcome) → Means stage count left outcome → Means unbooted 0 (lines_of source) outcome

-- the lines that are left once the first was read
module _ (left : Option (Bor (List ℕ))) (text : Bor (List ℕ)) (is : left ≡ Some text) where
  pub at-line : (line : List ℕ) (r : Option (Bor (List ℕ)))
      → MatchOption r (lines_of text.now ≡ line ∷ []) (λ rest. lines_of text.now ≡ line ∷ lines_of rest.now)
      → lines_left (texts left) ≡ line ∷ lines_left (texts r)
  at-line line None e = rw is e
  at-line line (Some rest) e = rw is e

  pub fewer-lines : (r : Option (Bor (List ℕ))) → IfSome r (λ rest. length rest.now < length text.now)
      → most_lines (texts r) < most_lines (texts left)
  fewer-lines None h = rw is (omega arith)
  fewer-lines (Some rest) h = rw is (omega arith)

module _ (source : List ℕ) (stage : Stage) (count : ℕ) (line : List ℕ) (left others : List (List ℕ)) (is : left ≡ line ∷ others)
    (before : HasRead source stage count left) where
  pub one-line : (next : Stage) → GoesOn stage line next → HasRead source next (count + 1) others
  one-line next g outcome m = before outcome (rw is (goes_on stage next count line others outcome g m))

  -- the file isn't read on
  given-up : (error : Unread) → IsLineRead stage (count + 1) line (Err error) → IsReadAs source (Err error)
  given-up (unread.Bad number) h = rw h.1 (before (bad (count + 1)) (rw is (ends_badly stage count line others h.0)))
  given-up (unread.NoMemory wanted) h = before refused (rw is (ends_refused stage count line others h))

  pub given-up-as : (error : Unread) → IsLineRead stage (count + 1) line (Err error) → (r : Result ReadRunFile Unread)
      → IsErrAnd r (λ e. e ≡ error) → IsReadAs source r
  given-up-as error h (Ok file) e = absurd e
  given-up-as error h (Err again) e = subst (λ (u : Unread). IsReadAs source (Err u)) (sym e) (given-up error h)

-- ---- a client's line

-- whether a client has a line, by the lines that were read
pub has-line-read : (client : ℕ) (lines : List ReadClientLine)
    → has_line client (map client_line lines) ≡ list_any (λ (line : ReadClientLine). line.client == client) lines
has-line-read client [] = refl
has-line-read client (line ∷ lines) = ap (λ b. (line.client == client) || b) (has-line-read client lines)

pub not-added : {E : Type 0} (old : RunFile) (text : List ℕ) (r : Result Bool E) (new : RunFile) → IsErr r
    → (line : ClientLine) → IsClient text line → IsFree old line.client → IsAdded old text r new
not-added old text (Ok done) new e line is free = absurd (cc)
not-added old text (Err error) new e line is free = (line, is, free)

-- a file that was read, with one client's line more
pub one-added : (file : ReadRunFile) (lines : Vec ReadClientLine Global) (client : ℕ) (read : Vec ReadAction Global) (actions : List Action)
    → map action_of read.items ≡ actions → lines.items ≡ file.clients.items ++ (record { client = client; actions = read }) ∷ []
    → run_file (record { boot = file.boot; epochs = file.epochs; steps = file.steps; clients = lines })
    ≡ with_client (run_file file) (record { client = client; actions = actions })
one-added file lines client read actions is pushed =
    let all : map client_line lines.items
    ≡ map client_line file.clients.items ++ (record { client = client; actions = map action_of read.items }) ∷ [] =
    ap (map client_line) pushed ∙ map-append client_line file.clients.items ((record { client = client; actions = read }) ∷ []) in
    ap (λ (clients : List ClientLine). record { boot = boot_line file.boot; epochs = file.epochs; steps = file.steps; clients = clients })
    (all ∙ ap (λ acts. map client_line file.clients.items ++ (record { client = client; actions = acts }) ∷ []) is)

-- a line that asked for memory which there wasn't
pub refused-line : (stage : Stage) (number : ℕ) (text : List ℕ) (r : Result ReadStage Unread) (wanted : MemoryWanted)
    → IsErrAnd r (λ e. e ≡ unread.NoMemory wanted) → IsRefused stage text → IsLineRead stage number text r
refused-line stage number text (Ok next) wanted e h = absurd e
refused-line stage number text (Err error) wanted e h = subst (λ (u : Unread). IsLineRead stage number text (Err u)) (sym e) h

-- ---- what can be booted

abbrev pub IsWithin : Stage → Type 0
IsWithin unbooted = Unit {0}
IsWithin (booted line) = IsInLimits line
IsWithin (told file) = IsInLimits file.boot

pub still-within : (stage : Stage) (text : List ℕ) (next : Stage) → GoesOn stage text next → IsWithin stage → IsWithin next
still-within stage text next (is_silence s e) h = subst IsWithin (sym e) h
still-within stage text next (boots line e is n) h = subst IsWithin (sym n) is.limits
still-within stage text next (tells line epochs steps e is n) h = subst IsWithin (sym n) (subst IsWithin e h)
still-within stage text next (adds file line e is free n) h = subst IsWithin (sym n) (subst IsWithin e h)

-- ---- the end

pub ended-file : (source : List ℕ) {stage last : Stage} {count : ℕ} {left : Option (Bor (List ℕ))} {outcome : Outcome}
    → HasRead source stage count (lines_left (texts left)) → left ≡ None → stage ≡ last → Means last count [] outcome
    → Means unbooted 0 (lines_of source) outcome
ended-file source before none is m = before _ (rw (none, is) m)

pub added-none : (E : Type 0) (old : RunFile) (text : List ℕ) (b : Bool) (new : RunFile) → b ≡ false
    → IsAdded {E = E} old text (Ok b) new → (line : ClientLine) → IsClient text line → IsFree old line.client → ⊥
added-none E old text false new e h = h
added-none E old text true new e h = absurd (cc)

pub added-one : (E : Type 0) (old : RunFile) (text : List ℕ) (b : Bool) (new : RunFile) → b ≡ true
    → IsAdded {E = E} old text (Ok b) new
    → (line : ClientLine) × IsClient text line × IsFree old line.client × (new ≡ with_client old line)
added-one E old text true new e h = h
added-one E old text false new e h = absurd (cc)

-- a file of which no client's line was read
pub told-first : (boot : Boot) (epochs steps : ℕ) (none : Vec ReadClientLine Global) → none.items ≡ []
    → told (run_file (record { boot = boot; epochs = epochs; steps = steps; clients = none }))
    ≡ told (record { boot = boot_line boot; epochs = epochs; steps = steps; clients = [] })
told-first boot epochs steps none e =
    ap (λ (lines : List ReadClientLine). told (record {
      boot = boot_line boot;
      epochs = epochs;
      steps = steps;
      clients = map client_line lines;
    })) e
