-- A script is one run of its pair.
use Rattle.std.proofs.Common.{◌≡◌, ◌≤◌, ℕ, zero, suc, true, List, [], ◌∷◌, ◌++◌, length, ◌⊎◌, inl, inr, arith, refl, sym, ap, ◌∙◌}
use Rattle.std.{proofs.{Common.{subst, append_assoc, append-nil}, lemmas.List.Elements.recursion_from_All}, specs.Prelude.codes}
use Rattle.std.specs.{Prelude.replicate, List.AllByRecursion}
use Rattle.pair_record.specs.declared.event.{Event.Event, Reply.Reply}
use Rattle.pair_core.specs.{HistoryState.HistoryState, Calls.Moment, Pair.Pair, Service.{Serves, HasServed, ServesSteps, is_step, moment}}
use Rattle.pair_core.specs.laws.Along.{along-append, along-more}
use Rattle.script_player.specs.{Boot.{BootLine, IsBoot}, Lines.{Line, order}}
use Rattle.script_player.specs.Meaning.{Ending, GoesOn, IsAnswered, IsLine, IsReady, Means, Stage, Steps, bad, finished, is_silent, playing}
use Rattle.script_player.specs.{Meaning.{refused, unbooted}, Scripts.{AreSilent, AreSteps, BootsNone, Ends, IsOneRun, Played, Plays}}
use Rattle.script_player.{specs.Scripts.{PlaysAll, Was, events_of, printed_of, replies_of, texts_of}, proofs.ListLemmas.all-push}
use Rattle.script_player.specs.declared.script.Command.TheVariants as commands
use Rattle.pair_record.specs.declared.event.Event.TheVariants as events
use Rattle.pair_record.specs.declared.event.Reply.TheVariants as replies
use Rattle.script_player.specs.Meaning as meaning
use Rattle.script_player.specs.Scripts as scripts

-- ---- runs, one after another

module _ (start : HistoryState) where
  -- a step that was made says its count, and nothing else depends on that
  counted-so : (old new : Moment) (reply : Reply) (count : ℕ) → is_step reply ≡ true → Serves start old events.Step reply new
      → Serves start old events.Step (replies.Steps count) new
  counted-so old new (replies.Steps n) count is s = record {
    added = s.added;
    grows = s.grows;
    legal = s.legal;
    moves = s.moves;
    enters = s.enters;
    guest = s.guest;
    resumes = s.resumes;
    answered = s.answered;
    tells = s.tells;
    loses = s.loses;
  }
  counted-so old new other count is s = cc

-- the steps of a line, with the reply that is printed in the last one's place
pub record Ended (start : HistoryState) (old : Moment) (count : ℕ) (last : Reply) (new : Moment) : Type 0 where
  pub made : List Reply
  pub are : AreSteps count made last
  pub served : HasServed start old (replicate (suc (length made)) events.Step) (made ++ last ∷ []) new

abbrev AreMade : List Reply → Type 0
AreMade made = AllByRecursion (λ reply. is_step reply ≡ true) made

module _ (start : HistoryState) where
  -- the last of these steps is told with that count
  last-counted : (first : Reply) (made : List Reply) (old new : Moment) (count : ℕ) → AreMade (first ∷ made)
      → HasServed start old (replicate (length (first ∷ made)) events.Step) (first ∷ made) new
      → (front : List Reply) × (length front ≡ length made) × AreMade front
      × HasServed start old (replicate (suc (length front)) events.Step) (front ++ replies.Steps count ∷ []) new
  last-counted first [] old new count are run =
      ([], refl, tt, (run.0, counted-so start old run.0 first count are.0 run.1, run.2))
  last-counted first (second ∷ made) old new count are run =
      let more = last-counted second made run.0 new count are.1 run.2 in
      (first ∷ more.0, ap suc more.1, (are.0, more.2), (run.0, run.1, more.3))

one-more-step : (n : ℕ) → replicate (suc n) events.Step ≡ replicate n events.Step ++ events.Step ∷ []
one-more-step zero = refl
one-more-step (suc n) = ap (λ es. events.Step ∷ es) (one-more-step n)

module _ (start : HistoryState) (old new : Moment) (wanted : ℕ) (some : 1 ≤ wanted) where
  -- all were made
  all-made : (made : List Reply) (count : ℕ) → length made ≡ wanted → AreMade made
      → HasServed start old (replicate (length made) events.Step) made new → Ended start old wanted (replies.Steps count) new
  all-made [] count whole are run = absurd (omega (arith, whole, some))
  all-made (first ∷ made) count whole are run =
      let told = last-counted start first made old new count are run in
      record {
        made = told.0;
        are = record { each = told.2; most = omega (arith, told.1, whole); all = λ is. omega (arith, told.1, whole) };
        served = told.3;
      }

  pub steps-served : (reply : Reply) → ServesSteps start old wanted reply new → Ended start old wanted reply new
  steps-served (replies.Steps count) s =
      let end = s.ends in
      all-made s.made count end.0 (recursion_from_All (λ r. is_step r ≡ true) s.made s.are_steps)
      (subst (λ (m : Moment). HasServed start old (replicate (length s.made) events.Step) s.made m) (sym end.1) s.run)
  -- one more was refused
  steps-served (replies.Refused why) s = record {
    made = s.made;
    are = record { each = recursion_from_All (λ r. is_step r ≡ true) s.made s.are_steps; most = s.ends.0; all = λ is. cc is };
    served = subst (λ (es : List Event). HasServed start old es (s.made ++ replies.Refused why ∷ []) new)
        (sym (one-more-step (length s.made)))
        (along-more (Serves start) (replicate (length s.made) events.Step) s.made old s.mid new events.Step (replies.Refused why)
        s.run s.ends.1);
  }
  steps-served other s = absurd s.ends

-- ---- one line

-- what a line was: the events, their replies, and that it played so
abbrev pub AsPlayed : List ℕ → Pair → List ℕ → List ℕ → Pair → Type 0
AsPlayed no_memory old text printed new = (events : List Event) × (replies : List Reply)
    × Plays no_memory old (record { text = text; printed = printed; events = events; replies = replies }) new

module _ {no_memory : List ℕ} {old new : Pair} {text printed : List ℕ} where
  as-steps : (count : ℕ) → IsLine text (order (commands.Steps count)) → Steps no_memory old count printed new → AsPlayed no_memory old text printed new
  as-steps count is h =
      let ended = steps-served old.start (moment old) (moment new) count is.1 h.reply h.serves in (
        replicate (suc (length ended.made)) events.Step,
        ended.made ++ h.reply ∷ [],
        scripts.steps count ended.made h is ended.are ended.served (refl, refl),
      )

  as-answered : (said : Line) → IsLine text said → IsAnswered no_memory old said printed new → AsPlayed no_memory old text printed new
  as-answered (order (commands.Steps count)) is h = as-steps count is h
  as-answered (order (commands.Sector sector)) is h = ([], [], scripts.reads sector h.0 is h.1 ((refl, refl), h.2) h.3)
  as-answered (order commands.Show) is h = ([], [], scripts.shows is ((refl, refl), h.0) h.1)
  as-answered said is h = (h.0 ∷ [], h.2.reply ∷ [], scripts.event said h.0 h.2 is h.1 (refl, refl))

-- a line after the boot line, and the pair after it
next-line : {no_memory : List ℕ} {stage next : Stage} {text printed : List ℕ} → GoesOn no_memory stage text printed next → (old : Pair) → stage ≡ playing old
    → (new : Pair) × (next ≡ playing new) × AsPlayed no_memory old text printed new
next-line (meaning.is_silence silent none same) old at =
    (old, same ∙ at, ([], [], scripts.silent silent ((refl, refl), none) refl))
next-line (meaning.boots said new waits is ready booted then) old at = cc (sym waits ∙ at)
next-line (meaning.answers said before new plays is answered then) old at =
    let same : before ≡ old = cc (sym plays ∙ at) in (new, then, as-answered said is (rw same at answered))
next-line (meaning.finds_no_memory w client bytes plays is told same) old at =
    (old, same ∙ at, ([], [], scripts.finds_no_memory client bytes is ((refl, refl), told) refl))

-- ---- the lines after the boot line

-- what they are, played in turn, up to those that are left
pub record PlayedOn (no_memory : List ℕ) (old : Pair) (lines : List (List ℕ)) (printed : List ℕ) (ending : Ending) : Type 0 where
  pub played : List Played
  pub left : List (List ℕ)
  pub parts : lines ≡ texts_of played ++ left
  pub last : Pair
  pub plays : PlaysAll no_memory old played last
  pub tail : List ℕ
  pub text : printed ≡ printed_of played ++ tail
  pub ends : Ends no_memory (playing last) left tail ending

played-none : {no_memory : List ℕ} (old : Pair) (stage : Stage) (lines : List (List ℕ)) (printed : List ℕ) (ending : Ending) → stage ≡ playing old
    → Ends no_memory stage lines printed ending → PlayedOn no_memory old lines printed ending
played-none {no_memory} old stage lines printed ending at ends = record {
  played = [];
  left = lines;
  parts = refl;
  last = old;
  plays = refl;
  tail = printed;
  text = refl;
  ends = subst (λ (s : Stage). Ends no_memory s lines printed ending) at ends;
}

pub played-on : {no_memory : List ℕ} {stage : Stage} {number : ℕ} {lines : List (List ℕ)} {printed : List ℕ} {ending : Ending}
    → Means no_memory stage number lines printed ending → (old : Pair) → stage ≡ playing old → PlayedOn no_memory old lines printed ending
played-on (meaning.ends stage number) old at = played-none old stage [] [] finished at (refl, refl)
played-on (meaning.goes_on stage next number line first rest texts ending g m) old at =
    let one = next-line g old at in
    let more = played-on m one.0 one.1 in
    record {
      played = record { text = line; printed = first; events = one.2.0; replies = one.2.1 } ∷ more.played;
      left = more.left;
      parts = ap (λ ls. line ∷ ls) more.parts;
      last = more.last;
      plays = (one.0, one.2.2, more.plays);
      tail = more.tail;
      text = ap (λ t. first ++ t) more.text ∙ sym (append_assoc first (printed_of more.played) more.tail);
      ends = more.ends;
    }
played-on (meaning.ends_badly stage number text texts is) old at =
    played-none old stage (text ∷ texts) [] (bad number) at (text, texts, refl, is, refl)
played-on (meaning.ends_refused stage number text texts is) old at =
    played-none old stage (text ∷ texts) _ refused at (text, texts, refl, is, refl)

-- a pair that plays prints nothing after the last line that is played
quiet-end : (no_memory : List ℕ) (w : Pair) (left : List (List ℕ)) (tail : List ℕ) (ending : Ending) → Ends no_memory (playing w) left tail ending → tail ≡ []
quiet-end no_memory w left tail finished h = h.1
quiet-end no_memory w left tail (bad number) h = h.4
quiet-end no_memory w left tail refused h = cc (sym h.3.waits)

-- ---- what its clients see

module _ (old new : Pair) (line : Played) where
  -- the events of a line, and their replies
  was-served : (es : List Event) (rs : List Reply) → Was line es rs → HasServed old.start (moment old) es rs (moment new)
      → HasServed old.start (moment old) line.events line.replies (moment new)
  was-served es rs was run = rw (was.0, was.1) run

  still : Was line [] [] → new ≡ old → (new.start ≡ old.start) × HasServed old.start (moment old) line.events line.replies (moment new)
  still was same = (ap (λ (w : Pair). w.start) same, was-served [] [] was (ap moment same))

  line-served : {no_memory : List ℕ} → Plays no_memory old line new → (new.start ≡ old.start) × HasServed old.start (moment old) line.events line.replies (moment new)
  line-served (scripts.silent silent is same) = still is.0 same
  line-served (scripts.event said event done is asks was) =
      (done.does.start, was-served (event ∷ []) (done.reply ∷ []) was (moment new, done.serves, refl))
  line-served (scripts.steps count made done is are served was) = (done.start, was-served _ _ was served)
  line-served (scripts.shows is prints same) = still prints.0 same
  line-served (scripts.reads sector bytes is named prints same) = still prints.0 same
  line-served (scripts.finds_no_memory client bytes is prints same) = still prints.0 same

pub lines-served : (no_memory : List ℕ) (start : HistoryState) (old new : Pair) (lines : List Played) → old.start ≡ start → PlaysAll no_memory old lines new
    → HasServed start (moment old) (events_of lines) (replies_of lines) (moment new)
lines-served no_memory start old new [] at plays = ap moment plays
lines-served no_memory start old new (line ∷ lines) at plays =
    let one = line-served old plays.0 line plays.1 in
    let first = subst (λ (s : HistoryState). HasServed s (moment old) line.events line.replies (moment plays.0)) at one.1 in
    along-append (Serves start) line.events line.replies (events_of lines) (replies_of lines) (moment old) (moment plays.0) (moment new)
    first (lines-served no_memory start plays.0 new lines (one.0 ∙ at) plays.2)

-- ---- a whole script

abbrev pub IsRun : List ℕ → List (List ℕ) → List ℕ → Ending → Type 0
IsRun no_memory lines printed ending = BootsNone no_memory lines printed ending ⊎ IsOneRun no_memory lines printed ending

-- The lines before these are silent.
module _ {no_memory : List ℕ} (before : List (List ℕ)) (silent : AreSilent before) where
  boots-none : (stage : Stage) (lines : List (List ℕ)) (printed : List ℕ) (ending : Ending) → stage ≡ unbooted
      → Ends no_memory stage lines printed ending → IsRun no_memory (before ++ lines) printed ending
  boots-none stage lines printed ending at ends = inl (record {
    before = before;
    left = lines;
    parts = refl;
    are_silent = silent;
    ends = subst (λ (s : Stage). Ends no_memory s lines printed ending) at ends;
  })

  -- the boot line comes first
  boot-first : (text : List ℕ) (lines : List (List ℕ)) (first rest : List ℕ) (ending : Ending) (said : BootLine) (w : Pair)
      → IsBoot text said → IsReady said w → first ≡ codes "booted\n" → PlayedOn no_memory w lines rest ending
      → IsOneRun no_memory (before ++ text ∷ lines) (first ++ rest) ending
  boot-first text lines first rest ending said w is ready booted on =
      let none = quiet-end no_memory on.last on.left on.tail ending on.ends in
      record {
        before = before;
        boot = text;
        played = on.played;
        left = on.left;
        parts = ap (λ ls. before ++ text ∷ ls) on.parts;
        are_silent = silent;
        said = said;
        is_boot = is;
        first = w;
        last = on.last;
        ready = ready;
        plays = on.plays;
        answers = ap (λ t. first ++ t) (on.text ∙ ap (λ t. printed_of on.played ++ t) none ∙ append-nil (printed_of on.played))
            ∙ ap (λ t. t ++ printed_of on.played) booted;
        served = lines-served no_memory w.start w on.last on.played refl on.plays;
        ends = subst (λ (t : List ℕ). Ends no_memory (playing on.last) on.left t ending) none on.ends;
      }

  from-first : (stage next : Stage) (text first rest : List ℕ) (texts : List (List ℕ)) (ending : Ending) → GoesOn no_memory stage text first next
      → stage ≡ unbooted → (AreSilent (before ++ text ∷ []) → next ≡ stage → IsRun no_memory ((before ++ text ∷ []) ++ texts) rest ending)
      → ((w : Pair) → next ≡ playing w → PlayedOn no_memory w texts rest ending) → IsRun no_memory (before ++ text ∷ texts) (first ++ rest) ending
  from-first stage next text first rest texts ending (meaning.is_silence quiet none same) at again on =
      let run = again (all-push (λ t. is_silent t ≡ true) before text silent quiet) same in
      rw none (subst (λ (ls : List (List ℕ)). IsRun no_memory ls rest ending) (append_assoc before (text ∷ []) texts) run)
  from-first stage next text first rest texts ending (meaning.boots said new waits is ready booted then) at again on =
      inr (boot-first text texts first rest ending said new is ready booted (on new then))
  from-first stage next text first rest texts ending (meaning.answers said old new plays is answered then) at again on =
      cc (sym at ∙ plays)
  from-first stage next text first rest texts ending (meaning.finds_no_memory w client bytes plays is told same) at again on =
      cc (sym at ∙ plays)

pub one-run : {no_memory : List ℕ} {stage : Stage} {number : ℕ} {lines : List (List ℕ)} {printed : List ℕ} {ending : Ending}
    → Means no_memory stage number lines printed ending → stage ≡ unbooted → (before : List (List ℕ)) → AreSilent before
    → IsRun no_memory (before ++ lines) printed ending
one-run (meaning.ends stage number) at before silent = boots-none before silent stage [] [] finished at (refl, refl)
one-run (meaning.goes_on stage next number text first rest texts ending g m) at before silent =
    from-first before silent stage next text first rest texts ending g at (λ more same. one-run m (same ∙ at) (before ++ text ∷ []) more)
    (λ w is. played-on m w is)
one-run (meaning.ends_badly stage number text texts is) at before silent =
    boots-none before silent stage (text ∷ texts) [] (bad number) at (text, texts, refl, is, refl)
one-run (meaning.ends_refused stage number text texts is) at before silent =
    boots-none before silent stage (text ∷ texts) _ refused at (text, texts, refl, is, refl)
