-- A script's meaning, line by line.
use Rattle.std.proofs.Common.{◌≡◌, ◌<◌, ◌+◌, ℕ, List, [], ◌∷◌, ◌++◌, length, Option, None, Some, IfSome, Bor, arith, sym, ap, ◌∙◌}
use Rattle.std.proofs.{Common.{append-nil, append_assoc, subst, refl, Result, Ok, Err, false}, KnownBytes.Appends-trans}
use Rattle.std.specs.{Prelude.MatchOption, Result.IsErrAnd, Io.KnownBytes.Appends}
use Rattle.script_player.specs.{Streams.{Writing, Writes, WritesFront, IsPut, IsPrinted}, declared.{sim.Stop.Stop, player.Turn.Turn}}
use Rattle.script_player.specs.Meaning.{Stage, unbooted, Ending, finished, bad, refused, Means, lines_of, GoesOn, ends, goes_on, ends_badly}
use Rattle.script_player.specs.{Meaning.{ends_refused, IsWrittenShort, IsPlayed, whole, cut_short}, internal.Playing.{lines_left, most_lines}}
use Rattle.script_player.{specs.internal.Playing.{HasMeant, IsEnded, IsPlayedTo, IsStep, stop_of}, proofs.LineLemmas.texts}
use Rattle.script_player.specs.laws.Options.{failed, some_same}
use Rattle.script_player.specs.declared.sim.Stop.TheVariants as stops
use Rattle.script_player.specs.declared.player.Turn.TheVariants as turns
use Rattle.script_player.specs.laws.Written.{front-after}

-- the lines that are left once the first was read
pub after-first : (text line : List ℕ) (r : Option (Bor (List ℕ)))
    → MatchOption r (lines_of text ≡ line ∷ []) (λ rest. lines_of text ≡ line ∷ lines_of rest.now)
    → lines_of text ≡ line ∷ lines_left (texts r)
after-first text line None e = e
after-first text line (Some rest) e = e

pub at-line : (left : Option (Bor (List ℕ))) (text : Bor (List ℕ)) (line : List ℕ) (r : Option (Bor (List ℕ))) → left ≡ Some text
    → MatchOption r (lines_of text.now ≡ line ∷ []) (λ rest. lines_of text.now ≡ line ∷ lines_of rest.now)
    → lines_left (texts left) ≡ line ∷ lines_left (texts r)
at-line left text line r is e = rw is (after-first text.now line r e)

pub fewer : (left : Option (Bor (List ℕ))) (text : Bor (List ℕ)) (r : Option (Bor (List ℕ))) → left ≡ Some text
    → IfSome r (λ rest. length rest.now < length text.now) → most_lines (texts r) < most_lines (texts left)
fewer left text None is h = rw is (omega arith)
fewer left text (Some rest) is h = rw is (omega arith)

-- ---- what is written

module _ (o m o' : Writing) (text : List ℕ) (all : Appends o.bytes m.bytes text) where
  -- nothing more was printed
  pub front-still : WritesFront m o' [] → WritesFront o o' text
  front-still w = rw append-nil at (front-after o m o' text all [] w)

  pub all-still : Appends m.bytes o'.bytes [] → Appends o.bytes o'.bytes text
  all-still a = rw append-nil at (Appends-trans o.bytes m.bytes o'.bytes text [] all a)

  -- what was printed is written out
  pub shown-after : {T E : Type 0} (r : Result T E) → IsPut m o' r [] → IsPrinted o o' r text
  shown-after (Ok done) put = all-still put.0.all
  shown-after (Err e) put = front-still put

  pub put-shown : {T E : Type 0} (r : Result T E) → (o.failed ≡ false) → IsPut m o' r [] → IsPut o o' r text
  put-shown (Ok done) well put = (record { all = all-still put.0.all; well = put.0.well }, well)
  put-shown (Err e) well put = front-still put

nil-front : (f r : List ℕ) → [] ≡ f ++ r → f ≡ []
nil-front [] r e = refl
nil-front (x ∷ f) r e = cc

-- a write failed, and after it nothing more was printed
pub front-again : (o m o' : Writing) (text : List ℕ) → WritesFront o m text → WritesFront m o' [] → WritesFront o o' text
front-again o m o' text w after =
    let same = subst (Appends m.bytes o'.bytes) (nil-front after.front.0 after.front.1 after.front.2) after.front.3 in
    record { front = (w.front.0, w.front.1, w.front.2, all-still o m o' w.front.0 w.front.3 same); badly = after.badly }

-- none fails: all that was printed is written out
pub written : (o m o' : Writing) (text : List ℕ) → Appends o.bytes m.bytes text → Writes m o' [] → Writes o o' text
written o m o' text all w = record { all = all-still o m o' text all w.all; well = w.well }

-- what was asked to be written was printed
pub put-prints : {T E : Type 0} (o o' : Writing) (r : Result T E) (text : List ℕ) → IsPut o o' r text → IsPrinted o o' r text
put-prints o o' (Ok done) text put = put.0.all
put-prints o o' (Err e) text put = put

-- ---- the lines that were played

-- The first lines of a script, of which the next has this number, were played and lead to this stage, and what they print was printed:
-- whatever lines follow mean there, all of them mean after that.
pub record ArePlayed (no_memory source : List ℕ) (o m : Writing) (left : List (List ℕ)) (stage : Stage) (number : ℕ) : Type 0 where
  pub done : List (List ℕ)
  pub printed : List ℕ
  pub all : Appends o.bytes m.bytes printed
  pub lines : lines_of source ≡ done ++ left
  pub means : (more : List (List ℕ)) (rest : List ℕ) (ending : Ending) → Means no_memory stage number more rest ending
      → Means no_memory unbooted 1 (done ++ more) (printed ++ rest) ending

module _ {no_memory : List ℕ} {stage : Stage} (next : Stage) (number : ℕ) {line text : List ℕ} where
  -- what a line means by itself
  by-itself : (turn : Turn) → IsStep no_memory stage line turn text next → (ending : Ending) × Means no_memory stage number (line ∷ []) text ending
  by-itself turns.Bad h = (bad number, rw h.1 (ends_badly stage number line [] h.0))
  by-itself (turns.Refused w) h = (refused, rw h.1 (ends_refused stage number line [] h.0))
  by-itself turn h =
      (finished, rw append-nil at (goes_on stage next number line text [] [] finished h (ends next (number + 1))))

  -- a script goes on after it
  pub still-on : (turn : Turn) → IsStep no_memory stage line turn text next → stop_of turn number ≡ None
      → GoesOn no_memory stage line text next
  still-on turns.Bad h e = cc
  still-on (turns.Refused w) h e = cc
  still-on turn h e = h

module _ {no_memory source : List ℕ} {o m : Writing} {left : List (List ℕ)} {stage : Stage} {number : ℕ}
    (before : ArePlayed no_memory source o m left stage number) where
  -- a write fails before the next line
  pub cut-before : {o' : Writing} → WritesFront m o' [] → IsWrittenShort no_memory source o o'
  cut-before {o'} w = record {
    first = before.done ++ [];
    rest = left;
    text = before.printed ++ [];
    ending = finished;
    lines = before.lines ∙ ap (λ ls. ls ++ left) (sym (append-nil before.done));
    means = before.means [] [] finished (ends stage number);
    front = front-after o m o' before.printed before.all [] w;
  }

  module _ {line : List ℕ} {rest : List (List ℕ)} (split : left ≡ line ∷ rest) (text : List ℕ) (next : Stage)
      (m' o' : Writing) (shown : Appends m.bytes m'.bytes []) where
    parted : lines_of source ≡ (before.done ++ line ∷ []) ++ rest
    parted = before.lines ∙ ap (λ ls. before.done ++ ls) split ∙ sym (append_assoc before.done (line ∷ []) rest)

    printed : Appends o.bytes m'.bytes before.printed
    printed = all-still o m m' before.printed before.all shown

    -- one line more
    pub one-more : GoesOn no_memory stage line text next → Appends m'.bytes o'.bytes text → ArePlayed no_memory source o o' rest next (number + 1)
    one-more g a = record {
      done = before.done ++ line ∷ [];
      printed = before.printed ++ text;
      all = Appends-trans o.bytes m'.bytes o'.bytes before.printed text printed a;
      lines = parted;
      means = λ more out ending m.
          simp append_assoc (before.means (line ∷ more) (text ++ out) ending (goes_on stage next number line text out more ending g m));
    }

    -- a write fails while the next line is printed
    pub cut-inside : (turn : Turn) → IsStep no_memory stage line turn text next → WritesFront m' o' text → IsWrittenShort no_memory source o o'
    cut-inside turn step w =
        let alone = by-itself next number turn step in
        record {
          first = before.done ++ line ∷ [];
          rest = rest;
          text = before.printed ++ text;
          ending = alone.0;
          lines = parted;
          means = before.means (line ∷ []) text alone.0 alone.1;
          front = front-after o m' o' before.printed printed text w;
        }

    ended : (ending : Ending) → Means no_memory stage number (line ∷ rest) text ending → Appends m'.bytes o'.bytes text
        → HasMeant no_memory source ending o o'
    ended ending means a = (
      before.printed ++ text,
      rw (before.lines ∙ ap (λ ls. before.done ++ ls) split) (before.means (line ∷ rest) text ending means),
      Appends-trans o.bytes m'.bytes o'.bytes before.printed text printed a,
    )

    -- the next line ends the script
    pub line-ends : (turn : Turn) → IsStep no_memory stage line turn text next → Appends m'.bytes o'.bytes text
        → (stop : Stop) → stop_of turn number ≡ Some stop → IsPlayedTo no_memory source (Err stop) o o'
    line-ends turns.Bad h a stop e = subst (λ (s : Stop). IsPlayedTo no_memory source (Err s) o o') (some_same e)
        (ended (bad number) (rw h.1 (ends_badly stage number line rest h.0)) a)
    line-ends (turns.Refused w) h a stop e = subst (λ (s : Stop). IsPlayedTo no_memory source (Err s) o o') (some_same e)
        (ended refused (rw h.1 (ends_refused stage number line rest h.0)) a)
    line-ends turn h a stop e = cc

-- what ends a script is why it ended
pub stopped-so : (no_memory source : List ℕ) (o o' : Writing) (stop : Stop) (r : Result Unit Stop) → IsErrAnd r (λ s. s ≡ stop)
    → IsPlayedTo no_memory source (Err stop) o o' → IsPlayedTo no_memory source r o o'
stopped-so no_memory source o o' stop r e h =
    failed _ (λ x. IsPlayedTo no_memory source x o o') r e
    (λ s is. subst (λ (x : Stop). IsPlayedTo no_memory source (Err x) o o') (sym is) h)

-- ---- the whole script

module _ {no_memory : List ℕ} (source : List ℕ) (o m o' : Writing) where
  -- a write fails after it: what was printed is a beginning of what it prints
  cut-whole : (ending : Ending) → HasMeant no_memory source ending o m → WritesFront m o' [] → IsWrittenShort no_memory source o o'
  cut-whole ending h after = record {
    first = lines_of source;
    rest = [];
    text = h.0;
    ending = ending;
    lines = sym (append-nil (lines_of source));
    means = h.1;
    front = front-still o m o' h.0 h.2 after;
  }

  cut-again : IsWrittenShort no_memory source o m → WritesFront m o' [] → IsWrittenShort no_memory source o o'
  cut-again cut after =
      record {
        first = cut.first;
        rest = cut.rest;
        text = cut.text;
        ending = cut.ending;
        lines = cut.lines;
        means = cut.means;
        front = front-again o m o' cut.text cut.front after;
      }

  cut-after : (r : Result Unit Stop) → IsPlayedTo no_memory source r o m → WritesFront m o' [] → IsWrittenShort no_memory source o o'
  cut-after (Ok done) h = cut-whole finished h
  cut-after (Err (stops.Bad number)) h = cut-whole (bad number) h
  cut-after (Err stops.Refused) h = cut-whole refused h
  cut-after (Err stops.Unwritten) h = cut-again h

  pub played-badly : (e : Writing) (r : Result Unit Stop) → IsPlayedTo no_memory source r o m → WritesFront m o' [] → IsPlayed no_memory source o o' e e 1
  played-badly e r h w = cut_short (cut-after r h w) refl refl

  module _ (e e' : Writing) (status : ℕ) where
    pub played-well : (r : Result Unit Stop) → IsPlayedTo no_memory source r o m → Writes m o' [] × (m.failed ≡ false) → IsEnded r e e' status
        → IsPlayed no_memory source o o' e e' status
    played-well (Ok done) h w end = whole h.0 finished h.1 (written o m o' h.0 h.2 w.0) end.0 end.1
    played-well (Err (stops.Bad number)) h w end = whole h.0 (bad number) h.1 (written o m o' h.0 h.2 w.0) end.0 end.1
    played-well (Err stops.Refused) h w end = whole h.0 refused h.1 (written o m o' h.0 h.2 w.0) end.0 end.1
    played-well (Err stops.Unwritten) h w end = cc (sym w.1 ∙ h.front.badly)
