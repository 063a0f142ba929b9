-- A session, piece by piece.
use Rattle.std.proofs.Common.{◌≡◌, ℕ, List, [], ◌∷◌, ◌++◌, true, false, Result, Ok, Err, sym, ap}
use Rattle.std.proofs.{Common.{◌∙◌, refl, subst, append-nil, append_assoc}, KnownBytes.{Appends-nil, Appends-trans, Consumes-trans}}
use Rattle.std.proofs.KnownBytes.{Consumes-kept}
use Rattle.std.specs.Io.KnownBytes.{Appends, Consumes, Keeps, IsAtEnd}
use Rattle.script_player.specs.Session.{Replies, IsServed, ended, unread, unwritten}
use Rattle.script_player.specs.{declared.session.OpenLine.OpenLine, SessionLines.{lines_behind, lines_with}}
use Rattle.script_player.specs.internal.Serving.{HasAnswered, IsCutShort, Holds, IsAnswerTo, IsTaken, status_of}
use Rattle.script_player.specs.Streams.{Reading, Writing, WritesFront, IsPut}
use Rattle.script_player.specs.laws.Written.{front-after}

module _ {S : Type 0} (Answers : S → List ℕ → List ℕ → S → Type 0) where
  -- one line more
  pub one-reply : (first : S) (lines : List (List ℕ)) (text : List ℕ) (player : S) → Replies Answers first lines text player
      → (line printed : List ℕ) (next : S) → Answers player line printed next
      → Replies Answers first (lines ++ line ∷ []) (text ++ printed) next
  one-reply first [] text player m line printed next h =
      let same = ap (λ t. t ++ printed) m.0 ∙ sym (append-nil printed) in
      (printed, [], next, same, subst (λ (s : S). Answers s line printed next) m.1 h, (refl, refl))
  one-reply first (head ∷ tail) text player m line printed next h =
      let same = ap (λ t. t ++ printed) m.3 ∙ append_assoc m.0 m.1 printed in
      (m.0, m.1 ++ printed, m.2, same, m.4, one-reply m.2 tail m.1 player m.5 line printed next h)

-- In the middle of a piece: of these bytes, without those that are left, the first lines were answered, and the last of what they print was
-- printed by now.
pub record IsUnderWay {S : Type 0} (follow : List ℕ → ℕ) (Answers : S → List ℕ → List ℕ → S → Type 0) (first : S)
    (given printed : List ℕ) (o m : Writing) (player : S) (line : OpenLine) (left : List ℕ) : Type 0 where
  pub text : List ℕ
  pub all : Appends o.bytes m.bytes text
  pub lines : List (List ℕ)
  pub begun : List ℕ
  pub split : (more : List ℕ) → lines_with follow (given ++ more) ≡ lines ++ lines_behind follow begun line.due (left ++ more)
  pub replies : Replies Answers first lines (printed ++ text) player
  pub held : Holds line begun

module _ {S : Type 0} (follow : List ℕ → ℕ) (Answers : S → List ℕ → List ℕ → S → Type 0) (first : S) where
  pub under-way : {given printed : List ℕ} {player : S} {line : OpenLine} (bytes : List ℕ) (o : Writing)
      → HasAnswered follow Answers first given printed player line
      → IsUnderWay follow Answers first (given ++ bytes) printed o o player line bytes
  under-way {given} {printed} bytes o h = record {
    text = [];
    all = Appends-nil o.bytes;
    lines = h.lines;
    begun = h.begun;
    split = λ more. ap (lines_with follow) (append_assoc given bytes more) ∙ h.split (bytes ++ more);
    replies = rw append-nil h.replies;
    held = h.held;
  }

  pub all-answered : {given printed : List ℕ} {o m : Writing} {player : S} {line : OpenLine}
      → IsUnderWay follow Answers first given printed o m player line []
      → (text : List ℕ) × Appends o.bytes m.bytes text × HasAnswered follow Answers first given (printed ++ text) player line
  all-answered h = (
    h.text,
    h.all,
    record { lines = h.lines; begun = h.begun; split = h.split; replies = h.replies; held = h.held },
  )

  module _ {given printed : List ℕ} {o m : Writing} {player : S} {open_line new_line : OpenLine} {bytes left : List ℕ}
      (h : IsUnderWay follow Answers first given printed o m player open_line bytes) where
    -- the line goes on
    pub goes-on : IsTaken follow open_line h.begun bytes left false new_line
        → IsUnderWay follow Answers first given printed o m player new_line left
    goes-on t = record {
      text = h.text;
      all = h.all;
      lines = h.lines;
      begun = t.line;
      split = λ more. h.split more ∙ ap (λ ls. h.lines ++ ls) (t.goes_on refl more);
      replies = h.replies;
      held = t.held;
    }

    module _ (t : IsTaken follow open_line h.begun bytes left true new_line) {answer : List ℕ} {next : S}
        (reply : Answers player t.line answer next) where
      split-after : (more : List ℕ) → lines_with follow (given ++ more) ≡ (h.lines ++ t.line ∷ []) ++ lines_with follow (left ++ more)
      split-after more = h.split more ∙ ap (λ ls. h.lines ++ ls) (t.ends refl more)
          ∙ sym (append_assoc h.lines (t.line ∷ []) (lines_with follow (left ++ more)))

      more-replies : Replies Answers first (h.lines ++ t.line ∷ []) (printed ++ (h.text ++ answer)) next
      more-replies = subst (λ (t' : List ℕ). Replies Answers first (h.lines ++ t.line ∷ []) t' next) (append_assoc printed h.text answer)
          (one-reply Answers first h.lines (printed ++ h.text) player h.replies t.line answer next reply)

      -- the line ends, and is answered
      pub line-ends : (empty : OpenLine) (o' : Writing) → Holds empty [] → empty.due ≡ 0 → Appends m.bytes o'.bytes answer
          → IsUnderWay follow Answers first given printed o o' next empty left
      line-ends empty o' held none a = record {
        text = h.text ++ answer;
        all = Appends-trans o.bytes m.bytes o'.bytes h.text answer h.all a;
        lines = h.lines ++ t.line ∷ [];
        begun = [];
        split = λ more. split-after more
            ∙ ap (λ d. (h.lines ++ t.line ∷ []) ++ lines_behind follow [] d (left ++ more)) (sym none);
        replies = more-replies;
        held = held;
      }

      -- the line ends, and its answer isn't written
      pub cut-in-it : (o' : Writing) → WritesFront m o' answer → IsCutShort follow Answers first given printed o o'
      cut-in-it o' front = record {
        lines = h.lines ++ t.line ∷ [];
        rest = lines_with follow (left ++ []);
        text = h.text ++ answer;
        last = next;
        split = ap (lines_with follow) (sym (append-nil given)) ∙ split-after [];
        replies = more-replies;
        front = front-after o m o' h.text h.all answer front;
      }

-- ---- how a session ends

-- the lines that have come were answered
pub record HasServed {S : Type 0} (follow : List ℕ → ℕ) (Answers : S → List ℕ → List ℕ → S → Type 0) (first : S) (input before : Reading) (out mid : Writing)
    (player : S) (line : OpenLine) : Type 0 where
  pub given : List ℕ
  pub text : List ℕ
  pub had : Consumes input.left before.left given
  pub all : Appends out.bytes mid.bytes text
  pub answered : HasAnswered follow Answers first given text player line

module _ {S : Type 0} {follow : List ℕ → ℕ} {Answers : S → List ℕ → List ℕ → S → Type 0} {first : S} {input before : Reading} {out mid : Writing} {player : S}
    {line : OpenLine} (h : HasServed follow Answers first input before out mid player line) (after : Reading) where
  so-far : lines_with follow h.given ≡ h.answered.lines ++ h.answered.begun ∷ []
  so-far = ap (lines_with follow) (sym (append-nil h.given)) ∙ h.answered.split []

  pub read-failed : Keeps before.left after.left → after.failed ≡ true → IsServed (lines_with follow) Answers first input after out mid 1
  read-failed kept badly = unread h.given h.answered.begun h.text h.answered.lines player
      (Consumes-kept input.left before.left after.left h.given h.had kept) badly so-far h.answered.replies h.all refl

  pub write-failed : (bytes : List ℕ) (out' : Writing) → Consumes before.left after.left bytes
      → IsCutShort follow Answers first (h.given ++ bytes) h.text mid out' → IsServed (lines_with follow) Answers first input after out out' 1
  write-failed bytes out' got cut = unwritten (h.given ++ bytes) (h.text ++ cut.text) cut.lines cut.rest cut.last
      (Consumes-trans input.left before.left after.left h.given bytes h.had got) cut.split cut.replies
      (front-after out mid out' h.text h.all cut.text cut.front) refl

  pub input-ended : {E : Type 0} → Consumes before.left after.left [] → IsAtEnd after.left → after.failed ≡ false
      → (new : S) (out' : Writing) (r : Result Unit E) → IsAnswerTo Answers line player new mid out' r
      → IsServed (lines_with follow) Answers first input after out out' (status_of r)
  input-ended {E} got none well new out' r a = by-result r a.1
    where
      all-read : Consumes input.left after.left h.given
      all-read = rw append-nil at (Consumes-trans input.left before.left after.left h.given [] h.had got)

      replies : Replies Answers first (lines_with follow h.given) (h.text ++ a.0) new
      replies = rw so-far (one-reply Answers first h.answered.lines h.text player h.answered.replies
          h.answered.begun a.0 new (a.2 h.answered.begun h.answered.held.kept))

      by-result : (r : Result Unit E) → IsPut mid out' r a.0 → IsServed (lines_with follow) Answers first input after out out' (status_of r)
      by-result (Ok done) put = ended h.given (h.text ++ a.0) new all-read none well replies
          (record { all = Appends-trans out.bytes mid.bytes out'.bytes h.text a.0 h.all put.0.all; well = put.0.well }) refl
      by-result (Err e) put = unwritten h.given (h.text ++ a.0) (lines_with follow h.given) [] new all-read
          (sym (append-nil (lines_with follow h.given))) replies (front-after out mid out' h.text h.all a.0 put) refl
