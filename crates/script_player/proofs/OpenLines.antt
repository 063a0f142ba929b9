-- A line that hasn't come whole, and what comes next.
use Rattle.std.proofs.Common.{◌≡◌, ◌<◌, ◌≤◌, ◌+◌, ◌-◌, ◌≢◌, ℕ, nat_eq, zero, suc, List, [], ◌∷◌, ◌++◌, length, take, drop, min, Bool, true, false}
use Rattle.std.proofs.Common.{None, Some, refl, sym, ap, ◌∙◌, arith, length-take, append-nil, append_assoc, inl, inr}
use Rattle.std.proofs.lemmas.Bool.{cases_lt, Decides.nat_tests}
use Rattle.std.proofs.lemmas.List.{take-append-drop, take-append-le, take_all, length-append}
use Rattle.std.proofs.lemmas.List.Elements.{All-head, All-tail}
use Rattle.std.proofs.Math.Seq.{drop-length, take-append-add}
use Rattle.std.specs.Prelude.{◌==◌, All}
use Rattle.memchr.specs.Find.{IsFirstByte, is_byte}
use Rattle.script_player.proofs.LineLemmas.{IsOther, at-newline, all-other}
use Rattle.script_player.specs.SessionLines.{due_behind, lines_behind, lines_with}
use Rattle.script_player.specs.internal.Serving.{Holds, IsKept, IsTaken}
use Rattle.script_player.specs.declared.session.Fate.{Fate}
use Rattle.script_player.specs.declared.session.Fate.TheVariants as fates
use Rattle.script_player.specs.declared.session.OpenLine.{OpenLine}

-- ---- the first bytes of a line

pub long-head : (follow : List ℕ → ℕ) (text first : List ℕ) → first ≡ take 33 text → 32 < length first → 0 ≡ due_behind follow text
long-head follow text first e h =
    let l : 32 < length text = omega (arith, ap length e, length-take 33 text) in
    grind (arith, nat_tests)

pub short-head : (follow : List ℕ → ℕ) (text first : List ℕ) → first ≡ take 33 text → length first ≤ 32
    → follow first ≡ due_behind follow text
short-head follow text first e h =
    let l : length text ≤ 32 = omega (arith, ap length e, length-take 33 text) in
    let same : first ≡ text = e ∙ take_all 33 text (omega arith) in
    rw same (grind (arith, nat_tests))

pub first-more : (text bytes : List ℕ) (room count : ℕ) → room ≡ 33 - length (take 33 text) → count ≡ min (length bytes) room
    → take 33 text ++ take count bytes ≡ take 33 (text ++ bytes)
first-more text bytes room count r c = elim (cases_lt (length text) 33) [ inl l ↦ short l | inr l ↦ long l ]
  where
    short : length text < 33 → take 33 text ++ take count bytes ≡ take 33 (text ++ bytes)
    short l =
        let all : take 33 text ≡ text = take_all 33 text (omega arith) in
        let sum : 33 ≡ length text + room = omega (arith, ap length all) in
        ap (λ t. t ++ take count bytes) all ∙ ap (λ t. text ++ t) few ∙ sym (take-append-add text bytes room)
        ∙ ap (λ n. take n (text ++ bytes)) (sym sum)
      where
        few : take count bytes ≡ take room bytes
        few = elim (cases_lt (length bytes) room) [
          | inl s ↦ take_all count bytes (omega arith) ∙ sym (take_all room bytes (omega arith))
          | inr s ↦ ap (λ n. take n bytes) (omega arith)
        ]

    long : 33 ≤ length text → take 33 text ++ take count bytes ≡ take 33 (text ++ bytes)
    long l =
        let none : count ≡ 0 = omega (arith, length-take 33 text) in
        ap (λ n. take 33 text ++ take n bytes) none ∙ append-nil (take 33 text) ∙ sym (take-append-le 33 text bytes l)

-- what not kept goes on so
pub still-lost : (fate : Fate) (text more bytes : List ℕ) → (fate ≡ fates.Kept → ⊥) → IsKept text bytes fate
    → IsKept (text ++ more) bytes fate
still-lost fates.Kept text more bytes lost h = absurd (lost refl)
still-lost fates.TooLong text more bytes lost h = omega (arith, length-append text more)
still-lost (fates.NoMemory w) text more bytes lost h = omega (arith, length-append text more)

-- ---- byte by byte

module _ (follow : List ℕ → ℕ) where
  -- bytes before the newline
  pub unended : (xs text more : List ℕ) → All IsOther xs
      → lines_behind follow text 0 (xs ++ more) ≡ lines_behind follow (text ++ xs) 0 more
  unended [] text more h = ap (λ t. lines_behind follow t 0 more) (sym (append-nil text))
  unended (x ∷ xs) text more h =
      let other : (x == 10) ≡ false = All-head IsOther x xs h in
      rw other (unended xs (text ++ x ∷ []) more (All-tail IsOther x xs h))
      ∙ ap (λ t. lines_behind follow t 0 more) (append_assoc text (x ∷ []) xs)

  -- the newline
  pub ended : (text more : List ℕ) → due_behind follow text ≡ 0 → lines_behind follow text 0 (10 ∷ more) ≡ text ∷ lines_with follow more
  ended text more e = rw e refl

  pub headed : (text more : List ℕ) (due : ℕ) → due_behind follow text ≡ due → 0 < due
      → lines_behind follow text 0 (10 ∷ more) ≡ lines_behind follow (text ++ 10 ∷ []) due more
  headed text more zero e some = absurd (omega arith)
  headed text more (suc due) e some = rw e refl

  -- bytes behind it
  pub awaited : (xs text more : List ℕ) (due left : ℕ) → due ≡ length xs + left → 0 < left
      → lines_behind follow text due (xs ++ more) ≡ lines_behind follow (text ++ xs) left more
  awaited [] text more due left e some =
      let same : due ≡ left = omega arith in
      rw (same, append-nil) refl
  awaited (x ∷ xs) text more zero left e some = absurd (omega arith)
  awaited (x ∷ xs) text more (suc zero) left e some = absurd (omega arith)
  awaited (x ∷ xs) text more (suc (suc due)) left e some =
      awaited xs (text ++ x ∷ []) more (suc due) left (omega arith) some
      ∙ ap (λ t. lines_behind follow t left more) (append_assoc text (x ∷ []) xs)

  pub awaited-all : (xs text more : List ℕ) (due : ℕ) → due ≡ length xs → 0 < due
      → lines_behind follow text due (xs ++ more) ≡ (text ++ xs) ∷ lines_with follow more
  awaited-all [] text more due e some = absurd (omega arith)
  awaited-all (x ∷ xs) text more zero e some = absurd (omega arith)
  awaited-all (x ∷ []) text more (suc zero) e some = refl
  awaited-all (x ∷ y ∷ xs) text more (suc zero) e some = absurd (omega arith)
  awaited-all (x ∷ []) text more (suc (suc due)) e some = absurd (omega arith)
  awaited-all (x ∷ y ∷ xs) text more (suc (suc due)) e some =
      awaited-all (y ∷ xs) (text ++ x ∷ []) more (suc due) (omega arith) (omega arith)
      ∙ ap (λ t. t ∷ lines_with follow more) (append_assoc text (x ∷ []) (y ∷ xs))

-- ---- in pieces

module _ (follow : List ℕ → ℕ) (old new : OpenLine) (text bytes : List ℕ) where
  module _ (opened : old.due ≡ 0) where
    -- none of the bytes is a newline
    pub taken-all : IsFirstByte (is_byte 10) bytes None → new.due ≡ old.due → Holds new (text ++ bytes)
        → IsTaken follow old text bytes (drop (length bytes) bytes) false new
    taken-all h due held = record {
      line = text ++ bytes;
      held = held;
      ends = λ e more. cc;
      goes_on = λ e more. rw (opened, due ∙ opened, drop-length) (unended follow bytes text more (all-other bytes h));
    }

    module _ (end : ℕ) (h : IsFirstByte (is_byte 10) bytes (Some end)) where
      up-to : (more : List ℕ) → lines_behind follow text old.due (bytes ++ more)
          ≡ lines_behind follow (text ++ take end bytes) 0 (10 ∷ (drop (end + 1) bytes ++ more))
      up-to more =
          let parts = at-newline bytes end h in
          ap (λ d. lines_behind follow text d (bytes ++ more)) opened
          ∙ ap (λ t. lines_behind follow text 0 (t ++ more)) parts.1
          ∙ ap (lines_behind follow text 0) (append_assoc (take end bytes) (10 ∷ drop (end + 1) bytes) more)
          ∙ unended follow (take end bytes) text (10 ∷ (drop (end + 1) bytes ++ more)) parts.0

      -- the line ends at its newline
      pub taken-line : Holds new (text ++ take end bytes) → due_behind follow (text ++ take end bytes) ≡ 0
          → IsTaken follow old text bytes (drop (end + 1) bytes) true new
      taken-line held none = record {
        line = text ++ take end bytes;
        held = held;
        ends = λ e more. up-to more ∙ ended follow (text ++ take end bytes) (drop (end + 1) bytes ++ more) none;
        goes_on = λ e more. cc;
      }

      -- bytes follow its newline
      pub taken-head : Holds new ((text ++ take end bytes) ++ 10 ∷ []) → new.due ≡ due_behind follow (text ++ take end bytes) → 0 < new.due
          → IsTaken follow old text bytes (drop (end + 1) bytes) false new
      taken-head held due some = record {
        line = (text ++ take end bytes) ++ 10 ∷ [];
        held = held;
        ends = λ e more. cc;
        goes_on = λ e more. up-to more
            ∙ headed follow (text ++ take end bytes) (drop (end + 1) bytes ++ more) new.due (sym due) some;
      }

  module _ (due count : ℕ) (wanted : old.due ≡ due) (some : 0 < due) (c : count ≡ min due (length bytes)) (held : Holds new (text ++ take count bytes)) where
    parts : (more : List ℕ) → lines_behind follow text old.due (bytes ++ more)
        ≡ lines_behind follow text due (take count bytes ++ (drop count bytes ++ more))
    parts more = ap (λ d. lines_behind follow text d (bytes ++ more)) wanted
        ∙ ap (λ t. lines_behind follow text due (t ++ more)) (sym (take-append-drop count bytes))
        ∙ ap (lines_behind follow text due) (append_assoc (take count bytes) (drop count bytes) more)

    -- the bytes that follow a newline go on, or end
    pub taken-following : (has_ended : Bool) → has_ended ≡ nat_eq count due → new.due ≡ due - count
        → IsTaken follow old text bytes (drop count bytes) has_ended new
    taken-following has_ended e left = record {
      line = text ++ take count bytes;
      held = held;
      ends = λ is more.
          let same : count ≡ due = grind (arith, nat_tests) in
          parts more ∙ awaited-all follow (take count bytes) text (drop count bytes ++ more) due (omega (arith, length-take count bytes)) some;
      goes_on = λ not more.
          let other : count ≢ due = grind (arith, nat_tests) in
          parts more ∙ awaited follow (take count bytes) text (drop count bytes ++ more) due new.due
          (omega (arith, length-take count bytes)) (omega arith);
    }
