-- A live session beside a script.
use Rattle.std.proofs.Common.{◌≡◌, ◌+◌, ℕ, List, [], ◌∷◌, ◌++◌, refl}
use Rattle.std.{proofs.{lemmas.List.Elements.{All-head, All-tail}}, specs.Prelude.All}
use Rattle.script_player.specs.Live.{LineAnswers, PlaysLine, plays, is_bad, is_refused, IsShort, LeavesOut, nothing, keeps, drops_bad, drops_refused}
use Rattle.script_player.specs.Session.{is_played, is_too_long, is_not_kept, Replies, bad_answer}
use Rattle.script_player.specs.{declared.player.Turn.Turn, internal.Playing.{IsStep, live_answer, printed_by}}
use Rattle.script_player.specs.Meaning.{Stage, Ending, finished, Means, ends, goes_on, ends_badly, ends_refused}
use Rattle.script_player.specs.declared.player.Turn.TheVariants as turns

-- what a script prints that ends with its last line is what its lines are answered
pub same-by-lines : {no_memory : List ℕ} (stage : Stage) (number : ℕ) (lines : List (List ℕ)) (text : List ℕ) (ending : Ending)
    → Means no_memory stage number lines text ending → ending ≡ finished → All IsShort lines
    → (last : Stage) × Replies (LineAnswers no_memory) stage lines text last
same-by-lines stage number lines text ending (ends s n) e short = (s, (refl, refl))
same-by-lines stage number lines text ending (goes_on s next n line first rest texts end g m) e short =
    let tail = same-by-lines next (n + 1) texts rest end m e (All-tail IsShort line texts short) in
    (tail.0, (first, rest, next, refl, is_played (All-head IsShort line texts short) (plays g), tail.1))
same-by-lines stage number lines text ending (ends_badly s n line texts b) e short = cc
same-by-lines stage number lines text ending (ends_refused s n line texts r) e short = cc

-- some of these lines and what they print are what a script means that begins so
abbrev pub HasKept : List ℕ → List (List ℕ) → List ℕ → Stage → ℕ → Type 0
HasKept no_memory lines text stage number =
    (kept : List (List ℕ)) × (printed : List ℕ) × LeavesOut no_memory lines text kept printed × Means no_memory stage number kept printed finished

module _ {no_memory : List ℕ} (stage next : Stage) (number : ℕ) (line first text rest : List ℕ) (lines : List (List ℕ)) (split : text ≡ first ++ rest) where
  -- a line that changes nothing is left out
  left-out : (answer : List ℕ) → first ≡ answer → next ≡ stage → ((kept : List (List ℕ)) (printed : List ℕ)
      → LeavesOut no_memory lines rest kept printed → LeavesOut no_memory (line ∷ lines) (answer ++ rest) kept printed)
      → HasKept no_memory lines rest next number → HasKept no_memory (line ∷ lines) text stage number
  left-out answer a same drop h = (h.0, h.1, rw (split, a) (drop h.0 h.1 h.2), rw same at h.3)

  by-play : PlaysLine no_memory stage line first next → ((n : ℕ) → HasKept no_memory lines rest next n) → HasKept no_memory (line ∷ lines) text stage number
  by-play (plays g) h =
      let k = h (number + 1) in
      let go = goes_on stage next number line first k.1 k.0 finished g k.3 in
      (line ∷ k.0, first ++ k.1, rw split (keeps line first rest k.1 lines k.0 k.2), go)
  by-play (is_bad b a same) h = left-out bad_answer a same (λ k p d. drops_bad line rest p lines k d) (h number)
  by-play (is_refused r a same) h = left-out no_memory a same (λ k p d. drops_refused line rest p lines k d) (h number)

  by-reply : LineAnswers no_memory stage line first next → ((n : ℕ) → HasKept no_memory lines rest next n) → HasKept no_memory (line ∷ lines) text stage number
  by-reply (is_played l p) h = by-play p h
  by-reply (is_too_long l a same) h = left-out bad_answer a same (λ k p d. drops_bad line rest p lines k d) (h number)
  by-reply (is_not_kept l a same) h = left-out no_memory a same (λ k p d. drops_refused line rest p lines k d) (h number)

-- without its bad lines a session prints what a script prints
pub same-by-file : {no_memory : List ℕ} (stage last : Stage) (number : ℕ) (lines : List (List ℕ)) (text : List ℕ) → Replies (LineAnswers no_memory) stage lines text last
    → HasKept no_memory lines text stage number
same-by-file stage last number [] text m = ([], [], rw m.0 nothing, ends stage number)
same-by-file stage last number (line ∷ lines) text m =
    by-reply stage m.2 number line m.0 text m.1 lines m.3 m.4 (λ n. same-by-file m.2 last n lines m.1 m.5)

-- ---- the answer to one line

pub played-so : (no_memory : List ℕ) (stage : Stage) (line text : List ℕ) (next : Stage) (turn : Turn)
    → IsStep no_memory stage line turn (printed_by no_memory turn text) next
    → PlaysLine no_memory stage line (live_answer no_memory turn text) next
played-so no_memory stage line text next turns.Booted h = plays h
played-so no_memory stage line text next turns.Played h = plays h
played-so no_memory stage line text next (turns.NoMemory w) h = plays h
played-so no_memory stage line text next turns.Bad h = is_bad h.0 refl h.2
played-so no_memory stage line text next (turns.Refused w) h = is_refused h.0 refl h.2
