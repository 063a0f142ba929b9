-- What is staged, and what a commit makes of it.
use Rattle.std.proofs.{Common.{◌≡◌, ℕ, ◌<◌, Bool, true, false, if◌then◌else◌, refl, ap, arith}, lemmas.Bool.Decides.nat_tests}
use Rattle.std.specs.Prelude.{nat_lt, Option, Some, Result, Ok, Err}
use Rattle.epoch_snapshot.specs.Checkpoints.{Change, is_old_delta}
use Rattle.backup_image.specs.declared.{errors.ImageError.{ImageError, TheVariants.{Exhausted, OldVersion}}, standing.Staged.Staged}
use Rattle.backup_image.specs.declared.standing.Staged.TheVariants.{New, Again}
use Rattle.backup_image.specs.{Images.{ImageState, answer_at, if_numbered, staged_after}, Kept.sent_with, Limits.number_limit}
use Rattle.backup_image.specs.Images.{stage_answer, after_stage, applied, committed}

-- what isn't new leaves what was staged
pub staged_after-kept : (answer : Result Staged ImageError) (c : Change) (before : Option Change) → (answer ≡ Ok New → ⊥) →
    staged_after answer c before ≡ before
staged_after-kept (Ok New) c before other = absurd (other refl)
staged_after-kept (Ok Again) c before other = refl
staged_after-kept (Err e) c before other = refl

by-version : (old : Bool) (answer : Result Staged ImageError) → (if old then Err OldVersion else answer) ≡ Ok New → answer ≡ Ok New
by-version true answer e = cc
by-version false answer e = e

turn-new : (last : ℕ) (turn : Result Staged ImageError) → if_numbered last turn ≡ Ok New → turn ≡ Ok New
turn-new last (Ok New) e = refl
turn-new last (Ok Again) e = e
turn-new last (Err r) e = e

turn-numbered : (last : ℕ) (turn : Result Staged ImageError) → if_numbered last turn ≡ Ok New → last < number_limit
turn-numbered last (Ok New) e = by-test (nat_lt last number_limit) refl e
  where
    by-test : (t : Bool) → nat_lt last number_limit ≡ t → (if t then Ok New else Err Exhausted) ≡ Ok New → last < number_limit
    by-test true is e = grind (arith, nat_tests)
    by-test false is e = cc
turn-numbered last (Ok Again) e = cc
turn-numbered last (Err r) e = cc

-- what is new is what comes next
pub new_next : (i : ImageState) (c : Change) → stage_answer i c ≡ Ok New → answer_at i.stands_at c.generation c.number ≡ Ok New
new_next i c is =
    turn-new (sent_with c i.sent) (answer_at i.stands_at c.generation c.number)
    (by-version (is_old_delta c) (if_numbered (sent_with c i.sent) (answer_at i.stands_at c.generation c.number)) is)

-- and its frames have numbers
pub new_numbered : (i : ImageState) (c : Change) → stage_answer i c ≡ Ok New → sent_with c i.sent < number_limit
new_numbered i c is =
    turn-numbered (sent_with c i.sent) (answer_at i.stands_at c.generation c.number)
    (by-version (is_old_delta c) (if_numbered (sent_with c i.sent) (answer_at i.stands_at c.generation c.number)) is)

-- what is new is applied at the commit
pub new-committed : (i : ImageState) (c : Change) → stage_answer i c ≡ Ok New →
    committed (after_stage i c) ≡ applied (record i { staged = Some c }) (Some c)
new-committed i c is = ap (λ (a : Result Staged ImageError). committed (record i { staged = staged_after a c i.staged })) is
