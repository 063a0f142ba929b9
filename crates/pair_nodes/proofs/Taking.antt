-- What a standby takes in stands as it says: of its generation, and in turn.
use Rattle.std.proofs.Common.{◌≡◌, ℕ, ◌≤◌, [], ◌∷◌, refl, sym, ap, ◌∙◌, subst, arith, Bool, true, false, None, Some, Ok, Err}
use Rattle.std.specs.Prelude.{◌==◌, ◌&&◌, not, nat_lt, nat_le, if◌then◌else◌, Option, Result}
use Rattle.std.proofs.lemmas.Bool.Decides.{nat_tests}
use Rattle.backup_image.specs.Images.{ImageState, answer_at, stage_answer, after_stage, committed, staged_after, applied, if_numbered}
use Rattle.backup_image.specs.Kept.{sent_with}
use Rattle.backup_image.specs.Limits.{number_limit}
use Rattle.backup_image.specs.declared.errors.ImageError.{ImageError}
use Rattle.backup_image.specs.declared.errors.ImageError.TheVariants.{OldVersion, Exhausted}
use Rattle.backup_image.specs.declared.standing.Standing.{Standing}
use Rattle.backup_image.specs.declared.standing.Staged.{Staged}
use Rattle.backup_image.specs.declared.standing.Staged.TheVariants.{New}
use Rattle.epoch_snapshot.specs.Checkpoints.{Change, is_old_delta}
use Rattle.pair_record.specs.Tables.{first_refusal}
use Rattle.pair_record.specs.declared.event.Refusal.{Refusal}
use Rattle.pair_core.specs.Replication.{number_after}
use Rattle.pair_nodes.specs.Refusing.{IsFree}
use Rattle.pair_nodes.specs.Sides.{Standby, to_commit}
use Rattle.pair_nodes.specs.StandbyCalls.{commit_rows, is_next}

-- where none of four rows refuses, none of their tests holds
four_free : (s t u v : Bool) (w x y z : Refusal) → first_refusal ((s, w) ∷ (t, x) ∷ (u, y) ∷ (v, z) ∷ []) ≡ None
    → (s ≡ false) × ((t ≡ false) × ((u ≡ false) × (v ≡ false)))
four_free true t u v w x y z e = absurd (cc)
four_free false true u v w x y z e = absurd (cc)
four_free false false true v w x y z e = absurd (cc)
four_free false false false true w x y z e = absurd (cc)
four_free false false false false w x y z e = (refl, (refl, (refl, refl)))

-- the next one of its generation is new
answer_new : (s : Option Standing) (g n : ℕ) → ((at : Standing) → s ≡ Some at → at.generation ≡ g) → n ≡ number_after s
    → answer_at s g n ≡ Ok New
answer_new None g n stands is = subst (λ n. answer_at None g n ≡ Ok New) (sym is) refl
answer_new (Some at) g n stands is = grind (arith, nat_tests, is, stands at refl)

-- what is staged as a new one, and committed
module _ (i : ImageState) (c : Change) (new : stage_answer i c ≡ Ok New) where
  taken : committed (after_stage i c) ≡ applied (record i { staged = Some c }) (Some c)
  taken = ap (λ (a : Result Staged ImageError). committed (record i { staged = staged_after a c i.staged })) new

  pub stands-at : (committed (after_stage i c)).stands_at ≡ Some (record { generation = c.generation; number = c.number })
  stands-at = ap (λ (j : ImageState). j.stands_at) taken

  pub unstaged : (committed (after_stage i c)).staged ≡ None
  unstaged = ap (λ (j : ImageState). j.staged) taken

  pub shape-stays : (committed (after_stage i c)).shape ≡ i.shape
  shape-stays = ap (λ (j : ImageState). j.shape) taken

module _ (b : Standby) (c : Change) (stands : (at : Standing) → b.image.stands_at ≡ Some at → at.generation ≡ b.generation)
    (free : IsFree (commit_rows b c)) (next : to_commit b ≤ c.number) where
  tests : (not (c.generation == b.generation) ≡ false)
      × ((nat_lt (to_commit b) c.number ≡ false)
      × (((is_next b c && is_old_delta c) ≡ false) × ((is_next b c && nat_le number_limit (sent_with c b.image.sent)) ≡ false)))
  tests = four_free _ _ _ _ _ _ _ _ free

  pub of_generation : c.generation ≡ b.generation
  of_generation = grind (arith, nat_tests, tests.0)

  pub of_number : c.number ≡ to_commit b
  of_number = grind (arith, nat_tests, tests.1.0, next)

  is-next : is_next b c ≡ true
  is-next = grind (arith, nat_tests, of_number)

  young : is_old_delta c ≡ false
  young = ap (λ t. t && is_old_delta c) (sym is-next) ∙ tests.1.1.0

  numbered : nat_lt (sent_with c b.image.sent) number_limit ≡ true
  numbered =
      let few : nat_le number_limit (sent_with c b.image.sent) ≡ false =
      ap (λ t. t && nat_le number_limit (sent_with c b.image.sent)) (sym is-next) ∙ tests.1.1.1 in
      grind (arith, nat_tests, few)

  pub is-new : stage_answer b.image c ≡ Ok New
  is-new =
      ap (λ t. if t then Err OldVersion else if_numbered (sent_with c b.image.sent) (answer_at b.image.stands_at c.generation c.number)) young
      ∙ ap (if_numbered (sent_with c b.image.sent))
      (answer_new b.image.stands_at c.generation c.number (λ at here. stands at here ∙ sym of_generation) of_number)
      ∙ ap (λ t. if t then Ok New else Err Exhausted) numbered
