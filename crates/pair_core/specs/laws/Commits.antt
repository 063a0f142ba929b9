-- What the two nodes keep along a commit: the image takes in the oldest sealed text, an empty one as well as one that follows.
use Rattle.std.proofs.Common.{rules, ◌≡◌, ℕ, zero, suc, ◌+◌, ◌-◌, ◌<◌, ◌≤◌, List, [], ◌∷◌}
use Rattle.std.proofs.Common.{◌++◌, refl, sym, ap, ◌∙◌, subst, arith, append_assoc, Bool}
use Rattle.std.proofs.{Common.{true, false, cond, Some, None, Result, Ok, Err}, lemmas.Bool.{eq-eqb, lt-ltb}, lemmas.Bool.Decides.nat_tests}
use Rattle.std.specs.Prelude.{nat_lt, not, ◌==◌, ◌&&◌}
use Rattle.guest_rules.specs.Guest.{Guest}
use Rattle.epoch_snapshot.specs.{Bases.IsBase, Checkpoints.Change, Images.image_of}
use Rattle.backup_image.specs.declared.errors.ImageError.{ImageError}
use Rattle.backup_image.specs.declared.errors.ImageError.TheVariants.{Stale, Gap, OldVersion, Exhausted}
use Rattle.backup_image.specs.{declared.standing.Staged.Staged, declared.standing.Staged.TheVariants.{New, Again}}
use Rattle.backup_image.specs.Images.{ImageState, answer_at, if_numbered, stage_answer, staged_after, after_stage, committed}
use Rattle.backup_image.specs.{Kept.{kept_with, sent_with}, Limits.number_limit}
use Rattle.pair_history.specs.Moves.{Move, guest_along, frames_along}
use Rattle.pair_history.specs.laws.Moves.{guest_along-append}
use Rattle.pair_record.specs.Accords.{all_moves}
use Rattle.pair_core.specs.Invariant.{AreNodes, IsBacked}
use Rattle.pair_core.specs.{Nodes.{Nodes, machine_of, with_commit, first_text, later_texts, read_as}, Texts.IsText}
use Rattle.pair_core.specs.laws.Nodes.{shape-moves, reads-as, first-sealed, later-sealed}
use Rattle.epoch_snapshot.specs.Checkpoints.{is_old_delta}

-- the image that a new checkpoint makes
abbrev pub taken_in : ImageState → Change → ImageState
taken_in i c = record {
  shape = i.shape;
  guest = image_of c i.guest;
  stands_at = Some (record { generation = c.generation; number = c.number });
  staged = None;
  kept = kept_with c i.kept;
  sent = sent_with c i.sent;
}

takes-in : (i : ImageState) (c : Change) → stage_answer i c ≡ Ok New → committed (after_stage i c) ≡ taken_in i c
takes-in i c e = ap (λ (o : Result Staged ImageError). committed (record i { staged = staged_after o c i.staged })) e

next-is-new : (generation n : ℕ) → 1 ≤ n → answer_at (Some (record { generation = generation; number = n - 1 })) generation n ≡ Ok New
next-is-new generation n some = λ i. cond (same i) (Err Stale) (cond (near i) (Err Gap) (cond (next_one i) (Ok New) (Ok Again)))
  where
    same : not (generation == generation) ≡ false
    same = ap not (eq-eqb generation generation refl)

    near : nat_lt (n - 1 + 1) n ≡ false
    near = grind (arith, nat_tests)

    next_one : (n == n - 1 + 1) ≡ true
    next_one = eq-eqb n (n - 1 + 1) (omega arith)

module _ (alone : Bool) (generation n : ℕ) (g : Guest) (ms : List Move) (mss : List (List Move)) (ran : List Move) (x : Nodes)
    (h : AreNodes alone generation n g (ms ∷ mss) ran x) (two : alone ≡ false) where
  backed : IsBacked generation n g (ms ∷ mss) x
  backed = h.backed two

  text : IsText x.image.shape generation n g (guest_along g ms) (frames_along g ms) (first_text x.sealed)
  text = first-sealed x.image.shape generation n g ms mss x.sealed backed.sealed

  abbrev pub change : Change
  change = read_as x.image.shape (first_text x.sealed)

  change-is : change ≡ text.change
  change-is = reads-as x.image.shape generation n g (guest_along g ms) (frames_along g ms) (first_text x.sealed) text

  generation-is : change.generation ≡ generation
  generation-is = ap (λ (c : Change). c.generation) change-is ∙ text.of_generation

  number-is : change.number ≡ n
  number-is = ap (λ (c : Change). c.number) change-is ∙ text.of_number

  pub version-is : change.version ≡ 2
  version-is = ap (λ (c : Change). c.version) change-is ∙ text.of_version

  -- what is committed carries the frames of the oldest sealed epoch
  pub frames-are : change.frames ≡ frames_along g ms
  frames-are = ap (λ (c : Change). c.frames) change-is ∙ text.frames

  -- no delta of version 1
  new-version : is_old_delta change ≡ false
  new-version = ap (λ v. (v == 1) && not (change.number == 0)) version-is

  -- the first checkpoint fills the empty image, and each later one follows the one before it
  is-next : (m : ℕ) → n ≡ m → answer_at x.image.stands_at change.generation change.number ≡ Ok New
  is-next zero e = λ i. answer_at ((backed.fills e).empty i) (generation-is i) ((number-is ∙ e) i)
  is-next (suc m) e = search (arith, rules, backed, generation-is, next-is-new, number-is)

  -- an image that no checkpoint was committed to keeps nothing
  pub keeps-nothing : change.number ≡ 0 → (x.image.kept ≡ []) × (x.image.sent ≡ 0)
  keeps-nothing e = let f = backed.fills (sym number-is ∙ e) in (f.kept, f.sent)

  is-new : sent_with change x.image.sent < number_limit → (m : ℕ) → n ≡ m → stage_answer x.image change ≡ Ok New
  is-new fits m e =
      ap (λ old. cond old (Err OldVersion)
      (if_numbered (sent_with change x.image.sent) (answer_at x.image.stands_at change.generation change.number))) new-version
      ∙ ap (if_numbered (sent_with change x.image.sent)) (is-next m e)
      ∙ ap (λ (t : Bool). cond t (Ok New) (Err Exhausted)) (lt-ltb (sent_with change x.image.sent) number_limit fits)

  makes : (m : ℕ) → n ≡ m → image_of change x.image.guest ≡ guest_along g ms
  makes zero e = search (arith, rules, backed)
  makes (suc m) e = search (arith, rules, backed, change-is, text)

  abbrev after : Nodes
  after = record x { image = taken_in x.image change; sealed = later_texts x.sealed }

  taken : AreNodes alone generation (n + 1) (guest_along g ms) mss ran after
  taken =
      let number : n ≡ n + 1 - 1 = omega arith in
      record {
        first_generation = h.first_generation;
        last_generation = h.last_generation;
        backed = λ e. record {
          follows = λ l. record {
            image = makes n refl;
            stands_at = λ i. Some (record { generation = generation-is i; number = (number-is ∙ number) i });
          };
          fills = λ none. absurd (omega arith);
          staged = refl;
          image_shape = shape-moves x.image.shape g ms backed.image_shape;
          sealed = later-sealed x.image.shape generation n g ms mss x.sealed backed.sealed;
          base = subst (IsBase (machine_of x.live)) (guest_along-append g ms (all_moves mss)) backed.base;
        };
        live = h.live ∙ ap (guest_along g) (append_assoc ms (all_moves mss) ran) ∙ guest_along-append g ms (all_moves mss ++ ran);
        outbox = h.outbox ∙ ap (λ b. frames_along b ran) (guest_along-append g ms (all_moves mss));
        shape = h.shape;
      }

  module _ (fits : sent_with change x.image.sent < number_limit) where
    pub image-commit : (with_commit x).image ≡ taken_in x.image change
    image-commit = takes-in x.image change (is-new fits n refl)

    pub nodes-commit : AreNodes alone generation (n + 1) (guest_along g ms) mss ran (with_commit x)
    nodes-commit = rw image-commit taken
