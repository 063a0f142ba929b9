-- What a backup's commit makes of it.
use Rattle.std.proofs.Common.{◌≡◌, ℕ, List, [], ◌∷◌, refl, sym, ap, ◌∙◌, subst, Bool, true, false, Option, Some, None, Ok, inl, inr}
use Rattle.std.specs.Prelude.{◌==◌, ◌&&◌, not, nat_lt, nat_le, IfSome, option_map}
use Rattle.std.specs.List.{Contains}
use Rattle.memory_wanted.specs.Wanted.{wanted}
use Rattle.backup_image.specs.Images.{ImageState, stage_answer}
use Rattle.backup_image.specs.declared.standing.Staged.TheVariants.{New}
use Rattle.backup_image.specs.Kept as images
use Rattle.backup_image.specs.Limits.{number_limit}
use Rattle.checkpoint_stream.specs.Readings.{Reading}
use Rattle.epoch_snapshot.specs.Checkpoints.{Change, is_old_delta}
use Rattle.guest_rules.specs.declared.shapes.Shape.{Shape}
use Rattle.growing_history.specs.LogState.{LegalSteps}
use Rattle.growing_history.specs.Views.{Member}
use Rattle.pair_history.specs.HistoryState.{HistoryState}
use Rattle.pair_record.specs.declared.event.Refusal.{Refusal}
use Rattle.pair_record.specs.declared.event.Refusal.TheVariants.{Stopped, Stale, Gap, NoMemory, Exhausted, OldVersion}
use Rattle.pair_record.specs.Protocol.{Row, first_refusal}
use Rattle.pair_book.specs.Books.{BookState}
use Rattle.pair_book.specs.Calls.{IsWhy, is_word_full}
use Rattle.pair_book.specs.declared.failures.Ack.{Ack}
use Rattle.pair_book.specs.Commits.{commit_of, may_commit, is_next, is_earlier, commit_why, AfterAgainOrNext, Acknowledges}
use Rattle.pair_book.specs.Commits.{WasRead, StandsAfterNext, StandsAfterAgain}
use Rattle.pair_book.specs.Made.{IsShape}
use Rattle.hypervisor.specs.Backups.{backup_state, new_backup, ImageStands, IsBackup}
use Rattle.hypervisor.specs.Commits.{AtBook, Commits, image_after, read_after_refusal, commit_refusals, MayRefuseCommit, or_unnumbered, why_not}
use Rattle.hypervisor.specs.Refusals.{MayRefuseUnless}
use Rattle.hypervisor.proofs.ReadsOnLaws.{nothing-came}
use Rattle.hypervisor.proofs.{StandLaws.{stage-new, stage-again, stands-applied}, Steps.{makes-step, looks-at}, Whys.{first, later}}

-- WHICH REFUSALS

abbrev rows : Bool → Bool → Bool → Bool → Bool → Bool → List Row
rows old may own far empty full =
    (old, OldVersion) ∷ (not may, Stopped) ∷ (not own, Stale) ∷ (far, Gap) ∷ (empty, Gap) ∷ (full, Exhausted) ∷ []

is_stopped : (why : Refusal) → why ≡ Stopped → Contains commit_refusals why
is_stopped why e = first why Stopped (Stale ∷ Gap ∷ NoMemory wanted ∷ Exhausted ∷ []) e

after-stopped : (why : Refusal) → Contains (Stale ∷ Gap ∷ NoMemory wanted ∷ Exhausted ∷ []) why → Contains commit_refusals why
after-stopped why h = later why Stopped (Stale ∷ Gap ∷ NoMemory wanted ∷ Exhausted ∷ []) h

is_stale : (why : Refusal) → why ≡ Stale → Contains commit_refusals why
is_stale why e = after-stopped why (first why Stale (Gap ∷ NoMemory wanted ∷ Exhausted ∷ []) e)

after-stale : (why : Refusal) → Contains (Gap ∷ NoMemory wanted ∷ Exhausted ∷ []) why → Contains commit_refusals why
after-stale why h = after-stopped why (later why Stale (Gap ∷ NoMemory wanted ∷ Exhausted ∷ []) h)

is_gap : (why : Refusal) → why ≡ Gap → Contains commit_refusals why
is_gap why e = after-stale why (first why Gap (NoMemory wanted ∷ Exhausted ∷ []) e)

is_wanted : (why : Refusal) → why ≡ NoMemory wanted → Contains commit_refusals why
is_wanted why e =
    after-stale why (later why Gap (NoMemory wanted ∷ Exhausted ∷ []) (first why (NoMemory wanted) (Exhausted ∷ []) e))

is_exhausted : (why : Refusal) → why ≡ Exhausted → Contains commit_refusals why
is_exhausted why e =
    after-stale why (later why Gap (NoMemory wanted ∷ Exhausted ∷ [])
    (later why (NoMemory wanted) (Exhausted ∷ []) (first why Exhausted [] e)))

by-rows : (old may own far empty full : Bool) (why : Refusal) → IsWhy (first_refusal (rows old may own far empty full)) why
    → MayRefuseUnless old OldVersion commit_refusals why
by-rows true may own far empty full why e = e
by-rows false false own far empty full why e = is_stopped why e
by-rows false true false far empty full why e = is_stale why e
by-rows false true true true empty full why e = is_gap why e
by-rows false true true false true full why e = is_gap why e
by-rows false true true false false true why e = is_exhausted why e
by-rows false true true false false false why e = is_wanted why e

young : (old may own far empty full : Bool) → first_refusal (rows old may own far empty full) ≡ None → old ≡ false
young true may own far empty full e = absurd (cc)
young false may own far empty full e = refl

by-may : (may : Bool) (why : Refusal) → IsWhy (first_refusal ((not may, Stopped) ∷ (true, Stale) ∷ [])) why
    → Contains (Stopped ∷ Stale ∷ []) why
by-may true why e = later why Stopped (Stale ∷ []) (first why Stale [] e)
by-may false why e = first why Stopped (Stale ∷ []) e

module _ (start : HistoryState) (b : BookState) (number : ℕ) where
  pub commit-why : (read : Option Change) (why : Refusal) → IsWhy (commit_why start b number read) why → MayRefuseCommit read why
  commit-why None why e = by-may (may_commit start b number) why e
  commit-why (Some c) why e =
      let w = b.protocol.window in
      by-rows (is_old_delta c) (may_commit start b number) (c.generation == b.protocol.generation) (nat_lt w.to_commit c.number)
      (is_next b c && nat_le w.to_cut w.to_commit) (is_next b c && is_word_full b) why e

  is_young : (c : Change) → commit_why start b number (Some c) ≡ None → is_old_delta c ≡ false
  is_young c e =
      let w = b.protocol.window in
      young (is_old_delta c) (may_commit start b number) (c.generation == b.protocol.generation) (nat_lt w.to_commit c.number)
      (is_next b c && nat_le w.to_cut w.to_commit) (is_next b c && is_word_full b) e

  -- or for want of numbers, after all that
  unless-old : (old : Bool) (why : Refusal) → old ≡ false → Contains commit_refusals why → MayRefuseUnless old OldVersion commit_refusals why
  unless-old true why e h = absurd (cc)
  unless-old false why e h = h

  at-last : (c : Change) (at-book : Option Refusal) (unnumbered : Bool) (why : Refusal) → commit_why start b number (Some c) ≡ at-book
      → or_unnumbered at-book unnumbered ≡ Some why → MayRefuseCommit (Some c) why
  at-last c (Some at) unnumbered why is e =
      commit-why (Some c) why (subst (λ (o : Option Refusal). IsWhy o why) (sym is) (let same : why ≡ at = cc in same))
  at-last c None true why is e =
      let same : why ≡ Exhausted = cc in unless-old (is_old_delta c) why (is_young c is) (is_exhausted why same)
  at-last c None false why is e = absurd (cc)

  pub refused-why : (i : ImageState) (c : Change) (why : Refusal) → why_not start b number i (Some c) ≡ Some why
      → MayRefuseCommit (Some c) why
  refused-why i c why e =
      at-last c (commit_why start b number (Some c)) (not (is_earlier b c) && not (nat_lt (images.sent_with c i.sent) number_limit)) why
      refl e

-- WHAT IT DOES AT THE BOOK

free-of : (at-book : Option Refusal) (unnumbered : Bool) → or_unnumbered at-book unnumbered ≡ None
    → (at-book ≡ None) × (unnumbered ≡ false)
free-of (Some why) unnumbered e = absurd (cc)
free-of None true e = absurd (cc)
free-of None false e = (refl, refl)

-- where nothing refuses it, it is refused for want of memory alone
pub row-of : (start : HistoryState) (b : BookState) (number : ℕ) (i : ImageState) (c : Change) (why : Refusal)
    → why_not start b number i (Some c) ≡ None → IsWhy (commit_why start b number (Some c)) why
    → IsWhy (why_not start b number i (Some c)) why
row-of start b number i c why none is =
    let both = free-of (commit_why start b number (Some c))
    (not (is_earlier b c) && not (nat_lt (images.sent_with c i.sent) number_limit)) none in
    subst (λ (o : Option Refusal). IsWhy o why) (both.0 ∙ sym none) is

is-numbered : (numbered : Bool) → (not false && not numbered) ≡ false → numbered ≡ true
is-numbered true e = refl
is-numbered false e = absurd (cc)

module _ (start : HistoryState) (b b' : BookState) (seat seat' : Member) (c : Change) (ack : Ack) (i : ImageState)
    (free : why_not start b seat.number i (Some c) ≡ None) (number : seat'.number ≡ seat.number) (legal : LegalSteps start b'.steps)
    (read : WasRead c) (shape : IsShape start i.shape) (same : c.shape ≡ i.shape) (stands : ImageStands start seat i) where
  abbrev numbered : Bool
  numbered = nat_lt (images.sent_with c i.sent) number_limit

  by-test : (t : Bool) → is_earlier b c ≡ t → AfterAgainOrNext t c ack b b' seat seat' → Acknowledges t c ack
      → (t ≡ false → StandsAfterNext start c ack seat seat') → (t ≡ true → StandsAfterAgain start ack seat seat')
      → AtBook (not t) start c ack i seat seat'
  by-test true is after acknowledged by again =
      let both = free-of (commit_why start b seat.number (Some c)) (not (is_earlier b c) && not numbered) free in
      let stood = again refl i.guest _ i.sent _ i.kept stands in
      record {
        acknowledged = acknowledged;
        last = stood.0;
        again = stage-again i c ack (is_young start b seat.number c both.0) stood.0 acknowledged;
        number = number;
        looks =
            looks-at start b seat seat' after.2
            (subst (λ (m : Member). LegalSteps start m.steps) (sym after.2.sees) (subst (λ (x : BookState). LegalSteps start x.steps) after.1 legal));
        stands = stood.1;
      }
  by-test false is after acknowledged by again =
      let both = free-of (commit_why start b seat.number (Some c)) (not (is_earlier b c) && not numbered) free in
      let stood = by refl read (subst (λ (s : Shape). IsShape start s) (sym same) shape) i.guest _ i.sent _ i.kept stands in
      record {
        acknowledged = acknowledged;
        number = number;
        step =
            makes-step start (commit_of c) b b' seat seat' after.2
            (subst (λ (m : Member). LegalSteps start m.steps) (sym after.2.sees) legal);
        new =
            stage-new i c (is_young start b seat.number c both.0) stood.0
            (is-numbered numbered (ap (λ (t : Bool). not t && not numbered) (sym is) ∙ both.1));
        stands = stands-applied start c ack seat seat' i acknowledged stood.1;
      }

  pub at-book : AfterAgainOrNext (is_earlier b c) c ack b b' seat seat' → Acknowledges (is_earlier b c) c ack
      → (is_earlier b c ≡ false → StandsAfterNext start c ack seat seat') → (is_earlier b c ≡ true → StandsAfterAgain start ack seat seat')
      → AtBook (not (is_earlier b c)) start c ack i seat seat'
  at-book after acknowledged by again = by-test (is_earlier b c) refl after acknowledged by again

pub stands-after : (start : HistoryState) (c : Change) (ack : Ack) (i : ImageState) (seat seat' : Member) (is_next : Bool)
    → AtBook is_next start c ack i seat seat' → ImageStands start seat' (image_after is_next i (Some c))
stands-after start c ack i seat seat' true at = at.stands
stands-after start c ack i seat seat' false at = at.stands

-- IT IS A BACKUP, and stays one

pub new_is_backup : (start : HistoryState) (image : ImageState) (seat : Member) → image.staged ≡ None → IsShape start image.shape
    → ImageStands start seat image → IsBackup start (new_backup image seat)
new_is_backup start image seat unstaged shape stands = record {
  unstaged = unstaged;
  unfinished = refl;
  shape = refl;
  reads_on = nothing-came image.shape 0;
  read_shape = λ c e. absurd (cc);
  was_read = λ c e. absurd (cc);
  pair_shape = shape;
  stands = stands;
}

-- what was read by a reference is what was read
pub if-read : {A : Type 0} (read : Option A) (of : A → Change) (P : Change → Type 0) → IfSome read (λ c. P (of c))
    → IfSome (option_map of read) P
if-read None of P h = tt
if-read (Some c) of P h = h

module _ (start : HistoryState) (image : ImageState) (reading : Reading) (seat : Member) where
  pub given-up : (given_up : Bool) (read : Option Change) → IsBackup start (backup_state image reading read seat)
      → IsBackup start (backup_state image reading (read_after_refusal given_up read) seat)
  given-up false read h = h
  given-up true read h = record {
    unstaged = h.unstaged;
    unfinished = h.unfinished;
    shape = h.shape;
    reads_on = h.reads_on;
    read_shape = λ c e. absurd (cc);
    was_read = λ c e. absurd (cc);
    pair_shape = h.pair_shape;
    stands = h.stands;
  }

  -- once it has committed what it read
  unstaged-after : (is_next : Bool) (read : Option Change) → image.staged ≡ None → (image_after is_next image read).staged ≡ None
  unstaged-after true None e = e
  unstaged-after true (Some c) e = refl
  unstaged-after false read e = e

  shape-after : (is_next : Bool) (read : Option Change) → (image_after is_next image read).shape ≡ image.shape
  shape-after true None = refl
  shape-after true (Some c) = refl
  shape-after false read = refl

  module _ (seat' : Member) (is_next : Bool) (read : Option Change) where
    pub taken-in : IsBackup start (backup_state image reading read seat) → ImageStands start seat' (image_after is_next image read)
        → IsBackup start (backup_state (image_after is_next image read) reading None seat')
    taken-in h stands = record {
      unstaged = unstaged-after is_next read h.unstaged;
      unfinished = h.unfinished;
      shape = h.shape ∙ sym (shape-after is_next read);
      reads_on = h.reads_on;
      read_shape = λ d e. absurd (cc);
      was_read = λ d e. absurd (cc);
      pair_shape = subst (λ (s : Shape). IsShape start s) (sym (shape-after is_next read)) h.pair_shape;
      stands = stands;
    }

  module _ (seat' : Member) (ack : Ack) where
    -- the image can take in the next one
    pub new-if-next : (is_next : Bool) (read : Option Change) → IfSome read (λ c. AtBook is_next start c ack image seat seat')
        → is_next ≡ true → IfSome read (λ c. stage_answer image c ≡ Ok New)
    new-if-next true None at is = tt
    new-if-next true (Some c) at is = at.new
    new-if-next false read at is = absurd (cc)

    pub commits : (is_next : Bool) (read : Option Change) → IfSome read (λ c. AtBook is_next start c ack image seat seat')
        → IfSome read (λ c. Commits start c ack (backup_state image reading read seat)
        (backup_state (image_after is_next image read) reading None seat'))
    commits is_next None at = tt
    commits true (Some c) at =
        inl (record { acknowledged = at.acknowledged; next = at.new; is = refl; number = at.number; step = at.step })
    commits false (Some c) at =
        inr
        (record {
          acknowledged = at.acknowledged;
          last = at.last;
          again = at.again;
          is = refl;
          number = at.number;
          looks = at.looks;
        })
