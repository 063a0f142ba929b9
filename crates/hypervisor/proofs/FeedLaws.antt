-- What bytes make of a backup, and that it stays one.
use Rattle.std.proofs.Common.{◌≡◌, ℕ, List, true, false, Bool, refl, sym, ap, ◌∙◌, subst}
use Rattle.std.specs.Prelude.{All, ◌<◌, IfSome, IfNone, Option, None, Some, Ok, Err}
use Rattle.checkpoint_stream.specs.Answers.{FeedAnswers}
use Rattle.checkpoint_stream.specs.declared.errors.StreamError.{StreamError}
use Rattle.checkpoint_stream.specs.declared.errors.StreamError.TheVariants.{Malformed, NoMemory}
use Rattle.checkpoint_stream.specs.declared.place.Place.{Place}
use Rattle.checkpoint_stream.specs.declared.place.Place.TheVariants.{Whole}
use Rattle.checkpoint_stream.specs.Readings.{Reading, begun, fed, is_whole, failure_at}
use Rattle.checkpoint_stream.specs.Sound.{change_in}
use Rattle.epoch_snapshot.specs.Checkpoints.{Change}
use Rattle.guest_rules.specs.declared.shapes.Shape.{Shape}
use Rattle.backup_image.specs.Images.{ImageState}
use Rattle.growing_history.specs.Views.{Member}
use Rattle.pair_book.specs.Commits.{WasRead}
use Rattle.pair_history.specs.HistoryState.{HistoryState}
use Rattle.hypervisor.specs.Backups.{BackupState, backup_state, ReadsOn, IsBackup}
use Rattle.hypervisor.specs.Feeding.{with_reading, after_reading, Feeds}
use Rattle.hypervisor.proofs.ReadShapes.{fed_shape, change_shape}
use Rattle.hypervisor.proofs.ReadsOnLaws.{TextLaw, nothing-came, more-came, whole-was-read}

-- the checkpoint that the reader gives, once it has read so far, and what it has read of the next one
abbrev pub GivesWhole : Reading → Option Change → Reading → Type 0
GivesWhole r read now = IfSome read (λ c. (r.place ≡ Whole) × (c ≡ change_in r) × (now ≡ begun r.shape r.offset))

abbrev pub GivesNone : Reading → Option Change → Reading → Type 0
GivesNone r read now = IfNone read ((is_whole r.place ≡ false) × (now ≡ r))

stands-apart : (b : BackupState) (r now : Reading) (read : Option Change) → b.read ≡ None → GivesWhole r read now → GivesNone r read now
    → record b { reading = now; read = read } ≡ after_reading b r
stands-apart b r now (Some c) unread some none =
    let whole : is_whole r.place ≡ true = ap is_whole some.0 in
    (λ i. record b { reading = some.2 i; read = Some (some.1 i) }) ∙ sym (ap (λ (t : Bool). with_reading t b r) whole)
stands-apart b r now None unread some none =
    (λ i. record b { reading = none.1 i; read = sym unread i }) ∙ sym (ap (λ (t : Bool). with_reading t b r) none.0)

pub feeds_ok : (b : BackupState) (bytes : List ℕ) (count : ℕ) (r now : Reading) (read : Option Change) → b.read ≡ None
    → FeedAnswers b.reading bytes (Ok count) r → GivesWhole r read now → GivesNone r read now
    → Feeds b bytes (Ok count) (record b { reading = now; read = read })
feeds_ok b bytes count r now read unread a some none = (
  stands-apart b r now read unread some none ∙ ap (after_reading b) a.0,
  a.1,
  ap (λ (x : Reading). failure_at x.place) (sym a.0) ∙ a.2,
)

pub feeds_err : (b : BackupState) (bytes : List ℕ) (e : StreamError) (r : Reading) → FeedAnswers b.reading bytes (Err e) r
    → Feeds b bytes (Err e) (record b { reading = r })
feeds_err b bytes (Malformed offset) r a =
    (ap (λ (x : Reading). record b { reading = x }) a.0, ap (λ (x : Reading). failure_at x.place) (sym a.0) ∙ a.1)
feeds_err b bytes (NoMemory w) r a = ap (λ (x : Reading). record b { reading = x }) a

-- IT STAYS A BACKUP

not-whole : (p : Place) (offset : ℕ) → failure_at p ≡ Some offset → is_whole p ≡ false
not-whole Whole offset e = absurd (cc)
not-whole other offset e = refl

read-shape : (shape : Shape) (r : Reading) (bytes : List ℕ) (c : Change) → r.shape ≡ shape → c ≡ change_in (fed r bytes) → c.shape ≡ shape
read-shape shape r bytes c same is =
    ap (λ (x : Change). x.shape) is ∙ change_shape (fed r bytes) ∙ fed_shape r bytes ∙ same

one-of : (c d : Change) → Some c ≡ Some d → d ≡ c
one-of c d e = cc

module _ (start : HistoryState) (image : ImageState) (seat : Member) (bytes : List ℕ) (small : All (λ b. b < 256) bytes) where
  pub stays_fed : (reading r now : Reading) (old read : Option Change) (count : ℕ) → TextLaw
      → IsBackup start (backup_state image reading old seat) → FeedAnswers reading bytes (Ok count) r → GivesWhole r read now
      → GivesNone r read now → IsBackup start (backup_state image now read seat)
  stays_fed reading r now old (Some c) count law h a some none = record {
    unstaged = h.unstaged;
    unfinished = ap (λ (x : Reading). is_whole x.place) some.2;
    shape = ap (λ (x : Reading). x.shape) some.2 ∙ ap (λ (x : Reading). x.shape) a.0 ∙ fed_shape reading bytes ∙ h.shape;
    reads_on = subst ReadsOn (sym some.2) (nothing-came r.shape r.offset);
    read_shape = λ d is.
        ap (λ (x : Change). x.shape) (one-of c d is)
        ∙ read-shape image.shape reading bytes c h.shape (some.1 ∙ ap change_in a.0);
    was_read = λ d is.
        subst WasRead (sym (one-of c d is))
        (whole-was-read r c law (more-came reading r bytes small h.reads_on a.0) some.0 some.1);
    pair_shape = h.pair_shape;
    stands = h.stands;
  }
  stays_fed reading r now old None count law h a some none = record {
    unstaged = h.unstaged;
    unfinished = ap (λ (x : Reading). is_whole x.place) none.1 ∙ none.0;
    shape = ap (λ (x : Reading). x.shape) none.1 ∙ ap (λ (x : Reading). x.shape) a.0 ∙ fed_shape reading bytes ∙ h.shape;
    reads_on = subst ReadsOn (sym none.1) (more-came reading r bytes small h.reads_on a.0);
    read_shape = λ d is. absurd (cc);
    was_read = λ d is. absurd (cc);
    pair_shape = h.pair_shape;
    stands = h.stands;
  }

  pub stays_failed : (reading r : Reading) (read : Option Change) (e : StreamError) → IsBackup start (backup_state image reading read seat)
      → FeedAnswers reading bytes (Err e) r → IsBackup start (backup_state image r read seat)
  stays_failed reading r read (Malformed offset) h a = record {
    unstaged = h.unstaged;
    unfinished =
        ap (λ (x : Reading). is_whole x.place) a.0
        ∙ not-whole (fed reading bytes).place offset (ap (λ (x : Reading). failure_at x.place) (sym a.0) ∙ a.1);
    shape = ap (λ (x : Reading). x.shape) a.0 ∙ fed_shape reading bytes ∙ h.shape;
    reads_on = more-came reading r bytes small h.reads_on a.0;
    read_shape = h.read_shape;
    was_read = h.was_read;
    pair_shape = h.pair_shape;
    stands = h.stands;
  }
  stays_failed reading r read (NoMemory w) h a =
      subst (λ (x : Reading). IsBackup start (backup_state image x read seat)) (sym a) h
