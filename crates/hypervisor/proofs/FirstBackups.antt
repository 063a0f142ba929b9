-- What is done to the backup of a first backup, and that it stays one.
use Rattle.std.proofs.Common.{◌≡◌, ℕ, ◌<◌, ◌≤◌, List, Bool, true, false, refl, sym, ap, ◌∙◌, subst, Option, Some, None, length, arith}
use Rattle.std.proofs.Common.{Result, Ok, Err}
use Rattle.std.proofs.lemmas.Bool.{eq-eqb, le-leb}
use Rattle.std.proofs.lemmas.List.{take_all}
use Rattle.std.specs.Prelude.{All, IfSome, is_some, ◌&&◌}
use Rattle.backup_image.specs.Images.{ImageState}
use Rattle.checkpoint_stream.specs.Answers.{FeedAnswers}
use Rattle.checkpoint_stream.specs.ReadBack.{ReadsBack}
use Rattle.checkpoint_stream.specs.Readings.{Reading, begun, fed, taken, is_whole, failure_at}
use Rattle.checkpoint_stream.specs.Sound.{change_in}
use Rattle.checkpoint_stream.specs.Text.{text}
use Rattle.checkpoint_stream.specs.declared.errors.StreamError.{StreamError}
use Rattle.checkpoint_stream.specs.declared.errors.StreamError.TheVariants.{Malformed, NoMemory}
use Rattle.checkpoint_stream.specs.declared.place.Place.TheVariants.{Whole}
use Rattle.epoch_snapshot.specs.Checkpoints.{Change}
use Rattle.guest_rules.specs.Guest.{Guest}
use Rattle.guest_rules.specs.declared.shapes.Shape.{Shape}
use Rattle.growing_history.specs.Steps.{Step, Begins, steps_by}
use Rattle.growing_history.specs.LogState.{LegalSteps}
use Rattle.growing_history.specs.Views.{Member}
use Rattle.pair_book.specs.declared.failures.Ack.{Ack}
use Rattle.pair_book.specs.Commits.{WasRead}
use Rattle.pair_book.specs.Packets.{PacketState}
use Rattle.pair_book.specs.Standing.{Stands}
use Rattle.pair_history.specs.Entries.{Frame}
use Rattle.pair_history.specs.HistoryState.{HistoryState}
use Rattle.backup_image.specs.Kept.{first_kept}
use Rattle.hypervisor.specs.Backups.{BackupState, backup_state, IsBackup, ImageStands, last_of, kept_of}
use Rattle.hypervisor.specs.FirstBackups.{IsReadOf, IsOfShape, ReadsWhole, AnswersPacket, AfterPacket, IsReadOrNoMemory}
use Rattle.hypervisor.specs.FirstBackups.{text_read, is_text_for, is_all_of}
use Rattle.hypervisor.specs.Seats.{Looks}
use Rattle.hypervisor.proofs.ReadShapes.{fed_shape, change_shape}
use Rattle.hypervisor.proofs.ReadsOnLaws.{TextLaw, nothing-came, more-came, whole-was-read}

-- a backup stands on where its seat looks: the law of pair_book
abbrev pub StandsOn : Type 0
StandsOn = (start : HistoryState) (seat : Member) (now : List Step) (image : Guest) (last : Option Ack) (sent first : ℕ)
    (kept : List (List Frame)) → Begins seat.steps now → LegalSteps start now → steps_by seat.number now ≡ steps_by seat.number seat.steps
    → Stands start seat image last sent first kept → Stands start (record { number = seat.number; steps = now }) image last sent first kept

module _ (start : HistoryState) (image : ImageState) (reading : Reading) (read : Option Change) (seat : Member)
    (h : IsBackup start (backup_state image reading read seat)) where
  pub seat-on : (seat' : Member) → StandsOn → seat'.number ≡ seat.number → Looks start seat.number seat.steps seat'.steps
      → IsBackup start (backup_state image reading read seat')
  seat-on seat' law number l =
      let stands : ImageStands start (record { number = seat.number; steps = seat'.steps }) image =
      law start seat seat'.steps image.guest (last_of image) image.sent (first_kept (kept_of image)) image.kept l.seen l.legal l.own h.stands in
      record {
        unstaged = h.unstaged;
        unfinished = h.unfinished;
        shape = h.shape;
        reads_on = h.reads_on;
        read_shape = h.read_shape;
        was_read = h.was_read;
        pair_shape = h.pair_shape;
        stands =
            subst (λ (s : Member). ImageStands start s image) (λ k. record { number = sym number k; steps = seat'.steps }) stands;
      }

  -- it has a checkpoint of its shape in the place of what was read
  pub read-in : (p : PacketState) (c : Change) → IsReadOf image.shape p c → IsBackup start (backup_state image reading (Some c) seat)
  read-in p c is = record {
    unstaged = h.unstaged;
    unfinished = h.unfinished;
    shape = h.shape;
    reads_on = h.reads_on;
    read_shape = λ d e. subst (λ (x : Change). x.shape ≡ image.shape) (same d e) is.of_shape;
    was_read = λ d e. subst WasRead (same d e) is.was_read;
    pair_shape = h.pair_shape;
    stands = h.stands;
  }
    where
      same : (d : Change) → Some c ≡ Some d → c ≡ d
      same d e = cc

-- WHAT A NEW READER READS of all of a packet's bytes
module _ (shape : Shape) (p : PacketState) (began r : Reading) (bytes : List ℕ) (new : began ≡ begun shape 0) (all : bytes ≡ p.text) where
  came : fed began bytes ≡ text_read shape p
  came = λ i. fed (new i) (all i)

  took : taken began bytes ≡ taken (begun shape 0) p.text
  took = λ i. taken (new i) (all i)

  is-read : {r' : Reading} → r' ≡ fed began bytes → r' ≡ text_read shape p
  is-read e = e ∙ came

  pub none-read : (why : StreamError) → FeedAnswers began bytes (Err why) r → ReadsWhole shape p (Err why)
  none-read (Malformed offset) a = ap (λ (x : Reading). failure_at x.place) (sym (is-read a.0)) ∙ a.1
  none-read (NoMemory wanted) a = tt

  module _ (count : ℕ) (a : FeedAnswers began bytes (Ok count) r) where
    kept : failure_at (text_read shape p).place ≡ None
    kept = ap (λ (x : Reading). failure_at x.place) (sym (is-read a.0)) ∙ a.2

    pub not-whole : is_whole r.place ≡ false → ReadsWhole shape p (Ok None)
    not-whole e =
        let part : is_whole (text_read shape p).place ≡ false = ap (λ (x : Reading). is_whole x.place) (sym (is-read a.0)) ∙ e in (
          ap (λ (t : Bool). t && is_all_of (taken (begun shape 0) p.text) (change_in (text_read shape p)) p) part,
          kept,
        )

    module _ (c : Change) (whole : r.place ≡ Whole) (is : c ≡ change_in r) where
      test : is_all_of (taken (begun shape 0) p.text) (change_in (text_read shape p)) p ≡ is_all_of count c p
      test =
          let counted : taken (begun shape 0) p.text ≡ count = sym (a.1 ∙ took) in
          let read : change_in (text_read shape p) ≡ c = sym (is ∙ ap change_in (is-read a.0)) in
          λ i. is_all_of (counted i) (read i) p

      there : is_whole (text_read shape p).place ≡ true
      there = ap (λ (x : Reading). is_whole x.place) (sym (is-read a.0)) ∙ ap is_whole whole

      answer : is_text_for shape p ≡ is_all_of count c p
      answer = λ i. there i && test i

      pub another-read : is_all_of count c p ≡ false → ReadsWhole shape p (Ok None)
      another-read e = (answer ∙ e, kept)

      pub one-read : is_all_of count c p ≡ true → IsReadOf shape p c → ReadsWhole shape p (Ok (Some c))
      one-read e of = (answer ∙ e, kept, of)

-- WHAT IS ANSWERED, and what it leaves

pub packet-answered : (shape : Shape) (p : PacketState) (read : Option Change) → ReadsWhole shape p (Ok read)
    → AnswersPacket shape p (Ok (is_some read))
packet-answered shape p None is = is
packet-answered shape p (Some c) is = (is.0, is.1)

pub packet-refused : (shape : Shape) (p : PacketState) (why : StreamError) → ReadsWhole shape p (Err why)
    → AnswersPacket shape p (Err why)
packet-refused shape p (Malformed offset) is = is
packet-refused shape p (NoMemory wanted) is = tt

pub packet-left : (shape : Shape) (p : PacketState) (b : BackupState) (read : Option Change) → ReadsWhole shape p (Ok read)
    → AfterPacket p (Ok (is_some read)) b (record b { read = read })
packet-left shape p b None is = refl
packet-left shape p b (Some c) is = record { change = c; is = refl; packet = is.2.packet }

-- what it reads as is of its shape
pub read-of-shape : (shape : Shape) (p : PacketState) (read : Option Change) → ReadsWhole shape p (Ok read) → IfSome read (IsReadOf shape p)
read-of-shape shape p None is = tt
read-of-shape shape p (Some c) is = is.2

-- A checkpoint of that shape is read.
module _ (shape : Shape) (p : PacketState) (g : IsOfShape shape p) where
  reads : ((text_read shape p).place ≡ Whole) × (change_in (text_read shape p) ≡ g.change) × (taken (begun shape 0) p.text ≡ length p.text)
  unfolding ReadsBack
  reads =
      subst
      (λ (s : Shape).
      ((fed (begun s 0) p.text).place ≡ Whole) × (change_in (fed (begun s 0) p.text) ≡ g.change)
      × (taken (begun s 0) p.text ≡ length p.text))
      g.of_shape (g.reads_back 0)

  is-text : is_text_for shape p ≡ true
  is-text =
      let there : is_whole (text_read shape p).place ≡ true = ap is_whole reads.0 in
      let test : is_all_of (taken (begun shape 0) p.text) (change_in (text_read shape p)) p ≡ is_all_of (length p.text) g.change p =
      λ i. is_all_of (reads.2 i) (reads.1 i) p in
      let named : is_all_of (length p.text) g.change p ≡ true =
      rw (
        le-leb (length p.text) (length p.text) (omega arith),
        eq-eqb g.change.generation p.generation g.generation,
        eq-eqb g.change.number
            p.number g.number,
      ) refl in
      (λ i. there i && test i) ∙ named

  pub checkpoint-read : (r : Result Bool StreamError) → AnswersPacket shape p r → IsReadOrNoMemory r
  checkpoint-read (Ok is_read) a = sym a.0 ∙ is-text
  checkpoint-read (Err (Malformed offset)) a =
      let none : failure_at (text_read shape p).place ≡ None = ap failure_at reads.0 in
      absurd (cc (none, a))
  checkpoint-read (Err (NoMemory wanted)) a = tt

-- what a new reader reads whole, of all of a packet's bytes
pub whole-read : (shape : Shape) (p : PacketState) (began r : Reading) (bytes : List ℕ) (count : ℕ) (c : Change) → TextLaw
    → All (λ b. b < 256) bytes → bytes ≡ p.text → began ≡ begun shape 0 → r ≡ fed began bytes → count ≡ taken began bytes
    → length bytes ≤ count → r.place ≡ Whole → c ≡ change_in r → c.generation ≡ p.generation → c.number ≡ p.number → IsReadOf shape p c
whole-read shape p began r bytes count c law small text_is new came took all whole is generation number =
    let first = begun shape 0 in
    let came' : r ≡ fed first bytes = came ∙ ap (λ (x : Reading). fed x bytes) new in
    let took' : count ≡ taken first bytes = took ∙ ap (λ (x : Reading). taken x bytes) new in
    let there : (fed first bytes).place ≡ Whole = ap (λ (x : Reading). x.place) (sym came') ∙ whole in
    let spelled : text c ≡ bytes =
    ap text (is ∙ ap change_in came') ∙ sym (law shape 0 bytes small there) ∙ take_all (taken first bytes) bytes (omega (arith, all, took')) in
    record {
      of_shape =
          ap (λ (x : Change). x.shape) is ∙ change_shape r ∙ ap (λ (x : Reading). x.shape) came' ∙ fed_shape first bytes;
      was_read = whole-was-read r c law (more-came first r bytes small (nothing-came shape 0) came') whole is;
      packet = λ i. record { generation = generation i; number = number i; text = (spelled ∙ text_is) i };
    }
