-- A first backup stays one: in the first generation no commit is marked in what it has seen. The laws of growing_history come as premises,
-- since a function of it promises them.
use Rattle.std.proofs.Common.{◌≡◌, ℕ, List, [], ◌∷◌, ◌++◌, Bool, true, false, refl, sym, ap, ◌∙◌, subst, append_assoc, inl, inr}
use Rattle.std.proofs.Common.{Option, Some, None, Result, Ok, Err}
use Rattle.std.specs.Prelude.{IfOk, IfErr, IfSome, IsSome, OnOk}
use Rattle.checkpoint_stream.specs.Text.{text as text_of}
use Rattle.checkpoint_stream.specs.declared.errors.StreamError.{StreamError}
use Rattle.epoch_snapshot.specs.Checkpoints.{Change}
use Rattle.growing_history.specs.FirstGeneration.{AreUnmarked, CommitsSealed}
use Rattle.growing_history.specs.LogState.{first_backup, LegalSteps}
use Rattle.growing_history.specs.Steps.{Sealed, Committed, Step, step, Begins, steps_by}
use Rattle.growing_history.specs.Views.{Member}
use Rattle.pair_book.specs.Packets.{PacketState}
use Rattle.pair_book.specs.Texts.{WasSealed}
use Rattle.pair_book.specs.declared.failures.Ack.{Ack}
use Rattle.pair_history.specs.HistoryState.{HistoryState}
use Rattle.pair_record.specs.declared.event.Refusal.{Refusal}
use Rattle.hypervisor.specs.Backups.{BackupState}
use Rattle.hypervisor.specs.Commits.{Commits, AfterRefusedCommit, gives_up, read_after_refusal}
use Rattle.hypervisor.specs.FirstBackups.{packet_of, IsSealed, IsFirstBackup, HasSeen, Hears, AnswersPacket, AfterPacket}
use Rattle.hypervisor.specs.Opening.{unseen}
use Rattle.hypervisor.specs.Seats.{MakesStep, Looks}

-- steps of others make no mark
abbrev pub OthersLaw : Type 0
OthersLaw = (h : HistoryState) (old now : List Step) → Begins old now → LegalSteps h now → steps_by first_backup now ≡ steps_by first_backup old
    → AreUnmarked h old → AreUnmarked h now

-- nor does its own commit of what was sealed
abbrev pub OwnLaw : Type 0
OwnLaw = (h : HistoryState) (old now : List Step) → CommitsSealed old now → LegalSteps h now → AreUnmarked h old → AreUnmarked h now

-- what was sealed stays so
pub sealed-later : (xs ys : List Step) (p : PacketState) → Begins xs ys → WasSealed xs p → WasSealed ys p
sealed-later xs ys p b w =
    let x = step w.by (Sealed p.generation p.number w.epoch p.text) in
    record {
      before = w.before;
      later = w.later ++ b.0;
      by = w.by;
      epoch = w.epoch;
      is = b.1 ∙ ap (λ (l : List Step). l ++ b.0) w.is ∙ append_assoc w.before (x ∷ w.later) b.0;
    }

pub read-later : (xs ys : List Step) (read : Option Change) → Begins xs ys → IsSealed xs read → IsSealed ys read
read-later xs ys None b w = tt
read-later xs ys (Some c) b w = sealed-later xs ys (packet_of c) b w

pub looks-on : OthersLaw → (h : HistoryState) (old now : List Step) → Looks h first_backup old now → AreUnmarked h old → AreUnmarked h now
looks-on others h old now l was = others h old now l.seen l.legal l.own was

-- the step of its own, of a text that was sealed in what it had seen, comes after steps of others
commits-on : OwnLaw → (h : HistoryState) (old now : List Step) (p : PacketState)
    → MakesStep h first_backup (Committed p.generation p.number p.text) old now → WasSealed old p → AreUnmarked h old → AreUnmarked h now
commits-on own h old now p m w was = own h old now is m.legal was
  where
    is : CommitsSealed old now
    is = record {
      generation = p.generation;
      number = p.number;
      text = p.text;
      by = w.by;
      epoch = w.epoch;
      before = w.before;
      later = w.later;
      between = m.seen.0;
      sealed = w.is;
      is = m.seen.1;
      own = m.own;
    }

-- it stays a first backup, where its seat looks
pub looked-on : OthersLaw → (h : HistoryState) (b : BackupState) (seat : Member) → IsFirstBackup h b → seat.number ≡ b.seat.number
    → Looks h b.seat.number b.seat.steps seat.steps → IsFirstBackup h (record b { seat = seat })
looked-on others h b seat f number l = record {
  number = number ∙ f.number;
  unmarked = looks-on others h b.seat.steps seat.steps (subst (λ (n : ℕ). Looks h n b.seat.steps seat.steps) f.number l) f.unmarked;
  sealed = read-later b.seat.steps seat.steps b.read l.seen f.sealed;
}

-- where it reads what was sealed, or gives up what it read
read-on : (h : HistoryState) (b : BackupState) (read : Option Change) → IsFirstBackup h b → IsSealed b.seat.steps read
    → IsFirstBackup h (record b { read = read })
read-on h b read f is = record { number = f.number; unmarked = f.unmarked; sealed = is }

-- and where it commits
committed-on : OthersLaw → OwnLaw → (h : HistoryState) (c : Change) (ack : Ack) (old new : BackupState) → IsFirstBackup h old → old.read ≡ Some c
    → Commits h c ack old new → IsFirstBackup h new
committed-on others own h c ack old new f read (inl n) =
    let sealed : WasSealed old.seat.steps (packet_of c) = subst (IsSealed old.seat.steps) read f.sealed in
    let made = subst (λ (k : ℕ). MakesStep h k (Committed c.generation c.number (text_of c)) old.seat.steps new.seat.steps) f.number n.step in
    record {
      number = n.number ∙ f.number;
      unmarked = commits-on own h old.seat.steps new.seat.steps (packet_of c) made sealed f.unmarked;
      sealed = subst (IsSealed new.seat.steps) (sym (ap (λ (b : BackupState). b.read) n.is)) tt;
    }
committed-on others own h c ack old new f read (inr a) = record {
  number = a.number ∙ f.number;
  unmarked = looks-on others h old.seat.steps new.seat.steps (subst (λ (k : ℕ). Looks h k old.seat.steps new.seat.steps) f.number a.looks) f.unmarked;
  sealed = subst (IsSealed new.seat.steps) (sym (ap (λ (b : BackupState). b.read) a.is)) tt;
}

refused-on : (h : HistoryState) (why : Refusal) (old new : BackupState) → IsFirstBackup h old → AfterRefusedCommit why old new
    → IsFirstBackup h new
refused-on h why old new f is = subst (IsFirstBackup h) (sym is) (by_test (gives_up why))
  where
    by_test : (t : Bool) → IsFirstBackup h (record old { read = read_after_refusal t old.read })
    by_test true = read-on h old None f tt
    by_test false = f

-- as it is at the start
pub first-begins : (h : HistoryState) (b : BackupState) → AreUnmarked h [] → b.seat ≡ unseen first_backup → b.read ≡ None → IsFirstBackup h b
first-begins h b none seat read = record {
  number = ap (λ (m : Member). m.number) seat;
  unmarked = subst (λ (m : Member). AreUnmarked h m.steps) (sym seat) none;
  sealed = subst (IsSealed b.seat.steps) (sym read) tt;
}

pub seen-on : OthersLaw → (h : HistoryState) (all : List Step) (old new : BackupState) → IsFirstBackup h old → HasSeen h all old new
    → IsFirstBackup h new
seen-on others h all old new f s =
    subst (IsFirstBackup h) (sym s.is) (looked-on others h old (record { number = old.seat.number; steps = all }) f refl s.looks)

pub all-unmarked : OthersLaw → (h : HistoryState) (all : List Step) (old new : BackupState) → IsFirstBackup h old → HasSeen h all old new
    → AreUnmarked h all
all-unmarked others h all old new f s = (looked-on others h old (record { number = old.seat.number; steps = all }) f refl s.looks).unmarked

heard-on : OthersLaw → (h : HistoryState) (badge : List Step) (old new : BackupState) → IsFirstBackup h old → Hears h badge old new
    → IsFirstBackup h new
heard-on others h badge old new f s = subst (IsFirstBackup h) (sym s.is) (looked-on others h old new.seat f s.number s.looks)

-- WHERE IT READS A PACKET of which it is told: what it has seen then it had heard
module _ (others : OthersLaw) (h : HistoryState) (badge : List Step) (p : PacketState) (old mid new : BackupState)
    (r : Result Bool StreamError) (heard : Hears h badge old mid) (left : AfterPacket p r mid new) where
  pub packet-answers : AnswersPacket mid.image.shape p r → AnswersPacket old.image.shape p r
  packet-answers = subst (λ (b : BackupState). AnswersPacket b.image.shape p r) heard.is

  pub packet-first : IsFirstBackup h old → WasSealed badge p → IsFirstBackup h new
  packet-first f w = by_answer r left
    where
      stays : IsFirstBackup h mid
      stays = heard-on others h badge old mid f heard

      mine : WasSealed mid.seat.steps p
      mine = sealed-later badge mid.seat.steps p heard.told w

      by_answer : (r : Result Bool StreamError) → AfterPacket p r mid new → IsFirstBackup h new
      by_answer (Ok true) is =
          subst (IsFirstBackup h) (sym is.is)
          (read-on h mid (Some is.change) stays (subst (WasSealed mid.seat.steps) (sym is.packet) mine))
      by_answer (Ok false) is = subst (IsFirstBackup h) (sym is) (read-on h mid None stays tt)
      by_answer (Err why) is = subst (IsFirstBackup h) (sym is) stays

pub commit-tried : OthersLaw → OwnLaw → (h : HistoryState) (old new : BackupState) (r : Result Ack Refusal) → IsFirstBackup h old → OnOk r (IsSome old.read)
    → IfOk r (λ ack. IfSome old.read (λ c. Commits h c ack old new)) → IfErr r (λ why. AfterRefusedCommit why old new)
    → IsFirstBackup h new
commit-tried others own h old new (Ok ack) f some done refused = by_read old.read refl some done
  where
    by_read : (read : Option Change) → old.read ≡ read → IsSome read → IfSome read (λ c. Commits h c ack old new) → IsFirstBackup h new
    by_read None is some done = absurd (cc)
    by_read (Some c) is some done = committed-on others own h c ack old new f is done
commit-tried others own h old new (Err why) f some done refused = refused-on h why old new f refused
