-- What the backup's commits do, and why one is refused.
use Rattle.std.specs.Prelude.{◌≡◌, ℕ, ◌+◌, ◌-◌, ◌≤◌, ◌==◌, ◌&&◌, not, nat_lt, nat_le, Bool, true, false, if◌then◌else◌, List, [], ◌∷◌, ◌++◌}
use Rattle.std.specs.Prelude.{length, Option, None, Some}
use Rattle.guest_rules.specs.Guest.{Guest}
use Rattle.epoch_snapshot.specs.Checkpoints.{Change, is_old_delta}
use Rattle.epoch_snapshot.specs.Images.{image_of}
use Rattle.checkpoint_stream.specs.Readings.{begun, fed}
use Rattle.checkpoint_stream.specs.Sound.{change_in}
use Rattle.checkpoint_stream.specs.Text.{text}
use Rattle.pair_history.specs.Entries.{Frame}
use Rattle.pair_history.specs.HistoryState.{HistoryState}
use Rattle.pair_record.specs.Kept.{all_frames}
use Rattle.pair_record.specs.declared.event.Refusal.{Refusal}
use Rattle.pair_record.specs.declared.event.Refusal.TheVariants.{Stopped, Stale, Gap, Exhausted, OldVersion}
use Rattle.pair_record.specs.declared.event.Reply.TheVariants as replies
use Rattle.pair_record.specs.Modes.{is_alone}
use Rattle.pair_record.specs.Protocol.{Row, first_refusal, again_done, commit_done}
use Rattle.growing_history.specs.Steps.{What, Committed}
use Rattle.growing_history.specs.LogState.{state_at}
use Rattle.growing_history.specs.Views.{Member}
use Rattle.pair_book.specs.declared.failures.Ack.{Ack}
use Rattle.pair_book.specs.Books.{BookState}
use Rattle.pair_book.specs.Calls.{Makes, Shows, is_word_full}
use Rattle.pair_book.specs.Made.{IsShape}
use Rattle.pair_book.specs.Standing.{last_four, ack_before, Stands}

-- the step: the epoch of the checkpoint's generation and number is committed, of which this text was read
abbrev pub commit_of : Change → What
commit_of c = Committed c.generation c.number (text c)

-- whether the backup whose seat has this number commits: it is the live one's, and no node is alone
abbrev pub may_commit : HistoryState → BookState → ℕ → Bool
may_commit start b number = number == (state_at start b.steps).backup && not (is_alone b.protocol.mode)

-- whether it is the next one that is to be committed; or an earlier one
abbrev pub is_next : BookState → Change → Bool
is_next b c = c.number == b.protocol.window.to_commit

abbrev pub is_earlier : BookState → Change → Bool
is_earlier b c = nat_lt c.number b.protocol.window.to_commit

-- WHY ONE IS REFUSED, where this checkpoint was read. The next one is beyond what is sealed where nothing is.
abbrev pub commit_rows : HistoryState → BookState → ℕ → Change → List Row
commit_rows start b number c =
    (is_old_delta c, OldVersion)
    ∷ (not (may_commit start b number), Stopped)
    ∷ (not (c.generation == b.protocol.generation), Stale)
    ∷ (nat_lt b.protocol.window.to_commit c.number, Gap)
    ∷ (is_next b c && nat_le b.protocol.window.to_cut b.protocol.window.to_commit, Gap)
    ∷ (is_next b c && is_word_full b, Exhausted)
    ∷ []

-- where none was read it is stale
abbrev pub commit_why : HistoryState → BookState → ℕ → Option Change → Option Refusal
commit_why start b number (Some c) = first_refusal (commit_rows start b number c)
commit_why start b number None = first_refusal ((not (may_commit start b number), Stopped) ∷ (true, Stale) ∷ [])

-- WHAT ONE LEAVES that was answered so. An earlier one: the last committed checkpoint's acknowledgement again; the book is as before, and
-- the seat has seen all of it. The next one: the protocol's commit, and the step that names the text that was read.
abbrev pub AfterAgainOrNext : Bool → Change → Ack → BookState → BookState → Member → Member → Type 0
AfterAgainOrNext true c ack old new seat seat' =
    ((replies.Again ack.generation ack.number, new.protocol) ≡ again_done old.protocol) × (new ≡ old) × Shows old seat seat'
AfterAgainOrNext false c ack old new seat seat' =
    ((replies.Committed ack.generation ack.number, new.protocol) ≡ commit_done old.protocol)
    × (new.ports ≡ old.ports)
    × Makes (commit_of c) old new seat seat'

abbrev pub AfterCommit : Change → Ack → BookState → BookState → Member → Member → Type 0
AfterCommit c ack old new seat seat' = AfterAgainOrNext (is_earlier old c) c ack old new seat seat'

-- WHICH ONE IS ACKNOWLEDGED: of its generation, for an earlier one that number or a later one, else the next one itself
abbrev pub Acknowledges : Bool → Change → Ack → Type 0
Acknowledges true c ack = (ack.generation ≡ c.generation) × (c.number ≤ ack.number)
Acknowledges false c ack = ack ≡ record { generation = c.generation; number = c.number }

-- WHAT THE BACKUP STANDS ON THEN: the checkpoint applied to its image, and its frames behind those that it kept, of which the last four
-- lists are kept. A full one begins anew.

abbrev pub kept_then : Change → List (List Frame) → List (List Frame)
kept_then c kept = last_four ((if c.number == 0 then [] else kept) ++ c.frames ∷ [])

abbrev pub sent_then : Change → ℕ → ℕ
sent_then c sent = (if c.number == 0 then 0 else sent) + length c.frames

-- the number of the first frame that is kept then
abbrev pub first_then : Change → ℕ → List (List Frame) → ℕ
first_then c sent kept = sent_then c sent + 1 - length (all_frames (kept_then c kept))

-- the checkpoint is what its own text reads as, wherever that stood in its stream
abbrev pub WasRead : Change → Type 0
WasRead c = (offset : ℕ) × (change_in (fed (begun c.shape offset) (text c)) ≡ c)

-- Where the next checkpoint was read, and is of the pair's shape, a backup that stood did so at the number before it, at none where it is a
-- full one; and it stands by it then, and by the answer.
abbrev pub StandsAfterNext : HistoryState → Change → Ack → Member → Member → Type 0
StandsAfterNext start c ack seat seat' =
    WasRead c
    → IsShape start c.shape
    → (image : Guest) (last : Option Ack) (sent first : ℕ) (kept : List (List Frame))
    → Stands start seat image last sent first kept
    → (last ≡ ack_before c.generation c.number)
    × Stands start seat' (image_of c image) (Some ack) (sent_then c sent) (first_then c sent kept) (kept_then c kept)

-- Where an earlier one was read, a backup that stood did so at the last committed one, which is acknowledged; and it stands on.
abbrev pub StandsAfterAgain : HistoryState → Ack → Member → Member → Type 0
StandsAfterAgain start ack seat seat' =
    (image : Guest) (last : Option Ack) (sent first : ℕ) (kept : List (List Frame))
    → Stands start seat image last sent first kept
    → (last ≡ Some ack) × Stands start seat' image last sent first kept
