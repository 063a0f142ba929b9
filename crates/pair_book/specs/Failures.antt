-- Failures and new backups, and acknowledgements: the steps that are no member's, and why they are refused.
use Rattle.std.specs.Prelude.{◌≡◌, ℕ, ◌+◌, nat_le, List, [], ◌∷◌, ◌++◌, length, Option}
use Rattle.frame_ports.specs.Limits.{number_limit}
use Rattle.pair_history.specs.Entries.{Entry}
use Rattle.pair_record.specs.declared.event.Event.TheVariants.{AckGet, FailBackup, Protect}
use Rattle.pair_record.specs.declared.event.Refusal.{Refusal}
use Rattle.pair_record.specs.declared.event.Refusal.TheVariants.{Exhausted}
use Rattle.pair_record.specs.Modes.{mode_refusal}
use Rattle.pair_record.specs.Protocol.{let_go, acknowledge_refusals, fail_primary_refusal, fail_within_refusals}
pub use Rattle.pair_record.specs.Protocol.{first_of}
use Rattle.growing_history.specs.Steps.{What, Added, step}
use Rattle.pair_book.specs.declared.failures.Ack.{Ack}
use Rattle.pair_book.specs.Books.{BookState}
use Rattle.pair_book.specs.Calls.{is_word_full}

-- WHAT SUCH A CALL DOES: it makes one step, under no member's number

pub record MakesAlone (what : What) (old new : BookState) : Type 0 where
  pub steps : new.steps ≡ old.steps ++ step 0 what ∷ []
  pub enrolled : new.enrolled ≡ old.enrolled

-- where it adds these entries; none, where there are none
abbrev pub AddsAlone : List Entry → BookState → BookState → Type 0
AddsAlone [] old new = (new.steps ≡ old.steps) × (new.enrolled ≡ old.enrolled)
AddsAlone (e ∷ es) old new = MakesAlone (Added (e ∷ es)) old new

-- WHY ONE IS REFUSED: by the mode (pair_record's Modes), or else by the first row that holds

abbrev pub fail_primary_why : BookState → Option Refusal
fail_primary_why b = fail_primary_refusal (is_word_full b) b.protocol

-- what is handed out stays, and so does what the guest sends along its epoch: the outbox counts for nothing
abbrev pub fail_backup_why : BookState → Option Refusal
fail_backup_why b =
    first_of (mode_refusal b.protocol.mode FailBackup)
    (fail_within_refusals (is_word_full b) b.ports.boxes b.protocol)

abbrev pub protect_why : BookState → Option Refusal
protect_why b =
    first_of (mode_refusal b.protocol.mode Protect)
    ((nat_le number_limit (b.protocol.generation + 1), Exhausted) ∷ (is_word_full b, Exhausted) ∷ [])

-- how many frames leave the gate at that number, each counted for each of its clients
abbrev pub leaving_at : BookState → ℕ → ℕ
leaving_at b n = length (let_go b.ports.boxes b.protocol n)

-- an acknowledgement: a step is made only where a frame leaves the gate
abbrev pub ack_why : BookState → Ack → Option Refusal
ack_why b ack =
    first_of (mode_refusal b.protocol.mode (AckGet 0))
    (acknowledge_refusals (is_word_full b) b.ports.boxes b.protocol (record { generation = ack.generation; number = ack.number }))
