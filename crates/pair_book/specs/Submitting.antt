-- What a submit does: the runner's epoch ends, and the next frames are handed out; and why one is refused.
use Rattle.std.specs.Prelude.{ℕ, ◌+◌, ◌*◌, ◌==◌, ◌&&◌, not, nat_le, Bool, true, false, List, [], ◌∷◌, ◌++◌, length, Option}
use Rattle.frame_ports.specs.Limits.{number_limit}
use Rattle.frame_ports.specs.Numbers.{renumbered}
use Rattle.frame_ports.specs.Ports.{PortsState}
use Rattle.pair_history.specs.Entries.{Frame, Entry}
use Rattle.pair_history.specs.HistoryState.{HistoryState}
use Rattle.pair_record.specs.declared.event.Refusal.{Refusal}
use Rattle.pair_record.specs.declared.event.Refusal.TheVariants.{Stopped, Behind, NotPaired, AlreadyPaired, Stale, Exhausted}
use Rattle.pair_record.specs.EpochActs.{guest_epoch, seal_epoch_done, enter_epoch_refusals, enter_epoch_done}
use Rattle.pair_record.specs.Limits.{most_pending}
use Rattle.pair_record.specs.Modes.{is_alone}
use Rattle.pair_record.specs.Protocol.{Record, Row, first_refusal, exhausts, frames_run_out, full_done}
use Rattle.pair_record.specs.Record.{ports_landed}
use Rattle.growing_history.specs.Steps.{What, Sealed, RanAlone}
use Rattle.pair_book.specs.declared.prepared.Prepared.{Prepared}
use Rattle.pair_book.specs.declared.prepared.Prepared.TheVariants as prepared
use Rattle.pair_book.specs.declared.runner.Kind.{Kind}
use Rattle.pair_book.specs.declared.runner.Kind.TheVariants.{Nothing, Delta, Full}
use Rattle.pair_book.specs.Books.{BookState}
use Rattle.pair_book.specs.Calls.{is_word_full}
use Rattle.pair_book.specs.Handing.{Handing, handing}
use Rattle.pair_book.specs.Packets.{TextsState}
use Rattle.pair_book.specs.Running.{may_run, kind_wanted}
use Rattle.pair_book.specs.Texts.{with_text}

-- THE EPOCH ENDS, by what was wanted: where nothing was, it enters the history, and its frames land after it, under their numbers; with a
-- delta it is sealed, and they are held; and with a full one it enters the history, they land, and then an empty epoch is sealed.

abbrev pub protocol_ended : Kind → ℕ → ℕ → List Frame → Record → PortsState → Record
protocol_ended Nothing arrivals steps frames r p = enter_epoch_done arrivals steps p.boxes frames r
protocol_ended Delta arrivals steps frames r p = (seal_epoch_done arrivals steps frames r).1
protocol_ended Full arrivals steps frames r p = (full_done (enter_epoch_done arrivals steps p.boxes frames r)).1

abbrev pub ports_ended : Kind → List Frame → Record → PortsState → PortsState
ports_ended Nothing frames r p = ports_landed p r.next_frame frames
ports_ended Delta frames r p = p
ports_ended Full frames r p = renumbered (ports_landed p r.next_frame frames)

-- nothing is handed out yet
abbrev pub ended_as : Kind → ℕ → ℕ → List Frame → Record → PortsState → Handing
ended_as kind arrivals steps frames r p =
    handing (protocol_ended kind arrivals steps frames r p) (ports_ended kind frames r p) []

abbrev pub wanted_kind : BookState → Kind
wanted_kind b = kind_wanted b.protocol.mode b.protocol.window.to_cut

abbrev pub ended : BookState → ℕ → ℕ → List Frame → Handing
ended b arrivals steps frames = ended_as (wanted_kind b) arrivals steps frames b.protocol b.ports

-- the step that tells of it: what was prepared says whether a checkpoint was sealed, under which generation and number, with which text
abbrev pub told_as : Prepared → List Entry → What
told_as prepared.Nothing epoch = RanAlone epoch
told_as (prepared.Checkpoint c) epoch = Sealed c.generation c.number epoch c.text

abbrev pub epoch_told : BookState → ℕ → ℕ → Prepared → What
epoch_told b arrivals steps what = told_as what (guest_epoch arrivals steps b.protocol.journal.running)

-- the pending texts then: that of a checkpoint is the last of them
abbrev pub texts_ended : Prepared → TextsState → TextsState
texts_ended prepared.Nothing t = t
texts_ended (prepared.Checkpoint c) t = with_text t c

-- WHY ONE IS REFUSED

abbrev pub is_checkpoint : Prepared → Bool
is_checkpoint prepared.Nothing = false
is_checkpoint (prepared.Checkpoint c) = true

-- whether it isn't the wanted one
abbrev pub is_other : Record → Prepared → Bool
is_other r prepared.Nothing = false
is_other r (prepared.Checkpoint c) = not (c.generation == r.generation && c.number == r.window.to_cut)

abbrev pub prepared_rows : Record → Prepared → List Row
prepared_rows r what =
    (is_alone r.mode && is_checkpoint what, NotPaired)
    ∷ (not (is_alone r.mode) && not (is_checkpoint what), AlreadyPaired)
    ∷ (is_other r what, Stale)
    ∷ []

-- how many frames are handed out at once, at most
abbrev pub most_handed : PortsState → ℕ
most_handed p = 4 * length p.boxes

-- The history with what is kept has numbers for the steps, for what lands, and for as many arrivals as may be handed out then; a checkpoint
-- has one, and its frames have theirs.
abbrev pub ended_rows : Kind → ℕ → List Frame → Record → PortsState → List Row
ended_rows Delta steps frames r p =
    (exhausts r (steps + most_handed p), Exhausted)
    ∷ (nat_le number_limit r.window.to_cut, Exhausted)
    ∷ (frames_run_out r, Exhausted)
    ∷ []
ended_rows other steps frames r p = enter_epoch_refusals (steps + most_handed p) p.boxes frames r

-- in this order
abbrev pub submit_why : HistoryState → BookState → ℕ → Prepared → ℕ → List Frame → Option Refusal
submit_why start b number what steps frames =
    first_refusal
    ((not (may_run start b number), Stopped)
    ∷ (nat_le most_pending (length b.protocol.pending), Behind)
    ∷ prepared_rows b.protocol what
    ++ (is_word_full b, Exhausted)
    ∷ ended_rows (wanted_kind b) steps frames b.protocol b.ports)
