-- What a primary answers to each line, and what it is then: the columns of a primary in the table of docs/NODES.md.
use Rattle.std.specs.Prelude.{◌≡◌, ℕ, if◌then◌else◌, List, [], ◌∷◌, length, Result, Ok, Err, codes, decimal}
use Rattle.failover.specs.declared.mode.Mode.{Mode}
use Rattle.failover.specs.declared.mode.Mode.TheVariants as modes
use Rattle.guest_rules.specs.Flags.{KeepsFlags}
use Rattle.pair_history.specs.Entries.{Frame}
use Rattle.pair_core.specs.Lines.{packet}
use Rattle.pair_record.specs.declared.event.Refusal.{Refusal}
use Rattle.pair_record.specs.declared.event.Refusal.TheVariants.{AlreadyPaired}
use Rattle.pair_nodes.specs.Flagged.{Flagged, unwritten, with_primary, written_of}
use Rattle.pair_nodes.specs.Sides.{Primary, after_arrival, let_out, after_ack, all_out, after_alone}
use Rattle.pair_nodes.specs.PrimaryCalls.{mode_of, arrive_rows, IsSteps, after_release, cut_refusals, IsSealed, text_part, ack_rows}
use Rattle.pair_nodes.specs.PrimaryCalls.{alone_rows, protect_rows, IsProtected}
use Rattle.script_player.specs.Printed.{line, told_refusal}
use Rattle.node_player.specs.declared.orders.Form.{Form}
use Rattle.node_player.specs.declared.orders.Order.TheVariants.{Standby, Step, Cut, Text, Ack, Alone, Protect, Commit, Restart, GoLive}
use Rattle.node_player.specs.declared.orders.Order.TheVariants.{Show, Sector}
use Rattle.node_player.specs.Lines.{Line, boot, order, arrive, piece}
use Rattle.node_player.specs.Outcomes.{Refuses, Does, DoesInMemory}
use Rattle.node_player.specs.Printed.{steps_lines, acked_lines, alone_lines, spelled, cut_line, show_line, sector_named, sector_answer}

-- of what its guest sent in steps: with a standby it is held, and otherwise let out at once
abbrev pub let_out_now : Primary → List Frame
let_out_now q = if q.backed then [] else q.live.outbox

abbrev pub after_steps : Primary → Primary
after_steps q = if q.backed then q else after_release q

-- Steps, which left q, are answered: by the guest's step count, by how many frames wait in the outbox now, and by those that are let out.
abbrev pub IsStepsAnswer : List ℕ → Flagged → Result ℕ Refusal → List ℕ → Flagged → Type 0
IsStepsAnswer no_memory q (Ok made) printed new =
    (printed ≡ steps_lines q.primary.live.guest.steps (length new.primary.live.outbox) (let_out_now q.primary))
    × (new ≡ with_primary q (after_steps q.primary))
IsStepsAnswer no_memory q (Err why) printed new = Refuses no_memory why q printed new

-- a part of a text, or why there is none
abbrev pub text_answer : List ℕ → Form → Result (List ℕ) Refusal → List ℕ
text_answer no_memory form (Ok bytes) = spelled form bytes
text_answer no_memory form (Err why) = told_refusal no_memory why

abbrev pub mode_word : Mode → List ℕ
mode_word modes.Paired = codes "paired"
mode_word modes.Filling = codes "filling"
mode_word modes.Alone = codes "alone"
mode_word modes.Stopped = codes "stopped"

abbrev pub AtPrimary : List ℕ → Flagged → Line → List ℕ → Flagged → Type 0
AtPrimary no_memory p (boot b) printed new = Refuses no_memory AlreadyPaired p printed new
AtPrimary no_memory p (order (Standby pages sectors generation)) printed new = Refuses no_memory AlreadyPaired p printed new
AtPrimary no_memory p (arrive bytes) printed new =
    Does no_memory (arrive_rows (length bytes)) p printed new
    ((printed ≡ line (codes "arrived" ∷ [])) × (new.primary ≡ after_arrival (record { items = bytes }) p.primary)
    × KeepsFlags p.flags new.flags)
AtPrimary no_memory p (order (Step count)) printed new =
    (result : Result ℕ Refusal) × (q : Flagged) × IsSteps count p.primary result q.primary × IsStepsAnswer no_memory q result printed new
    × KeepsFlags p.flags q.flags
AtPrimary no_memory p (order Cut) printed new =
    DoesInMemory no_memory (cut_refusals p.primary) p printed new
    ((bytes : ℕ) × IsSealed p.primary bytes new.primary × (new.flags ≡ unwritten p.flags)
    × (printed ≡ cut_line p.primary.generation p.primary.to_cut bytes))
AtPrimary no_memory p (order (Text form number from count)) printed new =
    (printed ≡ text_answer no_memory form (text_part p.primary number from count)) × (new ≡ p)
AtPrimary no_memory p (order (Ack generation number)) printed new =
    Does no_memory (ack_rows p.primary (packet generation number)) p printed new
    ((printed ≡ acked_lines generation number (let_out p.primary number)) × (new ≡ with_primary p (after_ack p.primary number)))
AtPrimary no_memory p (order Alone) printed new =
    Does no_memory (alone_rows p.primary) p printed new
    ((printed ≡ alone_lines p.primary.generation (all_out p.primary)) × (new ≡ with_primary p (after_alone p.primary)))
AtPrimary no_memory p (order Protect) printed new =
    DoesInMemory no_memory (protect_rows p.primary) p printed new
    ((bytes : ℕ) × IsProtected p.primary bytes new.primary × (new.flags ≡ unwritten p.flags)
    × (printed ≡ line (codes "protecting" ∷ decimal new.primary.generation ∷ decimal bytes ∷ [])))
AtPrimary no_memory p (piece bytes) printed new = Refuses no_memory AlreadyPaired p printed new
AtPrimary no_memory p (order Commit) printed new = Refuses no_memory AlreadyPaired p printed new
AtPrimary no_memory p (order Restart) printed new = Refuses no_memory AlreadyPaired p printed new
AtPrimary no_memory p (order GoLive) printed new = Refuses no_memory AlreadyPaired p printed new
AtPrimary no_memory p (order Show) printed new =
    (printed ≡ show_line (mode_word (mode_of p.primary)) p.primary.generation (length p.primary.pending) p.primary.live.guest.steps
    (written_of p)) × (new ≡ p)
AtPrimary no_memory p (order (Sector sector)) printed new =
    (printed ≡ sector_answer sector (sector_named p.primary.live.guest.sectors sector)) × (new ≡ p)
