-- What a standby answers to each line, and what the node is then: the column of a standby in the table of docs/NODES.md.
use Rattle.std.specs.Prelude.{◌≡◌, ℕ, ◌+◌, ◌==◌, if◌then◌else◌, List, [], ◌∷◌, length, Option, None, Some, Result, Ok, Err, codes, decimal}
use Rattle.checkpoint_stream.specs.Answers.{FeedAnswers}
use Rattle.checkpoint_stream.specs.declared.errors.StreamError.{StreamError}
use Rattle.checkpoint_stream.specs.declared.errors.StreamError.TheVariants.{Malformed, NoMemory}
use Rattle.pair_record.specs.declared.event.Packet.{Packet}
use Rattle.pair_record.specs.declared.event.Refusal.{Refusal}
use Rattle.pair_record.specs.declared.event.Refusal.TheVariants.{AlreadyPaired, NotPaired}
use Rattle.pair_nodes.specs.declared.standby.Commit.{Commit as CommitAnswer}
use Rattle.pair_nodes.specs.declared.standby.Commit.TheVariants as commits
use Rattle.pair_nodes.specs.Flagged.{begun_primary}
use Rattle.pair_nodes.specs.Sides.{Standby as StandbyNode, live_of, restarted}
use Rattle.pair_nodes.specs.StandbyCalls.{is_empty, whole_packet, commit_outcome, live_rows}
use Rattle.script_player.specs.Printed.{line, told_refusal}
use Rattle.node_player.specs.declared.orders.Order.TheVariants.{Standby, Step, Cut, Text, Ack, Alone, Protect, Commit, Restart, GoLive}
use Rattle.node_player.specs.declared.orders.Order.TheVariants.{Show, Sector}
use Rattle.node_player.specs.Lines.{Line, boot, order, arrive, piece}
use Rattle.node_player.specs.Nodes.{Node, primary, standby}
use Rattle.node_player.specs.Outcomes.{Refuses, DoesInMemory}
use Rattle.node_player.specs.Printed.{show_line, malformed_line, sector_named, sector_answer}

-- which checkpoint is to be acknowledged, or why there is none
abbrev pub commit_answer : List ℕ → Result CommitAnswer Refusal → List ℕ
commit_answer no_memory (Ok (commits.Committed ack)) = line (codes "committed" ∷ decimal ack.generation ∷ decimal ack.number ∷ [])
commit_answer no_memory (Ok (commits.Again ack)) = line (codes "again" ∷ decimal ack.generation ∷ decimal ack.number ∷ [])
commit_answer no_memory (Err why) = told_refusal no_memory why

-- a sector of the image's disk, if there is an image
abbrev pub image_sector : StandbyNode → ℕ → Option (List ℕ)
image_sector b sector = if is_empty b then None else sector_named b.image.guest.sectors sector

-- a standby with no full checkpoint is shown as empty
abbrev pub standby_word : StandbyNode → List ℕ
standby_word b = if is_empty b then codes "empty" else codes "standby"

-- how many of so many bytes were taken, or which checkpoint is complete with the last of them
abbrev pub taken_line : ℕ → List ℕ
taken_line count = line (codes "taken" ∷ decimal count ∷ [])

abbrev pub whole_answer : Option Packet → ℕ → ℕ → List ℕ
whole_answer None count bytes = taken_line count
whole_answer (Some whole) count bytes =
    if count == bytes then line (codes "whole" ∷ decimal whole.generation ∷ decimal whole.number ∷ []) else taken_line count

abbrev pub taken_answer : StandbyNode → ℕ → ℕ → List ℕ
taken_answer b count bytes = whole_answer (whole_packet b) count bytes

abbrev pub piece_answer : List ℕ → StandbyNode → ℕ → Result ℕ StreamError → List ℕ
piece_answer no_memory b bytes (Ok count) = taken_answer b count bytes
piece_answer no_memory b bytes (Err (Malformed offset)) = malformed_line offset
piece_answer no_memory b bytes (Err (NoMemory w)) = no_memory

-- the next bytes of a text come, and leave c
abbrev pub IsFed : List ℕ → StandbyNode → List ℕ → List ℕ → StandbyNode → Type 0
IsFed no_memory b bytes printed c =
    (result : Result ℕ StreamError) × FeedAnswers b.reading bytes result c.reading × (c ≡ record b { reading = c.reading })
    × (printed ≡ piece_answer no_memory c (length bytes) result)

abbrev pub AtStandby : List ℕ → StandbyNode → Line → List ℕ → Node → Type 0
AtStandby no_memory b (boot line) printed new = Refuses no_memory AlreadyPaired (standby b) printed new
AtStandby no_memory b (order (Standby pages sectors generation)) printed new = Refuses no_memory AlreadyPaired (standby b) printed new
AtStandby no_memory b (arrive bytes) printed new = Refuses no_memory NotPaired (standby b) printed new
AtStandby no_memory b (order (Step count)) printed new = Refuses no_memory NotPaired (standby b) printed new
AtStandby no_memory b (order Cut) printed new = Refuses no_memory NotPaired (standby b) printed new
AtStandby no_memory b (order (Text form number from count)) printed new = Refuses no_memory NotPaired (standby b) printed new
AtStandby no_memory b (order (Ack generation number)) printed new = Refuses no_memory NotPaired (standby b) printed new
AtStandby no_memory b (order Alone) printed new = Refuses no_memory NotPaired (standby b) printed new
AtStandby no_memory b (order Protect) printed new = Refuses no_memory NotPaired (standby b) printed new
AtStandby no_memory b (piece bytes) printed new = (c : StandbyNode) × IsFed no_memory b bytes printed c × (new ≡ standby c)
AtStandby no_memory b (order Commit) printed new =
    (printed ≡ commit_answer no_memory (commit_outcome b).0) × (new ≡ standby (commit_outcome b).1)
AtStandby no_memory b (order Restart) printed new = (printed ≡ line (codes "restarted" ∷ [])) × (new ≡ standby (restarted b))
AtStandby no_memory b (order GoLive) printed new =
    DoesInMemory no_memory (live_rows b) (standby b) printed new
    ((printed ≡ line (codes "live" ∷ decimal (b.generation + 1) ∷ codes "steps" ∷ decimal b.image.guest.steps ∷ []))
    × (new ≡ primary (begun_primary (live_of b))))
AtStandby no_memory b (order Show) printed new =
    (printed ≡ show_line (standby_word b) b.generation 0 b.image.guest.steps 0) × (new ≡ standby b)
AtStandby no_memory b (order (Sector sector)) printed new = (printed ≡ sector_answer sector (image_sector b sector)) × (new ≡ standby b)
