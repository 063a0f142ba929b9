-- What is kept true from event to event, so that what contracts say of a pair follows: the record accords with the history, and beside it
-- what packets name, and what the machines, the image and the texts are. A part that an event doesn't touch passes on by name.
use Rattle.std.specs.Prelude.{◌≡◌, ℕ, ◌+◌, ◌-◌, ◌<◌, ◌≤◌, Bool, true, false, List, [], ◌∷◌, ◌++◌, Some, None}
use Rattle.guest_rules.specs.declared.shapes.Shape.{Shape}
use Rattle.guest_rules.specs.Guest.{Guest}
use Rattle.epoch_snapshot.specs.Bases.{IsBase}
use Rattle.frame_ports.specs.Limits.{number_limit}
use Rattle.pair_history.specs.Moves.{Move, guest_along, frames_along}
use Rattle.pair_record.specs.Accords.{Accords, all_moves}
use Rattle.pair_record.specs.{Modes.is_alone, Protocol.Record}
use Rattle.pair_core.specs.Kept.{KeepsFrames}
use Rattle.pair_core.specs.Lines.{AreNamed}
use Rattle.pair_core.specs.Nodes.{Nodes, HasShape, Fills, machine_of}
use Rattle.pair_core.specs.Pair.{Pair, shown_state}
use Rattle.pair_core.specs.Texts.{IsText}

abbrev pub first_moves : List (List Move) → List Move
first_moves [] = []
first_moves (ms ∷ mss) = ms

-- the texts of epochs of these moves, numbered from n on, where the guest before them is g
abbrev pub AreSealed : Shape → ℕ → ℕ → Guest → List (List Move) → List (List ℕ) → Type 0
AreSealed shape generation n g [] [] = Unit {0}
AreSealed shape generation n g (ms ∷ mss) (text ∷ texts) =
    IsText shape generation n g (guest_along g ms) (frames_along g ms) text
    × AreSealed shape generation (n + 1) (guest_along g ms) mss texts
AreSealed shape generation n g [] (text ∷ texts) = ⊥
AreSealed shape generation n g (ms ∷ mss) [] = ⊥

-- The image follows the history, whose guest is g: it took in the checkpoint before number n.
pub record Follows (generation n : ℕ) (g : Guest) (x : Nodes) : Type 0 where
  pub image : x.image.guest ≡ g
  pub stands_at : x.image.stands_at ≡ Some (record { generation = generation; number = n - 1 })

-- The backup in this generation, where n is the number of the next checkpoint to be committed, the history's guest is g, and these
-- moves are sealed.
pub record IsBacked (generation n : ℕ) (g : Guest) (sealed_moves : List (List Move)) (x : Nodes) : Type 0 where
  pub follows : 1 ≤ n → Follows generation n g x
  -- before the first checkpoint
  pub fills : n ≡ 0 → Fills (guest_along g (first_moves sealed_moves)) x
  pub staged : x.image.staged ≡ None
  pub image_shape : HasShape x.image.shape g
  pub sealed : AreSealed x.image.shape generation n g sealed_moves x.sealed
  -- the live machine was last settled at the guest of the last cut
  pub base : IsBase (machine_of x.live) (guest_along g (all_moves sealed_moves))

-- The nodes in this generation: besides, all these moves are kept. Where a node is alone there is no backup.
pub record AreNodes (alone : Bool) (generation n : ℕ) (g : Guest) (sealed_moves : List (List Move)) (running_moves : List Move)
    (x : Nodes) : Type 0 where
  pub first_generation : 1 ≤ generation
  pub last_generation : generation < number_limit
  pub backed : alone ≡ false → IsBacked generation n g sealed_moves x
  pub live : x.live.guest ≡ guest_along g (all_moves sealed_moves ++ running_moves)
  pub outbox : x.live.outbox ≡ frames_along (guest_along g (all_moves sealed_moves)) running_moves
  pub shape : HasShape x.image.shape x.live.guest

-- the nodes of this pair, whose record accords so
abbrev pub NodesStand : (w : Pair) → Accords w.start w.protocol.state w.ports → Type 0
NodesStand w accords = AreNodes (is_alone w.protocol.state.mode) w.protocol.state.generation w.protocol.state.window.to_commit
    (shown_state w).guest accords.journal.sealed_moves accords.journal.running_moves w.nodes

-- while there is a backup, its image keeps what the gate may still owe
abbrev pub ImageKeeps : Pair → Type 0
ImageKeeps w = is_alone w.protocol.state.mode ≡ false → KeepsFrames w.protocol.state w.ports w.nodes.image

-- Between events, where a node is alone nothing runs: what its guest does goes to the history at once.
pub record Holds (w : Pair) : Type 0 where
  pub accords : Accords w.start w.protocol.state w.ports
  pub lines : AreNamed w.protocol.state.generation w.protocol.state.window w.protocol.lines
  pub nodes : NodesStand w accords
  pub kept : ImageKeeps w
  pub still : is_alone w.protocol.state.mode ≡ true → w.protocol.state.journal.running ≡ []

-- And so nothing is kept or pending there.
abbrev pub KeepsNothing : Record → Type 0
KeepsNothing r = (r.journal.sealed ≡ []) × (r.journal.running ≡ []) × (r.pending ≡ [])

-- amid an event, it may run
abbrev pub HoldsAmid : Pair → Type 0
HoldsAmid w =
    (accords : Accords w.start w.protocol.state w.ports)
    × NodesStand w accords
    × AreNamed w.protocol.state.generation w.protocol.state.window w.protocol.lines
    × ImageKeeps w
