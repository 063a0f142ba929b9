-- The two nodes of a pair, each with what it has itself, and nothing of the history: the primary's machine, gate and texts, and the standby's
-- image. What each of their calls leaves.
use Rattle.std.specs.Prelude.{◌≡◌, ◌≤◌, if◌then◌else◌, ℕ, ◌+◌, ◌-◌, ◌==◌, not, nat_le, nat_lt, Bool, true, false, List, [], ◌∷◌, ◌++◌, length, None}
use Rattle.std.specs.Prelude.{drop}
use Rattle.guest_rules.specs.declared.shapes.Shape.{Shape}
use Rattle.guest_rules.specs.Guest.{Guest}
use Rattle.guest_rules.specs.Runs.{after_steps, sent_in, marked_in}
use Rattle.guest_rules.specs.Step.{arrived}
use Rattle.epoch_snapshot.specs.Bases.{IsBase}
use Rattle.checkpoint_stream.specs.Readings.{Reading, begun, fed}
use Rattle.epoch_snapshot.specs.Checkpoints.{Change}
use Rattle.backup_image.specs.Images.{ImageState, empty_image, after_stage, committed}
use Rattle.frame_ports.specs.Limits.{number_limit}
use Rattle.output_gate.specs.Epochs.{Epoch, frames_of, frames_to, after_number}
use Rattle.pair_history.specs.Entries.{Frame}
use Rattle.pair_record.specs.Limits.{most_pending, last_frame, first_frame}
use Rattle.pair_record.specs.declared.event.Refusal.TheVariants.{Behind, Exhausted, Stale, Gap}
use Rattle.pair_record.specs.Tables.{Row, first_refusal}
use Rattle.pair_record.specs.declared.event.Packet.{Packet}
use Rattle.pair_core.specs.Lines.{packet}
use Rattle.pair_core.specs.Nodes.{Node, HasShape, machine_of, settled_node}
use Rattle.pair_core.specs.Replication.{number_after}
use Rattle.pair_core.specs.Texts.{IsText}

-- THE PRIMARY

pub record Primary : Type 0 where
  pub live : Node
  pub shape : Shape
  pub generation : ℕ
  -- whether it has a standby
  pub backed : Bool
  -- the number of the next checkpoint
  pub to_cut : ℕ
  -- what the gate holds: each checkpoint that wasn't acknowledged, with its frames; and beside it the checkpoints' texts
  pub pending : List Epoch
  pub texts : List (List ℕ)
  -- the number that the guest's next frame gets at the gate
  pub next_frame : ℕ

-- its guest makes so many steps, or a frame arrives at it
abbrev pub after_run : ℕ → Primary → Primary
after_run n p = record p {
  live = record p.live {
    guest = after_steps n p.live.guest;
    outbox = p.live.outbox ++ sent_in n p.live.guest;
    dirty = marked_in n p.live.guest p.live.dirty;
  };
}

-- where it has no standby, what the guest sends is let out at once
abbrev pub after_lone_run : ℕ → Primary → Primary
after_lone_run n p = record p {
  live = record (after_run n p).live { outbox = [] };
  next_frame = p.next_frame + length (sent_in n p.live.guest);
}

abbrev pub after_arrival : Frame → Primary → Primary
after_arrival f p = record p { live = record p.live { guest = arrived p.live.guest f } }

-- a cut: why it is refused, what its text is, and what it leaves
abbrev pub cut_rows : Primary → List Row
cut_rows p =
    (nat_le most_pending (length p.pending), Behind)
    ∷ (nat_le number_limit p.to_cut, Exhausted)
    ∷ (nat_lt last_frame p.next_frame, Exhausted)
    ∷ []

-- it reads back as the checkpoint of that number, which makes the guest of the one that the machine was last settled at, and carries the
-- outbox
abbrev pub IsDelta : Primary → List ℕ → Type 0
IsDelta p text =
    (base : Guest) → IsBase (machine_of p.live) base → HasShape p.shape p.live.guest
    → IsText p.shape p.generation p.to_cut base p.live.guest p.live.outbox text

abbrev pub after_cut : Primary → List ℕ → Primary
after_cut p text = record p {
  live = settled_node p.live.guest;
  to_cut = p.to_cut + 1;
  pending = p.pending ++ record { number = p.to_cut; frames = p.live.outbox } ∷ [];
  texts = p.texts ++ text ∷ [];
  next_frame = p.next_frame + length p.live.outbox;
}

-- the epoch of the primary p is cut, by a checkpoint of this text, and leaves q
pub record PrimaryCuts (p : Primary) (text : List ℕ) (q : Primary) : Type 0 where
  pub free : first_refusal (cut_rows p) ≡ None
  pub few : length p.live.outbox ≤ 256
  pub delta : IsDelta p text
  pub left : q ≡ after_cut p text

-- an acknowledgement of that number: what it lets out, and what it leaves
abbrev pub let_out : Primary → ℕ → List Frame
let_out p n = frames_to n p.pending

abbrev pub after_ack : Primary → ℕ → Primary
after_ack p n =
    let left = after_number n p.pending in
    record p { pending = left; texts = drop (length p.pending - length left) p.texts }

-- its standby has stopped: all is let out
abbrev pub all_out : Primary → List Frame
all_out p = frames_of p.pending ++ p.live.outbox

abbrev pub after_alone : Primary → Primary
after_alone p = record p {
  live = record p.live { outbox = [] };
  backed = false;
  pending = [];
  texts = [];
  next_frame = p.next_frame + length p.live.outbox;
}

-- it gets a new standby, in the next generation: this is the text of the full checkpoint of its guest
abbrev pub IsFull : Primary → List ℕ → Type 0
IsFull p text =
    (before : Guest) → HasShape p.shape p.live.guest → IsText p.shape (p.generation + 1) 0 before p.live.guest [] text

abbrev pub after_protect : Primary → List ℕ → Primary
after_protect p text = record p {
  live = settled_node p.live.guest;
  generation = p.generation + 1;
  backed = true;
  to_cut = 1;
  pending = record { number = 0; frames = [] } ∷ [];
  texts = text ∷ [];
  next_frame = first_frame;
}

-- THE STANDBY

pub record Standby : Type 0 where
  -- the generation that it was told to wait for: an empty image alone would take a full checkpoint of any
  pub generation : ℕ
  pub image : ImageState
  -- what has come of the next checkpoint's text
  pub reading : Reading

-- the number of the checkpoint that it takes next
abbrev pub to_commit : Standby → ℕ
to_commit b = number_after b.image.stands_at

-- it gets a checkpoint: why that is refused, and what it leaves
abbrev pub get_rows : Standby → Change → List Row
get_rows b c = (not (c.generation == b.generation), Stale) ∷ (nat_lt (to_commit b) c.number, Gap) ∷ []

abbrev pub after_commit : Standby → Change → Standby
after_commit b c = record b { image = committed (after_stage b.image c) }

-- what it answers, if it isn't refused, and what it leaves: an earlier one is acknowledged again, the next one is committed
abbrev pub Got : Type 0
Got = Packet × Standby

abbrev pub again_got : Standby → Got
again_got b = (packet b.generation (to_commit b - 1), b)

abbrev pub commit_got : Standby → Change → Got
commit_got b c = (packet b.generation (to_commit b), after_commit b c)

abbrev pub got : Standby → Change → Got
got b c = if nat_lt c.number (to_commit b) then again_got b else commit_got b c

abbrev pub new_standby : Shape → ℕ → Standby
new_standby shape generation = record { generation = generation; image = empty_image shape; reading = begun shape 0 }

-- the next bytes of a text come: all are taken, or those up to the text's end
abbrev pub after_piece : Standby → List ℕ → Standby
after_piece b bytes = record b { reading = fed b.reading bytes }

-- what has come of a text is given up
abbrev pub restarted : Standby → Standby
restarted b = record b { reading = begun b.image.shape 0 }

-- IT GOES LIVE, in the next generation
abbrev pub live_of : Standby → Primary
live_of b = record {
  live = settled_node b.image.guest;
  shape = b.image.shape;
  generation = b.generation + 1;
  backed = false;
  to_cut = to_commit b;
  pending = [];
  texts = [];
  next_frame = b.image.sent + 1;
}
