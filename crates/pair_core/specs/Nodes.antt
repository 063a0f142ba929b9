-- The two nodes: the primary's live machine, and at the backup the image and the texts of the checkpoints that it may still commit.
use Rattle.std.specs.Prelude.{◌≡◌, ◌≢◌, ℕ, ◌*◌, None, List, [], ◌∷◌, ◌++◌, length}
use Rattle.guest_rules.specs.declared.shapes.Shape.{Shape}
use Rattle.guest_rules.specs.Guest.{Guest, State, HasDeviceRecords, boot_guest}
use Rattle.guest_rules.specs.Limits.{page_bytes}
use Rattle.guest_rules.specs.Step.{arrived}
use Rattle.guest_rules.specs.Runs.{after_steps, sent_in, marked_in}
use Rattle.epoch_snapshot.specs.Checkpoints.{Change}
use Rattle.epoch_snapshot.specs.Images.{image_of}
use Rattle.checkpoint_stream.specs.Readings.{begun, fed}
use Rattle.checkpoint_stream.specs.Sound.{change_in}
use Rattle.backup_image.specs.Images.{ImageState, booted, empty_image, after_stage, committed}
use Rattle.pair_history.specs.Entries.{Frame}

-- a machine: its guest; since it was last settled the frames that the guest sent and the sectors that it wrote; and the bytes of memory
-- at that settle
pub record Node : Type 0 where
  pub guest : Guest
  pub outbox : List Frame
  pub dirty : List ℕ
  pub settled : List ℕ

abbrev pub node_of : State → Node
node_of m = record { guest = m.guest; outbox = m.outbox; dirty = m.dirty; settled = m.settled }

-- one as checkpoints are cut of it: which pages count as written says nothing of them
abbrev pub machine_of : Node → State
machine_of x = record { guest = x.guest; outbox = x.outbox; dirty = x.dirty; settled = x.settled; written = [] }

-- one of which nothing is left to do
abbrev pub settled_node : Guest → Node
settled_node g = record { guest = g; outbox = []; dirty = []; settled = g.ram }

-- a guest has the size of a machine of this shape, and what its devices keep meets the rules of their records
pub record HasShape (shape : Shape) (g : Guest) : Type 0 where
  pub records : HasDeviceRecords g
  pub ram : length g.ram ≡ page_bytes * shape.pages
  pub sectors : length g.sectors ≡ 512 * shape.sectors

pub record Nodes : Type 0 where
  pub live : Node
  -- what the backup would resume
  pub image : ImageState
  -- the texts of the checkpoints that no commit has covered yet, the oldest first
  pub sealed : List (List ℕ)

-- the nodes, and how many more texts may be sealed without taking memory for their list
pub record Housed : Type 0 where
  pub nodes : Nodes
  pub room : ℕ

-- both nodes boot
abbrev pub start_nodes : Shape → List ℕ → Nodes
start_nodes shape image = record {
  live = settled_node (boot_guest shape.pages shape.sectors image);
  image = booted shape image;
  sealed = [];
}

-- the live guest made n steps
abbrev pub after_run : ℕ → Nodes → Nodes
after_run n x = record x {
  live = record x.live {
    guest = after_steps n x.live.guest;
    outbox = x.live.outbox ++ sent_in n x.live.guest;
    dirty = marked_in n x.live.guest x.live.dirty;
  };
}

-- what it sent has landed
abbrev pub with_sent_off : Nodes → Nodes
with_sent_off x = record x { live = record x.live { outbox = [] } }

-- a frame arrived at it
abbrev pub with_arrival : Nodes → Frame → Nodes
with_arrival x f = record x { live = record x.live { guest = arrived x.live.guest f } }

-- a checkpoint's text was sealed, and the live machine settled
abbrev pub with_sealed : Nodes → List ℕ → Nodes
with_sealed x text = record x { live = settled_node x.live.guest; sealed = x.sealed ++ text ∷ [] }

abbrev pub first_text : List (List ℕ) → List ℕ
first_text [] = []
first_text (t ∷ ts) = t

abbrev pub later_texts : List (List ℕ) → List (List ℕ)
later_texts [] = []
later_texts (t ∷ ts) = ts

-- the checkpoint that a text reads as, where it stands at the start of a stream
abbrev pub read_as : Shape → List ℕ → Change
read_as shape text = change_in (fed (begun shape 0) text)

-- the backup holds an image that could go on
abbrev pub HasImage : Nodes → Type 0
HasImage x = x.image.stands_at ≢ None

-- there is no backup: neither an image nor a text for it
abbrev pub without_backup : Nodes → Nodes
without_backup x = record x { image = empty_image x.image.shape; sealed = [] }

-- a node goes on alone, and what it sent has landed; or the backup goes live, from its image
abbrev pub left_alone : Nodes → Nodes
left_alone x = record (without_backup x) { live = record x.live { outbox = [] } }

abbrev pub gone_live : Nodes → Nodes
gone_live x = record (without_backup x) { live = settled_node x.image.guest }

-- a new backup: its image is empty, and this is the text of the full checkpoint, at which the live machine is settled
abbrev pub with_protected : Nodes → List ℕ → Nodes
with_protected x text = record x { live = settled_node x.live.guest; image = empty_image x.image.shape; sealed = text ∷ [] }

-- The image is empty and keeps no frame, and the oldest text is a full checkpoint: it makes the guest g, whatever guest it is applied to.
pub record Fills (g : Guest) (x : Nodes) : Type 0 where
  pub empty : x.image.stands_at ≡ None
  pub kept : x.image.kept ≡ []
  pub sent : x.image.sent ≡ 0
  pub text : List ℕ
  pub later : List (List ℕ)
  pub sealed : x.sealed ≡ text ∷ later
  pub makes : (before : Guest) → image_of (read_as x.image.shape text) before ≡ g

-- the image takes in the oldest sealed checkpoint, as its text reads, and that text is let go
abbrev pub with_commit : Nodes → Nodes
with_commit x = record x {
  image = committed (after_stage x.image (read_as x.image.shape (first_text x.sealed)));
  sealed = later_texts x.sealed;
}
