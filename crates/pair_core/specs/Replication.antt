-- Replication: the guests that the backup's image will be, one after another, and that each is the guest that the live machine was at a
-- cut.
use Rattle.std.specs.Prelude.{◌≡◌, ℕ, ◌+◌, ◌≤◌, false, List, [], ◌∷◌, ◌++◌, length, Option, None, Some, slice_get}
use Rattle.guest_rules.specs.declared.shapes.Shape.{Shape}
use Rattle.guest_rules.specs.Guest.{Guest}
use Rattle.epoch_snapshot.specs.Images.{image_of}
use Rattle.pair_record.specs.declared.event.Event.{Event}
use Rattle.pair_record.specs.declared.event.Event.TheVariants.{Cut, BackupGet, FailBackup, GoLive, Protect}
use Rattle.pair_record.specs.declared.event.Reply.{Reply}
use Rattle.pair_record.specs.declared.event.Reply.TheVariants as replies
use Rattle.backup_image.specs.declared.standing.Standing.{Standing}
use Rattle.pair_record.specs.Modes.{is_alone}
use Rattle.pair_core.specs.Nodes.{Nodes, read_as}
use Rattle.pair_core.specs.Pair.{Pair, IsConsistent}
use Rattle.pair_core.specs.Along.{Along}
use Rattle.pair_core.specs.Answering.{AnswersEvent}
use Rattle.pair_core.specs.Drops.{Drops}

-- the guests that these texts of checkpoints make, one after another, the first of them of the guest g (Remus, 2008: each checkpoint is
-- applied to the image that the one before it made)
abbrev pub guests_of : Shape → Guest → List (List ℕ) → List Guest
guests_of shape g [] = []
guests_of shape g (text ∷ texts) = image_of (read_as shape text) g ∷ guests_of shape (image_of (read_as shape text) g) texts

-- the guests that the image will be, one after another, as the checkpoints under way are committed
abbrev pub to_come : Nodes → List Guest
to_come x = guests_of x.image.shape x.image.guest x.sealed

-- the last checkpoint that the image took in
abbrev pub HasTaken : ℕ → ℕ → Nodes → Type 0
HasTaken generation number x = x.image.stands_at ≡ Some (record { generation = generation; number = number })

-- the number of the checkpoint that the image takes next: the full one's, 0, while it is empty
abbrev pub number_after : Option Standing → ℕ
number_after None = 0
number_after (Some at) = at.number + 1

abbrev pub next_number : Nodes → ℕ
next_number x = number_after x.image.stands_at

-- A cut of a checkpoint: the last guest that the image will be is the one that the live machine was before the cut and still is. As
-- many checkpoints before it are to be committed as there are guests to come, and the image stays.
pub record NodesCut (number : ℕ) (old new : Nodes) : Type 0 where
  pub last : to_come new ≡ to_come old ++ old.live.guest ∷ []
  pub live : new.live.guest ≡ old.live.guest
  pub image : new.image ≡ old.image
  pub place : next_number old + length (to_come old) ≡ number

-- A commit of a checkpoint: the image is the first of the guests that were to come, the others are to come still, and the live guest stays.
pub record IsCommit (generation number : ℕ) (old new : Nodes) : Type 0 where
  pub first : to_come old ≡ new.image.guest ∷ to_come new
  pub live : new.live ≡ old.live
  pub before : next_number old ≡ number
  pub stands : HasTaken generation number new

-- A new backup: its image is empty, and the only guest that is to come is the one that the live machine was and still is.
pub record IsProtected (old new : Nodes) : Type 0 where
  pub only : to_come new ≡ old.live.guest ∷ []
  pub live : new.live.guest ≡ old.live.guest
  pub empty : new.image.stands_at ≡ None

-- the image, and what is to come, are as they were
abbrev pub KeepsBackup : Nodes → Nodes → Type 0
KeepsBackup old new = (new.image ≡ old.image) × (new.sealed ≡ old.sealed)

-- Once the checkpoint of this generation and number is committed, the image will be this guest: as long as there is a backup in that
-- generation, the guest stands in its place among those to come.
pub record Awaits (generation number : ℕ) (g : Guest) (w : Pair) : Type 0 where
  pub begun : generation ≤ w.protocol.state.generation
  pub place : is_alone w.protocol.state.mode ≡ false → w.protocol.state.generation ≡ generation
      → (j : ℕ) → next_number w.nodes + j ≡ number → slice_get (to_come w.nodes) j ≡ Some g

-- there is no backup any more
abbrev pub LosesBackup : Nodes → Type 0
LosesBackup new = new.image.stands_at ≡ None

-- the backup goes live: the live guest is the image's
abbrev pub IsLive : Nodes → Nodes → Type 0
IsLive old new = (new.live.guest ≡ old.image.guest) × LosesBackup new

-- What an event, answered so, does for replication: one that is answered Cut cuts, one that is answered Committed commits, the backup
-- that goes live is its image's guest, one that fails is gone, a new one takes the live guest first, and no other event touches the
-- image or what is to come.
abbrev pub Replicates : Event → Reply → Nodes → Nodes → Type 0
Replicates Cut (replies.Cut generation number) old new = NodesCut number old new
Replicates (BackupGet k) (replies.Committed generation number) old new = IsCommit generation number old new
Replicates FailBackup (replies.Alone generation landed) old new = LosesBackup new
Replicates GoLive (replies.Live generation steps) old new = IsLive old new
Replicates Protect (replies.Protecting generation) old new = IsProtected old new
Replicates event reply old new = KeepsBackup old new

-- An event, answered so, leads from the pair old to new.
pub record Does (old : Pair) (event : Event) (reply : Reply) (new : Pair) : Type 0 where
  pub start : new.start ≡ old.start
  pub answers : AnswersEvent old.start old.protocol event reply new.protocol
  pub consistent : IsConsistent new
  pub drops : Drops old.start old.protocol event reply new.protocol
  pub replicates : Replicates event reply old.nodes new.nodes

-- These events, one after another, answered so, lead from the pair old to new.
abbrev pub Leads : Pair → List Event → List Reply → Pair → Type 0
Leads old events replies new = Along Does old events replies new
