-- What a runner prepares of its machine: no checkpoint, a delta or a full one, each as its text.
use Rattle.std.specs.Prelude.{◌≡◌, ℕ, zero, suc, Bool, true, false, ◌&&◌, nat_le, nat_lt, [], length, replicate}
use Rattle.guest_rules.specs.Guest.{Guest, State, sector_count}
use Rattle.epoch_snapshot.specs.Bases.{IsBase, IsCheckpointOver}
use Rattle.epoch_snapshot.specs.Checkpoints.{Change}
use Rattle.epoch_snapshot.specs.Cuts.{used_sectors}
use Rattle.epoch_snapshot.specs.Images.{image_of}
use Rattle.frame_ports.specs.Limits.{number_limit}
use Rattle.checkpoint_stream.specs.ReadBack.{ReadsBack}
use Rattle.checkpoint_stream.specs.Text.{text}
use Rattle.pair_book.specs.Packets.{PacketState}
use Rattle.pair_book.specs.declared.prepared.Prepared.{Prepared}
use Rattle.pair_book.specs.declared.prepared.Prepared.TheVariants as prepared
use Rattle.pair_book.specs.declared.runner.Kind.{Kind}
use Rattle.pair_book.specs.declared.runner.Kind.TheVariants.{Nothing, Delta, Full}
use Rattle.pair_book.specs.declared.runner.Want.{Want}

-- The packet has the text of the machine's delta under that generation and number: the checkpoint of all that changed since the machine was
-- last settled, with the frames in its outbox. It makes the machine's guest of each guest that the machine's delta stands over.
pub record CarriesDelta (m : State) (generation number : ℕ) (p : PacketState) : Type 0 where
  pub change : Change
  pub cut : IsCheckpointOver m.settled m.dirty m.outbox m generation number change
  pub image : (base : Guest) → IsBase m base → image_of change base ≡ m.guest
  pub reads_back : ReadsBack change p.text
  pub is_text : p.text ≡ text change
  pub of_generation : p.generation ≡ generation
  pub of_number : p.number ≡ number

-- The packet has the text of the machine's full checkpoint under that generation, number 0, which carries no frames. It makes the machine's
-- guest of any guest.
pub record CarriesFull (m : State) (generation : ℕ) (p : PacketState) : Type 0 where
  pub change : Change
  pub cut : IsCheckpointOver (replicate (length m.guest.ram) 0) (used_sectors m.guest.sectors (sector_count m.guest.sectors)) [] m generation 0 change
  pub image : (base : Guest) → image_of change base ≡ m.guest
  pub reads_back : ReadsBack change p.text
  pub is_text : p.text ≡ text change
  pub of_generation : p.generation ≡ generation
  pub of_number : p.number ≡ 0

-- what is of the wanted kind, under the wanted generation and number
abbrev pub IsAs : Kind → ℕ → ℕ → Prepared → Type 0
IsAs Nothing g n what = what ≡ prepared.Nothing
IsAs other g n prepared.Nothing = ⊥
IsAs other g n (prepared.Checkpoint p) = (p.generation ≡ g) × (p.number ≡ n)

abbrev pub IsOfKind : Want → Prepared → Type 0
IsOfKind want what = IsAs want.kind want.generation want.number what

-- WHAT IS MADE for what is wanted

-- whether a checkpoint can be of this generation, or a delta have this number: 1 to 2^62 - 1
abbrev pub is_possible : ℕ → Bool
is_possible n = nat_le 1 n && nat_lt n number_limit

-- a packet that is so, where there can be one; else nothing
abbrev pub IsMadeIf : Bool → (PacketState → Type 0) → Prepared → Type 0
IsMadeIf true IsSo (prepared.Checkpoint p) = IsSo p
IsMadeIf true IsSo prepared.Nothing = ⊥
IsMadeIf false IsSo (prepared.Checkpoint p) = ⊥
IsMadeIf false IsSo prepared.Nothing = Unit {0}

abbrev pub IsMadeFor : Kind → ℕ → ℕ → State → Prepared → Type 0
IsMadeFor Nothing g n m what = what ≡ prepared.Nothing
IsMadeFor Delta g n m what = IsMadeIf (is_possible g && is_possible n) (CarriesDelta m g n) what
IsMadeFor Full g n m what = IsMadeIf (is_possible g) (CarriesFull m g) what

-- WHAT STANDS PREPARED is nothing, or the text of a checkpoint of the machine as it is: a full one under number 0

abbrev pub Carries : State → ℕ → PacketState → Type 0
Carries m zero p = CarriesFull m p.generation p
Carries m (suc n) p = CarriesDelta m p.generation (suc n) p

abbrev pub Suits : State → Prepared → Type 0
Suits m prepared.Nothing = Unit {0}
Suits m (prepared.Checkpoint p) = Carries m p.number p
