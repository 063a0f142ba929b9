-- The packet of a checkpoint that was cut has its text.
use Rattle.std.proofs.Common.{◌≡◌, ℕ, [], length, replicate, ◌∙◌}
use Rattle.guest_rules.specs.Guest.{Guest, State, sector_count}
use Rattle.epoch_snapshot.specs.{Bases.{IsBase, IsCheckpointOver}, Checkpoints.Change, Cuts.used_sectors, Images.image_of}
use Rattle.checkpoint_stream.specs.{ReadBack.ReadsBack, Text.text}
use Rattle.pair_book.specs.Packets.{PacketState}
use Rattle.hypervisor.specs.Preparing.{CarriesDelta, CarriesFull}

pub delta_carried : (m : State) (g n : ℕ) (c : Change) (p : PacketState) → IsCheckpointOver m.settled m.dirty m.outbox m g n c
    → ((base : Guest) → IsBase m base → image_of c base ≡ m.guest) → p.generation ≡ c.generation → p.number ≡ c.number → p.text ≡ text c
    → ReadsBack c p.text → CarriesDelta m g n p
delta_carried m g n c p cut image generation number is_text reads = record {
  change = c;
  cut = cut;
  image = image;
  reads_back = reads;
  is_text = is_text;
  of_generation = generation ∙ cut.generation;
  of_number = number ∙ cut.number;
}

pub full_carried : (m : State) (g : ℕ) (c : Change) (p : PacketState)
    → IsCheckpointOver (replicate (length m.guest.ram) 0) (used_sectors m.guest.sectors (sector_count m.guest.sectors)) [] m g 0 c
    → ((base : Guest) → image_of c base ≡ m.guest) → p.generation ≡ c.generation → p.number ≡ c.number → p.text ≡ text c
    → ReadsBack c p.text → CarriesFull m g p
full_carried m g c p cut image generation number is_text reads = record {
  change = c;
  cut = cut;
  image = image;
  reads_back = reads;
  is_text = is_text;
  of_generation = generation ∙ cut.generation;
  of_number = number ∙ cut.number;
}
