-- How the network card receives: a frame that arrives is put into the next chain of its receive queue (virtio 1.1, 5.1.6.4).
use Rattle.std.specs.Prelude.{
  ℕ,
  Bool,
  true,
  false,
  if◌then◌else◌,
  nat_le,
  List,
  ◌++◌,
  length,
  replicate,
  Option,
  Some,
  None,
  Result,
  Ok,
  Err,
}
use Rattle.std.specs.Int.{to_le_bytes, w16}
use Rattle.arrayvec.specs.ArrayVec.{ArrayVec}
use Rattle.virtqueue.specs.declared.broken.Broken.{Broken}
use Rattle.virtqueue.specs.Chains.{Spelled, next_chain_of}
use Rattle.virtqueue.specs.Parts.{all_writable, writable_len, writable_places, put_at}
use Rattle.virtqueue.specs.Used.{used_written}
use Rattle.virtio_mmio.specs.declared.kinds.DeviceKind.TheVariants.{Network}
use Rattle.virtio_mmio.specs.declared.states.DeviceState.{DeviceState}
use Rattle.virtio_mmio.specs.States.{queue_at}
use Rattle.virtio_mmio.specs.Serving.{can_serve, needing_reset}
use Rattle.virtio_mmio.specs.ServingLoop.{state_after_use}

-- what an arriving frame leaves: the bytes of RAM, the card's record, and whether the guest has the frame
pub record Received : Type 0 where
  pub ram : List ℕ
  pub net : DeviceState
  pub taken : Bool

-- the frame is lost, and all stays as it is
abbrev pub lost : List ℕ → DeviceState → Received
lost ram net = record { ram = ram; net = net; taken = false }

-- the frame is lost, and the card needs a reset
abbrev pub breaks : List ℕ → DeviceState → Received
breaks ram net = record { ram = ram; net = needing_reset net; taken = false }

-- the header of a received packet (virtio 1.1, 5.1.6): flags, gso_type, hdr_len, gso_size, csum_start and csum_offset are 0,
-- and le16 num_buffers is 1, since a packet is in one chain
abbrev pub header : List ℕ
header = replicate 10 0 ++ to_le_bytes w16 1

abbrev pub packet : ArrayVec ℕ → List ℕ
packet frame = header ++ frame.items

-- the packet stands in a chain's writable buffers, and the chain goes into the used ring with the packet's length
abbrev pub puts : List ℕ → DeviceState → ArrayVec ℕ → Spelled → Received
puts ram net frame chain = record {
  ram = used_written (queue_at net 0) (put_at ram (writable_places chain.parts) (packet frame)) chain.head (length (packet frame));
  net = state_after_use Network 0 net;
  taken = true;
}

-- the chain takes the packet if each of its buffers is writable, and they have so many bytes; too short a chain stays
abbrev pub put_into : List ℕ → DeviceState → ArrayVec ℕ → Spelled → Received
put_into ram net frame chain =
    if all_writable chain.parts
    then (if nat_le (length (packet frame)) (writable_len chain.parts) then puts ram net frame chain else lost ram net)
    else breaks ram net

-- what follows from the next chain, which may be none, or malformed
abbrev pub put_next : List ℕ → DeviceState → ArrayVec ℕ → Result (Option Spelled) Broken → Received
put_next ram net frame (Ok (Some chain)) = put_into ram net frame chain
put_next ram net frame (Ok None) = lost ram net
put_next ram net frame (Err broken) = breaks ram net

-- the receive queue is queue 0 (virtio 1.1, 5.1.2); while it isn't in service a frame is lost
unfoldable pub received : List ℕ → DeviceState → ArrayVec ℕ → Received
received ram net frame =
    if can_serve Network net 0
    then put_next ram net frame (next_chain_of (queue_at net 0) ram)
    else lost ram net
