-- How the network card sends: a chain of its transmit queue is one packet, a header and a frame (virtio 1.1, 5.1.6).
use Rattle.std.specs.Prelude.{ℕ, ◌&&◌, if◌then◌else◌, nat_le, List, [], ◌∷◌, ◌++◌, length, drop, Ok, Err}
use Rattle.arrayvec.specs.ArrayVec.{ArrayVec}
use Rattle.virtqueue.specs.declared.broken.Broken.TheVariants.{Direction}
use Rattle.virtqueue.specs.Parts.{all_readable, readable_bytes}
use Rattle.virtio_mmio.specs.declared.kinds.DeviceKind.TheVariants.{Network}
use Rattle.virtio_mmio.specs.declared.states.DeviceState.{DeviceState}
use Rattle.virtio_mmio.specs.ServingLoop.{Act, Served as LoopServed, standing, served as loop_served}
use Rattle.net_device.specs.Limits.{shortest_frame, longest_frame}

-- the frame in a packet: its bytes behind 12 bytes of header (virtio 1.1, 5.1.6); one of under 14 or over 1514 bytes is lost
abbrev pub frame_of : List ℕ → List (ArrayVec ℕ)
frame_of bytes =
    if nat_le shortest_frame (length bytes) && nat_le (length bytes) longest_frame then record { items = bytes } ∷ [] else []

abbrev pub frame_in : List ℕ → List (ArrayVec ℕ)
frame_in packet = frame_of (drop 12 packet)

-- a packet has readable buffers alone; its frame is sent after the others. The device writes nothing, so the used length is 0
abbrev pub send : Act (List (ArrayVec ℕ))
send ram frames chain =
    if all_readable chain.parts
    then Ok (record { ram = ram; kept = frames ++ frame_in (readable_bytes ram chain.parts); len = 0 })
    else Err Direction

-- what a notify of the transmit queue leaves: the bytes of RAM, the card's record, and the frames that were sent, in order
pub record Served : Type 0 where
  pub ram : List ℕ
  pub net : DeviceState
  pub frames : List (ArrayVec ℕ)

-- nothing is done
abbrev pub rests : List ℕ → DeviceState → Served
rests ram net = record { ram = ram; net = net; frames = [] }

abbrev pub served_net : LoopServed (List (ArrayVec ℕ)) → Served
served_net s = record { ram = s.ram; net = s.state; frames = s.kept }

-- the transmit queue is queue 1 (virtio 1.1, 5.1.2); at first nothing is sent
unfoldable pub served : List ℕ → DeviceState → Served
served ram net = served_net (loop_served Network 1 send (standing ram net []))
