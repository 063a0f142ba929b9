-- Worked cases: a running card over a memory of 2048 bytes.
use Rattle.std.specs.Prelude.{◌≡◌, ℕ, true, false, List, [], ◌∷◌, ◌++◌, length, take, drop, map, replicate}
use Rattle.std.specs.Int.{to_le_bytes, w16, w32, w64}
use Rattle.arrayvec.specs.ArrayVec.{ArrayVec}
use Rattle.virtqueue.specs.declared.rings.Queue.{Queue}
use Rattle.virtio_mmio.specs.declared.states.DeviceState.{DeviceState}
use Rattle.net_device.specs.Transmit.{Served, served}
use Rattle.net_device.specs.Receive.{Received, received}

-- 2 descriptors at 0x80000000, the available ring at 0x80000040, the used ring at 0x80000080
abbrev pub worked_queue : Queue
worked_queue = record {
  num = 2;
  ready = true;
  desc = 0x80000000;
  driver = 0x80000040;
  device = 0x80000080;
  next_available = 0;
  next_used = 0;
}

-- ACKNOWLEDGE, DRIVER, DRIVER_OK and FEATURES_OK; whichever queue is served, it is this one
abbrev pub running : DeviceState
running = record {
  status = 0x0f;
  device_features_sel = 0;
  driver_features_sel = 1;
  driver_features = 0x100000000;
  queue_sel = 1;
  interrupt_status = 0;
  queues = worked_queue ∷ worked_queue ∷ [];
}

-- the same with the table elsewhere, and before DRIVER_OK
abbrev pub with_table_at : ℕ → DeviceState
with_table_at desc = record running { queues = record worked_queue { desc = desc } ∷ record worked_queue { desc = desc } ∷ [] }

abbrev pub not_ready : DeviceState
not_ready = record running { status = 0x0b }

abbrev pub descriptor : ℕ → ℕ → ℕ → ℕ → List ℕ
descriptor address len flags next = to_le_bytes w64 address ++ (to_le_bytes w32 len ++ (to_le_bytes w16 flags ++ to_le_bytes w16 next))

-- a buffer of this length at 0x80000100, readable, and writable
abbrev pub readable : ℕ → List ℕ
readable len = descriptor 0x80000100 len 0 0

abbrev pub writable : ℕ → List ℕ
writable len = descriptor 0x80000100 len 2 0

-- to 02:00:00:00:01:01, from 02:00:00:00:00:01, of type 88b5
abbrev pub worked_frame : ArrayVec ℕ
worked_frame = record { items = 2 ∷ 0 ∷ 0 ∷ 0 ∷ 1 ∷ 1 ∷ 2 ∷ 0 ∷ 0 ∷ 0 ∷ 0 ∷ 1 ∷ 0x88 ∷ 0xb5 ∷ [] }

-- these two descriptors; so many chains are available, of descriptor 0 and 1 in turn; from 0x100 on 12 bytes of header,
-- that frame, and zeros
unfoldable pub ram_with : ℕ → List ℕ → List ℕ → List ℕ
ram_with available first second =
    first ++ (second ++ (replicate 32 0
    ++ (to_le_bytes w16 0 ++ (to_le_bytes w16 available ++ (to_le_bytes w16 0 ++ (to_le_bytes w16 1 ++ (replicate 56 0
    ++ (replicate 128 0
    ++ (replicate 12 0 ++ (worked_frame.items ++ replicate 1766 0))))))))))

-- the used ring: flags and idx, then two entries of le32 id and le32 len
abbrev pub used_ring : List ℕ → List ℕ
used_ring ram = take 20 (drop 0x80 ram)

abbrev pub used_bytes : ℕ → ℕ → ℕ → ℕ → ℕ → List ℕ
used_bytes idx id len id' len' =
    to_le_bytes w16 0 ++ (to_le_bytes w16 idx ++ (to_le_bytes w32 id
    ++ (to_le_bytes w32 len ++ (to_le_bytes w32 id' ++ to_le_bytes w32 len'))))

-- the lengths of the frames that one readable buffer of this length sends
abbrev pub sent_lengths : ℕ → List ℕ
sent_lengths len = map (λ f. length f.items) (served (ram_with 1 (readable len) (readable len)) running).frames

-- a malformation with nothing before it: nothing is sent, Status has DEVICE_NEEDS_RESET, and InterruptStatus bit 1
abbrev pub spoiled : List ℕ → DeviceState → Served
spoiled ram net = record { ram = ram; net = record net { status = 0x4f; interrupt_status = 2 }; frames = [] }

-- a good chain of descriptor 0, and then a malformed one of descriptor 1: the first one's frame is sent and it stays
-- used; InterruptStatus has both bits
abbrev pub with_second : List ℕ → Served
with_second second = served (ram_with 2 (readable 26) second) running

abbrev pub first_used : Queue
first_used = record worked_queue { next_available = 1; next_used = 1 }

pub record FirstStays (after : Served) : Type 0 where
  pub sent : after.frames ≡ worked_frame ∷ []
  pub used : used_ring after.ram ≡ used_bytes 1 0 0 0 0
  pub card : after.net ≡ record running { status = 0x4f; interrupt_status = 3; queues = worked_queue ∷ first_used ∷ [] }

-- a frame to all, that arrives
abbrev pub arriving : ArrayVec ℕ
arriving = record { items = 0xff ∷ 0xff ∷ 0xff ∷ 0xff ∷ 0xff ∷ 0xff ∷ 2 ∷ 0 ∷ 0 ∷ 0 ∷ 1 ∷ 1 ∷ 8 ∷ 6 ∷ [] }

-- what its arrival leaves where so many chains are available
abbrev pub arrived : ℕ → List ℕ → List ℕ → Received
arrived available first second = received (ram_with available first second) running arriving

-- the frame is lost and nothing changes; it is lost, and the card breaks
abbrev pub stays : List ℕ → DeviceState → Received
stays ram net = record { ram = ram; net = net; taken = false }

abbrev pub broke : List ℕ → Received
broke ram = record { ram = ram; net = record running { status = 0x4f; interrupt_status = 2 }; taken = false }
