-- Worked guests: what a few words do from boot.
use Rattle.std.specs.Prelude.{ℕ, List, [], ◌∷◌}
use Rattle.std.specs.List.{flat_map}
use Rattle.byteorder.specs.Endian.{little_bytes}
use Rattle.arrayvec.specs.ArrayVec.{ArrayVec}
use Rattle.virtio_mmio.specs.States.{queue_at}
use Rattle.guest_examples.specs.Beacon.{beacon_with}
use Rattle.guest_rules.specs.Runs.{after_steps}
use Rattle.guest_rules.specs.Guest.{Guest, boot_guest}

-- the guest at boot whose memory begins with these words
unfoldable pub words_guest : List ℕ → Guest
words_guest words = boot_guest 1 1 (flat_map (little_bytes 4) words)

-- BNE x0, x0, 2, which isn't taken, and BEQ x0, x0, 2, whose target isn't a multiple of 4
abbrev pub two_branches : Guest
two_branches = words_guest (0x00001163 ∷ 0x00000163 ∷ [])

-- CSRRW x0, mhartid, x0
abbrev pub mhartid_written : Guest
mhartid_written = words_guest (0xf1401073 ∷ [])

-- interrupts are enabled, the timer's alone, whose handler is vectored; its time has come
abbrev pub timer_due : Guest
timer_due =
    let g = words_guest (0x0000006f ∷ []) in
    record g { csrs = record g.csrs { mstatus = 0x1808; mie = 0x80; mtvec = 0x80000201 }; mtimecmp = 5; steps = 5 }

-- a guest that receives: it's the beacon before its notify, with a buffer that the card may write, and its queue is the receive queue
unfoldable pub receiver : Guest
receiver =
    let g = after_steps 21 (boot_guest 2 1 (beacon_with 26 2 1)) in
    record g { net = record g.net { queues = queue_at g.net 1 ∷ queue_at g.net 0 ∷ [] } }

-- from client 1: to 02:00:00:00:00:01, from 02:00:00:00:01:01, of type 88b5
abbrev pub client_frame : ArrayVec ℕ
client_frame = record { items = 2 ∷ 0 ∷ 0 ∷ 0 ∷ 0 ∷ 1 ∷ 2 ∷ 0 ∷ 0 ∷ 0 ∷ 1 ∷ 1 ∷ 0x88 ∷ 0xb5 ∷ [] }
