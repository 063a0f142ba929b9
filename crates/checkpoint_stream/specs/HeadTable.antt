-- The head of a checkpoint, the same in versions 1 and 2: its numbers in turn, each little end first, with the bytes that it takes and what
-- it may be. The format is this project's own. What a CSR can hold, a device's status and a queue's size are rules of the machine (the
-- Privileged ISA, "Control and Status Registers"; virtio 1.1, 2.1 and 2.6), and stand in its specs.
use Rattle.std.specs.Prelude.{ℕ, ◌%◌, ◌==◌, Bool, true, ◌&&◌, ◌||◌, nat_le, List, [], ◌∷◌, bit_and, slice_index_or}
use Rattle.std.specs.Int.{w16, w32, w64, from_le_bytes, to_le_bytes}
use Rattle.mtraps.specs.CsrTable.{legal_value}
use Rattle.virtio_mmio.specs.States.{is_queue_size}
use Rattle.guest_rules.specs.declared.shapes.Shape.{Shape}
use Rattle.epoch_snapshot.specs.Limits.{most_old_pages}
use Rattle.checkpoint_stream.specs.declared.rules.Width.{Width}
use Rattle.checkpoint_stream.specs.declared.rules.Width.TheVariants.{Two, Four, Eight}
use Rattle.checkpoint_stream.specs.declared.rules.Rule.{Rule}
use Rattle.checkpoint_stream.specs.declared.rules.Rule.TheVariants.{Any, Magic, Pages, Sectors, Within, Aligned, Csr, Status, QueueSize}
use Rattle.checkpoint_stream.specs.declared.rules.Rule.TheVariants.{Ready}
use Rattle.checkpoint_stream.specs.declared.rules.Row.{Row}

abbrev pub number : Width → Rule → Row
number width rule = record { width = width; rule = rule }

-- what one queue of a device takes, 36 bytes: its size, whether it is ready, its three areas, and its two counters
abbrev pub queue_rows : List Row → List Row
queue_rows rest =
    number Four QueueSize ∷ number Four Ready ∷ number Eight Any ∷ number Eight Any ∷ number Eight Any ∷ number Two Any
    ∷ number Two Any ∷ rest

-- what a device takes before its queues, 28 bytes: Status, DeviceFeaturesSel, DriverFeaturesSel, DriverFeatures, QueueSel, InterruptStatus
abbrev pub device_rows : List Row → List Row
device_rows rest =
    number Four Status ∷ number Four Any ∷ number Four Any ∷ number Eight Any ∷ number Four Any ∷ number Four (Within 0 3) ∷ rest

-- four registers of the hart
abbrev pub four_registers : List Row → List Row
four_registers rest = number Eight Any ∷ number Eight Any ∷ number Eight Any ∷ number Eight Any ∷ rest

abbrev pub twenty_eight_registers : List Row → List Row
twenty_eight_registers rest =
    four_registers (four_registers (four_registers (four_registers (four_registers (four_registers (four_registers rest))))))

unfoldable pub head_table : List Row
head_table =
    -- "RMC1" or "RMC2", the shape, the generation from 1 on, the number, both below 2^62, and the steps
    number Four Magic ∷ number Four Pages ∷ number Four Sectors
    ∷ number Eight (Within 1 0x3fffffffffffffff) ∷ number Eight (Within 0 0x3fffffffffffffff) ∷ number Eight Any
    -- x1 to x31
    ∷ twenty_eight_registers (number Eight Any ∷ number Eight Any ∷ number Eight Any
    -- pc; mstatus, mie, mtvec, mscratch, mepc, mcause, mtval; msip and mtimecmp
    ∷ number Eight Aligned
    ∷ number Eight (Csr 0x300) ∷ number Eight (Csr 0x304) ∷ number Eight (Csr 0x305) ∷ number Eight Any
    ∷ number Eight (Csr 0x341) ∷ number Eight Any ∷ number Eight Any
    ∷ number Four (Within 0 1) ∷ number Eight Any
    -- the network card and its two queues, the disk and its queue
    ∷ device_rows (queue_rows (queue_rows (device_rows (queue_rows [])))))

-- whether a number may stand where its rule is this, after the number before it. The number of pages stands after the version: it is the
-- shape's, and without "RMC2" at most as many as there could be while version 1 was written
unfoldable pub passes : Shape → Rule → ℕ → ℕ → Bool
passes shape Any before n = true
passes shape Magic before n = n == 0x31434d52 || n == 0x32434d52
passes shape Pages before n = n == shape.pages && (before == 0x32434d52 || nat_le n most_old_pages)
passes shape Sectors before n = n == shape.sectors
passes shape (Within least most) before n = nat_le least n && nat_le n most
passes shape Aligned before n = n % 4 == 0
passes shape (Csr number) before n = legal_value number n == n
passes shape Status before n = bit_and n 0xcf == n
passes shape QueueSize before n = n == 0 || is_queue_size n
passes shape Ready before n = n == 0 || (n == 1 && nat_le 1 before)

-- how many bytes a number takes, and the number that they are
abbrev pub bytes_in : Width → ℕ
bytes_in Two = 2
bytes_in Four = 4
bytes_in Eight = 8

unfoldable pub number_spelled : Width → List ℕ → ℕ
number_spelled Two bytes = from_le_bytes w16 bytes
number_spelled Four bytes = from_le_bytes w32 bytes
number_spelled Eight bytes = from_le_bytes w64 bytes

-- the bytes that a number is
unfoldable pub bytes_of : Width → ℕ → List ℕ
bytes_of Two n = to_le_bytes w16 n
bytes_of Four n = to_le_bytes w32 n
bytes_of Eight n = to_le_bytes w64 n

-- the head's number of this index
unfoldable pub row_at : ℕ → Row
row_at index = slice_index_or head_table index (number Four Magic)
