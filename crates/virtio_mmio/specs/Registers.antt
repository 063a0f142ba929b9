use Rattle.std.specs.Prelude.{
  ℕ,
  ◌+◌,
  ◌*◌,
  ◌/◌,
  ◌%◌,
  ◌^◌,
  Bool,
  true,
  false,
  ◌==◌,
  ◌||◌,
  ◌&&◌,
  if◌then◌else◌,
  nat_lt,
  List,
  [],
  ◌∷◌,
  slice_set,
  bit_and,
  bit_or,
  codes,
  IsTrue,
  refl,
}
use Rattle.std.specs.Int.{bit_not, w32}
use Rattle.virtqueue.specs.declared.rings.Queue.{Queue}
use Rattle.virtqueue.specs.Queues.{boot_queue}
use Rattle.virtio_mmio.specs.declared.kinds.DeviceKind.{DeviceKind}
use Rattle.virtio_mmio.specs.declared.states.DeviceState.{DeviceState}
use Rattle.virtio_mmio.specs.declared.actions.Action.{Action}
use Rattle.virtio_mmio.specs.declared.actions.Action.TheVariants.{None as NoAction, Notify, Reset}
use Rattle.virtio_mmio.specs.Kinds.{device_id, queue_count, offered}
use Rattle.virtio_mmio.specs.States.{boot_state, queue_at, is_queue_size}

-- what a store asks of the device, and the record after it
pub record Stored : Type 0 where
  pub action : Action
  pub state : DeviceState

-- one row of the register table: what a load of 4 bytes gives, and what a store of 4 bytes does
pub record Row : Type 0 where
  pub offset : ℕ
  pub name : List ℕ
  pub load : DeviceKind → DeviceState → ℕ
  pub store : DeviceKind → DeviceState → ℕ → Stored

abbrev pub row : ℕ → List ℕ → (DeviceKind → DeviceState → ℕ) → (DeviceKind → DeviceState → ℕ → Stored) → Row
row offset name load store = record { offset = offset; name = name; load = load; store = store }

-- ---- the columns' words

-- a register that loads 0
abbrev pub loads_zero : DeviceKind → DeviceState → ℕ
loads_zero k d = 0

-- a store that only leaves this record
abbrev pub leaves : DeviceState → Stored
leaves d = record { action = NoAction; state = d }

-- a store that changes nothing
abbrev pub ignored : DeviceKind → DeviceState → ℕ → Stored
ignored k d v = leaves d

-- the status bits are values here (virtio 1.1, 2.1): FEATURES_OK 8, DEVICE_NEEDS_RESET 64
abbrev pub is_set : ℕ → ℕ → Bool
is_set status bit = bit_and status bit == bit

-- 32 bits of a number of 64: word 0 the low ones, word 1 the high ones, any other word 0
abbrev pub word_of : ℕ → ℕ → ℕ
word_of n sel = if sel == 0 then n % 2 ^ 32 else (if sel == 1 then n / 2 ^ 32 else 0)

-- a number of 64 bits with its low, or its high, 32 bits replaced
abbrev pub with_low : ℕ → ℕ → ℕ
with_low n v = n / 2 ^ 32 * 2 ^ 32 + v

abbrev pub with_high : ℕ → ℕ → ℕ
with_high n v = v * 2 ^ 32 + n % 2 ^ 32

-- DriverFeatures writes the word that DriverFeaturesSel names, until FEATURES_OK is set
abbrev pub driver_features_after : DeviceState → ℕ → ℕ
driver_features_after d v =
    if is_set d.status 8 then d.driver_features
    else (if d.driver_features_sel == 0 then with_low d.driver_features v
    else (if d.driver_features_sel == 1 then with_high d.driver_features v
    else d.driver_features))

-- a queue is there when the device has one of that number
abbrev pub has_queue : DeviceKind → ℕ → Bool
has_queue k i = nat_lt i (queue_count k)

-- the queue that QueueSel names; one that isn't there reads as at boot
abbrev pub selected_queue : DeviceKind → DeviceState → Queue
selected_queue k d = if has_queue k d.queue_sel then queue_at d d.queue_sel else boot_queue

-- a store to a register of the selected queue, ignored where the queue isn't there
abbrev pub on_queue : (Queue → ℕ → Queue) → DeviceKind → DeviceState → ℕ → Stored
on_queue change k d v =
    leaves (record d {
      queues = if has_queue k d.queue_sel then slice_set d.queues d.queue_sel (change (selected_queue k d) v) else d.queues;
    })

-- QueueNum takes a power of two from 1 to 64 while the queue isn't ready
abbrev pub num_after : Queue → ℕ → Queue
num_after q v = record q { num = if q.ready then q.num else (if is_queue_size v then v else q.num) }

-- QueueReady takes bit 0; 1 is ignored while QueueNum is 0; from 0 to 1 the two counters become 0
abbrev pub gets_ready : Queue → ℕ → Bool
gets_ready q v = if q.ready then false else (if q.num == 0 then false else v % 2 == 1)

abbrev pub ready_after : Queue → ℕ → Queue
ready_after q v = record q {
  ready = if v % 2 == 1 then (if q.num == 0 then q.ready else true) else false;
  next_available = if gets_ready q v then 0 else q.next_available;
  next_used = if gets_ready q v then 0 else q.next_used;
}

abbrev pub ready_number : Queue → ℕ
ready_number q = if q.ready then 1 else 0

-- a half of an area's address is written while the queue isn't ready
abbrev pub address_after : (ℕ → ℕ → ℕ) → Queue → ℕ → ℕ → ℕ
address_after half q n v = if q.ready then n else half n v

-- InterruptACK clears the bits of the stored value
abbrev pub interrupt_after : DeviceState → ℕ → ℕ
interrupt_after d v = bit_and d.interrupt_status (bit_not w32 v)

-- the driver's features can be accepted: the device offers them all, and VERSION_1 (bit 32) is among them
abbrev pub are_acceptable : DeviceKind → ℕ → Bool
are_acceptable k features = bit_and features (offered k) == features && is_set features (2 ^ 32)

-- the bits of Status that a store keeps: FEATURES_OK is kept where it stood already, or where the features are acceptable
abbrev pub kept_bits : DeviceKind → DeviceState → ℕ
kept_bits k d = if is_set d.status 8 || are_acceptable k d.driver_features then 0x8f else 0x87

-- Status after a store of anything but 0 (virtio 1.1, 2.1 and 3.1.1); DEVICE_NEEDS_RESET stays
abbrev pub status_after : DeviceKind → DeviceState → ℕ → ℕ
status_after k d v = bit_or (bit_and v (kept_bits k d)) (bit_and d.status 0x40)

-- a store of 0 to Status resets the device (virtio 1.1, 2.1)
abbrev pub status_store : DeviceKind → DeviceState → ℕ → Stored
status_store k d v = record {
  action = if v == 0 then Reset else NoAction;
  state = if v == 0 then boot_state else record d { status = status_after k d v };
}

-- QueueNotify asks for the queue that the stored value names, not the selected one
abbrev pub notify_store : DeviceKind → DeviceState → ℕ → Stored
notify_store k d v = record { action = if has_queue k v then Notify v else NoAction; state = d }

-- ---- the table

-- the MMIO device registers of virtio 1.1, 4.2.2, offset by offset
abbrev pub registers : List Row
registers =
    row 0x000 (codes "MagicValue") (λ k d. 0x74726976) ignored
    ∷ row 0x004 (codes "Version") (λ k d. 2) ignored
    ∷ row 0x008 (codes "DeviceID") (λ k d. device_id k) ignored
    ∷ row 0x00c (codes "VendorID") loads_zero ignored
    ∷ row 0x010 (codes "DeviceFeatures") (λ k d. word_of (offered k) d.device_features_sel) ignored
    ∷ row 0x014 (codes "DeviceFeaturesSel") loads_zero (λ k d v. leaves (record d { device_features_sel = v }))
    ∷ row 0x020 (codes "DriverFeatures") loads_zero (λ k d v. leaves (record d { driver_features = driver_features_after d v }))
    ∷ row 0x024 (codes "DriverFeaturesSel") loads_zero (λ k d v. leaves (record d { driver_features_sel = v }))
    ∷ row 0x030 (codes "QueueSel") loads_zero (λ k d v. leaves (record d { queue_sel = v }))
    ∷ row 0x034 (codes "QueueNumMax") (λ k d. if has_queue k d.queue_sel then 64 else 0) ignored
    ∷ row 0x038 (codes "QueueNum") loads_zero (on_queue num_after)
    ∷ row 0x044 (codes "QueueReady") (λ k d. ready_number (selected_queue k d)) (on_queue ready_after)
    ∷ row 0x050 (codes "QueueNotify") loads_zero notify_store
    ∷ row 0x060 (codes "InterruptStatus") (λ k d. d.interrupt_status) ignored
    ∷ row 0x064 (codes "InterruptACK") loads_zero (λ k d v. leaves (record d { interrupt_status = interrupt_after d v }))
    ∷ row 0x070 (codes "Status") (λ k d. d.status) status_store
    ∷ row 0x080 (codes "QueueDescLow") loads_zero (on_queue (λ q v. record q { desc = address_after with_low q q.desc v }))
    ∷ row 0x084 (codes "QueueDescHigh") loads_zero (on_queue (λ q v. record q { desc = address_after with_high q q.desc v }))
    ∷ row 0x090 (codes "QueueDriverLow") loads_zero (on_queue (λ q v. record q { driver = address_after with_low q q.driver v }))
    ∷ row 0x094 (codes "QueueDriverHigh") loads_zero (on_queue (λ q v. record q { driver = address_after with_high q q.driver v }))
    ∷ row 0x0a0 (codes "QueueDeviceLow") loads_zero (on_queue (λ q v. record q { device = address_after with_low q q.device v }))
    ∷ row 0x0a4 (codes "QueueDeviceHigh") loads_zero (on_queue (λ q v. record q { device = address_after with_high q q.device v }))
    ∷ row 0x0fc (codes "ConfigGeneration") loads_zero ignored
    ∷ []

-- the offsets rise, so no two rows have one offset
abbrev pub rises : List Row → Bool
rises [] = true
rises (r ∷ []) = true
rises (r ∷ s ∷ rows) = nat_lt r.offset s.offset && rises (s ∷ rows)

pub registers-rises : IsTrue (rises registers)
registers-rises = refl

-- the row of an offset; an offset that the table doesn't list loads 0 and ignores stores
abbrev pub row_in : List Row → ℕ → Row
row_in [] o = row o (codes "reserved") loads_zero ignored
row_in (r ∷ rs) o = if o == r.offset then r else row_in rs o

unfoldable pub row_at : ℕ → Row
row_at o = row_in registers o
