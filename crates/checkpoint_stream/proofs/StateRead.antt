-- The state that the head's numbers of a checkpoint are is the checkpoint's.
use Rattle.std.proofs.Common.{◌≡◌, ℕ, suc, zero, ◌+◌, ◌<◌, ◌^◌, ◌%◌, ◌==◌, List, [], ◌∷◌, length, Bool, true, false, arith, refl}
use Rattle.std.proofs.{Common.{if◌then◌else◌, slice_index, slice_index_or, drop, sym, ◌∙◌, ap}, lemmas.List.{drop_more, drop_all}}
use Rattle.virtqueue.specs.{declared.rings.Queue.Queue, Queues.boot_queue}
use Rattle.virtio_mmio.specs.declared.states.DeviceState.{DeviceState}
use Rattle.guest_rules.specs.declared.machine_state.MachineState.{MachineState}
use Rattle.epoch_snapshot.specs.Checkpoints.{Change, IsCanonical}
use Rattle.checkpoint_stream.specs.{Sound.state_from, Text.{head_numbers, numbers_from}, Widths.{QueueFits, DeviceFits, StateFits}}

pub low_half : (n : ℕ) → n < 2 ^ 32 → n % 2 ^ 32 ≡ n
low_half n h = omega (arith, h)

pub low_quarter : (n : ℕ) → n < 2 ^ 16 → n % 2 ^ 16 ≡ n
low_quarter n h = omega (arith, h)

ready-back : (ready : Bool) → ((if ready then 1 else 0) == 1) ≡ ready
ready-back true = refl
ready-back false = refl

pub numbers-back : (xs : List ℕ) (i n : ℕ) → i + n ≡ length xs → numbers_from xs i n [] ≡ drop i xs
numbers-back xs i zero all = sym (drop_all i xs (omega (arith, all)))
numbers-back xs i (suc n) all =
    ap (λ (l : List ℕ). slice_index xs i ∷ l) (numbers-back xs (i + 1) n (omega (arith, all))) ∙ sym (drop_more xs i 0 (omega (arith, all)))

queue-back : (q : Queue) → QueueFits q →
    record {
      num = q.num % 2 ^ 32;
      ready = (if q.ready then 1 else 0) == 1;
      desc = q.desc;
      driver = q.driver;
      device = q.device;
      next_available = q.next_available % 2 ^ 16;
      next_used = q.next_used % 2 ^ 16;
    } ≡ q
queue-back q h =
    rw (low_half q.num h.num, ready-back q.ready, low_quarter q.next_available h.next_available, low_quarter q.next_used h.next_used) refl

device-back : (d : DeviceState) (queues : List Queue) → DeviceFits d → queues ≡ d.queues →
    record {
      status = d.status % 2 ^ 32;
      device_features_sel = d.device_features_sel % 2 ^ 32;
      driver_features_sel = d.driver_features_sel % 2 ^ 32;
      driver_features = d.driver_features;
      queue_sel = d.queue_sel % 2 ^ 32;
      interrupt_status = d.interrupt_status % 2 ^ 32;
      queues = queues;
    } ≡ d
device-back d queues h same =
    rw (
      low_half d.status h.status,
      low_half d.device_features_sel h.device_features_sel,
      low_half d.driver_features_sel h.driver_features_sel,
      low_half d.queue_sel h.queue_sel,
      low_half d.interrupt_status h.interrupt_status,
      same,
    ) refl

two-of : (xs : List Queue) (d : Queue) → length xs ≡ 2 → slice_index_or xs 0 d ∷ slice_index_or xs 1 d ∷ [] ≡ xs
two-of [] d h = absurd (omega (arith, h))
two-of (x ∷ []) d h = absurd (omega (arith, h))
two-of (x ∷ y ∷ []) d h = refl
two-of (x ∷ y ∷ z ∷ xs) d h = absurd (omega (arith, h))

both-queues : (a b x y : Queue) → a ≡ x → b ≡ y → a ∷ b ∷ [] ≡ x ∷ y ∷ []
both-queues a b x y e f = cc

state-parts : (s : MachineState) (registers : List ℕ) (msip : ℕ) (net disk : DeviceState) → registers ≡ s.registers → msip ≡ s.msip →
    net ≡ s.net → disk ≡ s.disk → record s { registers = registers; msip = msip; net = net; disk = disk } ≡ s
state-parts s registers msip net disk e f g h = rw (e, f, g, h) refl

pub state-back : (c : Change) → IsCanonical c → StateFits c.state → state_from (head_numbers c) ≡ c.state
unfolding head_numbers
state-back c h w =
    state-parts c.state _ _ _ _ (numbers-back c.state.registers 0 31 (sym w.count)) (low_half c.state.msip w.msip)
    (device-back c.state.net _ w.net (both-queues _ _ _ _ (queue-back _ w.net.queue_0) (queue-back _ w.net.queue_1)
    ∙ two-of c.state.net.queues boot_queue w.net.count))
    (device-back c.state.disk _ w.disk (both-queues _ _ _ _ (queue-back _ w.disk.queue_0) (sym h.state.disk.absent)
    ∙ two-of c.state.disk.queues boot_queue w.disk.count))
