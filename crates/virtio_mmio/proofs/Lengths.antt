-- Serving a queue keeps the number of the memory's bytes, where what is done with each chain keeps it.
use Rattle.std.proofs.Common.{
  ◌≡◌,
  ℕ,
  ◌≤◌,
  ◌==◌,
  ◌||◌,
  ◌&&◌,
  Bool,
  true,
  false,
  if◌then◌else◌,
  List,
  length,
  IsTrue,
  arith,
  refl,
  sym,
  ◌∙◌,
  subst,
}
use Rattle.std.specs.Prelude.{Result, Ok, Err}
use Rattle.virtqueue.specs.declared.broken.Broken.{Broken}
use Rattle.virtqueue.specs.declared.rings.Queue.{Queue}
use Rattle.virtqueue.specs.Areas.{available_of, AreasFit, IsSized}
use Rattle.virtqueue.specs.Chains.{Spelled}
use Rattle.virtqueue.specs.laws.Lengths.{length_used_written, areas_available}
use Rattle.virtio_mmio.specs.declared.kinds.DeviceKind.{DeviceKind}
use Rattle.virtio_mmio.specs.declared.states.DeviceState.{DeviceState}
use Rattle.virtio_mmio.specs.Registers.{has_queue}
use Rattle.virtio_mmio.specs.States.{queue_at, is_queue_size, IsQueueRecord, IsDeviceRecord}
use Rattle.virtio_mmio.specs.Serving.{is_running, can_serve}
use Rattle.virtio_mmio.specs.ServingLoop.{Acted, Act, Served, puts_used, or_breaks, chains_served, served}
use Rattle.virtio_mmio.proofs.Loop.{chains_keep}
use Rattle.virtio_mmio.proofs.Rules.{present-keeps, areas_after_use, sized_after_use}

-- ---- a queue in service has 1 to 64 descriptors

both : (a b : Bool) → (a && b) ≡ true → (a ≡ true) × (b ≡ true)
both true b e = (refl, e)
both false b e = cc

sized_ready : (q : Queue) → IsQueueRecord q → q.ready ≡ true → IsSized q
sized_ready q h ready = record { some = h.ready_has_size ready; few = few_of h.size }
  where
    few_of : IsTrue (q.num == 0 || is_queue_size q.num) → q.num ≤ 64
    few_of t = grind (arith, t)

pub sized_in_service : (k : DeviceKind) (d : DeviceState) (i : ℕ) → IsDeviceRecord k d → can_serve k d i ≡ true → IsSized (queue_at d i)
sized_in_service k d i h e =
    let running = both (is_running d) (has_queue k i && (queue_at d i).ready) e in
    let present = both (has_queue k i) (queue_at d i).ready running.1 in
    sized_ready (queue_at d i) (present-keeps k d i h present.0) present.1

-- ---- one chain, and all

-- the bytes stay as many, and the queue's areas where they are
record IsSteady {A : Type 0} (i size : ℕ) (s : Served A) : Type 0 where
  bytes : length s.ram ≡ size
  areas : AreasFit (queue_at s.state i) size
  sized : IsSized (queue_at s.state i)

module _ {A : Type 0} (k : DeviceKind) (i : ℕ) (act : Act A)
    (keeps : (ram : List ℕ) (kept : A) (c : Spelled) (a : Acted A) → act ram kept c ≡ Ok a → length a.ram ≡ length ram) where
  used_steady : (size : ℕ) (s : Served A) (c : Spelled) (a : Acted A) → act s.ram s.kept c ≡ Ok a → IsSteady i size s →
      IsSteady i size (puts_used k i s c.head a)
  used_steady size s c a e h =
      let bytes : length a.ram ≡ size = keeps s.ram s.kept c a e ∙ h.bytes in
      let areas : AreasFit (queue_at s.state i) (length a.ram) = subst (AreasFit (queue_at s.state i)) (sym bytes) h.areas in
      record {
        bytes = length_used_written (queue_at s.state i) a.ram c.head a.len areas h.sized ∙ bytes;
        areas = areas_after_use k s.state i size h.areas;
        sized = sized_after_use k s.state i h.sized;
      }

  chains-length : (n : ℕ) (s : Served A) → AreasFit (queue_at s.state i) (length s.ram) → IsSized (queue_at s.state i) →
      length (chains_served k i act n s).ram ≡ length s.ram
  chains-length n s areas sized =
      (chains_keep k i act (λ m t. IsSteady i (length s.ram) t) (λ m l t e p. p)
      (λ m t p. record { bytes = p.bytes; areas = p.areas; sized = p.sized })
      (λ m t c a e p. used_steady (length s.ram) t c a e p) n s (record { bytes = refl; areas = areas; sized = sized })).bytes

  available-length : (s : Served A) (r : Result ℕ Broken) → available_of (queue_at s.state i) s.ram ≡ r → IsSized (queue_at s.state i) →
      length (or_breaks (λ n. chains_served k i act n s) s r).ram ≡ length s.ram
  available-length s (Ok n) e sized = chains-length n s (areas_available (queue_at s.state i) s.ram n e) sized
  available-length s (Err b) e sized = refl

  when : (b : Bool) (s t : Served A) → (b ≡ true → length t.ram ≡ length s.ram) → length (if b then t else s).ram ≡ length s.ram
  when true s t h = h refl
  when false s t h = refl

  pub served-length : (s : Served A) → IsDeviceRecord k s.state → length (served k i act s).ram ≡ length s.ram
  unfolding served
  served-length s h =
      let count : Result ℕ Broken = available_of (queue_at s.state i) s.ram in
      when (can_serve k s.state i) s (or_breaks (λ n. chains_served k i act n s) s count)
      (λ e. available-length s count refl (sized_in_service k s.state i h e))
