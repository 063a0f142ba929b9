use Rattle.std.proofs.Common.{
  ◌≡◌,
  ◌≢◌,
  ℕ,
  ◌+◌,
  ◌<◌,
  ◌≤◌,
  suc,
  Bool,
  true,
  false,
  List,
  [],
  ◌∷◌,
  refl,
  sym,
  ap,
  ◌∙◌,
  lit≤,
  lit<,
  ◌/◌,
  ◌*◌,
  ◌^◌,
  ◌%◌,
  zero,
  subst,
  arith,
  slice_set,
  slice_index_or,
  bit_and,
  bit_or,
  ◌==◌,
  if◌then◌else◌,
  ◌||◌,
  IsTrue,
  nat_lt,
}
use Rattle.std.specs.Prelude.{Some, None}
use borrow.Author.Tests.{ltb-true}
use Rattle.std.specs.Int.{bit_not, w32}
use Rattle.std.proofs.lemmas.List.{get_or-set_other}
use Rattle.std.proofs.lemmas.Nat.{and_assoc, and_le_l, or_lt}
use Rattle.std.proofs.lemmas.Nat.Bits.{same_from_bits, bit_at_and, bit_at_or}
use Rattle.std.proofs.Math.Nat.{div-eq_of_lt, pow-suc}
use Rattle.std.proofs.lemmas.Nat.{pow-add}
use Rattle.std.proofs.Math.Pow.{pow_mono}
use Rattle.virtqueue.specs.declared.rings.Queue.{Queue}
use Rattle.virtqueue.specs.Queues.{boot_queue}
use Rattle.virtio_mmio.specs.declared.kinds.DeviceKind.{DeviceKind}
use Rattle.virtio_mmio.specs.declared.kinds.DeviceKind.TheVariants.{Network, Block}
use Rattle.virtio_mmio.specs.declared.states.DeviceState.{DeviceState}
use Rattle.virtio_mmio.specs.Kinds.{queue_count}
use Rattle.virtio_mmio.specs.States.{boot_state, queue_at, is_queue_size, IsQueueRecord, AbsentQueuesAtBoot, IsDeviceRecord}
use Rattle.virtio_mmio.specs.Serving.{with_counters, used_signalled, needing_reset}
use Rattle.virtqueue.specs.Areas.{AreasFit, IsSized}
use Rattle.virtio_mmio.specs.ServingLoop.{state_after_use}
use Rattle.virtio_mmio.specs.Transport.{is_width, stored}
use Rattle.virtio_mmio.specs.Registers.{
  Stored,
  leaves,
  is_set,
  Row,
  ignored,
  status_store,
  driver_features_after,
  registers,
  row_in,
  row_at,
  has_queue,
  selected_queue,
  on_queue,
  num_after,
  ready_after,
  address_after,
  with_low,
  with_high,
  status_after,
  kept_bits,
}

-- ---- bits

and_or : (a b m : ℕ) → bit_and (bit_or a b) m ≡ bit_or (bit_and a m) (bit_and b m)
and_or a b m = same_from_bits _ _ (λ i.
    rw (bit_at_and (bit_or a b) m i, bit_at_or a b i, bit_at_or (bit_and a m) (bit_and b m) i, bit_at_and a m i, bit_at_and b m i)
    (omega arith))

-- two masks inside a third give bits inside it
joined_inside : (v s m n all : ℕ) → bit_and m all ≡ m → bit_and n all ≡ n → bit_and (bit_or (bit_and v m) (bit_and s n)) all
    ≡ bit_or (bit_and v m) (bit_and s n)
joined_inside v s m n all e f =
    and_or (bit_and v m) (bit_and s n) all ∙ (ap (λ x. bit_or x (bit_and (bit_and s n) all)) (and_assoc all v m ∙ ap (λ x. bit_and v x) e)
    ∙ ap (λ x. bit_or (bit_and v m) x) (and_assoc all s n ∙ ap (λ x. bit_and s x) f))

mask_inside : (b : Bool) → bit_and (if b then 0x8f else 0x87) 0xcf ≡ (if b then 0x8f else 0x87)
mask_inside true = refl
mask_inside false = refl

status_inside : (k : DeviceKind) (d : DeviceState) (v : ℕ) → bit_and (status_after k d v) 0xcf ≡ status_after k d v
status_inside k d v = joined_inside v d.status (kept_bits k d) 0x40 0xcf (mask_inside _) refl

-- ---- one queue's rules

boot_queue-keeps : IsQueueRecord boot_queue
boot_queue-keeps = record { size = refl; ready_has_size = λ e. cc }

num-size : (r t : Bool) (n v : ℕ) → IsTrue (n == 0 || is_queue_size n) → is_queue_size v ≡ t →
    let m = if r then n else (if t then v else n) in IsTrue (m == 0 || is_queue_size m)
num-size true t n v h e = h
num-size false false n v h e = h
num-size false true n v h e = ap (λ b. v == 0 || b) e ∙ or-true (v == 0)
  where
    or-true : (b : Bool) → b || true ≡ true
    or-true true = refl
    or-true false = refl

kept_if_ready : (r : Bool) (n m : ℕ) → (r ≡ true → 0 < n) → r ≡ true → 0 < (if r then n else m)
kept_if_ready true n m h e = h refl
kept_if_ready false n m h e = cc

num-keeps : (q : Queue) (v : ℕ) → IsQueueRecord q → IsQueueRecord (num_after q v)
num-keeps q v h = record {
  size = num-size q.ready (is_queue_size v) q.num v h.size refl;
  ready_has_size = kept_if_ready q.ready q.num _ h.ready_has_size;
}

ready-size : (t r : Bool) (n : ℕ) → (r ≡ true → 0 < n) → (if t then (if n == 0 then r else true) else false) ≡ true → 0 < n
ready-size false r n h e = cc
ready-size true r zero h e = h e
ready-size true r (suc n) h e = omega arith

ready-keeps : (q : Queue) (v : ℕ) → IsQueueRecord q → IsQueueRecord (ready_after q v)
ready-keeps q v h = record {
  size = h.size;
  ready_has_size = ready-size (v % 2 == 1) q.ready q.num h.ready_has_size;
}

-- ---- the queues of a record

-- what holds of the new element and of the old ones holds of each element after a write
set-keeps : (P : Queue → Type 0) (xs : List Queue) (i j : ℕ) (q d : Queue) → P q → P (slice_index_or xs j d) →
    P (slice_index_or (slice_set xs i q) j d)
set-keeps P [] i j q d new old = old
set-keeps P (x ∷ xs) zero zero q d new old = new
set-keeps P (x ∷ xs) zero (suc j) q d new old = old
set-keeps P (x ∷ xs) (suc i) zero q d new old = old
set-keeps P (x ∷ xs) (suc i) (suc j) q d new old = set-keeps P xs i j q d new old

pub either : {A : Type 0} (P : A → Type 0) (b : Bool) (x y : A) → (b ≡ true → P x) → P y → P (if b then x else y)
either P true x y f g = f refl
either P false x y f g = g

queue_at-keeps : (k : DeviceKind) (d : DeviceState) → IsDeviceRecord k d → (i : ℕ) → i < 2 → IsQueueRecord (queue_at d i)
queue_at-keeps k d h zero l = h.queue_0
queue_at-keeps k d h (suc zero) l = h.queue_1
queue_at-keeps k d h (suc (suc i)) l = let none : ⊥ = omega arith in absurd none

has-below : (k : DeviceKind) (i : ℕ) → has_queue k i ≡ true → i < queue_count k
has-below k i e = ltb-true i (queue_count k) e

count-le : (k : DeviceKind) → queue_count k ≤ 2
count-le Network = lit≤ tt
count-le (Block capacity) = lit≤ tt

-- each queue that the device has meets the rules
pub present-keeps : (k : DeviceKind) (d : DeviceState) (i : ℕ) → IsDeviceRecord k d → has_queue k i ≡ true → IsQueueRecord (queue_at d i)
present-keeps k d i h e = queue_at-keeps k d h i (omega (arith, has-below k i e, count-le k))

selected-keeps : (k : DeviceKind) (d : DeviceState) → IsDeviceRecord k d → IsQueueRecord (selected_queue k d)
selected-keeps k d h = either IsQueueRecord (has_queue k d.queue_sel) (queue_at d d.queue_sel) boot_queue
    (λ e. present-keeps k d d.queue_sel h e) boot_queue-keeps

absent-keeps : (k : DeviceKind) (d : DeviceState) (i : ℕ) (q : Queue) → AbsentQueuesAtBoot k d →
    AbsentQueuesAtBoot k (record d { queues = if has_queue k i then slice_set d.queues i q else d.queues })
absent-keeps Network d i q h = tt
absent-keeps (Block capacity) d i q h =
    either (λ (xs : List Queue). slice_index_or xs 1 boot_queue ≡ boot_queue) (has_queue (Block capacity) i)
    (slice_set d.queues i q) d.queues
    (λ e. let below : i < 1 = has-below (Block capacity) i e in
    let other : 1 ≢ i = omega arith in get_or-set_other d.queues i 1 q boot_queue other ∙ h) h

-- another queue that meets the rules is put in the place of one that is there
put-keeps : (k : DeviceKind) (d : DeviceState) (i : ℕ) (q : Queue) → (has_queue k i ≡ true → IsQueueRecord q) → IsDeviceRecord k d →
    IsDeviceRecord k (record d { queues = if has_queue k i then slice_set d.queues i q else d.queues })
put-keeps k d i q new h =
    let set : List Queue = slice_set d.queues i q in
    let b : Bool = has_queue k i in
    record {
      status_bits = h.status_bits;
      interrupt_bits = h.interrupt_bits;
      queue_0 = either (λ (xs : List Queue). IsQueueRecord (slice_index_or xs 0 boot_queue)) b set d.queues
          (λ e. set-keeps IsQueueRecord d.queues i 0 q boot_queue (new e) h.queue_0) h.queue_0;
      queue_1 = either (λ (xs : List Queue). IsQueueRecord (slice_index_or xs 1 boot_queue)) b set d.queues
          (λ e. set-keeps IsQueueRecord d.queues i 1 q boot_queue (new e) h.queue_1) h.queue_1;
      absent = absent-keeps k d i q h.absent;
    }

on_queue-keeps : (change : Queue → ℕ → Queue) → ((q : Queue) (v : ℕ) → IsQueueRecord q → IsQueueRecord (change q v)) →
    (k : DeviceKind) (d : DeviceState) (v : ℕ) → IsDeviceRecord k d → IsDeviceRecord k (on_queue change k d v).state
on_queue-keeps change keeps k d v h =
    put-keeps k d d.queue_sel (change (selected_queue k d) v) (λ e. keeps (selected_queue k d) v (selected-keeps k d h)) h

-- ---- the table

-- what every row's store keeps
RowKeeps : Row → Type 0
RowKeeps r = (k : DeviceKind) (d : DeviceState) (v : ℕ) → IsDeviceRecord k d → IsDeviceRecord k (r.store k d v).state

EachRow : List Row → Type 0
EachRow [] = Unit {0}
EachRow (r ∷ rs) = RowKeeps r × EachRow rs

boot-keeps : (k : DeviceKind) → IsDeviceRecord k boot_state
boot-keeps Network = record {
  status_bits = refl;
  interrupt_bits = lit≤ tt;
  queue_0 = boot_queue-keeps;
  queue_1 = boot_queue-keeps;
  absent = tt;
}
boot-keeps (Block capacity) = record {
  status_bits = refl;
  interrupt_bits = lit≤ tt;
  queue_0 = boot_queue-keeps;
  queue_1 = boot_queue-keeps;
  absent = refl;
}

absent-same : (k : DeviceKind) (d e : DeviceState) → e.queues ≡ d.queues → AbsentQueuesAtBoot k d → AbsentQueuesAtBoot k e
absent-same Network d e same h = tt
absent-same (Block capacity) d e same h = subst (λ (xs : List Queue). slice_index_or xs 1 boot_queue ≡ boot_queue) (sym same) h

-- a change of the record's other parts
plain-keeps : (k : DeviceKind) (d e : DeviceState) → bit_and e.status 0xcf ≡ e.status → e.interrupt_status ≤ 3 → e.queues ≡ d.queues →
    IsDeviceRecord k d → IsDeviceRecord k e
plain-keeps k d e bits interrupt same h = record {
  status_bits = bits;
  interrupt_bits = interrupt;
  queue_0 = subst (λ (xs : List Queue). IsQueueRecord (slice_index_or xs 0 boot_queue)) (sym same) h.queue_0;
  queue_1 = subst (λ (xs : List Queue). IsQueueRecord (slice_index_or xs 1 boot_queue)) (sym same) h.queue_1;
  absent = absent-same k d e same h.absent;
}

ignored-keeps : (k : DeviceKind) (d : DeviceState) (v : ℕ) → IsDeviceRecord k d → IsDeviceRecord k (ignored k d v).state
ignored-keeps k d v h = h

status-keeps : (k : DeviceKind) (d : DeviceState) (v : ℕ) → IsDeviceRecord k d → IsDeviceRecord k (status_store k d v).state
status-keeps k d v h = either (IsDeviceRecord k) (v == 0) boot_state (record d { status = status_after k d v })
    (λ e. boot-keeps k) (plain-keeps k d (record d { status = status_after k d v }) (status_inside k d v) h.interrupt_bits refl h)

ack-keeps : (k : DeviceKind) (d : DeviceState) (v : ℕ) → IsDeviceRecord k d →
    IsDeviceRecord k (record d { interrupt_status = bit_and d.interrupt_status (bit_not w32 v) })
ack-keeps k d v h =
    let low : bit_and d.interrupt_status (bit_not w32 v) ≤ d.interrupt_status = and_le_l d.interrupt_status (bit_not w32 v) in
    let small : bit_and d.interrupt_status (bit_not w32 v) ≤ 3 = omega arith in
    plain-keeps k d (record d { interrupt_status = bit_and d.interrupt_status (bit_not w32 v) }) h.status_bits small refl h

each-row-keeps : EachRow registers
unfolding EachRow RowKeeps
each-row-keeps = (
  ignored-keeps,
  (
    ignored-keeps,
    (
      ignored-keeps,
      (
        ignored-keeps,
        (
          ignored-keeps,
          (
            (λ k d v h. plain-keeps k d (record d { device_features_sel = v }) h.status_bits h.interrupt_bits refl h),
            (
              (λ k d v h. plain-keeps k d (record d { driver_features = driver_features_after d v }) h.status_bits h.interrupt_bits refl h),
              (
                (λ k d v h. plain-keeps k d (record d { driver_features_sel = v }) h.status_bits h.interrupt_bits refl h),
                (
                  (λ k d v h. plain-keeps k d (record d { queue_sel = v }) h.status_bits h.interrupt_bits refl h),
                  (
                    ignored-keeps,
                    (
                      on_queue-keeps num_after num-keeps,
                      (
                        on_queue-keeps ready_after ready-keeps,
                        (
                          (λ k d v h. h),
                          (
                            ignored-keeps,
                            (
                              ack-keeps,
                              (
                                status-keeps,
                                (
                                  on_queue-keeps (λ q v. record q { desc = address_after with_low q q.desc v })
                                      (λ q v h. record { size = h.size; ready_has_size = h.ready_has_size }),
                                  (
                                    on_queue-keeps (λ q v. record q { desc = address_after with_high q q.desc v })
                                        (λ q v h. record { size = h.size; ready_has_size = h.ready_has_size }),
                                    (
                                      on_queue-keeps (λ q v. record q { driver = address_after with_low q q.driver v })
                                          (λ q v h. record { size = h.size; ready_has_size = h.ready_has_size }),
                                      (
                                        on_queue-keeps (λ q v. record q { driver = address_after with_high q q.driver v })
                                            (λ q v h. record { size = h.size; ready_has_size = h.ready_has_size }),
                                        (
                                          on_queue-keeps (λ q v. record q { device = address_after with_low q q.device v })
                                              (λ q v h. record { size = h.size; ready_has_size = h.ready_has_size }),
                                          (
                                            on_queue-keeps (λ q v. record q { device = address_after with_high q q.device v })
                                                (λ q v h. record { size = h.size; ready_has_size = h.ready_has_size }),
                                            (ignored-keeps, tt),
                                          ),
                                        ),
                                      ),
                                    ),
                                  ),
                                ),
                              ),
                            ),
                          ),
                        ),
                      ),
                    ),
                  ),
                ),
              ),
            ),
          ),
        ),
      ),
    ),
  ),
)

row_in-keeps : (rs : List Row) (o : ℕ) → EachRow rs → RowKeeps (row_in rs o)
unfolding EachRow RowKeeps
row_in-keeps [] o h = ignored-keeps
row_in-keeps (r ∷ rs) o h = either RowKeeps (o == r.offset) r (row_in rs o) (λ e. h.0) (row_in-keeps rs o h.1)

-- every store leaves a record that meets the rules
pub store_keeps : (k : DeviceKind) (d : DeviceState) (o v : ℕ) → IsDeviceRecord k d → IsDeviceRecord k ((row_at o).store k d v).state
unfolding row_at RowKeeps
store_keeps k d o v h = row_in-keeps registers o each-row-keeps k d v h

-- so does every access that is no fault
pub stored-rules : (k : DeviceKind) (d : DeviceState) (offset n value : ℕ) (s : Stored) → stored k d offset n value ≡ Some s →
    IsDeviceRecord k d → IsDeviceRecord k s.state
unfolding stored
stored-rules k d offset n value s e h =
    by_tests ((row_at offset).store k d (value % 2 ^ 32)) (leaves d) (nat_lt offset 0x100) (n == 4) (is_width n)
    (store_keeps k d offset (value % 2 ^ 32) h) h e
  where
    by_tests : (x y : Stored) (a b c : Bool) → IsDeviceRecord k x.state → IsDeviceRecord k y.state →
        (if a then (if b then Some x else None) else (if c then Some y else None)) ≡ Some s → IsDeviceRecord k s.state
    by_tests x y true true c f g is = let same : x ≡ s = cc in subst (λ t. IsDeviceRecord k t.state) same f
    by_tests x y true false c f g is = cc
    by_tests x y false b true f g is = let same : y ≡ s = cc in subst (λ t. IsDeviceRecord k t.state) same g
    by_tests x y false b false f g is = cc

-- ---- serving

pub counters_keep : (k : DeviceKind) (d : DeviceState) (i available used : ℕ) → IsDeviceRecord k d →
    IsDeviceRecord k (with_counters k d i available used)
counters_keep k d i available used h =
    put-keeps k d i (record (queue_at d i) { next_available = available; next_used = used }) (λ e.
    let old : IsQueueRecord (queue_at d i) = present-keeps k d i h e in
    record { size = old.size; ready_has_size = old.ready_has_size }) h

pub needing_reset_keeps : (k : DeviceKind) (d : DeviceState) → IsDeviceRecord k d → IsDeviceRecord k (needing_reset d)
needing_reset_keeps k d h =
    let small : d.interrupt_status < 2 ^ 2 = omega arith in
    let more : bit_or d.interrupt_status 2 < 2 ^ 2 = or_lt 2 d.interrupt_status 2 small (lit< tt) in
    let both : (if is_set d.status 4 then bit_or d.interrupt_status 2 else d.interrupt_status) ≤ 3 =
    either (λ n. n ≤ 3) (is_set d.status 4) (bit_or d.interrupt_status 2) d.interrupt_status (λ e. omega arith) (omega arith) in
    plain-keeps k d (needing_reset d) (and_or d.status 0x40 0xcf ∙ ap (λ x. bit_or x 0x40) h.status_bits) both refl h

pub signalled_keeps : (k : DeviceKind) (d : DeviceState) → IsDeviceRecord k d → IsDeviceRecord k (used_signalled d)
signalled_keeps k d h =
    let small : d.interrupt_status < 2 ^ 2 = omega arith in
    let more : bit_or d.interrupt_status 1 < 2 ^ 2 = or_lt 2 d.interrupt_status 1 small (lit< tt) in
    plain-keeps k d (used_signalled d) h.status_bits (omega arith) refl h

-- ---- the configuration space

pow_of_pow : (p : ℕ) → 2 ^ (8 * p) ≡ 256 ^ p
pow_of_pow zero = refl
pow_of_pow (suc p) =
    let split : 8 * suc p ≡ 8 * p + 8 = omega arith in
    ap (λ e. 2 ^ e) split ∙ (pow-add 2 (8 * p) 8 ∙ (ap (λ x. x * 256) (pow_of_pow p) ∙ sym (pow-suc 256 p)))

pub shift_is_places : (c p : ℕ) → c / 2 ^ (8 * p) ≡ c / 256 ^ p
shift_is_places c p = ap (λ x. c / x) (pow_of_pow p)

pub past_end : (c p : ℕ) → c < 2 ^ 64 → 8 ≤ p → c / 256 ^ p ≡ 0
past_end c p h l =
    let more : 64 ≤ 8 * p = omega arith in
    let large : 2 ^ 64 ≤ 2 ^ (8 * p) = pow_mono more in
    let below : c < 2 ^ (8 * p) = omega arith in
    sym (shift_is_places c p) ∙ div-eq_of_lt below

-- what holds of a queue whatever its counters are holds after they are replaced
queue_with_counters : (P : Queue → Type 0) (k : DeviceKind) (d : DeviceState) (i available used : ℕ) →
    P (record (queue_at d i) { next_available = available; next_used = used }) → P (queue_at d i) →
    P (queue_at (with_counters k d i available used) i)
queue_with_counters P k d i available used new old =
    either (λ (xs : List Queue). P (slice_index_or xs i boot_queue)) (has_queue k i)
    (slice_set d.queues i (record (queue_at d i) { next_available = available; next_used = used })) d.queues
    (λ e. set-keeps P d.queues i i (record (queue_at d i) { next_available = available; next_used = used }) boot_queue new old) old

-- a queue's areas stay where they are
pub areas_after_use : (k : DeviceKind) (d : DeviceState) (i size : ℕ) → AreasFit (queue_at d i) size →
    AreasFit (queue_at (state_after_use k i d) i) size
areas_after_use k d i size h =
    queue_with_counters (λ q. AreasFit q size) k d i _ _
    (record {
      desc_from = h.desc_from;
      desc_to = h.desc_to;
      driver_from = h.driver_from;
      driver_to = h.driver_to;
      device_from =
          h.device_from;
      device_to = h.device_to;
    }) h

pub sized_after_use : (k : DeviceKind) (d : DeviceState) (i : ℕ) → IsSized (queue_at d i) → IsSized (queue_at (state_after_use k i d) i)
sized_after_use k d i h = queue_with_counters IsSized k d i _ _ (record { some = h.some; few = h.few }) h
