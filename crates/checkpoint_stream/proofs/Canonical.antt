-- A reading that is whole and sound is that of a canonical checkpoint.
use Rattle.std.proofs.{lemmas.{List.nil_from_length, Bool.Decides.nat_tests, Nat.and_le_r}, Common.{◌≡◌, ℕ, suc, zero, ◌%◌, ◌^◌, ◌<◌, ◌≤◌}}
use Rattle.std.proofs.Common.{◌==◌, ◌&&◌, ◌||◌, IsTrue, List, [], ◌∷◌, length, Bool, if◌then◌else◌, true, false, refl, sym, subst, arith}
use Rattle.std.proofs.Common.{nat_le, get_or, bit_and, lit<}
use Rattle.checkpoint_stream.{proofs.StateRead.low_half, specs.declared.rules.{Row.Row, Width.TheVariants.Four, Rule.TheVariants.Magic}}
use Rattle.checkpoint_stream.specs.{declared.place.Place.{Place, TheVariants.Whole}, HeadTable.{head_table, passes, number}}
use Rattle.checkpoint_stream.specs.Readings.{Reading, is_full, has_frames}
use Rattle.checkpoint_stream.specs.Sound.{IsSound, IsHead, HasRecords, HasFrames}
use Rattle.checkpoint_stream.specs.Sound.{AllPass, StandsAt, FramesAt, change_in, state_from, version_from}
use Rattle.guest_rules.specs.{declared.shapes.Shape.Shape, MachineStates.IsMachineState}
use Rattle.virtio_mmio.specs.States.{is_queue_size, IsQueueRecord}
use Rattle.epoch_snapshot.specs.{Checkpoints.IsCanonical, Limits.most_old_pages}

AllPass-at : (shape : Shape) (before : ℕ) (rows : List Row) (ns : List ℕ) (k : ℕ) (d : Row) → k < length ns → AllPass shape before rows ns →
    IsTrue (passes shape (get_or rows k d).rule (get_or (before ∷ ns) k 0) (get_or ns k 0))
AllPass-at shape before rows [] k d h all = absurd (omega (arith, h))
AllPass-at shape before [] (n ∷ ns) k d h all = absurd all
AllPass-at shape before (row ∷ rows) (n ∷ ns) zero d h all = all.0
AllPass-at shape before (row ∷ rows) (n ∷ ns) (suc k) d h all = AllPass-at shape n rows ns k d (omega (arith, h)) all.1

within : (least n most : ℕ) → IsTrue (nat_le least n && nat_le n most) → (least ≤ n) × (n ≤ most)
within least n most h = grind (arith, nat_tests)

equal : (m n : ℕ) → IsTrue (m == n) → m ≡ n
equal m n h = grind (arith, nat_tests)

low-msip : (n : ℕ) → IsTrue (nat_le 0 n && nat_le n 1) → n % 2 ^ 32 ≤ 1
low-msip n h = let le : (0 ≤ n) × (n ≤ 1) = within 0 n 1 h in omega (arith, le.1)

low-interrupts : (n : ℕ) → IsTrue (nat_le 0 n && nat_le n 3) → n % 2 ^ 32 ≤ 3
low-interrupts n h = let le : (0 ≤ n) × (n ≤ 3) = within 0 n 3 h in omega (arith, le.1)

low-status : (n : ℕ) → IsTrue (bit_and n 0xcf == n) → bit_and (n % 2 ^ 32) 0xcf ≡ n % 2 ^ 32
low-status n h =
    let same : bit_and n 0xcf ≡ n = equal _ n h in
    let small : n % 2 ^ 32 ≡ n = low_half n (omega (arith, same, and_le_r n 0xcf)) in
    subst (λ (m : ℕ). bit_and m 0xcf ≡ m) (sym small) same

size-small : (n : ℕ) → IsTrue (n == 0 || is_queue_size n) → n ≤ 64
size-small n h = grind (arith, nat_tests)

ready-sized : (size ready : ℕ) → IsTrue (ready == 0 || (ready == 1 && nat_le 1 size)) → (ready == 1) ≡ true → 1 ≤ size
ready-sized size ready h is = grind (arith, nat_tests)

queue-record : (size ready desc driver device available used : ℕ) → IsTrue (size == 0 || is_queue_size size) →
    IsTrue (ready == 0 || (ready == 1 && nat_le 1 size)) →
    IsQueueRecord (record {
      num = size % 2 ^ 32;
      ready = ready == 1;
      desc = desc;
      driver = driver;
      device = device;
      next_available =
          available;
      next_used = used;
    })
queue-record size ready desc driver device available used sized made =
    let small : size % 2 ^ 32 ≡ size = low_half size (omega (arith, size-small size sized)) in
    record {
      size = subst (λ (m : ℕ). IsTrue (m == 0 || is_queue_size m)) (sym small) sized;
      ready_has_size = λ (is : (ready == 1) ≡ true). omega (arith, small, ready-sized size ready made is);
    }

-- the rule of a number of a whole head
pub rule-at : (r : Reading) (k : ℕ) → IsHead r → r.known ≡ 80 → k < 80 →
    IsTrue (passes r.shape (get_or head_table k (number Four Magic)).rule (get_or (0 ∷ r.head) k 0) (get_or r.head k 0))
rule-at r k h known lt = AllPass-at r.shape 0 head_table r.head k (number Four Magic) (omega (arith, h.known, known, lt)) h.passes

pub state-sound : (r : Reading) → IsHead r → r.known ≡ 80 → IsMachineState (state_from r.head)
unfolding passes head_table
state-sound r h known = record {
  pc = equal _ _ (rule-at r 37 h known (lit< tt));
  csrs = record {
    mstatus = equal _ _ (rule-at r 38 h known (lit< tt));
    mie = equal _ _ (rule-at r 39 h known (lit< tt));
    mtvec = equal _ _ (rule-at r 40 h known (lit< tt));
    mepc = equal _ _ (rule-at r 42 h known (lit< tt));
  };
  msip = low-msip _ (rule-at r 45 h known (lit< tt));
  net = record {
    status_bits = low-status _ (rule-at r 47 h known (lit< tt));
    interrupt_bits = low-interrupts _ (rule-at r 52 h known (lit< tt));
    queue_0 = queue-record _ _ _ _ _ _ _ (rule-at r 53 h known (lit< tt)) (rule-at r 54 h known (lit< tt));
    queue_1 = queue-record _ _ _ _ _ _ _ (rule-at r 60 h known (lit< tt)) (rule-at r 61 h known (lit< tt));
    absent = tt;
  };
  disk = record {
    status_bits = low-status _ (rule-at r 67 h known (lit< tt));
    interrupt_bits = low-interrupts _ (rule-at r 72 h known (lit< tt));
    queue_0 = queue-record _ _ _ _ _ _ _ (rule-at r 73 h known (lit< tt)) (rule-at r 74 h known (lit< tt));
    queue_1 = record { size = refl; ready_has_size = λ (e : false ≡ true). cc };
    absent = refl;
  };
}

generation-within : (r : Reading) → IsHead r → r.known ≡ 80 → (1 ≤ get_or r.head 3 0) × (get_or r.head 3 0 ≤ 0x3fffffffffffffff)
unfolding passes head_table
generation-within r h known = within 1 _ 0x3fffffffffffffff (rule-at r 3 h known (lit< tt))

number-within : (r : Reading) → IsHead r → r.known ≡ 80 → (0 ≤ get_or r.head 4 0) × (get_or r.head 4 0 ≤ 0x3fffffffffffffff)
unfolding passes head_table
number-within r h known = within 0 _ 0x3fffffffffffffff (rule-at r 4 h known (lit< tt))

few-pages : (n pages : ℕ) → IsTrue (n == pages && nat_le n most_old_pages) → pages ≤ most_old_pages
few-pages n pages h = grind (arith, nat_tests)

old-within : (n pages before : ℕ) → version_from before ≡ 1 →
    IsTrue (n == pages && (before == 0x32434d52 || nat_le n most_old_pages)) → pages ≤ most_old_pages
old-within n pages before old h = by-version (before == 0x32434d52) (version_from before) refl old h
  where
    by-version : (new : Bool) (version : ℕ) → version ≡ (if new then 2 else 1) → version ≡ 1 →
        IsTrue (n == pages && (new || nat_le n most_old_pages)) → pages ≤ most_old_pages
    by-version true version e f h = absurd (omega (arith, e, f))
    by-version false version e f h = few-pages n pages h

-- version 1 speaks of few pages
pages-within : (r : Reading) → IsHead r → r.known ≡ 80 → version_from (get_or r.head 0 0) ≡ 1 → r.shape.pages ≤ most_old_pages
unfolding passes head_table
pages-within r h known old = old-within _ r.shape.pages (get_or r.head 0 0) old (rule-at r 1 h known (lit< tt))

version-within : (magic : ℕ) → (1 ≤ version_from magic) × (version_from magic ≤ 2)
version-within magic =
    elim (magic == 0x32434d52) as (λ (new : Bool). (1 ≤ (if new then 2 else 1)) × ((if new then 2 else 1) ≤ 2)) [
      | true ↦ (omega arith, omega arith)
      | false ↦ (omega arith, omega arith)
    ]

-- a full one, and one of version 1, by the tests of a reading
full-test : (r : Reading) → r.known ≡ 80 → get_or r.head 4 0 ≡ 0 → is_full r ≡ true
full-test r known e = rw (known, e) refl

old-carries : (r : Reading) → r.known ≡ 80 → version_from (get_or r.head 0 0) ≡ 1 → has_frames r ≡ false
old-carries r known e =
    rw known (by-version (get_or r.head 0 0 == 0x32434d52) (version_from (get_or r.head 0 0)) refl e)
  where
    by-version : (new : Bool) (version : ℕ) → version ≡ (if new then 2 else 1) → version ≡ 1 → new ≡ false
    by-version true version e f = absurd (omega (arith, e, f))
    by-version false version e f = refl

pub canonical : (r : Reading) → IsSound r → r.place ≡ Whole → (r.known ≡ 80) × IsCanonical (change_in r)
unfolding change_in
canonical r h whole =
    let records : HasRecords r r.shape.pages 0 r.shape.sectors = subst (λ (p : Place). StandsAt p r) whole h.place in
    let frames : HasFrames r 0 = subst (λ (p : Place). FramesAt p r) whole h.frames in (
      records.known,
      record {
        first_version = (version-within (get_or r.head 0 0)).0;
        last_version = (version-within (get_or r.head 0 0)).1;
        first_generation = (generation-within r h.head records.known).0;
        last_generation = omega (arith, (generation-within r h.head records.known).1);
        last_number = omega (arith, (number-within r h.head records.known).1);
        state = state-sound r h.head records.known;
        pages = records.pages;
        masks = records.masks;
        block_count = omega (arith, records.count);
        blocks = records.blocks;
        sectors = records.sectors;
        full_sectors = records.full;
        frames = frames.each;
        frame_count = omega (arith, frames.count);
        old_frames = λ e. nil_from_length r.frames (omega (arith, frames.old (old-carries r records.known e)));
        old_pages = λ e. pages-within r h.head records.known e;
        full_frames = λ e. nil_from_length r.frames (omega (arith, frames.full (full-test r records.known e)));
      },
    )
