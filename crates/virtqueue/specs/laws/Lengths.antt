-- How many bytes there are: in a chain's buffers, and in memory after a write.
use Rattle.std.proofs.Common.{
  ◌≡◌,
  ℕ,
  zero,
  suc,
  ◌+◌,
  ◌*◌,
  ◌%◌,
  ◌<◌,
  ◌≤◌,
  Bool,
  true,
  false,
  List,
  [],
  ◌∷◌,
  ◌++◌,
  refl,
  sym,
  ap,
  ◌∙◌,
  if◌then◌else◌,
  ◌||◌,
  ◌&&◌,
  ◌==◌,
  length,
  take,
  drop,
  slice_set,
  arith,
  length-append,
  length-drop,
  IsTrue,
  nat_le,
  nat_lt,
  not,
  sum,
  map,
  filter,
}
use Rattle.std.specs.Prelude.{Result, Ok, Err}
use Rattle.std.specs.Int.{to_le_bytes, w16, w32}
use Rattle.std.specs.List.{range_with_len}
use Rattle.std.proofs.Math.Nat.{mod-lt}
use Rattle.std.proofs.lemmas.List.{length-take-le, length-set}
use Rattle.std.proofs.lemmas.List.FromFn.{length-range_with_len}
use Rattle.std.proofs.lemmas.List.Sums.{sum_by-cons}
use borrow.Author.Tests.{leb-true}
use Rattle.virtqueue.specs.declared.broken.Broken.{Broken}
use Rattle.virtqueue.specs.declared.broken.Broken.TheVariants.{Misaligned, AreaOutside, TooMany}
use Rattle.virtqueue.specs.declared.chains.Descriptor.{Descriptor}
use Rattle.virtqueue.specs.Limits.{ram_start}
use Rattle.virtqueue.specs.declared.rings.Queue.{Queue}
use Rattle.virtqueue.specs.Memory.{written, place_of, is_inside}
use Rattle.virtqueue.specs.Areas.{is_aligned, are_inside, waiting, available_of, AreasFit, IsSized}
use Rattle.virtqueue.specs.Chains.{buffer_inside, BuffersInside}
use Rattle.virtqueue.specs.Parts.{bytes_of, readable_bytes, readable_len, writable_places, writable_len, put_at}
use Rattle.virtqueue.specs.Used.{used_written}

both : (a b : Bool) → IsTrue (a && b) → (a ≡ true) × (b ≡ true)
both true b h = (refl, h)
both false b h = let none : ⊥ = cc in absurd none

-- bytes that lie inside RAM begin and end there
ends_inside : (size address len : ℕ) → is_inside size address len ≡ true → (ram_start ≤ address) × (address + len ≤ ram_start + size)
ends_inside size address len h =
    let ends = both (nat_le ram_start address) (nat_le (address + len) (ram_start + size)) h in
    (leb-true ram_start address ends.0, leb-true (address + len) (ram_start + size) ends.1)

-- ---- a chain's buffers

-- a buffer that lies inside has as many bytes as it says
pub length_bytes_of : (bytes : List ℕ) (d : Descriptor) → IsTrue (buffer_inside (length bytes) d.address d.len) →
    length (bytes_of bytes d) ≡ d.len
length_bytes_of bytes d h = length_inside bytes d.address d.len h
  where
    later : (a b : Bool) → a ≡ false → IsTrue (a || b) → IsTrue b
    later true b e h = let none : ⊥ = cc in absurd none
    later false b e h = h

    length_inside : (bytes : List ℕ) (address len : ℕ) → IsTrue (buffer_inside (length bytes) address len) →
        length (take len (drop (place_of address) bytes)) ≡ len
    length_inside bytes address zero h = length-take-le 0 (drop (place_of address) bytes) (omega arith)
    length_inside bytes address (suc len) h =
        let some : (suc len == 0) ≡ false = grind arith in
        let ends = ends_inside (length bytes) address (suc len)
        (later (suc len == 0) (is_inside (length bytes) address (suc len)) some h) in
        length-take-le (suc len) (drop (place_of address) bytes) (omega (arith, ends.0, ends.1, length-drop (place_of address) bytes))

joined : (d : Descriptor) (x rest : List ℕ) (ds : List Descriptor) → length x ≡ d.len → length rest ≡ sum (map (λ d. d.len) ds) →
    length (x ++ rest) ≡ sum (map (λ d. d.len) (d ∷ ds))
joined d x rest ds e f = length-append x rest ∙ (ap (λ n. n + length rest) e
    ∙ (ap (λ n. d.len + n) f ∙ sym (sum_by-cons (λ x. x) d.len (map (λ d. d.len) ds))))

readable_step : (w : Bool) (d : Descriptor) (x rest : List ℕ) (ds : List Descriptor) → length x ≡ d.len →
    length rest ≡ sum (map (λ d. d.len) ds) →
    length ((if w then [] else x) ++ rest) ≡ sum (map (λ d. d.len) (if not w then d ∷ ds else ds))
readable_step true d x rest ds e f = f
readable_step false d x rest ds e f = joined d x rest ds e f

writable_step : (w : Bool) (d : Descriptor) (x rest : List ℕ) (ds : List Descriptor) → length x ≡ d.len →
    length rest ≡ sum (map (λ d. d.len) ds) →
    length ((if w then x else []) ++ rest) ≡ sum (map (λ d. d.len) (if w then d ∷ ds else ds))
writable_step true d x rest ds e f = joined d x rest ds e f
writable_step false d x rest ds e f = f

-- all the readable bytes, and all the writable places
pub length_readable : (bytes : List ℕ) (ds : List Descriptor) → BuffersInside (length bytes) ds →
    length (readable_bytes bytes ds) ≡ readable_len ds
length_readable bytes [] h = refl
length_readable bytes (d ∷ ds) h =
    readable_step d.writable d (bytes_of bytes d) (readable_bytes bytes ds) (filter (λ d. not d.writable) ds) (length_bytes_of bytes d h.0)
    (length_readable bytes ds h.1)

pub length_places : (ds : List Descriptor) → length (writable_places ds) ≡ writable_len ds
length_places [] = refl
length_places (d ∷ ds) =
    writable_step d.writable d (range_with_len (place_of d.address) d.len) (writable_places ds) (filter (λ d. d.writable) ds)
    (length-range_with_len (place_of d.address) d.len) (length_places ds)

-- ---- memory after a write

pub length_written : (bytes new : List ℕ) (place : ℕ) → place + length new ≤ length bytes → length (written bytes place new) ≡ length bytes
length_written bytes new place l =
    omega (
      arith,
      length-append (take place bytes ++ new) (drop (place + length new) bytes),
      length-append (take place bytes) new,
      length-take-le place bytes (omega arith),
      length-drop (place + length new) bytes,
    )

pub length_put_at : (bytes places values : List ℕ) → length (put_at bytes places values) ≡ length bytes
length_put_at bytes [] values = refl
length_put_at bytes (p ∷ ps) [] = refl
length_put_at bytes (p ∷ ps) (v ∷ vs) = length_put_at (slice_set bytes p v) ps vs ∙ length-set bytes p v

-- the used entry lies in the used ring
slot_inside : (device used num size : ℕ) → 0 < num → ram_start ≤ device → device + (6 + 8 * num) ≤ ram_start + size →
    place_of device + 4 + 8 * (used % num) + 8 ≤ size
slot_inside device used num size some from to = omega (arith, mod-lt used some)

pub length_used_written : (q : Queue) (bytes : List ℕ) (head len : ℕ) → AreasFit q (length bytes) → IsSized q →
    length (used_written q bytes head len) ≡ length bytes
unfolding used_written
length_used_written q bytes head len areas sized =
    let ring : ℕ = place_of q.device in
    let slot : ℕ = ring + 4 + 8 * (q.next_used % q.num) in
    let inside : slot + 8 ≤ length bytes = slot_inside q.device q.next_used q.num (length bytes) sized.some areas.device_from
    areas.device_to in
    let with_id : List ℕ = written bytes slot (to_le_bytes w32 head) in
    let id : length with_id ≡ length bytes = length_written bytes (to_le_bytes w32 head) slot (omega arith) in
    let with_len : List ℕ = written with_id (slot + 4) (to_le_bytes w32 len) in
    let after_len : length with_len ≡ length with_id = length_written with_id (to_le_bytes w32 len) (slot + 4) (omega arith) in
    let with_flags : List ℕ = written with_len ring (to_le_bytes w16 0) in
    let flags : length with_flags ≡ length with_len = length_written with_len (to_le_bytes w16 0) ring (omega arith) in
    length_written with_flags (to_le_bytes w16 _) (ring + 2) (omega arith) ∙ (flags ∙ (after_len ∙ id))

-- ---- where the areas lie

pub areas_inside : (q : Queue) (size : ℕ) → are_inside q size ≡ true → AreasFit q size
areas_inside q size e =
    let last = both (is_inside size q.desc (16 * q.num) && is_inside size q.driver (6 + 2 * q.num))
    (is_inside size q.device (6 + 8 * q.num)) e in
    let others = both (is_inside size q.desc (16 * q.num)) (is_inside size q.driver (6 + 2 * q.num)) last.0 in
    let desc = ends_inside size q.desc (16 * q.num) others.0 in
    let driver = ends_inside size q.driver (6 + 2 * q.num) others.1 in
    let device = ends_inside size q.device (6 + 8 * q.num) last.1 in
    record {
      desc_from = desc.0;
      desc_to = desc.1;
      driver_from = driver.0;
      driver_to = driver.1;
      device_from = device.0;
      device_to = device.1;
    }

-- the areas of a queue whose chains can be served lie in RAM
pub areas_available : (q : Queue) (bytes : List ℕ) (n : ℕ) → available_of q bytes ≡ Ok n → AreasFit q (length bytes)
unfolding available_of
areas_available q bytes n e =
    by_tests (is_aligned q) (are_inside q (length bytes)) (if nat_lt 64 (waiting q bytes) then Err TooMany else Ok (waiting q bytes)) refl e
  where
    by_tests : (a b : Bool) (r : Result ℕ Broken) → are_inside q (length bytes) ≡ b →
        (if a then (if b then r else Err AreaOutside) else Err Misaligned) ≡ Ok n → AreasFit q (length bytes)
    by_tests true true r inside h = areas_inside q (length bytes) inside
    by_tests true false r inside h = let none : ⊥ = cc in absurd none
    by_tests false b r inside h = let none : ⊥ = cc in absurd none
