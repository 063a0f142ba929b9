-- What a cut records of a disk, and its image.
use Rattle.std.proofs.Common.{◌≡◌, ℕ, zero, suc, ◌+◌, ◌-◌, ◌*◌, ◌<◌, ◌≤◌, ◌==◌, ◌&&◌, ◌||◌, not, Bool, true, false, cond, List, [], ◌∷◌}
use Rattle.std.proofs.Common.{◌++◌, length, take, drop, replicate, map, get_or, refl, sym, ap, ◌∙◌, arith, subst, inl, inr}
use Rattle.std.proofs.lemmas.{Bool.{eqb-true, eqb-false, eq-eqb, true≢false, cases_order, cases_eq, and_parts}, List.length-take-le}
use Rattle.std.proofs.lemmas.List.{length-drop, length-replicate, Elements.filter_passes}
use Rattle.std.specs.{Prelude.{All, IsTrue, ◌↔◌, slice_range}, List.{range_with_len, filter}}
use Rattle.guest_rules.specs.{Dirty.{Rises, is_in}, Bytes.with_bytes}
use Rattle.epoch_snapshot.specs.{declared.changes.SectorChange.SectorChange, Blocks.is_zero, Cuts.{sector_of, sector_change}}
use Rattle.epoch_snapshot.specs.{Cuts.{changed_sectors, used_sectors}, Images.with_sectors}
use Rattle.epoch_snapshot.specs.laws.Bytes.{length-with_bytes}
use Rattle.epoch_snapshot.specs.laws.Parts.{part-same, part-below, part-above, same_from_parts}
use Rattle.epoch_snapshot.specs.laws.Xored.{or_parts}
use Rattle.epoch_snapshot.specs.laws.{Canonical.{Rises-filter, all_mapped}, Pages.filter_last}
use Rattle.guest_rules.specs.Guest.{sector_count, sector_of as sector_in_place}

-- two disks of this many sectors agree on each sector that isn't in the list
unfoldable pub AgreesOff : ℕ → List ℕ → List ℕ → List ℕ → Type 0
AgreesOff count listed base now = (i : ℕ) → i < count → is_in i listed ≡ false → sector_of base i ≡ sector_of now i

pub length-sector_of : (bytes : List ℕ) (i count : ℕ) → i < count → length bytes ≡ 512 * count → length (sector_of bytes i) ≡ 512
length-sector_of bytes i count within long = length-take-le 512 (drop (512 * i) bytes) (omega (arith, length-drop (512 * i) bytes))

module _ (count : ℕ) (now : List ℕ) (long : length now ≡ 512 * count) where
  put : (base : List ℕ) (i : ℕ) → List ℕ
  put base i = with_bytes base (512 * i) (sector_of now i)

  length-put : (base : List ℕ) (i : ℕ) → length base ≡ 512 * count → i < count → length (put base i) ≡ 512 * count
  unfolding put
  length-put base i same within =
      let n : length (sector_of now i) ≡ 512 = length-sector_of now i count within long in
      length-with_bytes base (sector_of now i) (512 * i) (omega arith) ∙ same

  put_other : (base : List ℕ) (i j : ℕ) → length base ≡ 512 * count → i < count → (j == i) ≡ false →
      sector_of (put base i) j ≡ sector_of base j
  unfolding put
  put_other base i j same within apart =
      let n : length (sector_of now i) ≡ 512 = length-sector_of now i count within long in
      elim (cases_order j i) [
        | inl e ↦ absurd (eqb-false j i apart e)
        | inr (inl below) ↦ part-below base (sector_of now i) (512 * i) (512 * j) 512 (omega arith) (omega arith)
        | inr (inr above) ↦ part-above base (sector_of now i) (512 * i) (512 * j) 512 (omega arith) (omega arith)
      ]

  put_same : (base : List ℕ) (i j : ℕ) → length base ≡ 512 * count → i < count → (j == i) ≡ true →
      sector_of (put base i) j ≡ sector_of now j
  unfolding put
  put_same base i j same within e =
      let here : j ≡ i = eqb-true j i e in
      let n : length (sector_of now i) ≡ 512 = length-sector_of now i count within long in
      ap (sector_of (put base i)) here ∙ part-same base (sector_of now i) (512 * i) 512 n (omega arith) ∙ sym (ap (sector_of now) here)

  agrees_by : (b : Bool) (base : List ℕ) (i j : ℕ) (is : List ℕ) → AgreesOff count (i ∷ is) base now → length base ≡ 512 * count →
      i < count → j < count →
      (j == i) ≡ b → is_in j is ≡ false → sector_of (put base i) j ≡ sector_of now j
  unfolding AgreesOff
  agrees_by true base i j is agree same within inside e off = put_same base i j same within e
  agrees_by false base i j is agree same within inside e off =
      put_other base i j same within e ∙ agree j inside (ap (λ b. b || is_in j is) e ∙ off)

  agrees_after : (base : List ℕ) (i : ℕ) (is : List ℕ) → AgreesOff count (i ∷ is) base now → length base ≡ 512 * count → i < count →
      AgreesOff count is (put base i) now
  unfolding AgreesOff
  agrees_after base i is agree same within = λ j inside off. agrees_by (j == i) base i j is agree same within inside refl off

  -- the listed sectors put into a disk that agrees on the others make the disk
  pub with_sectors-changed : (base : List ℕ) (from : ℕ) (is : List ℕ) → length base ≡ 512 * count → Rises from count is →
      AgreesOff count is base now →
      with_sectors base (changed_sectors now is) ≡ now
  unfolding with_sectors AgreesOff put
  with_sectors-changed base from [] same rises agree = same_from_parts count 512 base now same long (λ i below. agree i below refl)
  with_sectors-changed base from (i ∷ is) same rises agree =
      let within : i < count = last from i is rises in
      with_sectors-changed (put base i) (i + 1) is (length-put base i same within) rises.1 (agrees_after base i is agree same within)
    where
      last : (low j : ℕ) (js : List ℕ) → Rises low count (j ∷ js) → j < count
      last low j [] h = omega (arith, h.1)
      last low j (k ∷ ks) h = let l : k < count = last (j + 1) k ks h.1 in omega (arith, h.1.0)

-- ---- all zero

zero_bytes : (xs ys : List ℕ) → length xs ≡ length ys → is_zero xs ≡ true → is_zero ys ≡ true → xs ≡ ys
zero_bytes [] [] e f g = refl
zero_bytes [] (y ∷ ys) e f g = absurd (omega arith)
zero_bytes (x ∷ xs) [] e f g = absurd (omega arith)
zero_bytes (x ∷ xs) (y ∷ ys) e f g =
    let fs = and_parts (x == 0) (is_zero xs) f in
    let gs = and_parts (y == 0) (is_zero ys) g in
    λ k. (eqb-true x 0 fs.0 ∙ sym (eqb-true y 0 gs.0)) k ∷ zero_bytes xs ys (omega arith) fs.1 gs.1 k

is_zero-take : (n : ℕ) (xs : List ℕ) → is_zero xs ≡ true → is_zero (take n xs) ≡ true
is_zero-take zero xs h = refl
is_zero-take (suc n) [] h = refl
is_zero-take (suc n) (x ∷ xs) h =
    let hs = and_parts (x == 0) (is_zero xs) h in
    λ k. hs.0 k && is_zero-take n xs hs.1 k

is_zero-drop : (n : ℕ) (xs : List ℕ) → is_zero xs ≡ true → is_zero (drop n xs) ≡ true
is_zero-drop zero xs h = h
is_zero-drop (suc n) [] h = refl
is_zero-drop (suc n) (x ∷ xs) h = is_zero-drop n xs (and_parts (x == 0) (is_zero xs) h).1

is_zero-replicate : (n : ℕ) → is_zero (replicate n 0) ≡ true
is_zero-replicate zero = refl
is_zero-replicate (suc n) = is_zero-replicate n

not_false : (b : Bool) → not b ≡ false → b ≡ true
not_false true e = refl
not_false false e = absurd (true≢false e)

off_by : (b : Bool) (i s : ℕ) (is : List ℕ) → is_in i (cond b (s ∷ is) is) ≡ false → is_in i is ≡ false
off_by true i s is off = (or_parts (i == s) (is_in i is) off).1
off_by false i s is off = off

first_by : (b : Bool) (i s : ℕ) (is : List ℕ) → i ≡ s → is_in i (cond b (s ∷ is) is) ≡ false → b ≡ false
first_by true i s is e off = absurd (true≢false (sym (eq-eqb i s e) ∙ (or_parts (i == s) (is_in i is) off).0))
first_by false i s is e off = refl

-- what a test leaves out of a range fails it
left_out : (p : ℕ → Bool) (s n i : ℕ) → s ≤ i → i < s + n → is_in i (filter p (range_with_len s n)) ≡ false → p i ≡ false
left_out p s zero i low high off = absurd (omega arith)
left_out p s (suc n) i low high off =
    elim (cases_eq i s) [
      | inl e ↦ ap p e ∙ first_by (p s) i s (filter p (range_with_len (s + 1) n)) e off
      | inr apart ↦ left_out p (s + 1) n i (omega arith) (omega arith) (off_by (p s) i s (filter p (range_with_len (s + 1) n)) off)
    ]

-- the disk that is all zero agrees on each sector that isn't used
pub AgreesOff-zero : (count : ℕ) (now : List ℕ) → length now ≡ 512 * count →
    AgreesOff count (used_sectors now count) (replicate (512 * count) 0) now
unfolding AgreesOff used_sectors
AgreesOff-zero count now long i within off =
    let zeros : is_zero (sector_of (replicate (512 * count) 0) i) ≡ true
    = is_zero-take 512 (drop (512 * i) (replicate (512 * count) 0))
    (is_zero-drop (512 * i) (replicate (512 * count) 0) (is_zero-replicate (512 * count))) in
    zero_bytes (sector_of (replicate (512 * count) 0) i) (sector_of now i)
    (length-sector_of (replicate (512 * count) 0) i count within (length-replicate (512 * count) 0)
    ∙ sym (length-sector_of now i count within long))
    zeros (not_false (is_zero (sector_of now i)) (left_out (λ j. not (is_zero (sector_of now j))) 0 count i (omega arith) (omega arith)
    off))

-- ---- as the code reads them

pub sector-slice : (bytes : List ℕ) (i : ℕ) → slice_range bytes (512 * i) (512 * i + 512) ≡ sector_of bytes i
sector-slice bytes i = let e : (512 * i + 512) - 512 * i ≡ 512 = omega arith in ap (λ n. take n (drop (512 * i) bytes)) e

zeros_all : (xs : List ℕ) → is_zero xs ≡ true → All (λ (b : ℕ). b ≡ 0) xs
zeros_all [] h k d within = absurd (omega arith)
zeros_all (x ∷ xs) h zero d within = eqb-true x 0 (and_parts (x == 0) (is_zero xs) h).0
zeros_all (x ∷ xs) h (suc k) d within = zeros_all xs (and_parts (x == 0) (is_zero xs) h).1 k d (omega arith)

all_zeros : (xs : List ℕ) → All (λ (b : ℕ). b ≡ 0) xs → is_zero xs ≡ true
all_zeros [] h = refl
all_zeros (x ∷ xs) h = λ j. eq-eqb x 0 (h 0 0 (omega arith)) j && all_zeros xs (λ k d within. h (suc k) d (omega arith)) j

flag_by : (r b : Bool) → (r ≡ true → b ≡ true) → (b ≡ true → r ≡ true) → r ≡ b
flag_by true b f g = sym (f refl)
flag_by false true f g = g refl
flag_by false false f g = refl

-- what the test for zeros answers of a sector
zero-flag : (r : Bool) (bytes : List ℕ) (i : ℕ) → IsTrue r ↔ All (λ (b : ℕ). b ≡ 0) (sector_in_place bytes i) →
    r ≡ is_zero (sector_of bytes i)
zero-flag r bytes i says =
    let xs : List ℕ = sector_in_place bytes i in
    flag_by r (is_zero xs) (λ h. all_zeros xs (says.0 h)) (λ h. says.1 (zeros_all xs h)) ∙ ap is_zero (sector-slice bytes i)

unless : (b : Bool) (is : List ℕ) → cond (not b) is [] ≡ cond b [] is
unless true is = refl
unless false is = refl

-- one sector more is used, or isn't
pub used-next : (bytes : List ℕ) (n : ℕ) (r : Bool) → IsTrue r ↔ All (λ (b : ℕ). b ≡ 0) (sector_in_place bytes n) →
    used_sectors bytes (n + 1) ≡ used_sectors bytes n ++ cond r [] (n ∷ [])
unfolding used_sectors
used-next bytes n r says =
    filter_last (λ i. not (is_zero (sector_of bytes i))) n
    ∙ ap (λ b. used_sectors bytes n ++ cond (not b) (n ∷ []) []) (sym (zero-flag r bytes n says))
    ∙ ap (λ is. used_sectors bytes n ++ is) (unless r (n ∷ []))

pub no_sectors : (bytes : List ℕ) → [] ≡ used_sectors bytes 0
unfolding used_sectors
no_sectors bytes = refl

pub Rises-used : (bytes : List ℕ) (n : ℕ) → Rises 0 n (used_sectors bytes n)
unfolding used_sectors
Rises-used bytes n = Rises-filter (λ i. not (is_zero (sector_of bytes i))) 0 n n (omega arith)

-- each of rising numbers is below the end
pub Rises-at : (from end : ℕ) (is : List ℕ) (k : ℕ) → Rises from end is → k < length is → get_or is k 0 < end
Rises-at from end [] k h within = absurd (omega arith)
Rises-at from end (i ∷ []) zero h within = omega (arith, h.1)
Rises-at from end (i ∷ j ∷ is) zero h within = let l : j < end = Rises-at (i + 1) end (j ∷ is) 0 h.1 (omega arith) in omega (arith, h.1.0)
Rises-at from end (i ∷ is) (suc k) h within = Rises-at (i + 1) end is k h.1 (omega arith)

-- the numbers of changed sectors are those listed
pub numbers-changed : (bytes : List ℕ) (is : List ℕ) → map (λ (s : SectorChange). s.sector) (changed_sectors bytes is) ≡ is
numbers-changed bytes [] = refl
numbers-changed bytes (i ∷ is) = ap (λ l. i ∷ l) (numbers-changed bytes is)

-- no used sector is all zero
pub used-nonzero : (bytes : List ℕ) (n : ℕ) → All (λ (s : SectorChange). IsTrue (not (is_zero s.bytes)))
    (changed_sectors bytes (used_sectors bytes n))
unfolding used_sectors
used-nonzero bytes n =
    all_mapped (sector_change bytes) (λ (s : SectorChange). not (is_zero s.bytes)) (used_sectors bytes n)
    (filter_passes (λ i. not (is_zero (sector_of bytes i))) (range_with_len 0 n))

-- rising numbers of a disk's sectors, by its size
pub Rises-count : (n : ℕ) (bytes xs ys : List ℕ) → length bytes ≡ 512 * n → xs ≡ ys → Rises 0 (sector_count bytes) xs → Rises 0 n ys
Rises-count n bytes xs ys long e rises =
    let count : sector_count bytes ≡ n = omega (arith, long) in
    subst (λ (l : List ℕ). Rises 0 n l) e (subst (λ (k : ℕ). Rises 0 k xs) count rises)
