-- The head's numbers of a checkpoint that was read whole are those that were read.
use Rattle.epoch_snapshot.specs.Limits.{most_old_pages}
use Rattle.checkpoint_stream.proofs.{StateRead.{low_half, low_quarter, numbers-back}, Numbers.limit_of, Canonical.rule-at}
use Rattle.checkpoint_stream.specs.{declared.rules.{Row.Row, Width.TheVariants.Four, Rule.TheVariants.Magic}, HeadTable.head_table}
use Rattle.checkpoint_stream.specs.{HeadTable.{passes, number}, Readings.Reading, Sound.{IsHead, change_in, version_from, queue_from}}
use Rattle.checkpoint_stream.specs.{Sound.device_from, Text.{magic, head_numbers, numbers_from, queue_numbers, device_numbers}}
use Rattle.std.proofs.Common.{◌≡◌, ℕ, suc, zero, ◌+◌, ◌<◌, ◌^◌, ◌==◌, ◌&&◌, ◌||◌, IsTrue, List, [], ◌∷◌, length, Bool, true, false}
use Rattle.std.proofs.{Common.{refl, sym, ◌∙◌, ap, arith, nat_le, get_or, slice_index, if◌then◌else◌, lit<}, lemmas.Bool.Decides.nat_tests}
use Rattle.virtqueue.specs.{declared.rings.Queue.Queue, Queues.boot_queue}

-- each number is as wide as its row
abbrev pub Narrow : List Row → List ℕ → Type 0
Narrow [] ns = Unit {0}
Narrow (row ∷ rows) [] = Unit {0}
Narrow (row ∷ rows) (n ∷ ns) = (n < limit_of row.width) × Narrow rows ns

Narrow-at : (rows : List Row) (ns : List ℕ) (k : ℕ) (d : Row) → k < length rows → k < length ns → Narrow rows ns →
    get_or ns k 0 < limit_of (get_or rows k d).width
Narrow-at [] ns k d h i all = absurd (omega (arith, h))
Narrow-at (row ∷ rows) [] k d h i all = absurd (omega (arith, i))
Narrow-at (row ∷ rows) (n ∷ ns) zero d h i all = all.0
Narrow-at (row ∷ rows) (n ∷ ns) (suc k) d h i all = Narrow-at rows ns k d (omega (arith, h)) (omega (arith, i)) all.1

flag : (n size : ℕ) → IsTrue (n == 0 || (n == 1 && nat_le 1 size)) → (if n == 1 then 1 else 0) ≡ n
flag n size h = grind (arith, nat_tests)

equal : (m n : ℕ) → IsTrue (m == n) → n ≡ m
equal m n h = grind (arith, nat_tests)

same-pages : (n pages before : ℕ) → IsTrue (n == pages && (before == 0x32434d52 || nat_le n most_old_pages)) → pages ≡ n
same-pages n pages before h = grind (arith, nat_tests)

queue-kept : (xs rest later : List ℕ) (i : ℕ) → slice_index xs i < 2 ^ 32 →
    IsTrue (slice_index xs (i + 1) == 0 || (slice_index xs (i + 1) == 1 && nat_le 1 (slice_index xs i))) →
    slice_index xs (i + 5) < 2 ^ 16 → slice_index xs (i + 6) < 2 ^ 16 → rest ≡ later →
    queue_numbers (queue_from xs i) rest ≡ slice_index xs i ∷ slice_index xs (i + 1) ∷ slice_index xs (i + 2) ∷ slice_index xs (i + 3)
    ∷ slice_index xs (i + 4) ∷ slice_index xs (i + 5) ∷ slice_index xs (i + 6) ∷ later
queue-kept xs rest later i num ready available used e =
    rw (
      low_half (slice_index xs i) num,
      flag (slice_index xs (i + 1)) (slice_index xs i) ready,
      low_quarter (slice_index xs (i + 5)) available,
      low_quarter (slice_index xs (i + 6)) used,
      e,
    ) refl

device-kept : (xs rest later : List ℕ) (i : ℕ) (queues : List Queue) → slice_index xs i < 2 ^ 32 → slice_index xs (i + 1) < 2 ^ 32 →
    slice_index xs (i + 2) < 2 ^ 32 → slice_index xs (i + 4) < 2 ^ 32 → slice_index xs (i + 5) < 2 ^ 32 → rest ≡ later →
    device_numbers (device_from xs i queues) rest ≡ slice_index xs i ∷ slice_index xs (i + 1) ∷ slice_index xs (i + 2)
    ∷ slice_index xs (i + 3) ∷ slice_index xs (i + 4) ∷ slice_index xs (i + 5) ∷ later
device-kept xs rest later i queues a b c d f e =
    rw (
      low_half (slice_index xs i) a,
      low_half (slice_index xs (i + 1)) b,
      low_half (slice_index xs (i + 2)) c,
      low_half (slice_index xs (i + 4)) d,
      low_half (slice_index xs (i + 5)) f,
      e,
    ) refl

-- the numbers before those of the devices
abbrev before_devices : List ℕ → ℕ → ℕ → ℕ → ℕ → List ℕ → List ℕ
before_devices xs magic pages sectors msip rest =
    magic ∷ pages ∷ sectors ∷ slice_index xs 3 ∷ slice_index xs 4 ∷ slice_index xs 5 ∷ numbers_from xs 6 31 (slice_index xs 37
    ∷ slice_index xs 38 ∷ slice_index xs 39 ∷ slice_index xs 40 ∷ slice_index xs 41 ∷ slice_index xs 42 ∷ slice_index xs 43
    ∷ slice_index xs 44 ∷ msip ∷ slice_index xs 46 ∷ rest)

before-kept : (xs rest later : List ℕ) (a b c d e f g h : ℕ) → a ≡ e → b ≡ f → c ≡ g → d ≡ h → rest ≡ later →
    before_devices xs a b c d rest ≡ before_devices xs e f g h later
before-kept xs rest later a b c d e f g h i j k l m =
    ap (λ (n : ℕ). before_devices xs n b c d rest) i ∙ ap (λ (n : ℕ). before_devices xs e n c d rest) j
    ∙ ap (λ (n : ℕ). before_devices xs e f n d rest) k ∙ ap (λ (n : ℕ). before_devices xs e f g n rest) l
    ∙ ap (λ (r : List ℕ). before_devices xs e f g h r) m

magic-back : (n : ℕ) → IsTrue (n == 0x31434d52 || n == 0x32434d52) → magic (version_from n) ≡ n
magic-back n h = elim (n == 0x32434d52) as (λ (new : Bool). (n == 0x32434d52) ≡ new →
    magic (if new then 2 else 1) ≡ n) [
      | true ↦ λ (is : (n == 0x32434d52) ≡ true). sym (same is)
      | false ↦ λ (is : (n == 0x32434d52) ≡ false). sym (other h is)
    ] refl
  where
    same : (n == 0x32434d52) ≡ true → n ≡ 0x32434d52
    same e = grind (arith, nat_tests)

    other : IsTrue (n == 0x31434d52 || n == 0x32434d52) → (n == 0x32434d52) ≡ false → n ≡ 0x31434d52
    other h e = grind (arith, nat_tests)

pub head-kept : (r : Reading) → IsHead r → r.known ≡ 80 → Narrow head_table r.head → head_numbers (change_in r) ≡ r.head
unfolding head_numbers change_in head_table passes
head-kept r h known narrow =
    let xs : List ℕ = r.head in
    let count : 80 ≡ length xs = omega (arith, h.known, known) in
    let at : (k : ℕ) → k < 80 → slice_index xs k < limit_of (get_or head_table k (number Four Magic)).width
    = λ (k : ℕ) (lt : k < 80). Narrow-at head_table xs k (number Four Magic) lt (omega (arith, lt, count)) narrow in
    before-kept xs _ _ _ _ _ _ _ _ _ _ (magic-back _ (rule-at r 0 h known (lit< tt))) (same-pages _ _ _ (rule-at r 1 h known (lit< tt)))
    (equal _ _ (rule-at r 2 h known (lit< tt))) (low_half _ (at 45 (lit< tt)))
    (device-kept xs _ _ 47 (queue_from xs 53 ∷ queue_from xs 60 ∷ [])
    (at 47 (lit< tt)) (at 48 (lit< tt)) (at 49 (lit< tt)) (at 51 (lit< tt)) (at 52 (lit< tt))
    (queue-kept xs _ _ 53 (at 53 (lit< tt)) (rule-at r 54 h known (lit< tt)) (at 58 (lit< tt)) (at 59 (lit< tt))
    (queue-kept xs _ _ 60 (at 60 (lit< tt)) (rule-at r 61 h known (lit< tt)) (at 65 (lit< tt)) (at 66 (lit< tt))
    (device-kept xs _ _ 67 (queue_from xs 73 ∷ boot_queue ∷ [])
    (at 67 (lit< tt)) (at 68 (lit< tt)) (at 69 (lit< tt)) (at 71 (lit< tt)) (at 72 (lit< tt))
    (queue-kept xs _ _ 73 (at 73 (lit< tt)) (rule-at r 74 h known (lit< tt)) (at 78 (lit< tt)) (at 79 (lit< tt)) refl)))))
    ∙ numbers-back xs 0 80 count
