-- The head's numbers of a checkpoint keep their rules, and are as wide as their rows.
use Rattle.std.proofs.Common.{◌≡◌, ℕ, ◌<◌, ◌≤◌, ◌^◌, ◌==◌, ◌&&◌, ◌||◌, IsTrue, Bool, true, false, arith, refl, if◌then◌else◌, nat_le, lit<}
use Rattle.std.proofs.{Common.get_or, lemmas.Bool.Decides.nat_tests}
use Rattle.virtio_mmio.specs.States.{queue_at}
use Rattle.epoch_snapshot.specs.{Checkpoints.{Change, IsCanonical}, Limits.most_old_pages}
use Rattle.checkpoint_stream.specs.{HeadTable.{head_table, passes}, Sound.AllPass, Text.{magic, head_numbers}, Widths.HasWidths}
use Rattle.checkpoint_stream.proofs.Numbers.{AllFit, eq-true}

infixr 5 ◌⨾◌
-- one fact, and those that come after it
◌⨾◌ : {A B : Type 0} → A → B → A × B
a ⨾ b = (a, b)

-- a number of 64 bits
abbrev pub IsWord : ℕ → Type 0
IsWord n = n < 2 ^ 64

eq-self : (n : ℕ) → IsTrue (n == n)
eq-self n = grind (arith, nat_tests)

eq-test : (m n : ℕ) → m ≡ n → IsTrue (m == n)
eq-test m n e = grind (arith, nat_tests)

within-test : (least n most : ℕ) → least ≤ n → n ≤ most → IsTrue (nat_le least n && nat_le n most)
within-test least n most h k = grind (arith, nat_tests)

sized-test : (n : ℕ) → 0 < n → IsTrue (nat_le 1 n)
sized-test n h = grind (arith, nat_tests)

ready-test : (ready : Bool) (n : ℕ) → (ready ≡ true → 0 < n) →
    IsTrue ((if ready then 1 else 0) == 0 || ((if ready then 1 else 0) == 1 && nat_le 1 n))
ready-test false n h = refl
ready-test true n h = sized-test n (h refl)

old-pages : (n : ℕ) → n ≤ most_old_pages → IsTrue (n == n && nat_le n most_old_pages)
old-pages n h = grind (arith, nat_tests)

all-pages : (n : ℕ) → IsTrue (n == n && true)
all-pages n = grind (arith, nat_tests)

pages-test : (version pages : ℕ) → (version ≡ 1 → pages ≤ most_old_pages) →
    IsTrue (pages == pages && (magic version == 0x32434d52 || nat_le pages most_old_pages))
pages-test version pages few =
    elim (version == 1) as (λ (old : Bool). (version == 1) ≡ old →
    IsTrue (pages == pages && ((if old then 0x31434d52 else 0x32434d52) == 0x32434d52 || nat_le pages most_old_pages))) [
      | true ↦ λ (e : (version == 1) ≡ true). old-pages pages (few (eq-true version 1 e))
      | false ↦ λ (e : (version == 1) ≡ false). all-pages pages
    ] refl

magic-test : (version : ℕ) → IsTrue (magic version == 0x31434d52 || magic version == 0x32434d52)
magic-test version =
    elim (version == 1) as (λ (old : Bool). IsTrue ((if old then 0x31434d52 else 0x32434d52) == 0x31434d52
    || (if old then 0x31434d52 else 0x32434d52) == 0x32434d52)) [
      | true ↦ refl
      | false ↦ refl
    ]

pub head-passes : (c : Change) → IsCanonical c → AllPass c.shape 0 head_table (head_numbers c)
unfolding passes head_table head_numbers
head-passes c h =
    magic-test c.version ⨾ pages-test c.version c.shape.pages h.old_pages ⨾ eq-self c.shape.sectors ⨾
    within-test 1 c.generation 0x3fffffffffffffff h.first_generation (omega (arith, h.last_generation)) ⨾
    within-test 0 c.number 0x3fffffffffffffff (omega arith) (omega (arith, h.last_number)) ⨾ refl ⨾ refl ⨾ refl ⨾ refl ⨾ refl ⨾ refl ⨾
    refl ⨾ refl ⨾ refl ⨾ refl ⨾ refl ⨾ refl ⨾ refl ⨾ refl ⨾ refl ⨾ refl ⨾ refl ⨾ refl ⨾ refl ⨾ refl ⨾ refl ⨾ refl ⨾ refl ⨾ refl ⨾
    refl ⨾ refl ⨾ refl ⨾ refl ⨾ refl ⨾ refl ⨾ refl ⨾ refl ⨾ eq-test _ _ h.state.pc ⨾ eq-test _ _ h.state.csrs.mstatus ⨾
    eq-test _ _ h.state.csrs.mie ⨾ eq-test _ _ h.state.csrs.mtvec ⨾ refl ⨾ eq-test _ _ h.state.csrs.mepc ⨾ refl ⨾ refl ⨾
    within-test 0 c.state.msip 1 (omega arith) h.state.msip ⨾ refl ⨾ eq-test _ _ h.state.net.status_bits ⨾ refl ⨾ refl ⨾ refl ⨾ refl ⨾
    within-test 0 _ 3 (omega arith) h.state.net.interrupt_bits ⨾ h.state.net.queue_0.size ⨾
    ready-test (queue_at c.state.net 0).ready (queue_at c.state.net 0).num h.state.net.queue_0.ready_has_size ⨾ refl ⨾ refl ⨾ refl ⨾
    refl ⨾ refl ⨾ h.state.net.queue_1.size ⨾
    ready-test (queue_at c.state.net 1).ready (queue_at c.state.net 1).num h.state.net.queue_1.ready_has_size ⨾ refl ⨾ refl ⨾ refl ⨾
    refl ⨾ refl ⨾ eq-test _ _ h.state.disk.status_bits ⨾ refl ⨾ refl ⨾ refl ⨾ refl ⨾
    within-test 0 _ 3 (omega arith) h.state.disk.interrupt_bits ⨾ h.state.disk.queue_0.size ⨾
    ready-test (queue_at c.state.disk 0).ready (queue_at c.state.disk 0).num h.state.disk.queue_0.ready_has_size ⨾ refl ⨾ refl ⨾
    refl ⨾ refl ⨾ refl ⨾ tt

flag : (b : Bool) → (if b then 1 else 0) < 2 ^ 32
flag true = lit< tt
flag false = lit< tt

magic-small : (version : ℕ) → magic version < 2 ^ 32
magic-small version = elim (version == 1) as (λ (old : Bool). (if old then 0x31434d52 else 0x32434d52) < 2 ^ 32) [
  | true ↦ lit< tt
  | false ↦ lit< tt
]

pub head-fits : (c : Change) → IsCanonical c → HasWidths c → AllFit head_table (head_numbers c)
unfolding head_table head_numbers
head-fits c h w =
    let word : (i : ℕ) → i < 31 → get_or c.state.registers i 0 < 2 ^ 64
    = λ (i : ℕ) (lt : i < 31). w.registers i 0 (omega (arith, lt, w.state.count)) in
    magic-small c.version ⨾ omega (arith, c.shape.most_pages) ⨾ omega (arith, c.shape.most_sectors) ⨾ omega (arith, h.last_generation)
    ⨾ omega (arith, h.last_number) ⨾ w.state.steps ⨾
    word 0 (lit< tt) ⨾ word 1 (lit< tt) ⨾ word 2 (lit< tt) ⨾ word 3 (lit< tt) ⨾ word 4 (lit< tt) ⨾ word 5 (lit< tt) ⨾
    word 6 (lit< tt) ⨾ word 7 (lit< tt) ⨾ word 8 (lit< tt) ⨾ word 9 (lit< tt) ⨾ word 10 (lit< tt) ⨾ word 11 (lit< tt) ⨾
    word 12 (lit< tt) ⨾ word 13 (lit< tt) ⨾ word 14 (lit< tt) ⨾ word 15 (lit< tt) ⨾ word 16 (lit< tt) ⨾ word 17 (lit< tt) ⨾
    word 18 (lit< tt) ⨾ word 19 (lit< tt) ⨾ word 20 (lit< tt) ⨾ word 21 (lit< tt) ⨾ word 22 (lit< tt) ⨾ word 23 (lit< tt) ⨾
    word 24 (lit< tt) ⨾ word 25 (lit< tt) ⨾ word 26 (lit< tt) ⨾ word 27 (lit< tt) ⨾ word 28 (lit< tt) ⨾ word 29 (lit< tt) ⨾
    word 30 (lit< tt) ⨾ w.state.pc ⨾ w.state.mstatus ⨾ w.state.mie ⨾ w.state.mtvec ⨾ w.state.mscratch ⨾ w.state.mepc ⨾
    w.state.mcause ⨾ w.state.mtval ⨾ w.state.msip ⨾ w.state.mtimecmp ⨾ w.state.net.status ⨾ w.state.net.device_features_sel ⨾
    w.state.net.driver_features_sel ⨾ w.state.net.driver_features ⨾ w.state.net.queue_sel ⨾ w.state.net.interrupt_status ⨾
    w.state.net.queue_0.num ⨾ flag (queue_at c.state.net 0).ready ⨾ w.state.net.queue_0.desc ⨾ w.state.net.queue_0.driver ⨾
    w.state.net.queue_0.device ⨾ w.state.net.queue_0.next_available ⨾ w.state.net.queue_0.next_used ⨾ w.state.net.queue_1.num ⨾
    flag (queue_at c.state.net 1).ready ⨾ w.state.net.queue_1.desc ⨾ w.state.net.queue_1.driver ⨾ w.state.net.queue_1.device ⨾
    w.state.net.queue_1.next_available ⨾ w.state.net.queue_1.next_used ⨾ w.state.disk.status ⨾ w.state.disk.device_features_sel ⨾
    w.state.disk.driver_features_sel ⨾ w.state.disk.driver_features ⨾ w.state.disk.queue_sel ⨾ w.state.disk.interrupt_status ⨾
    w.state.disk.queue_0.num ⨾ flag (queue_at c.state.disk 0).ready ⨾ w.state.disk.queue_0.desc ⨾ w.state.disk.queue_0.driver ⨾
    w.state.disk.queue_0.device ⨾ w.state.disk.queue_0.next_available ⨾ w.state.disk.queue_0.next_used ⨾ tt
