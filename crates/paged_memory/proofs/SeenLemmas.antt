-- What each change of the parts is to the memory that contracts see.
use Rattle.std.proofs.Common.{◌≡◌, ℕ, ◌+◌, ◌-◌, ◌*◌, ◌/◌, ◌%◌, ◌^◌, ◌<◌, ◌≤◌, ◌++◌, Bool, true, false, List, length, replicate, take, drop}
use Rattle.std.proofs.{Common.{refl, sym, ap, ◌∙◌, arith}, Math.{ListN.set, Nat.{mod-eq_of_lt, mod-add-div', add-mul-mod_self_right}}}
use Rattle.std.proofs.lemmas.List.{set-get_or}
use Rattle.std.proofs.Common.{get_or, Contains, inl, inr}
use Rattle.std.proofs.lemmas.{Bool.cases_Bool, List.{get_or_past, get_or_default, Elements.All-contains}}
use Rattle.byteorder.specs.Endian.{little_bytes}
use Rattle.paged_memory.specs.{Listed.IsLeast, Pages.AreUnwritten}
use Rattle.paged_memory.specs.{Bytes.with_number, Pages.{Paged, IsPaged, page_of, is_written, written_pages, flagged, marked, with_flags}}
use Rattle.paged_memory.specs.{Pages.{with_written, settled_at}, Stored.{settled_bytes, seen, IsStored}}
use Rattle.paged_memory.specs.laws.Bytes.{length_overwritten}
use Rattle.paged_memory.proofs.FlagLemmas.{one_more, few_marked}
use Rattle.paged_memory.specs.laws.Flags.{no_pages, marked_none}
use Rattle.paged_memory.proofs.PageLemmas.{length_marked, other_byte}
use Rattle.paged_memory.proofs.StoredLemmas.{settled_by_keep, settled_by_write, settled_afresh, stored_by_write}
use Rattle.paged_memory.proofs.StoredLemmas.{one_page_more, paged}

-- a page is kept
pub seen_by_keep : (m : Paged) (b o x : List ℕ) (w t : List Bool) (p q d : List ℕ) (space capacity copies page : ℕ) →
    IsStored b o w t p d space capacity copies → seen b o w p copies ≡ m → page < length w → is_written w page ≡ false →
    x ≡ o ++ page_of b page → q ≡ set p page (length d) →
    seen b x (set w page true) q ((copies + 1) % 2 ^ 64)
    ≡ record m { written = set m.written page true; copies = (m.copies + 1) % 2 ^ 64 }
seen_by_keep m b o x w t p q d space capacity copies page is view here none kept put =
    let with_settled : List ℕ → Paged =
    λ xs. record { bytes = b; settled = xs; written = set w page true; copies = (copies + 1) % 2 ^ 64 } in
    let next : Paged → Paged = λ q. record q { written = set q.written page true; copies = (q.copies + 1) % 2 ^ 64 } in
    ap (λ (xs : List ℕ). seen b x (set w page true) xs ((copies + 1) % 2 ^ 64)) put
    ∙ ap with_settled (settled_by_keep b o x w p (length d) page is.whole is.kept is.numbered is.placed here none kept) ∙ ap next view

-- bytes are written to pages that were kept
pub record AfterWrite (m : Paged) (c o : List ℕ) (w t : List Bool) (p d : List ℕ) (space capacity copies at n : ℕ) (after : List ℕ) : Type 0
  where
    pub stored : IsStored c o w t p d space capacity copies
    pub value : seen c o w p copies ≡ with_written m at n after
    pub size : length after ≡ length m.bytes
    pub pages : length (marked m.written at n) ≡ length m.written

pub after_write : (m : Paged) (b c o new : List ℕ) (w t : List Bool) (p d : List ℕ) (space capacity copies at n : ℕ) → length new ≡ n →
    at + n ≤ length m.bytes → IsPaged m → IsStored b o w t p d space capacity copies → seen b o w p copies ≡ with_written m at n m.bytes →
    c ≡ take at b ++ (new ++ drop (at + n) b) →
    AfterWrite m c o w t p d space capacity copies at n (take at m.bytes ++ (new ++ drop (at + n) m.bytes))
after_write m b c o new w t p d space capacity copies at n long fits rules is view put =
    let same : b ≡ m.bytes = ap (λ (q : Paged). q.bytes) view in
    let flags : w ≡ marked m.written at n = ap (λ (q : Paged). q.written) view in
    let whole : length m.bytes ≡ 4096 * length m.written = rules.whole in
    let inside : at + n ≤ length b = omega (arith, ap length same) in
    let with_settled : List ℕ → Paged = λ xs. record { bytes = c; settled = xs; written = w; copies = copies } in
    let with_now : List ℕ → Paged = λ xs. record { bytes = xs; settled = settled_bytes b o w p; written = w; copies = copies } in
    let next : Paged → Paged = λ q. record q { bytes = take at q.bytes ++ (new ++ drop (at + n) q.bytes) } in
    record {
      stored = stored_by_write b c o w t p d space capacity copies (ap length put ∙ length_overwritten b new at n inside long)
          (λ i none. other_byte b c new m.written w at n i long inside (omega (arith, ap length same)) put flags none) is;
      value = ap with_settled (settled_by_write b c o new m.written w p at n long inside (ap length same ∙ whole) put flags)
          ∙ ap with_now put ∙ ap next view;
      size = length_overwritten m.bytes new at n fits long;
      pages = length_marked m.written at n (omega arith);
    }

-- the same of a number
pub after_number : (m : Paged) (b c o : List ℕ) (w t : List Bool) (p d : List ℕ) (space capacity copies at n value : ℕ) →
    length (little_bytes n value) ≡ n → at + n ≤ length m.bytes → IsPaged m → IsStored b o w t p d space capacity copies →
    seen b o w p copies ≡ with_written m at n m.bytes → c ≡ with_number b at n value →
    AfterWrite m c o w t p d space capacity copies at n (with_number m.bytes at n value)
unfolding with_number
after_number m b c o w t p d space capacity copies at n value long fits rules is view put =
    after_write m b c o (little_bytes n value) w t p d space capacity copies at n long fits rules is view put

-- the memory is settled
pub seen_by_settle : (m : Paged) (b o x : List ℕ) (w v : List Bool) (p : List ℕ) (copies : ℕ) → length b ≡ 4096 * length w →
    seen b o w p copies ≡ m → v ≡ replicate (length w) false →
    seen b x v p copies ≡ settled_at m.bytes (length m.written) m.copies
seen_by_settle m b o x w v p copies whole view none =
    let with_settled : List ℕ → Paged = λ xs. record { bytes = b; settled = xs; written = v; copies = copies } in
    let with_none : List Bool → Paged = λ fs. record { bytes = b; settled = b; written = fs; copies = copies } in
    let next : Paged → Paged = λ q. settled_at q.bytes (length q.written) q.copies in
    ap with_settled (settled_afresh b x v p (length w) whole none) ∙ ap with_none none ∙ ap next view

-- bytes are put into a memory of which no page counts as written, and it stays so
pub seen_unmarked : (m : Paged) (b c o : List ℕ) (w : List Bool) (p : List ℕ) (copies : ℕ) (put : List ℕ → List ℕ) →
    length b ≡ 4096 * length w → seen b o w p copies ≡ m → m.written ≡ replicate (length m.written) false → c ≡ put b →
    length c ≡ length b → seen c o w p copies ≡ settled_at (put m.bytes) (length m.written) m.copies
seen_unmarked m b c o w p copies put whole view clear after long =
    let flags : w ≡ m.written = ap (λ (q : Paged). q.written) view in
    let none : w ≡ replicate (length w) false = flags ∙ clear ∙ ap (λ (fs : List Bool). replicate (length fs) false) (sym flags) in
    let next : Paged → Paged = λ q. settled_at (put q.bytes) (length q.written) q.copies in
    seen_by_settle (seen c o w p copies) c o o w w p copies (long ∙ whole) refl none
    ∙ ap (λ (xs : List ℕ). settled_at xs (length w) copies) after
    ∙ ap next view

-- the memory at boot
pub seen_at_boot : (b o bytes : List ℕ) (w : List Bool) (p : List ℕ) (n : ℕ) → length b ≡ 4096 * n → b ≡ bytes → w ≡ replicate n false →
    seen b o w p 0 ≡ settled_at bytes n 0
seen_at_boot b o bytes w p n whole is none =
    let with_settled : List ℕ → Paged = λ xs. record { bytes = b; settled = xs; written = w; copies = 0 } in
    let with_none : List Bool → Paged = λ fs. record { bytes = b; settled = b; written = fs; copies = 0 } in
    ap with_settled (settled_afresh b o w p n whole none) ∙ ap with_none none ∙ ap (λ (xs : List ℕ). settled_at xs n 0) is

-- ---- the flags of a range of pages, and the count of copies

add_one_after : (a n : ℕ) → (a % n + 1) % n ≡ (a + 1) % n
add_one_after a n =
    sym (add-mul-mod_self_right (a % n + 1) (a / n) n) ∙ ap (λ (k : ℕ). k % n) (omega (arith, mod-add-div' a n))

-- no page more
same_flags : (m : Paged) (flags : List Bool) → m.copies < 2 ^ 64 → flags ≡ m.written → m ≡ with_flags m flags
same_flags m flags small same =
    let count : (m.copies + (written_pages m.written - written_pages m.written)) % 2 ^ 64 ≡ m.copies =
    ap (λ (k : ℕ). k % 2 ^ 64) (omega arith) ∙ mod-eq_of_lt small in
    let with_count : ℕ → Paged = λ k. record m { copies = k } in
    sym (ap with_count count) ∙ ap (with_flags m) (sym same)

pub no_page_kept : (m : Paged) (from : ℕ) → from ≤ length m.written → m.copies < 2 ^ 64 → m ≡ with_flags m (flagged m.written from from)
no_page_kept m from within small = same_flags m (flagged m.written from from) small (no_pages m.written from within)

pub nothing_kept : (m : Paged) (at n : ℕ) → n ≡ 0 → at ≤ 4096 * length m.written → m.copies < 2 ^ 64 →
    m ≡ with_flags m (marked m.written at n)
nothing_kept m at n none within small = same_flags m (marked m.written at n) small (marked_none m.written at n none within)

pub all_kept : (m : Paged) (at n : ℕ) → 1 ≤ n → n ≤ 4096 → at + n ≤ 4096 * length m.written → m.copies < 2 ^ 64 →
    is_written m.written (at / 4096) ≡ true → is_written m.written ((at + n - 1) / 4096) ≡ true → m ≡ with_flags m (marked m.written at n)
all_kept m at n some few within small first last =
    same_flags m (marked m.written at n) small
    (sym (few_marked m.written at n some few within)
    ∙ ap (λ (x : List Bool). set x ((at + n - 1) / 4096) true) (kept (at / 4096) first)
    ∙ kept ((at + n - 1) / 4096) last)
  where
    kept : (page : ℕ) → is_written m.written page ≡ true → set m.written page true ≡ m.written
    kept page is = ap (λ (f : Bool). set m.written page f) (sym is) ∙ set-get_or m.written page true

-- the pages of a range are kept one after another
pub record KeptBelow (m s : Paged) (from page : ℕ) : Type 0 where
  pub value : s ≡ with_flags m (flagged m.written from page)
  pub more : written_pages m.written ≤ written_pages s.written

pub none_below : (m : Paged) (from : ℕ) → from ≤ length m.written → m.copies < 2 ^ 64 → KeptBelow m m from from
none_below m from within small = record { value = no_page_kept m from within small; more = omega arith }

-- the page was written before
pub one_below : (m s : Paged) (from page : ℕ) → from ≤ page → page < length m.written → is_written s.written page ≡ true →
    KeptBelow m s from page → KeptBelow m s from (page + 1)
one_below m s from page ordered within flag below =
    let flags : s.written ≡ flagged m.written from page = ap (λ (q : Paged). q.written) below.value in
    let same : flagged m.written from (page + 1) ≡ flagged m.written from page =
    sym (one_more m.written from page ordered within)
    ∙ ap (λ (x : List Bool). set x page true) (sym flags)
    ∙ ap (λ (f : Bool). set s.written page f) (sym flag)
    ∙ set-get_or s.written page true
    ∙ flags in
    record { value = below.value ∙ ap (with_flags m) (sym same); more = below.more }

-- the page is kept
pub one_kept_below : (m s t : Paged) (from page : ℕ) → from ≤ page → page < length m.written → is_written s.written page ≡ false →
    t ≡ record s { written = set s.written page true; copies = (s.copies + 1) % 2 ^ 64 } → KeptBelow m s from page →
    KeptBelow m t from (page + 1)
one_kept_below m s t from page ordered within flag step below =
    let flags : s.written ≡ flagged m.written from page = ap (λ (q : Paged). q.written) below.value in
    let next : Paged → Paged = λ q. record q { written = set q.written page true; copies = (q.copies + 1) % 2 ^ 64 } in
    let with_list : List Bool → Paged =
    λ fs. record m { written = fs; copies = (m.copies + (written_pages s.written - written_pages m.written) + 1) % 2 ^ 64 } in
    let more : written_pages (set s.written page true) ≡ written_pages s.written + 1 = one_page_more s.written page flag in
    let list : set s.written page true ≡ flagged m.written from (page + 1) =
    ap (λ (x : List Bool). set x page true) flags ∙ one_more m.written from page ordered within in
    let grown : written_pages m.written ≤ written_pages s.written = below.more in
    let total : written_pages (flagged m.written from (page + 1)) ≡ written_pages s.written + 1 = sym (ap written_pages list) ∙ more in
    let count : m.copies + (written_pages s.written - written_pages m.written) + 1
    ≡ m.copies + (written_pages (flagged m.written from (page + 1)) - written_pages m.written) =
    omega arith in
    let before : s ≡ record m { written = s.written; copies = (m.copies + (written_pages s.written - written_pages m.written)) % 2 ^ 64 } =
    below.value ∙ ap (with_flags m) (sym flags) in
    let with_sum : ℕ → Paged = λ k. record m { written = set s.written page true; copies = k } in
    let with_total : ℕ → Paged = λ k. record m { written = flagged m.written from (page + 1); copies = k % 2 ^ 64 } in
    record {
      value = step ∙ ap next before
          ∙ ap with_sum (add_one_after (m.copies + (written_pages s.written - written_pages m.written)) (2 ^ 64)) ∙ ap with_list list
          ∙ ap with_total count;
      more = omega (arith, ap (λ (q : Paged). written_pages q.written) step);
    }

-- ---- the next page that was written

-- it is the first from a page on
pub record IsNext (m : Paged) (from least : ℕ) : Type 0 where
  pub here : is_written m.written least ≡ true
  pub before : AreUnwritten m.bytes m.settled m.written from least

-- the least of the listed pages is
pub next_is : (b o : List ℕ) (w t : List Bool) (p d : List ℕ) (space capacity copies from end least : ℕ) → end ≡ length w →
    IsStored b o w t p d space capacity copies → IsLeast d from end (length d) least → IsNext (seen b o w p copies) from least
next_is b o w t p d space capacity copies from end least pages is next = record {
  here = elim next.found [
    | inl none ↦ get_or_past w least true (omega (arith, none, pages))
    | inr listed ↦ All-contains (λ page. is_written w page ≡ true) d least is.only listed
  ];
  before = record {
    unwritten = unwritten;
    same = λ page low high. rules.kept.same page (unwritten page low high);
  };
}
  where
    rules : IsPaged (seen b o w p copies)
    rules = paged b o w t p d space capacity copies is

    unwritten : (page : ℕ) → from ≤ page → page < least → is_written w page ≡ false
    unwritten page low high = elim (cases_Bool (is_written w page)) [
      | inl flag ↦
          let found : Contains d page = is.listed page (omega (arith, high, next.last, pages)) flag in
          let at : get_or d found.0 0 ≡ page = get_or_default d found.0 0 page found.1 ∙ found.2 in
          absurd (omega (arith, at, high, next.below found.0 found.1 (omega (arith, at, low))))
      | inr clear ↦ clear
    ]
