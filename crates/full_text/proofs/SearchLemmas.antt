-- Pages that are searched for: they are found in turn, they are those of a cut over zeros, and what is kept of memory leaves them as they are.
use Rattle.std.proofs.Common.{◌≡◌, ℕ, zero, suc, ◌+◌, ◌-◌, ◌*◌, ◌/◌, ◌^◌, ◌<◌, ◌≤◌, ◌==◌, ◌++◌, ◌∷◌, [], not, Bool, true, false, cond, List, Option, None}
use Rattle.std.proofs.Common.{length, take, refl, sym, ap, ◌∙◌, arith, subst, length-append, All, ◌⊎◌, inl, inr}
use Rattle.std.proofs.lemmas.Bool.{cases_lt}
use Rattle.std.proofs.lemmas.List.{append-nil, drop_all, take_all, FromFn.filter_of_map_range_with_len_more}
use Rattle.std.proofs.lemmas.List.Elements.{All-append, All-cons, All-head, All-nil, All-tail}
use Rattle.std.proofs.lemmas.List.Sums.{sum_by-cons}
use Rattle.std.proofs.lemmas.Nat.{ones-le}
use Rattle.std.specs.Prelude.{slice_index_or}
use Rattle.guest_rules.specs.Guest.{State}
use Rattle.guest_rules.specs.Pages.{page_of}
use Rattle.guest_rules.specs.declared.shapes.Shape.{Shape}
use Rattle.epoch_snapshot.specs.declared.changes.PageChange.{PageChange}
use Rattle.epoch_snapshot.specs.Blocks.{IsPageIn, changed_mask}
use Rattle.epoch_snapshot.specs.Cuts.{changed_pages, is_changed}
use Rattle.checkpoint_stream.specs.HeadTable.{bytes_of}
use Rattle.checkpoint_stream.specs.declared.rules.Width.TheVariants.{Four}
use Rattle.full_text.specs.Full.{AreIn, IsMost, IsSameIn, Searching, SearchFits, found_of, kept_or, most, most_record, page_at, page_records, record_size, records_size, whole, zeros}
use Rattle.full_text.specs.UsedPages.{used_mask, used_page, used_pages}
use Rattle.full_text.proofs.FullLemmas.{four-bytes, full-size}
use Rattle.full_text.proofs.RecordLemmas.{OnesAreNamed, OwnAreRecorded}
use Rattle.full_text.proofs.ZeroBlocks.{mask-whole, zero-mask}

unless : (b : Bool) (ps : List PageChange) → cond (not b) ps [] ≡ cond b [] ps
unless true ps = refl
unless false ps = refl

used-more : (f : ℕ → List ℕ) (n : ℕ) → used_pages f (n + 1) ≡ used_pages f n ++ cond (is_changed (used_page f n)) (used_page f n ∷ []) []
unfolding used_pages
used-more f n = let e : 0 + n ≡ n = omega arith in filter_of_map_range_with_len_more is_changed (used_page f) 0 n n e

-- one page more is found where its mask isn't 0
pub used-next : (f : ℕ → List ℕ) (n mask : ℕ) → mask ≡ used_mask (f n) 64
    → used_pages f (n + 1) ≡ used_pages f n ++ cond (mask == 0) [] (record { page = n; mask = mask } ∷ [])
used-next f n mask e =
    used-more f n
    ∙ ap (λ k. used_pages f n ++ cond (not (k == 0)) (record { page = n; mask = k } ∷ []) []) (sym e)
    ∙ ap (λ ps. used_pages f n ++ ps) (unless (mask == 0) (record { page = n; mask = mask } ∷ []))

-- one that is all zero isn't
pub used-skip : (f : ℕ → List ℕ) (n : ℕ) → All (λ (b : ℕ). b ≡ 0) (f n) → used_pages f (n + 1) ≡ used_pages f n
used-skip f n all = used-next f n 0 (zero-mask (f n) all) ∙ append-nil (used_pages f n)

pub used-none : (f : ℕ → List ℕ) → used_pages f 0 ≡ []
unfolding used_pages
used-none f = refl

changed-none : (old new : List ℕ) → changed_pages old new 0 ≡ []
unfolding changed_pages
changed-none old new = refl

-- what is found so far, with one page more
pub found-next : (f : ℕ → List ℕ) (n next mask : ℕ) (before after : List PageChange) → mask ≡ used_mask (f n) 64 → before ≡ used_pages f n
    → after ≡ before ++ cond (mask == 0) [] (record { page = n; mask = mask } ∷ []) → n + 1 ≡ next → after ≡ used_pages f next
found-next f n next mask before after is so_far put end =
    put ∙ ap (λ l. l ++ cond (mask == 0) [] (record { page = n; mask = mask } ∷ [])) so_far ∙ sym (used-next f n mask is)
    ∙ ap (used_pages f) end

-- ---- where nothing is kept, they are those of a cut over zeros

abbrev pub ChangesAreFound : Type 0
ChangesAreFound = (old new : List ℕ) (n mask : ℕ) → mask ≡ changed_mask old new n
    → changed_pages old new (n + 1) ≡ changed_pages old new n ++ cond (mask == 0) [] (record { page = n; mask = mask } ∷ [])

pub used-changed : ((ram : List ℕ) (page : ℕ) → IsPageIn ram page (page_of ram page)) → ChangesAreFound → (ram : List ℕ) (n : ℕ)
    → 4096 * n ≤ length ram → used_pages (page_at ram []) n ≡ changed_pages (zeros ram) ram n
used-changed own next ram zero within = used-none (page_at ram []) ∙ sym (changed-none (zeros ram) ram)
used-changed own next ram (suc n) within =
    let f = page_at ram [] in
    let mask = used_mask (page_of ram n) 64 in
    let more : n + 1 ≡ suc n = omega arith in
    let one = λ (l : List PageChange). l ++ cond (mask == 0) [] (record { page = n; mask = mask } ∷ []) in
    sym (ap (used_pages f) more)
    ∙ used-next f n mask refl
    ∙ ap one (used-changed own next ram n (omega (arith, within)))
    ∙ sym (next (zeros ram) ram n mask (mask-whole own ram n (omega (arith, within)) (page_of ram n) 64 mask refl refl refl))
    ∙ ap (changed_pages (zeros ram) ram) more

pub found-changed : (ram : List ℕ) (n : ℕ) (kept : List (Option (List ℕ))) → kept ≡ []
    → ((ram : List ℕ) (page : ℕ) → IsPageIn ram page (page_of ram page)) → ChangesAreFound → length ram ≡ 4096 * n
    → used_pages (page_at ram kept) n ≡ changed_pages (zeros ram) ram n
found-changed ram n kept none own next size =
    ap (λ (k : List (Option (List ℕ))). used_pages (page_at ram k) n) none ∙ used-changed own next ram n (omega (arith, size))

-- ---- how many there are, and where

few-more : (b : Bool) (p : PageChange) (ps : List PageChange) (n : ℕ) → length ps ≤ n → length (ps ++ cond b [] (p ∷ [])) ≤ n + 1
few-more true p ps n few = omega (arith, few, length-append ps [])
few-more false p ps n few = omega (arith, few, length-append ps (p ∷ []))

pub used-few : (f : ℕ → List ℕ) (n : ℕ) → length (used_pages f n) ≤ n
used-few f zero = omega (arith, ap (λ (l : List PageChange). length l) (used-none f))
used-few f (suc n) =
    let mask = used_mask (f n) 64 in
    let more : n + 1 ≡ suc n = omega arith in
    subst (λ k. length (used_pages f k) ≤ k) more
    (subst (λ (l : List PageChange). length l ≤ n + 1) (sym (used-next f n mask refl))
    (few-more (mask == 0) (record { page = n; mask = mask }) (used_pages f n) n (used-few f n)))

in-more : (b : Bool) (bytes : ℕ) (p : PageChange) (ps : List PageChange) → 4096 * p.page + 4096 ≤ bytes → AreIn bytes ps
    → AreIn bytes (ps ++ cond b [] (p ∷ []))
in-more true bytes p ps here all = All-append (λ (q : PageChange). 4096 * q.page + 4096 ≤ bytes) ps [] all (All-nil (λ (q : PageChange). 4096 * q.page + 4096 ≤ bytes))
in-more false bytes p ps here all =
    let In = λ (q : PageChange). 4096 * q.page + 4096 ≤ bytes in
    All-append In ps (p ∷ []) all (All-cons In p [] here (All-nil In))

pub used-in : (f : ℕ → List ℕ) (n bytes : ℕ) → 4096 * n ≤ bytes → AreIn bytes (used_pages f n)
used-in f zero bytes within = subst (AreIn bytes) (sym (used-none f)) (All-nil (λ (q : PageChange). 4096 * q.page + 4096 ≤ bytes))
used-in f (suc n) bytes within =
    let mask = used_mask (f n) 64 in
    let more : n + 1 ≡ suc n = omega arith in
    subst (λ k. AreIn bytes (used_pages f k)) more
    (subst (AreIn bytes) (sym (used-next f n mask refl))
    (in-more (mask == 0) bytes (record { page = n; mask = mask }) (used_pages f n) (omega (arith, within)) (used-in f n bytes (omega (arith, within)))))

-- the records of so many pages
pub sizes-most : (ps : List PageChange) → All (λ (p : PageChange). p.mask < 2 ^ 64) ps → records_size ps ≤ most_record * length ps
sizes-most [] fits = omega arith
sizes-most (p ∷ ps) fits =
    omega (
      arith,
      sum_by-cons record_size p ps,
      ones-le 64 p.mask (All-head (λ (p : PageChange). p.mask < 2 ^ 64) p ps fits),
      sizes-most ps (All-tail (λ (p : PageChange). p.mask < 2 ^ 64) p ps fits),
    )

-- ---- what is kept of memory

take-none : (n : ℕ) → take {A = ℕ} n [] ≡ []
take-none n = take_all n [] (omega arith)

-- behind its last page a memory has nothing
beyond : (ram : List ℕ) (q : ℕ) → length ram ≤ 4096 * q → page_of ram q ≡ []
beyond ram q past =
    let size = (4096 * q + 4096) - 4096 * q in
    ap (take {A = ℕ} size) (drop_all (4096 * q) ram past) ∙ take-none size

pub same-beyond : (m : State) (kept : List (Option (List ℕ))) (n : ℕ) → length m.guest.ram ≡ 4096 * n → length m.settled ≡ 4096 * n
    → ((q : ℕ) → q < n → IsSameIn m kept q) → (q : ℕ) → IsSameIn m kept q
same-beyond m kept n long settled same q = by_order (cases_lt q n)
  where
    by_order : (q < n) ⊎ (n ≤ q) → IsSameIn m kept q
    by_order (inl below) = same q below
    by_order (inr past) =
        ap (λ (p : List ℕ). kept_or p (slice_index_or kept q None))
        (beyond m.guest.ram q (omega (arith, past, long)) ∙ sym (beyond m.settled q (omega (arith, past, settled))))

-- a text is the same of pages that have the same
pub found-same : (ram settled : List ℕ) (head tail : List ℕ) (found other : List PageChange) (looked seen pages : ℕ) (kept before : List (Option (List ℕ)))
    → ((q : ℕ) → page_at ram kept q ≡ page_at settled before q)
    → whole ram (found_of ram (record { head = head; found = found; looked = looked; pages = pages; kept = kept; tail = tail }))
    ≡ whole settled (found_of settled (record { head = head; found = other; looked = seen; pages = pages; kept = before; tail = tail }))
found-same ram settled head tail found other looked seen pages kept before same =
    let of = λ (f : ℕ → List ℕ). (head ++ bytes_of Four (length (used_pages f pages))) ++ (page_records f (used_pages f pages) ++ tail) in
    λ i. of (λ q. same q i)

pub fits-same : (ram settled : List ℕ) (s t : Searching) → t.found ≡ s.found → t.looked ≡ s.looked → t.pages ≡ s.pages
    → ((q : ℕ) → page_at settled t.kept q ≡ page_at ram s.kept q) → length settled ≡ length ram → SearchFits ram s → SearchFits settled t
fits-same ram settled s t found looked pages same long fits = record {
  found = found ∙ fits.found ∙ (λ i. used_pages (λ q. sym (same q) i) (sym looked i));
  size = long ∙ fits.size ∙ ap (λ n. 4096 * n) (sym pages);
}

-- the count stands behind the head
pub found-made : (ram : List ℕ) (s : Searching) → length (found_of ram s).made ≡ length s.head + 4
found-made ram s =
    let count = length (used_pages (page_at ram s.kept) s.pages) in
    omega (arith, length-append s.head (bytes_of Four count), four-bytes count)

-- the text of a full checkpoint is shorter than told by what the records have less
module _ (ones : OnesAreNamed) (own : OwnAreRecorded) (shape : Shape) (m : State) (g : ℕ) (s : Searching) (kept : s.kept ≡ [])
    (size : length m.guest.ram ≡ 4096 * s.pages)
    (pages : (found_of m.guest.ram s).pages ≡ changed_pages (zeros m.guest.ram) m.guest.ram shape.pages)
    (masks : All (λ (p : PageChange). p.mask < 2 ^ 64) (changed_pages (zeros m.guest.ram) m.guest.ram shape.pages))
    (within : AreIn (length m.guest.ram) (found_of m.guest.ram s).pages) where
  found-size : length (whole m.guest.ram (found_of m.guest.ram s))
      ≡ length s.head + 4 + (records_size (found_of m.guest.ram s).pages + length s.tail)
  found-size =
      full-size ones own shape m g (found_of m.guest.ram s) kept pages masks within
      ∙ ap (λ n. n + (records_size (found_of m.guest.ram s).pages + length s.tail)) (found-made m.guest.ram s)

  pub most-is : IsMost (most s) (whole m.guest.ram (found_of m.guest.ram s)) m.guest.ram
  most-is =
      let ram = m.guest.ram in
      let f = found_of ram s in
      let fits = subst (All (λ (p : PageChange). p.mask < 2 ^ 64)) (sym pages) masks in
      let n : length ram / 4096 ≡ s.pages = omega (arith, size) in
      let same : records_size (used_pages (page_at ram []) (length ram / 4096)) ≡ records_size f.pages =
      λ i. records_size (used_pages (page_at ram (sym kept i)) (n i)) in
      (omega (arith, found-size, sizes-most f.pages fits, used-few (page_at ram s.kept) s.pages), omega (arith, found-size, same, n))
