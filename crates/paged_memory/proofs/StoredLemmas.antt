-- What is seen of a memory's parts: the bytes at the last settle, and the rules.
use Rattle.std.proofs.Common.{rules}
use Rattle.std.proofs.lemmas.{Bool.{true≢false, cases_eq}, List.{ext_get_or, get_or_append_left, get_or-append_right}}
use Rattle.std.proofs.lemmas.List.{length-set, length-replicate, length_push, length-append, get_or-replicate}
use Rattle.std.proofs.lemmas.List.{get_or-set_other, Elements.{Contains-append_left, Contains-push, All-push, All-nil, All-weaker}}
use Rattle.std.proofs.lemmas.List.{Sums.{count_by-le-length, sum_by-set}, Folds.sum_by-replicate, FromFn.get_or-map-range_with_len}
use Rattle.std.proofs.{lemmas.{List.FromFn.length-map-range_with_len, Grind.get_or-set_at}, Common.{◌≡◌, ℕ, ◌+◌, ◌-◌, ◌*◌, ◌/◌}}
use Rattle.std.proofs.Common.{◌%◌, ◌^◌, ◌<◌, ◌≤◌, ◌++◌, inl, inr, Bool, true, false, if◌then◌else◌, cond, List, [], ◌∷◌, length, replicate}
use Rattle.std.proofs.{Common.{take, drop, get_or, All, Contains, refl, sym, ap, ◌∙◌, subst, zero-add, add-zero, arith}, Math.ListN.set}
use Rattle.paged_memory.specs.Limits.{most_pages}
use Rattle.paged_memory.specs.{Pages.{IsPaged, page_of, is_written, written_pages, flagged, marked}, Stored.{original_byte, settled_bytes}}
use Rattle.paged_memory.specs.Stored.{seen, AreUntouched, IsStored}
use Rattle.paged_memory.specs.laws.Bytes.{length_overwritten}
use Rattle.paged_memory.proofs.PageLemmas.{byte_of_page, length-page, length_marked, other_byte}
use Rattle.paged_memory.proofs.UntouchedLemmas.{flag_inside, untouched_by_keep, untouched_by_settle, untouched_by_touch, untouched_by_write}

-- ---- the bytes at the last settle

pub settled_byte : (bytes originals : List ℕ) (written : List Bool) (places : List ℕ) (i : ℕ) → i < length bytes →
    get_or (settled_bytes bytes originals written places) i 0
    ≡ (if is_written written (i / 4096) then original_byte originals (get_or places (i / 4096) 0) i else get_or bytes i 0)
unfolding settled_bytes
settled_byte bytes originals written places i here =
    get_or-map-range_with_len
    (λ k. if is_written written (k / 4096) then original_byte originals (get_or places (k / 4096) 0) k else get_or bytes k 0) 0
    (length bytes) i i 0 here (zero-add i)

pub length-settled : (bytes originals : List ℕ) (written : List Bool) (places : List ℕ) →
    length (settled_bytes bytes originals written places) ≡ length bytes
unfolding settled_bytes
length-settled bytes originals written places =
    length-map-range_with_len
    (λ k. if is_written written (k / 4096) then original_byte originals (get_or places (k / 4096) 0) k else get_or bytes k 0) 0
    (length bytes)

-- what is stored in two ways has the same bytes at the last settle
same_settled : (b c o x : List ℕ) (w v : List Bool) (p q : List ℕ) → length c ≡ length b →
    ((i : ℕ) → i < length b →
    (if is_written v (i / 4096) then original_byte x (get_or q (i / 4096) 0) i else get_or c i 0)
    ≡ (if is_written w (i / 4096) then original_byte o (get_or p (i / 4096) 0) i else get_or b i 0)) →
    settled_bytes c x v q ≡ settled_bytes b o w p
same_settled b c o x w v p q long same =
    ext_get_or 0 _ _ (length-settled c x v q ∙ long ∙ sym (length-settled b o w p))
    (λ i here.
    let inside : i < length b = omega (arith, here, length-settled c x v q) in
    settled_byte c x v q i (omega arith) ∙ same i inside ∙ sym (settled_byte b o w p i inside))

-- each written page has its place among so many originals
abbrev pub ArePlaced : List Bool → List ℕ → ℕ → Type 0
ArePlaced w p n = (page : ℕ) → page < length w → is_written w page ≡ true → get_or p page 0 < n

-- a page that is kept before its first write
pub settled_by_keep : (b o x : List ℕ) (w : List Bool) (p : List ℕ) (n page : ℕ) → length b ≡ 4096 * length w → length o ≡ 4096 * n →
    length p ≡ length w → ArePlaced w p n → page < length w → is_written w page ≡ false → x ≡ o ++ page_of b page →
    settled_bytes b x (set w page true) (set p page n) ≡ settled_bytes b o w p
settled_by_keep b o x w p n page whole long numbered placed here none is =
    same_settled b b o x w (set w page true) p (set p page n) refl
    (λ i inside. elim (cases_eq (i / 4096) page) [ inl same ↦ in_page i same inside | inr apart ↦ elsewhere i apart inside ])
  where
    now : ℕ → Bool → ℕ → ℕ
    now i f place = if f then original_byte x place i else get_or b i 0

    before : ℕ → Bool → ℕ
    before i f = if f then original_byte o (get_or p (i / 4096) 0) i else get_or b i 0

    appended : (i : ℕ) → i / 4096 ≡ page → original_byte (o ++ page_of b page) n i ≡ get_or b i 0
    appended i same =
        let past : 4096 * n + i % 4096 - 4096 * n ≡ i % 4096 = omega arith in
        let place : 4096 * page + i % 4096 ≡ i = omega arith in
        get_or-append_right o (page_of b page) (4096 * n) (4096 * n + i % 4096) 0 long (omega arith)
        ∙ ap (λ (k : ℕ). get_or (page_of b page) k 0) past
        ∙ byte_of_page b page (i % 4096) (omega arith)
        ∙ ap (λ (k : ℕ). get_or b k 0) place

    in_page : (i : ℕ) → i / 4096 ≡ page → i < length b →
        now i (is_written (set w page true) (i / 4096)) (get_or (set p page n) (i / 4096) 0) ≡ before i (is_written w (i / 4096))
    in_page i same inside =
        let flag : is_written (set w page true) (i / 4096) ≡ true = get_or-set_at w page (i / 4096) true true same here in
        let was : is_written w (i / 4096) ≡ false = ap (λ (k : ℕ). get_or w k true) same ∙ none in
        let place : get_or (set p page n) (i / 4096) 0 ≡ n = get_or-set_at p page (i / 4096) n 0 same (omega (arith, numbered)) in
        ap (λ (f : Bool). now i f (get_or (set p page n) (i / 4096) 0)) flag
        ∙ ap (λ (k : ℕ). original_byte x k i) place
        ∙ ap (λ (xs : List ℕ). original_byte xs n i) is
        ∙ appended i same
        ∙ sym (ap (λ (f : Bool). before i f) was)

    kept : (i : ℕ) → i < length b → is_written w (i / 4096) ≡ true →
        original_byte x (get_or p (i / 4096) 0) i ≡ original_byte o (get_or p (i / 4096) 0) i
    kept i inside flag =
        let place : ℕ = get_or p (i / 4096) 0 in
        let below : place < n = placed (i / 4096) (omega (arith, inside, whole)) flag in
        ap (λ (xs : List ℕ). original_byte xs place i) is
        ∙ get_or_append_left o (page_of b page) 0 (4096 * place + i % 4096) (omega (arith, below, long))

    pick : (i : ℕ) → i < length b → (f : Bool) → is_written w (i / 4096) ≡ f → now i f (get_or p (i / 4096) 0) ≡ before i f
    pick i inside true flag = kept i inside flag
    pick i inside false flag = refl

    elsewhere : (i : ℕ) → (i / 4096 ≡ page → ⊥) → i < length b →
        now i (is_written (set w page true) (i / 4096)) (get_or (set p page n) (i / 4096) 0) ≡ before i (is_written w (i / 4096))
    elsewhere i apart inside =
        ap (λ (f : Bool). now i f (get_or (set p page n) (i / 4096) 0)) (get_or-set_other w page (i / 4096) true true apart)
        ∙ ap (λ (k : ℕ). now i (is_written w (i / 4096)) k) (get_or-set_other p page (i / 4096) n 0 apart)
        ∙ pick i inside (is_written w (i / 4096)) refl

-- a write to pages that were kept
pub settled_by_write : (b c o new : List ℕ) (w v : List Bool) (p : List ℕ) (at n : ℕ) → length new ≡ n → at + n ≤ length b →
    length b ≡ 4096 * length w → c ≡ take at b ++ (new ++ drop (at + n) b) → v ≡ marked w at n →
    settled_bytes c o v p ≡ settled_bytes b o v p
settled_by_write b c o new w v p at n long fits whole is flags =
    same_settled b c o o v v p p (ap length is ∙ length_overwritten b new at n fits long)
    (λ i inside. pick i (is_written v (i / 4096)) (other_byte b c new w v at n i long fits (omega arith) is flags))
  where
    pick : (i : ℕ) (f : Bool) → (f ≡ false → get_or c i 0 ≡ get_or b i 0) →
        (if f then original_byte o (get_or p (i / 4096) 0) i else get_or c i 0)
        ≡ (if f then original_byte o (get_or p (i / 4096) 0) i else get_or b i 0)
    pick i true same = refl
    pick i false same = same refl

-- with no page written each is its own original
pub settled_afresh : (b o : List ℕ) (w : List Bool) (p : List ℕ) (n : ℕ) → length b ≡ 4096 * n → w ≡ replicate n false →
    settled_bytes b o w p ≡ b
settled_afresh b o w p n whole none =
    ext_get_or 0 _ _ (length-settled b o w p)
    (λ i here.
    let inside : i < length b = omega (arith, here, length-settled b o w p) in
    let clear : is_written w (i / 4096) ≡ false =
    ap (λ (x : List Bool). get_or x (i / 4096) true) none ∙ get_or-replicate n (i / 4096) false true (omega arith) in
    settled_byte b o w p i inside
    ∙ ap (λ (f : Bool). if f then original_byte o (get_or p (i / 4096) 0) i else get_or b i 0) clear)

-- a byte of a page at the last settle
settled_byte_of_page : (b o : List ℕ) (w : List Bool) (p : List ℕ) (page k : ℕ) → 4096 * page + 4096 ≤ length b → k < 4096 →
    get_or (page_of (settled_bytes b o w p) page) k 0
    ≡ (if is_written w page then get_or o (4096 * get_or p page 0 + k) 0 else get_or b (4096 * page + k) 0)
settled_byte_of_page b o w p page k within small =
    let same : (4096 * page + k) / 4096 ≡ page = omega arith in
    let rest : (4096 * page + k) % 4096 ≡ k = omega arith in
    let at : ℕ → ℕ → ℕ = λ q r. if is_written w q then get_or o (4096 * get_or p q 0 + r) 0 else get_or b (4096 * page + k) 0 in
    byte_of_page (settled_bytes b o w p) page k small
    ∙ settled_byte b o w p (4096 * page + k) (omega arith)
    ∙ ap (λ (q : ℕ). at q ((4096 * page + k) % 4096)) same
    ∙ ap (λ (r : ℕ). at page r) rest

-- a written page at the last settle is the original at its place
pub page_kept : (b o : List ℕ) (w : List Bool) (p : List ℕ) (page : ℕ) → 4096 * page + 4096 ≤ length b →
    4096 * get_or p page 0 + 4096 ≤ length o → is_written w page ≡ true →
    page_of (settled_bytes b o w p) page ≡ page_of o (get_or p page 0)
page_kept b o w p page within placed flag =
    let long : length (page_of (settled_bytes b o w p) page) ≡ 4096 =
    length-page (settled_bytes b o w p) page (omega (arith, length-settled b o w p)) in
    ext_get_or 0 _ _ (long ∙ sym (length-page o (get_or p page 0) placed))
    (λ k here.
    let small : k < 4096 = omega (arith, here, long) in
    settled_byte_of_page b o w p page k within small
    ∙ ap (λ (f : Bool). if f then get_or o (4096 * get_or p page 0 + k) 0 else get_or b (4096 * page + k) 0) flag
    ∙ sym (byte_of_page o (get_or p page 0) k small))

-- another page is as it was
pub page_unkept : (b o : List ℕ) (w : List Bool) (p : List ℕ) (page : ℕ) → 4096 * page + 4096 ≤ length b → is_written w page ≡ false →
    page_of (settled_bytes b o w p) page ≡ page_of b page
page_unkept b o w p page within flag =
    let long : length (page_of (settled_bytes b o w p) page) ≡ 4096 =
    length-page (settled_bytes b o w p) page (omega (arith, length-settled b o w p)) in
    ext_get_or 0 _ _ (long ∙ sym (length-page b page within))
    (λ k here.
    let small : k < 4096 = omega (arith, here, long) in
    settled_byte_of_page b o w p page k within small
    ∙ ap (λ (f : Bool). if f then get_or o (4096 * get_or p page 0 + k) 0 else get_or b (4096 * page + k) 0) flag
    ∙ sym (byte_of_page b page k small))

-- ---- the rules

pub paged : (b o : List ℕ) (w t : List Bool) (p d : List ℕ) (space capacity copies : ℕ) → IsStored b o w t p d space capacity copies →
    IsPaged (seen b o w p copies)
paged b o w t p d space capacity copies is = record {
  whole = is.whole;
  least = is.least;
  most = is.most;
  settled = length-settled b o w p;
  kept = record {
    same = λ page none.
        let inside : page < length w = flag_inside w page none in
        let whole : length b ≡ 4096 * length w = is.whole in
        sym (page_unkept b o w p page (omega arith) none);
  };
}

-- the original of a written page has its bytes among the originals
pub original_fits : (b o : List ℕ) (w t : List Bool) (p d : List ℕ) (space capacity copies page : ℕ) →
    IsStored b o w t p d space capacity copies → page < length w → is_written w page ≡ true → 4096 * get_or p page 0 + 4096 ≤ length o
original_fits b o w t p d space capacity copies page is here flag = omega (arith, is.kept, is.placed page here flag)

-- one page more is written
pub one_page_more : (w : List Bool) (page : ℕ) → is_written w page ≡ false → written_pages (set w page true) ≡ written_pages w + 1
one_page_more w page none =
    let more : ℕ → ℕ = λ k. written_pages (set w page true) + k in
    let count : more (cond (is_written w page) 1 0) ≡ written_pages w + 1 =
    sum_by-set (λ (f : Bool). cond f 1 0) w page true true (flag_inside w page none) in
    sym (add-zero (written_pages (set w page true))) ∙ sym (ap (λ (f : Bool). more (cond f 1 0)) none) ∙ count

none_written : (n : ℕ) → written_pages (replicate n false) ≡ 0
none_written n = let all : written_pages (replicate n false) ≡ n * 0 = sum_by-replicate (λ (f : Bool). cond f 1 0) n false in omega arith

-- a page that was written stays so
still_written : (w : List Bool) (page : ℕ) → page < length w → (q : ℕ) → is_written w q ≡ true → is_written (set w page true) q ≡ true
still_written w page here q flag = elim (cases_eq q page) [
  | inl equal ↦ get_or-set_at w page q true true equal here
  | inr apart ↦ get_or-set_other w page q true true apart ∙ flag
]

stored_with : (b o x : List ℕ) (w t : List Bool) (p d : List ℕ) (space capacity space_now capacity_now copies more page : ℕ) →
    page < length w → is_written w page ≡ false → length x ≡ length o + 4096 → space ≤ space_now → capacity_now ≡ capacity →
    more < 2 ^ 64 → IsStored b o w t p d space capacity copies →
    IsStored b x (set w page true) (set t page true) (set p page (length d)) (d ++ page ∷ []) space_now capacity_now more
stored_with b o x w t p d space capacity space_now capacity_now copies more page here none long wide roomy small is =
    let same : length (set w page true) ≡ length w = length-set w page true in
    let whole : length b ≡ 4096 * length w = is.whole in
    let least : 1 ≤ length w = is.least in
    let most : length w ≤ most_pages = is.most in
    let room : length w ≤ capacity = is.room in
    let region : 4096 * length w ≤ space = is.region in
    let numbered : length p ≡ length w = is.numbered in
    let flagged : length t ≡ length w = is.flagged in
    let pushed : length (d ++ page ∷ []) ≡ length d + 1 = length_push d page in
    let Below : ℕ → Type 0 = λ n. All (λ q. q < n) (d ++ page ∷ []) in
    record {
      whole = omega arith;
      least = omega arith;
      most = omega arith;
      kept = omega (arith, long, is.kept, pushed);
      numbered = length-set p page (length d) ∙ numbered ∙ sym same;
      placed = λ q inside flag. elim (cases_eq q page) [
        | inl equal ↦ omega (arith, pushed, get_or-set_at p page q (length d) 0 equal (omega arith))
        | inr apart ↦ omega (
          arith,
          pushed,
          get_or-set_other p page q (length d) 0 apart,
          is.placed q (omega arith) (sym (get_or-set_other w page q true true apart) ∙ flag),
        )
      ];
      listed = λ q inside flag. elim (cases_eq q page) [
        | inl equal ↦ let Has : ℕ → Type 0 = λ k. Contains (d ++ page ∷ []) k in subst Has (sym equal) (Contains-push d page)
        | inr apart ↦
            Contains-append_left d (page ∷ []) q (is.listed q (omega arith) (sym (get_or-set_other w page q true true apart) ∙ flag))
      ];
      inside = subst Below (sym same) (All-push (λ q. q < length w) d page is.inside here);
      only = All-push (λ q. is_written (set w page true) q ≡ true) d page
          (All-weaker (λ q. is_written w q ≡ true) (λ q. is_written (set w page true) q ≡ true) (still_written w page here) d is.only)
          (get_or-set_at w page page true true refl here);
      count = pushed ∙ ap (λ (k : ℕ). k + 1) is.count ∙ sym (one_page_more w page none);
      region = omega arith;
      room = omega arith;
      small = small;
      flagged = length-set t page true ∙ flagged ∙ sym same;
      untouched = untouched_by_keep b w t page (omega arith) is.untouched;
    }

pub stored_by_keep : (b o x : List ℕ) (w t : List Bool) (p q d e : List ℕ) (space capacity space_now capacity_now copies more page : ℕ) →
    page < length w → is_written w page ≡ false → x ≡ o ++ page_of b page → q ≡ set p page (length d) → e ≡ d ++ page ∷ [] →
    space ≤ space_now → capacity_now ≡ capacity → more < 2 ^ 64 → IsStored b o w t p d space capacity copies →
    IsStored b x (set w page true) (set t page true) q e space_now capacity_now more
stored_by_keep b o x w t p q d e space capacity space_now capacity_now copies more page here none appended put pushed wide roomy small is =
    let Listed : List ℕ → Type 0 = λ xs. IsStored b x (set w page true) (set t page true) (set p page (length d)) xs space_now capacity_now
    more in
    let Placed : List ℕ → Type 0 = λ xs. IsStored b x (set w page true) (set t page true) xs e space_now capacity_now more in
    let long : length x ≡ length o + 4096 =
    ap length appended ∙ length-append o (page_of b page)
    ∙ ap (λ (k : ℕ). length o + k) (length-page b page (omega (arith, is.whole, here))) in
    subst Placed (sym put)
    (subst Listed (sym pushed)
    (stored_with b o x w t p d space capacity space_now capacity_now copies more page here none long wide roomy small is))

pub stored_by_write : (b c o : List ℕ) (w t : List Bool) (p d : List ℕ) (space capacity copies : ℕ) → length c ≡ length b →
    ((i : ℕ) → is_written w (i / 4096) ≡ false → get_or c i 0 ≡ get_or b i 0) → IsStored b o w t p d space capacity copies → IsStored c o w
    t p d space capacity copies
stored_by_write b c o w t p d space capacity copies long same is =
    let whole : length c ≡ 4096 * length w = long ∙ is.whole in
    let untouched : AreUntouched c w t = untouched_by_write b c w t same is.untouched in
    search rules

-- bytes change, and their pages get the flag that says so, but aren't kept
pub stored_by_touch : (b c o new : List ℕ) (w t u : List Bool) (p d : List ℕ) (space capacity copies at n : ℕ) → 1 ≤ n → length new ≡ n →
    at + n ≤ length b → c ≡ take at b ++ (new ++ drop (at + n) b) → u ≡ marked t at n → IsStored b o w t p d space capacity copies →
    IsStored c o w u p d space capacity copies
stored_by_touch b c o new w t u p d space capacity copies at n some long fits put flags is =
    let whole : length b ≡ 4096 * length t = omega (arith, is.whole, is.flagged) in
    record {
      whole = ap length put ∙ length_overwritten b new at n fits long ∙ is.whole;
      least = is.least;
      most = is.most;
      kept = is.kept;
      numbered = is.numbered;
      placed = is.placed;
      listed = is.listed;
      inside = is.inside;
      only = is.only;
      count = is.count;
      region = is.region;
      room = is.room;
      small = is.small;
      flagged = ap length flags ∙ length_marked t at n (omega arith) ∙ is.flagged;
      untouched = untouched_by_touch b c new w t u at n some long fits (omega arith) put flags is.untouched;
    }

-- nothing is written yet
pub stored_afresh : (b o : List ℕ) (w t : List Bool) (p d : List ℕ) (n space capacity copies : ℕ) → length b ≡ 4096 * n → 1 ≤ n →
    n ≤ most_pages → o ≡ [] → w ≡ replicate n false → length p ≡ n → d ≡ [] → 4096 * n ≤ space → n ≤ capacity → copies < 2 ^ 64 →
    length t ≡ n → AreUntouched b w t → IsStored b o w t p d space capacity copies
stored_afresh b o w t p d n space capacity copies whole least most bare flags numbered empty wide room small flagged untouched =
    let count : length w ≡ n = ap length flags ∙ length-replicate n false in
    record {
      whole = omega arith;
      least = omega arith;
      most = omega arith;
      kept = ap length bare ∙ sym (ap (λ (xs : List ℕ). 4096 * length xs) empty);
      numbered = omega arith;
      placed = λ page inside flag. absurd (unmarked page (omega arith) flag);
      listed = λ page inside flag. absurd (unmarked page (omega arith) flag);
      inside = let Fits : List ℕ → Type 0 = λ xs. All (λ page. page < length w) xs in
          subst Fits (sym empty) (All-nil (λ page. page < length w));
      only = let Has : List ℕ → Type 0 = λ xs. All (λ page. is_written w page ≡ true) xs in
          subst Has (sym empty) (All-nil (λ page. is_written w page ≡ true));
      count = ap length empty ∙ sym (ap written_pages flags ∙ none_written n);
      region = omega arith;
      room = omega arith;
      small = small;
      flagged = flagged ∙ sym count;
      untouched = untouched;
    }
  where
    unmarked : (page : ℕ) → page < n → is_written w page ≡ true → ⊥
    unmarked page inside flag =
        true≢false (sym flag ∙ ap (λ (x : List Bool). get_or x page true) flags ∙ get_or-replicate n page false true inside)

-- not all pages are listed where one isn't written
one_unlisted : (b o : List ℕ) (w t : List Bool) (p d : List ℕ) (space capacity copies page : ℕ) → is_written w page ≡ false →
    IsStored b o w t p d space capacity copies → length d < length w
one_unlisted b o w t p d space capacity copies page none is =
    omega (
      arith,
      one_page_more w page none,
      count_by-le-length (λ (f : Bool). f) (set w page true),
      length-set w page true,
      is.count,
    )

-- then the list has room for one more, and so have the originals
pub room_for_one : (b o : List ℕ) (w t : List Bool) (p d : List ℕ) (space capacity copies page : ℕ) → is_written w page ≡ false →
    IsStored b o w t p d space capacity copies → length d < capacity
room_for_one b o w t p d space capacity copies page none is =
    omega (arith, one_unlisted b o w t p d space capacity copies page none is, is.room)

pub room_for_original : (b o : List ℕ) (w t : List Bool) (p d : List ℕ) (space capacity copies page : ℕ) → is_written w page ≡ false →
    IsStored b o w t p d space capacity copies → length o + 4096 ≤ space
room_for_original b o w t p d space capacity copies page none is =
    omega (arith, one_unlisted b o w t p d space capacity copies page none is, is.kept, is.region)

-- the flags, the list and the originals are cleared
pub stored_by_settle : (b o x : List ℕ) (w v t : List Bool) (p d e : List ℕ) (space capacity space_now capacity_now copies : ℕ) →
    v ≡ replicate (length w) false → e ≡ [] → x ≡ [] → space ≤ space_now → capacity_now ≡ capacity →
    IsStored b o w t p d space capacity copies → IsStored b x v t p e space_now capacity_now copies
stored_by_settle b o x w v t p d e space capacity space_now capacity_now copies none empty bare wide roomy is =
    stored_afresh b x v t p e (length w) space_now capacity_now copies is.whole is.least is.most bare none is.numbered empty
    (omega (arith, is.region)) (omega (arith, is.room)) is.small is.flagged (untouched_by_settle b w v t none is.flagged is.untouched)
