-- Pages of a memory, as the list of its bytes.
use Rattle.std.proofs.lemmas.{Simd.map-map, List.{take-replicate, drop-replicate, take-take, drop-drop, drop-take, map-append, map-id}}
use Rattle.std.proofs.lemmas.List.{append-nil, append_assoc, length_push, FromFn.filter_of_map_range_with_len_more, Elements.filter-append}
use Rattle.std.proofs.{lemmas.{Bool.{eq-eqb, ne_eqb, true≢false}, Nat.Bits.bit_at-zero}, Common.{◌≡◌, ℕ, zero, suc, ◌+◌, ◌-◌, ◌*◌, ◌^◌}}
use Rattle.std.proofs.Common.{◌<◌, ◌≤◌, ◌==◌, ◌||◌, not, lit<, Bool, true, false, cond, List, [], ◌∷◌, ◌++◌, length, take, drop, replicate}
use Rattle.std.proofs.Common.{map, refl, sym, ap, ◌∙◌, arith, subst, length-append}
use Rattle.std.specs.{Prelude.{slice_range, ◌↔◌, IsTrue}, List.{range_with_len, filter}, Int.bit_at}
use Rattle.guest_rules.specs.Pages.{AreUnwritten, page_of}
use Rattle.epoch_snapshot.specs.{declared.changes.PageChange.PageChange, Blocks.{set_blocks, block_numbers, xored, differ, block_in}}
use Rattle.epoch_snapshot.specs.{Blocks.changed_mask, Cuts.{page_change, is_changed, changed_pages, block_change, changed_blocks}}
use Rattle.epoch_snapshot.specs.laws.{Masks.mask_from_bits, Ranges.range-append}

-- a block of a page is a block of memory
pub block_in-page : (ram : List ℕ) (page i : ℕ) → i < 64 → block_in (slice_range ram (4096 * page) (4096 * page + 4096)) i ≡
    block_in ram (64 * page + i)
block_in-page ram page i below =
    let width : (4096 * page + 4096) - 4096 * page ≡ 64 * i + (4096 - 64 * i) = omega arith in
    let at : 4096 * page + 64 * i ≡ 64 * (64 * page + i) = omega arith in
    ap (λ n. take 64 (drop (64 * i) (take n (drop (4096 * page) ram)))) width
    ∙ ap (take 64) (drop-take (64 * i) (4096 - 64 * i) (drop (4096 * page) ram))
    ∙ take-take 64 (4096 - 64 * i) (drop (64 * i) (drop (4096 * page) ram)) (omega arith)
    ∙ ap (take 64) (drop-drop (64 * i) (4096 * page) ram ∙ ap (λ n. drop n ram) at)

-- so is a block of zeros
pub zero_block : (m n : ℕ) → 64 * n + 64 ≤ m → block_in (replicate m 0) n ≡ replicate 64 0
zero_block m n within = ap (take {A = ℕ} 64) (drop-replicate (64 * n) m 0) ∙ take-replicate 64 (m - 64 * n) 0 (omega arith)

differ-self : (xs : List ℕ) → differ xs xs ≡ false
differ-self [] = refl
differ-self (x ∷ xs) = ap (λ b. not b || differ xs xs) (eq-eqb x x refl) ∙ differ-self xs

-- a page that is the same has no blocks that differ
pub mask-same : (old new : List ℕ) (page : ℕ) → slice_range new (4096 * page) (4096 * page + 4096) ≡
    slice_range old (4096 * page) (4096 * page + 4096) → 0 ≡ changed_mask old new page
mask-same old new page same =
    mask_from_bits old new page 0 (lit< tt)
    (λ i below.
    let e : block_in old (64 * page + i) ≡ block_in new (64 * page + i)
    = sym (block_in-page old page i below) ∙ ap (λ p. block_in p i) (sym same) ∙ block_in-page new page i below in
    bit_at-zero i ∙ sym (ap (λ b. cond b 1 0) (ap (differ (block_in old (64 * page + i))) (sym e)
    ∙ differ-self (block_in old (64 * page + i)))))

bit_from : (b : Bool) (n : ℕ) → n < 2 → (n ≡ 1) ↔ IsTrue b → n ≡ cond b 1 0
bit_from true n small h = h.1 refl
bit_from false zero small h = refl
bit_from false (suc zero) small h = absurd (true≢false (sym (h.0 refl)))
bit_from false (suc (suc n)) small h = absurd (omega arith)

-- the mask of two pages whose blocks are those of two memories
pub mask-pages : (old new : List ℕ) (page m : ℕ) (p q : List ℕ) → m < 2 ^ 64 →
    ((i : ℕ) → i < 64 → block_in p i ≡ block_in old (64 * page + i)) → ((i : ℕ) → i < 64 → block_in q i ≡ block_in new (64 * page + i)) →
    ((i : ℕ) → i < 64 → (bit_at m i ≡ 1) ↔ IsTrue (differ (block_in p i) (block_in q i))) → m ≡ changed_mask old new page
mask-pages old new page m p q fits olds news bits =
    mask_from_bits old new page m fits
    (λ i below.
    bit_from (differ (block_in p i) (block_in q i)) (bit_at m i) (omega arith) (bits i below)
    ∙ (λ k. cond (differ (olds i below k) (news i below k)) 1 0))

-- ---- one page more

pub changed_pages-more : (old new : List ℕ) (n : ℕ) → changed_pages old new (n + 1) ≡
    changed_pages old new n ++ cond (is_changed (page_change old new n)) (page_change old new n ∷ []) []
unfolding changed_pages
changed_pages-more old new n = let e : 0 + n ≡ n = omega arith in filter_of_map_range_with_len_more is_changed (page_change old new) 0 n n e

unless : (b : Bool) (ps : List PageChange) → cond (not b) ps [] ≡ cond b [] ps
unless true ps = refl
unless false ps = refl

pub changed_pages-next : (old new : List ℕ) (n m : ℕ) → m ≡ changed_mask old new n →
    changed_pages old new (n + 1) ≡ changed_pages old new n ++ cond (m == 0) [] (record { page = n; mask = m } ∷ [])
changed_pages-next old new n m e =
    changed_pages-more old new n
    ∙ ap (λ k. changed_pages old new n ++ cond (not (k == 0)) (record { page = n; mask = k } ∷ []) []) (sym e)
    ∙ ap (λ ps. changed_pages old new n ++ ps) (unless (m == 0) (record { page = n; mask = m } ∷ []))

-- one that changes is added, and one that doesn't isn't
pub changed_pages-push : (old new : List ℕ) (n m : ℕ) → m ≡ changed_mask old new n → (m ≡ 0 → ⊥) →
    changed_pages old new (n + 1) ≡ changed_pages old new n ++ record { page = n; mask = m } ∷ []
changed_pages-push old new n m e some =
    changed_pages-next old new n m e
    ∙ ap (λ b. changed_pages old new n ++ cond b [] (record { page = n; mask = m } ∷ [])) (ne_eqb m 0 some)

pub changed_pages-skip : (old new : List ℕ) (n m : ℕ) → m ≡ changed_mask old new n → m ≡ 0 →
    changed_pages old new (n + 1) ≡ changed_pages old new n
changed_pages-skip old new n m e none =
    changed_pages-next old new n m e
    ∙ ap (λ b. changed_pages old new n ++ cond b [] (record { page = n; mask = m } ∷ [])) (eq-eqb m 0 none)
    ∙ append-nil (changed_pages old new n)

-- a page that is the same isn't added
pub changed_pages-same : (old new : List ℕ) (n : ℕ) → slice_range new (4096 * n) (4096 * n + 4096) ≡
    slice_range old (4096 * n) (4096 * n + 4096) → changed_pages old new (n + 1) ≡ changed_pages old new n
changed_pages-same old new n same = changed_pages-skip old new n 0 (mask-same old new n same) refl

-- pages that are the same add none
same_pages : (old new : List ℕ) (from n : ℕ) →
    ((page : ℕ) → from ≤ page → page < from + n → page_of new page ≡ page_of old page) →
    changed_pages old new (from + n) ≡ changed_pages old new from
same_pages old new from zero same = let none : from + zero ≡ from = omega arith in ap (changed_pages old new) none
same_pages old new from (suc n) same =
    let last : from + suc n ≡ (from + n) + 1 = omega arith in
    ap (changed_pages old new) last
    ∙ changed_pages-same old new (from + n) (same (from + n) (omega arith) (omega arith))
    ∙ same_pages old new from n (λ page low high. same page low (omega (arith, high)))

pub changed_pages-same_between : (old new : List ℕ) (flags : List Bool) (from end last : ℕ) → from ≤ last → last ≤ end →
    AreUnwritten new old flags from end → changed_pages old new last ≡ changed_pages old new from
changed_pages-same_between old new flags from end last first below unwritten =
    let sum : from + (last - from) ≡ last = omega arith in
    ap (changed_pages old new) (sym sum)
    ∙ same_pages old new from (last - from) (λ page low high. unwritten.same page low (omega (arith, high, sum, below)))

pub no_pages : (old new : List ℕ) → [] ≡ changed_pages old new 0
unfolding changed_pages
no_pages old new = refl

-- what a test keeps of fewer numbers is no more
pub length-fewer : {X : Type 0} (p : X → Bool) (f : ℕ → X) (n m : ℕ) → n ≤ m →
    length (filter p (map f (range_with_len 0 n))) ≤ length (filter p (map f (range_with_len 0 m)))
length-fewer p f n m less =
    let e : n + (m - n) ≡ m = omega arith in
    let all : filter p (map f (range_with_len 0 m)) ≡ filter p (map f (range_with_len 0 n)) ++ filter p
    (map f (range_with_len (0 + n) (m - n)))
    = ap (λ k. filter p (map f (range_with_len 0 k))) (sym e)
    ∙ ap (λ l. filter p (map f l)) (range-append 0 n (m - n))
    ∙ ap (filter p) (map-append f (range_with_len 0 n) (range_with_len (0 + n) (m - n)))
    ∙ filter-append p (map f (range_with_len 0 n)) (map f (range_with_len (0 + n) (m - n))) in
    omega (arith, ap length all, length-append (filter p (map f (range_with_len 0 n))) (filter p (map f (range_with_len (0 + n) (m - n)))))

pub fewer_range : (p : ℕ → Bool) (n m : ℕ) → n ≤ m → length (filter p (range_with_len 0 n)) ≤ length (filter p (range_with_len 0 m))
fewer_range p n m less =
    let F : List ℕ → List ℕ → Type 0 = λ xs ys. length (filter p xs) ≤ length (filter p ys) in
    let h : F (map (λ (i : ℕ). i) (range_with_len 0 n)) (map (λ (i : ℕ). i) (range_with_len 0 m)) = length-fewer p (λ i. i) n m less in
    subst (λ (xs : List ℕ). F xs (range_with_len 0 m)) (map-id (range_with_len 0 n))
    (subst (λ (ys : List ℕ). F (map (λ (i : ℕ). i) (range_with_len 0 n)) ys) (map-id (range_with_len 0 m)) h)

-- ---- the blocks of a page

pub filter_last : (p : ℕ → Bool) (n : ℕ) → filter p (range_with_len 0 (n + 1)) ≡ filter p (range_with_len 0 n) ++ cond (p n) (n ∷ []) []
filter_last p n =
    let e : 0 + n ≡ n = omega arith in
    ap (filter p) (range-append 0 n 1)
    ∙ filter-append p (range_with_len 0 n) (range_with_len (0 + n) 1)
    ∙ ap (λ k. filter p (range_with_len 0 n) ++ filter p (range_with_len k 1)) e

-- one block more is named
pub blocks-push : (f : ℕ → List ℕ) (m n : ℕ) (xs ys : List (List ℕ)) (b : List ℕ) → bit_at m n ≡ 1 → b ≡ f n →
    ys ≡ xs ++ map f (filter (λ i. bit_at m i == 1) (range_with_len 0 n)) →
    ys ++ b ∷ [] ≡ xs ++ map f (filter (λ i. bit_at m i == 1) (range_with_len 0 (n + 1)))
blocks-push f m n xs ys b set e so_far =
    (λ k. so_far k ++ e k ∷ [])
    ∙ append_assoc xs (map f (filter (λ i. bit_at m i == 1) (range_with_len 0 n))) (f n ∷ [])
    ∙ ap (λ l. xs ++ l)
    (sym (map-append f (filter (λ i. bit_at m i == 1) (range_with_len 0 n)) (n ∷ []))
    ∙ ap (λ c. map f (filter (λ i. bit_at m i == 1) (range_with_len 0 n) ++ cond c (n ∷ []) [])) (sym (eq-eqb (bit_at m n) 1 set))
    ∙ ap (map f) (sym (filter_last (λ i. bit_at m i == 1) n)))

-- a mask that names block n names at least one more than those below it
pub fewer_blocks : (m n : ℕ) → n < 64 → bit_at m n ≡ 1 → length (filter (λ i. bit_at m i == 1) (range_with_len 0 n)) < length (set_blocks m)
unfolding set_blocks
fewer_blocks m n below set =
    let last = filter_last (λ i. bit_at m i == 1) n ∙ ap (λ c. filter (λ i. bit_at m i == 1) (range_with_len 0 n) ++ cond c (n ∷ []) [])
    (eq-eqb (bit_at m n) 1 set) in
    let more = ap length last ∙ length_push (filter (λ i. bit_at m i == 1) (range_with_len 0 n)) n in
    let all = fewer_range (λ i. bit_at m i == 1) (n + 1) 64 (omega arith) in
    omega (arith, more, all)

-- ---- the blocks of several pages

agree_by : (f g : ℕ → List ℕ) (b : Bool) (i : ℕ) (is : List ℕ) → f i ≡ g i → map f is ≡ map g is →
    map f (cond b (i ∷ is) is) ≡ map g (cond b (i ∷ is) is)
agree_by f g true i is e rest = λ k. e k ∷ rest k
agree_by f g false i is e rest = rest

pub map_agree_in : (f g : ℕ → List ℕ) (p : ℕ → Bool) (s n : ℕ) → ((i : ℕ) → s ≤ i → i < s + n → f i ≡ g i) →
    map f (filter p (range_with_len s n)) ≡ map g (filter p (range_with_len s n))
map_agree_in f g p s zero agree = refl
map_agree_in f g p s (suc n) agree =
    agree_by f g (p s) s (filter p (range_with_len (s + 1) n)) (agree s (omega arith) (omega arith))
    (map_agree_in f g p (s + 1) n (λ i low high. agree i (omega arith) (omega arith)))

-- the blocks of a page that its mask names, as blocks of the two memories
pub page_blocks : (old new p q : List ℕ) (page mask : ℕ) →
    ((i : ℕ) → i < 64 → block_in p i ≡ block_in old (64 * page + i)) → ((i : ℕ) → i < 64 → block_in q i ≡ block_in new (64 * page + i)) →
    map (λ i. xored (block_in p i) (block_in q i)) (set_blocks mask) ≡
    map (block_change old new) (map (λ i. 64 * page + i) (set_blocks mask))
unfolding set_blocks
page_blocks old new p q page mask olds news =
    map_agree_in (λ i. xored (block_in p i) (block_in q i)) (λ i. block_change old new (64 * page + i)) (λ i. bit_at mask i == 1) 0 64
    (λ i low high. λ k. xored (olds i (omega arith) k) (news i (omega arith) k))
    ∙ sym (map-map (block_change old new) (λ i. 64 * page + i) (set_blocks mask))

numbers-append : (ps qs : List PageChange) → block_numbers (ps ++ qs) ≡ block_numbers ps ++ block_numbers qs
unfolding block_numbers
numbers-append [] qs = refl
numbers-append (p ∷ ps) qs =
    ap (λ l. map (λ i. 64 * p.page + i) (set_blocks p.mask) ++ l) (numbers-append ps qs)
    ∙ sym (append_assoc (map (λ i. 64 * p.page + i) (set_blocks p.mask)) (block_numbers ps) (block_numbers qs))

-- one page's blocks
pub one_page : (p : PageChange) → block_numbers (p ∷ []) ≡ map (λ i. 64 * p.page + i) (set_blocks p.mask)
unfolding block_numbers
one_page p = append-nil (map (λ i. 64 * p.page + i) (set_blocks p.mask))

pub no_blocks : (old new : List ℕ) → [] ≡ changed_blocks old new []
unfolding block_numbers
no_blocks old new = refl

-- the blocks of one page more
pub changed_blocks-push : (old new : List ℕ) (ps : List PageChange) (p : PageChange) →
    changed_blocks old new (ps ++ p ∷ []) ≡ changed_blocks old new ps ++ changed_blocks old new (p ∷ [])
changed_blocks-push old new ps p =
    ap (map (block_change old new)) (numbers-append ps (p ∷ []))
    ∙ map-append (block_change old new) (block_numbers ps) (block_numbers (p ∷ []))
