-- A page's record is made of its bytes, and how long it is.
use Rattle.std.proofs.Common.{◌≡◌, ◌≢◌, ℕ, zero, suc, ◌+◌, ◌-◌, ◌*◌, ◌^◌, ◌<◌, ◌≤◌, ◌==◌, Bool, true, false, List, [], ◌∷◌, ◌++◌, cond, length, map, drop}
use Rattle.std.proofs.Common.{get_or, refl, ap, ◌∙◌, sym, arith, append_assoc, add-one}
use Rattle.std.proofs.lemmas.List.{append-nil, length-append, map-append, length-take-le, length-drop}
use Rattle.std.proofs.lemmas.Bool.{eq-eqb, ne_eqb}
use Rattle.std.proofs.lemmas.List.Sums.{sum_by-cons}
use Rattle.std.proofs.Math.Seq.{drop-cons}
use Rattle.std.specs.Prelude.{count_ones}
use Rattle.std.specs.Int.{bit_at}
use Rattle.std.specs.List.{range_with_len, filter}
use Rattle.guest_rules.specs.Pages.{page_of}
use Rattle.epoch_snapshot.specs.declared.changes.PageChange.{PageChange}
use Rattle.epoch_snapshot.specs.Blocks.{block_in, named_below, set_blocks}
use Rattle.epoch_snapshot.specs.Cuts.{changed_blocks}
use Rattle.checkpoint_stream.specs.Text.{joined}
use Rattle.full_text.specs.Full.{zeros, record_size, records_size}
use Rattle.full_text.specs.internal.CutRecords.{records, record_of}

-- what the laws `masks_name_blocks`, `pages_are_their_blocks` and `texts_are_their_parts` say, as the lemmas here take it
abbrev pub NextIsNamed : Type 0
NextIsNamed = (m n : ℕ) → named_below m (n + 1) ≡ named_below m n ++ cond (bit_at m n == 1) (n ∷ []) []

abbrev pub FewerAreBelow : Type 0
FewerAreBelow = (m n : ℕ) → m < 2 ^ 64 → n < 64 → bit_at m n ≡ 1 → length (named_below m n) < count_ones m

abbrev pub OnesAreNamed : Type 0
OnesAreNamed = (m : ℕ) → m < 2 ^ 64 → length (set_blocks m) ≡ count_ones m

abbrev pub OwnAreRecorded : Type 0
OwnAreRecorded = (ram : List ℕ) (p : PageChange) → 4096 * p.page + 4096 ≤ length ram
    → map (λ i. block_in (page_of ram p.page) i) (set_blocks p.mask) ≡ changed_blocks (zeros ram) ram (p ∷ [])

abbrev pub JoinsInTwo : Type 0
JoinsInTwo = (us vs : List (List ℕ)) → joined (us ++ vs) ≡ joined us ++ joined vs

pub next : {X : Type 0} (xs : List X) (i : ℕ) (d : X) → i < length xs → drop i xs ≡ get_or xs i d ∷ drop (i + 1) xs
next xs i d h = rw (add-one) (drop-cons xs i d h)

joined-one : (b : List ℕ) → joined (b ∷ []) ≡ b
unfolding joined
joined-one b = append-nil b

-- one block more, where the mask names it
pub blocks-put : NextIsNamed → JoinsInTwo → (f : ℕ → List ℕ) (m n : ℕ) (xs ys b : List ℕ) → bit_at m n ≡ 1 → b ≡ f n → ys ≡ xs ++ joined (map f (named_below m n))
    → ys ++ b ≡ xs ++ joined (map f (named_below m (n + 1)))
blocks-put then joins f m n xs ys b set e so_far =
    (λ k. so_far k ++ e k)
    ∙ append_assoc xs (joined (map f (named_below m n))) (f n)
    ∙ ap (λ l. xs ++ l) (ap (λ l. joined (map f (named_below m n)) ++ l) (sym (joined-one (f n)))
    ∙ sym (joins (map f (named_below m n)) (f n ∷ []))
    ∙ ap joined (sym (map-append f (named_below m n) (n ∷ []))
    ∙ ap (λ c. map f (named_below m n ++ cond c (n ∷ []) [])) (sym (eq-eqb (bit_at m n) 1 set))
    ∙ ap (map f) (sym (then m n))))

-- and none, where it doesn't
pub blocks-pass : NextIsNamed → (m n : ℕ) → bit_at m n ≢ 1 → named_below m (n + 1) ≡ named_below m n
blocks-pass then m n clear =
    then m n
    ∙ ap (λ b. named_below m n ++ cond b (n ∷ []) []) (ne_eqb (bit_at m n) 1 clear)
    ∙ append-nil (named_below m n)

-- blocks of 64 bytes
size-step : (f : ℕ → List ℕ) (b : Bool) (s : ℕ) (is : List ℕ) → length (f s) ≡ 64 → length (joined (map f is)) ≡ 64 * length is
    → length (joined (map f (cond b (s ∷ is) is))) ≡ 64 * length (cond b (s ∷ is) is)
unfolding joined
size-step f true s is here later = omega (arith, later, length-append (f s) (joined (map f is)), here)
size-step f false s is here later = later

blocks-size : (f : ℕ → List ℕ) (p : ℕ → Bool) (s n : ℕ) → ((i : ℕ) → s ≤ i → i < s + n → length (f i) ≡ 64)
    → length (joined (map f (filter p (range_with_len s n)))) ≡ 64 * length (filter p (range_with_len s n))
unfolding joined
blocks-size f p s zero long = refl
blocks-size f p s (suc n) long =
    size-step f (p s) s (filter p (range_with_len (s + 1) n)) (long s (omega arith) (omega arith))
    (blocks-size f p (s + 1) n (λ i low high. long i (omega arith) (omega arith)))

pub length-block : (xs : List ℕ) (n : ℕ) → 64 * n + 64 ≤ length xs → length (block_in xs n) ≡ 64
length-block xs n within = length-take-le 64 (drop (64 * n) xs) (omega (arith, length-drop (64 * n) xs))

pub length-page : (ram : List ℕ) (page : ℕ) → 4096 * page + 4096 ≤ length ram → length (page_of ram page) ≡ 4096
length-page ram page within =
    length-take-le ((4096 * page + 4096) - 4096 * page) (drop (4096 * page) ram) (omega (arith, length-drop (4096 * page) ram, within)) ∙ omega arith

-- the blocks of a page so far take fewer bytes than all that the mask names, where it names another one
pub room-left : FewerAreBelow → (page : List ℕ) (m n : ℕ) → m < 2 ^ 64 → length page ≡ 4096 → n < 64 → bit_at m n ≡ 1
    → length (joined (map (λ i. block_in page i) (named_below m n))) + 64 ≤ 64 * count_ones m
room-left fewer page m n fits long below set =
    omega (
      arith,
      blocks-size (λ i. block_in page i) (λ i. bit_at m i == 1) 0 n (λ i low high. length-block page i (omega (arith, long))),
      fewer m n fits below set,
    )

pub blocks-length : OnesAreNamed → (page : List ℕ) (m : ℕ) → m < 2 ^ 64 → length page ≡ 4096
    → length (joined (map (λ i. block_in page i) (set_blocks m))) ≡ 64 * count_ones m
unfolding set_blocks
blocks-length ones page m fits long =
    omega (
      arith,
      blocks-size (λ i. block_in page i) (λ i. bit_at m i == 1) 0 64 (λ i low high. length-block page i (omega (arith, long, high))),
      ones m fits,
    )

-- ---- the records of several pages

pub records-cons : (ram : List ℕ) (p : PageChange) (ps : List PageChange) → records ram (p ∷ ps) ≡ record_of ram p ++ records ram ps
unfolding records
records-cons ram p ps = refl

pub sizes-next : (ps : List PageChange) (i : ℕ) (d : PageChange) → i < length ps
    → records_size (drop i ps) ≡ record_size (get_or ps i d) + records_size (drop (i + 1) ps)
sizes-next ps i d within = ap records_size (next ps i d within) ∙ sum_by-cons record_size (get_or ps i d) (drop (i + 1) ps)
