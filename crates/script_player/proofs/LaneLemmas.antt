-- Hex digits as the lanes of vectors.
use Rattle.std.proofs.Common.{◌≡◌, ◌<◌, ◌≤◌, ◌+◌, ◌-◌, ◌*◌, ◌/◌, ◌%◌, ◌^◌, ℕ, zero, suc, Bool, true, false, not, cond, leb, ltb, eqb, ◌&&◌, ◌||◌}
use Rattle.std.proofs.Common.{List, [], ◌∷◌, ◌++◌, length, take, drop, map, get_or, replicate, slice_index, nat_eq, refl, sym, ap, ap₂, subst}
use Rattle.std.proofs.Common.{bit_and, bit_or, eqb-true, ltb-true, w8, Fits, ◌∙◌, arith}
use Rattle.std.proofs.lemmas.{Bool.{agree_below_at, and_parts}, List.{get_or_append_left, get_or-append-add, drop_all}}
use Rattle.std.proofs.lemmas.{Nat.{and_mask, and_le_r}, Simd.{mask_l-mod, Each1-from_get_or}, List.Folds.list_all-append}
use Rattle.std.proofs.Math.Seq.{drop-cons}
use Rattle.std.specs.List.{AllByRecursion, list_all}
use lib.Lanes.{zip2, sel_l, mask_l, top, Each1}
use Rattle.hex.specs.Hex.{encode_lower, encode_with, lower_digits}
use Rattle.script_player.specs.internal.Digits.{is_lower_digit}

abbrev pub IsSmall : ℕ → Type 0
IsSmall n = n < 16

abbrev pub digit : ℕ → ℕ
digit n = slice_index lower_digits n

-- what operators make of two lanes
abbrev pub plus : ℕ → ℕ → ℕ
plus a b = (a + b) % 2 ^ 8

abbrev pub minus : ℕ → ℕ → ℕ
minus a b = (a + (2 ^ 8 - b)) % 2 ^ 8

abbrev pub down : ℕ → ℕ → ℕ
down a b = a / 2 ^ b

abbrev pub at_most : ℕ → ℕ → ℕ
at_most a b = cond (leb a b) 255 0

abbrev pub below : ℕ → ℕ → ℕ
below a b = cond (ltb a b) 255 0

-- ---- the digits of numbers

abbrev made : ℕ → ℕ
made n = plus (plus n 48) (cond (top 7 (below 9 n)) 39 0)

made-digit : (n : ℕ) → n < 16 → made n ≡ digit n
made-digit n small = eqb-true _ _ (agree_below_at (λ n. eqb (made n) (digit n)) (λ _. true) 16 n refl small)

abbrev pub all_made : List ℕ → ℕ → List ℕ
all_made ns k = zip2 plus (zip2 plus ns (replicate k 48)) (sel_l (map (top 7) (zip2 below (replicate k 9) ns)) (replicate k 39)
    (replicate k 0))

pub made-digits : (ns : List ℕ) → AllByRecursion IsSmall ns → all_made ns (length ns) ≡ map digit ns
made-digits [] h = refl
made-digits (n ∷ ns) h = λ i. made-digit n h.0 i ∷ made-digits ns h.1 i

-- the halves of bytes are small
pub high-small : (bs : List ℕ) → Each1 (Fits w8) bs → AllByRecursion IsSmall (zip2 down bs (replicate (length bs) 4))
high-small [] h = tt
high-small (b ∷ bs) h = let small : b < 256 = h.0.fits in (omega arith, high-small bs h.1)

pub low-small : (bs : List ℕ) → AllByRecursion IsSmall (zip2 bit_and bs (replicate (length bs) 15))
low-small [] = tt
low-small (b ∷ bs) = (omega (arith, and_le_r b 15), low-small bs)

-- ---- two lists in turn

weave : List ℕ → List ℕ → List ℕ
weave (x ∷ xs) (y ∷ ys) = x ∷ y ∷ weave xs ys
weave [] ys = []
weave (x ∷ xs) [] = []

-- n places from a on in each of two lists that stand one behind the other, the first of m elements
abbrev pub woven : ℕ → ℕ → ℕ → List ℕ
woven m zero a = []
woven m (suc n) a = a ∷ (m + a) ∷ woven m n (suc a)

picked : (xs ys : List ℕ) (n a : ℕ) → length ys ≡ length xs → a + n ≡ length xs
    → map (λ k. get_or (xs ++ ys) k 0) (woven (length xs) n a) ≡ weave (drop a xs) (drop a ys)
unfolding weave
picked xs ys zero a same e =
    let none : drop a xs ≡ [] = drop_all a xs (omega arith) in ap (λ l. weave l (drop a ys)) (sym none)
picked xs ys (suc n) a same e =
    let low : a < length xs = omega arith in
    let low' : a < length ys = omega arith in
    (λ i. get_or_append_left xs ys 0 a low i ∷ get_or-append-add xs ys a 0 i ∷ picked xs ys n (suc a) same (omega arith) i)
    ∙ ap₂ weave (sym (drop-cons xs a 0 low)) (sym (drop-cons ys a 0 low'))

spelled : (bs : List ℕ) → weave (map digit (zip2 down bs (replicate (length bs) 4))) (map digit (zip2 bit_and bs (replicate (length bs) 15)))
    ≡ encode_lower bs
unfolding weave encode_with
spelled [] = refl
spelled (b ∷ bs) = λ i. digit (b / 16) ∷ digit (and_mask b 4 i) ∷ spelled bs i

long : (f : ℕ → ℕ → ℕ) (bs : List ℕ) (y : ℕ) → length (map digit (zip2 f bs (replicate (length bs) y))) ≡ length bs
long f [] y = refl
long f (b ∷ bs) y = ap suc (long f bs y)

-- each of so many bytes fits
pub each-fits : (bs : List ℕ) → ((i : ℕ) → get_or bs i 0 < 256) → Each1 (Fits w8) bs
each-fits bs h = Each1-from_get_or (Fits w8) bs 0 (λ i _. record { fits = h i })

-- digits of the high halves and of the low ones, in turn, spell the bytes
pub block-spelled : (bs first second : List ℕ) → length bs ≡ 16 → first ≡ map digit (zip2 down bs (replicate 16 4))
    → second ≡ map digit (zip2 bit_and bs (replicate 16 15))
    → map (λ k. get_or (first ++ second) k 0) (woven 16 16 0) ≡ encode_lower bs
block-spelled bs first second sixteen is is' =
    let one = is ∙ ap (λ n. map digit (zip2 down bs (replicate n 4))) (sym sixteen) in
    let two = is' ∙ ap (λ n. map digit (zip2 bit_and bs (replicate n 15))) (sym sixteen) in
    let len : length first ≡ 16 = ap length one ∙ long down bs 4 ∙ sixteen in
    let len' : length second ≡ 16 = ap length two ∙ long bit_and bs 15 ∙ sixteen in
    ap (λ m. map (λ k. get_or (first ++ second) k 0) (woven m 16 0)) (sym len)
    ∙ picked first second 16 0 (len' ∙ sym len) (sym len)
    ∙ ap₂ weave one two ∙ spelled bs

-- ---- whether all are digits

abbrev flag : ℕ → Bool
flag c = top 7 (bit_and (at_most 10 (minus c 48)) (at_most 6 (minus c 97)))

flag-tells : (c : ℕ) → c < 256 → not (flag c) ≡ is_lower_digit c
flag-tells c small = agree_below_at (λ c. not (flag c)) is_lower_digit 256 c refl small

abbrev pub others : List ℕ → ℕ → List ℕ
others cs n = zip2 bit_and (zip2 at_most (replicate n 10) (zip2 minus cs (replicate n 48)))
    (zip2 at_most (replicate n 6) (zip2 minus cs (replicate n 97)))

lowest : (b : Bool) (m : ℕ) → nat_eq (cond b 1 0 + 2 * m) 0 ≡ (not b && nat_eq m 0)
lowest true m = grind arith
lowest false zero = refl
lowest false (suc m) = grind arith

none-set : (cs : List ℕ) → Each1 (Fits w8) cs
    → nat_eq (mask_l (map (top 7) (others cs (length cs)))) 0 ≡ list_all is_lower_digit cs
none-set [] h = refl
none-set (c ∷ cs) h = lowest (flag c) (mask_l (map (top 7) (others cs (length cs))))
    ∙ ap₂ ◌&&◌ (flag-tells c h.0.fits) (none-set cs h.1)

length-others : (cs : List ℕ) → length (map (top 7) (others cs (length cs))) ≡ length cs
length-others [] = refl
length-others (c ∷ cs) = ap suc (length-others cs)

pub some-digits : (cs : List ℕ) (k : ℕ) → length cs ≡ k → k ≤ 64 → Each1 (Fits w8) cs
    → nat_eq (mask_l (map (top 7) (others cs k)) % 2 ^ 64) 0 ≡ list_all is_lower_digit cs
some-digits cs k many fits h =
    subst (λ n. nat_eq (mask_l (map (top 7) (others cs n)) % 2 ^ 64) 0 ≡ list_all is_lower_digit cs) many
    (ap (λ m. nat_eq m 0) (mask_l-mod (map (top 7) (others cs (length cs))) 64 (omega (arith, many, fits, length-others cs)))
    ∙ none-set cs h)

pub all-digits : (cs : List ℕ) → length cs ≡ 32 → Each1 (Fits w8) cs
    → nat_eq (mask_l (map (top 7) (others cs 32)) % 2 ^ 64) 0 ≡ list_all is_lower_digit cs
all-digits cs many h = some-digits cs 32 many (omega arith) h

pub eight-digits : (cs : List ℕ) → length cs ≡ 8 → Each1 (Fits w8) cs
    → nat_eq (mask_l (map (top 7) (others cs 8)) % 2 ^ 64) 0 ≡ list_all is_lower_digit cs
eight-digits cs many h = some-digits cs 8 many (omega arith) h

-- ---- the numbers of digits

abbrev number : ℕ → ℕ
number c = minus (minus c 48) (cond (top 7 (at_most 10 (minus c 48))) 39 0)

abbrev pub numbers : List ℕ → ℕ → List ℕ
numbers cs n = zip2 minus (zip2 minus cs (replicate n 48))
    (sel_l (map (top 7) (zip2 at_most (replicate n 10) (zip2 minus cs (replicate n 48)))) (replicate n 39) (replicate n 0))

abbrev is_read : ℕ → Bool
is_read c = not (is_lower_digit c) || (eqb (digit (number c)) c && ltb (number c) 16)

read-one : (c : ℕ) → c < 256 → is_lower_digit c ≡ true → (digit (number c) ≡ c) × (number c < 16)
read-one c small low =
    let all = agree_below_at is_read (λ _. true) 256 c refl small in
    let both = and_parts (eqb (digit (number c)) c) (ltb (number c) 16) (rw low at all) in
    (eqb-true _ _ both.0, ltb-true _ _ both.1)

pub read-all : (cs : List ℕ) → Each1 (Fits w8) cs → list_all is_lower_digit cs ≡ true
    → (map digit (numbers cs (length cs)) ≡ cs) × AllByRecursion IsSmall (numbers cs (length cs))
read-all [] h low = (refl, tt)
read-all (c ∷ cs) h low =
    let both = and_parts (is_lower_digit c) (list_all is_lower_digit cs) low in
    let here = read-one c h.0.fits both.0 in
    let rest = read-all cs h.1 both.1 in
    (λ i. here.0 i ∷ rest.0 i, (here.1, rest.1))

-- ---- bytes of two numbers each

either-is : (h l : ℕ) → h < 16 → l < 16 → bit_or (h * 16 % 256) l ≡ 16 * h + l
either-is h l hs ls =
    let k = 16 * h + l in
    let first : k / 16 ≡ h = omega arith in
    let second : k % 16 ≡ l = omega arith in
    ap₂ (λ a b. bit_or (a * 16 % 256) b) (sym first) (sym second)
    ∙ eqb-true _ _ (agree_below_at (λ k. eqb (bit_or (k / 16 * 16 % 256) (k % 16)) k) (λ _. true) 256 k refl (omega arith))

small-at : (ns : List ℕ) → AllByRecursion IsSmall ns → (k : ℕ) → get_or ns k 0 < 16
small-at [] h k = omega arith
small-at (n ∷ ns) h zero = h.0
small-at (n ∷ ns) h (suc k) = small-at ns h.1 k

-- n bytes of the numbers from place a on
abbrev pub joined : List ℕ → ℕ → ℕ → List ℕ
joined ns zero a = []
joined ns (suc n) a = bit_or (get_or ns a 0 * 16 % 256) (get_or ns (suc a) 0) ∷ joined ns n (suc (suc a))

joined-digits : (ns more : List ℕ) (n a : ℕ) → AllByRecursion IsSmall ns → a + (n + n) ≡ length ns
    → encode_lower (joined (ns ++ more) n a) ≡ map digit (drop a ns)
unfolding encode_with
joined-digits ns more zero a h e = let none : drop a ns ≡ [] = drop_all a ns (omega arith) in ap (map digit) (sym none)
joined-digits ns more (suc n) a h e =
    let low : a < length ns = omega arith in
    let next : suc a < length ns = omega arith in
    let x = get_or ns a 0 in
    let y = get_or ns (suc a) 0 in
    let xs : x < 16 = small-at ns h a in
    let ys : y < 16 = small-at ns h (suc a) in
    let byte : bit_or (get_or (ns ++ more) a 0 * 16 % 256) (get_or (ns ++ more) (suc a) 0) ≡ 16 * x + y =
    ap₂ (λ p q. bit_or (p * 16 % 256) q) (get_or_append_left ns more 0 a low) (get_or_append_left ns more 0 (suc a) next)
    ∙ either-is x y xs ys in
    let first : (16 * x + y) / 16 ≡ x = omega arith in
    let second : (16 * x + y) % 16 ≡ y = omega arith in
    (λ i. digit ((ap (λ b. b / 16) byte ∙ first) i) ∷ digit ((ap (λ b. b % 16) byte ∙ second) i)
    ∷ joined-digits ns more n (suc (suc a)) h (omega arith) i)
    ∙ ap (map digit) (sym (drop-cons ns a 0 low ∙ ap (λ l. x ∷ l) (drop-cons ns (suc a) 0 next)))

pub block-joined : (ns : List ℕ) → length ns ≡ 32 → AllByRecursion IsSmall ns → encode_lower (joined (ns ++ ns) 16 0) ≡ map digit ns
block-joined ns many h = joined-digits ns ns 16 0 h (sym many)

pub eight-joined : (ns : List ℕ) → length ns ≡ 8 → AllByRecursion IsSmall ns → encode_lower (joined (ns ++ ns) 4 0) ≡ map digit ns
eight-joined ns many h = joined-digits ns ns 4 0 h (sym many)

-- ---- fronts

pub encode-append : (xs ys : List ℕ) → encode_lower (xs ++ ys) ≡ encode_lower xs ++ encode_lower ys
unfolding encode_with
encode-append [] ys = refl
encode-append (x ∷ xs) ys = ap (λ t. digit (x / 16) ∷ digit (x % 16) ∷ t) (encode-append xs ys)

twice : ℕ → ℕ
twice zero = zero
twice (suc n) = suc (suc (twice n))

twice-is : (n : ℕ) → twice n ≡ 2 * n
unfolding twice
twice-is zero = refl
twice-is (suc n) = omega (arith, twice-is n)

encode-take : (n : ℕ) (bs : List ℕ) → take (twice n) (encode_lower bs) ≡ encode_lower (take n bs)
unfolding twice encode_with
encode-take zero bs = refl
encode-take (suc n) [] = refl
encode-take (suc n) (b ∷ bs) = ap (λ t. digit (b / 16) ∷ digit (b % 16) ∷ t) (encode-take n bs)

-- digits that begin a block write the first of its bytes
pub front-read : (digits rest bytes : List ℕ) → length digits % 2 ≡ 0 → digits ++ rest ≡ encode_lower bytes
    → digits ≡ encode_lower (take (length digits / 2) bytes)
front-read digits rest bytes even e =
    let n = length digits / 2 in
    let whole : twice n ≡ length digits = twice-is n ∙ omega arith in
    sym (take-front digits rest) ∙ ap₂ take (sym whole) e ∙ encode-take n bytes
  where
    take-front : (xs ys : List ℕ) → take (length xs) (xs ++ ys) ≡ xs
    take-front [] ys = refl
    take-front (x ∷ xs) ys = ap (λ t. x ∷ t) (take-front xs ys)

pub zeros-pass : (k n : ℕ) → list_all is_lower_digit (drop k (replicate n 48)) ≡ true
zeros-pass zero zero = refl
zeros-pass zero (suc n) = zeros-pass zero n
zeros-pass (suc k) zero = refl
zeros-pass (suc k) (suc n) = zeros-pass k n

-- what fails in a front or in what follows it, where that passes
pub fails-in-front : (xs ys : List ℕ) → list_all is_lower_digit (xs ++ ys) ≡ false → list_all is_lower_digit ys ≡ true
    → list_all is_lower_digit xs ≡ false
fails-in-front xs ys e pass = second (list_all is_lower_digit xs) (list_all is_lower_digit ys) (sym (list_all-append is_lower_digit xs ys) ∙ e) pass
  where
    second : (a b : Bool) → (a && b) ≡ false → b ≡ true → a ≡ false
    second true b e t = sym t ∙ e
    second false b e t = refl

pub fails-behind : (xs ys : List ℕ) → list_all is_lower_digit ys ≡ false → list_all is_lower_digit (xs ++ ys) ≡ false
fails-behind xs ys e = list_all-append is_lower_digit xs ys ∙ with_false (list_all is_lower_digit xs) (list_all is_lower_digit ys) e
  where
    with_false : (a b : Bool) → b ≡ false → (a && b) ≡ false
    with_false true b e = e
    with_false false b e = refl

pub fails-here : (xs ys : List ℕ) → list_all is_lower_digit xs ≡ false → list_all is_lower_digit (xs ++ ys) ≡ false
fails-here xs ys e = list_all-append is_lower_digit xs ys ∙ ap (λ b. b && list_all is_lower_digit ys) e
