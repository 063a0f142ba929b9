-- Bytes that end before the unit does are added to it, and bytes that end with it complete it.
use Rattle.std.proofs.Common.{◌≡◌, ℕ, suc, ◌+◌, ◌-◌, ◌<◌, ◌≤◌, ◌==◌, List, [], ◌∷◌, ◌++◌, length, Bool, true, false, refl, sym, ◌∙◌, ap}
use Rattle.std.proofs.Common.{subst, take, drop, length-drop, arith, append_assoc, length-append, if◌then◌else◌}
use Rattle.std.proofs.{lemmas.{Bool.Decides.nat_tests, List.{append-nil, take_at}}, Math.Seq.{take-length, take-add}}
use Rattle.checkpoint_stream.proofs.Begun.{with_more, judged-more}
use Rattle.checkpoint_stream.specs.{Taken.Takes, Readings.{Reading, is_closed, width_of, judged, fed_byte, fed, taken}}
use Rattle.checkpoint_stream.specs.laws.Feeding.{fed-append, fed-closed, taken-closed, taken-append}

fed_byte-inside : (r : Reading) (b : ℕ) → is_closed r.place ≡ false → (length r.partial + 1 == width_of r) ≡ false →
    fed_byte r b ≡ with_more r (b ∷ [])
unfolding fed_byte
fed_byte-inside r b going inside = rw (going, inside)

fed_byte-last : (r : Reading) (b : ℕ) → is_closed r.place ≡ false → (length r.partial + 1 == width_of r) ≡ true →
    fed_byte r b ≡ judged r (r.partial ++ b ∷ [])
unfolding fed_byte
fed_byte-last r b going last = rw (going, last)

Takes-byte : (r : Reading) (b : ℕ) (bs : List ℕ) (after : Reading) → is_closed r.place ≡ false → Takes (fed_byte r b) bs after →
    Takes r (b ∷ bs) after
unfolding fed taken
Takes-byte r b bs after going rest = record {
  reading = rest.reading;
  count = rw going (omega (arith, rest.count));
}

pub Takes-nothing : (r : Reading) → Takes r [] r
unfolding fed taken
Takes-nothing r = record { reading = refl; count = refl }

not_equal : (m n : ℕ) → m < n → (m == n) ≡ false
not_equal m n h = grind (arith, nat_tests)

equal : (m n : ℕ) → m ≡ n → (m == n) ≡ true
equal m n h = grind (arith, nat_tests)

pub Takes-inside : (r : Reading) (bytes : List ℕ) → is_closed r.place ≡ false → length r.partial + length bytes < width_of r →
    Takes r bytes (with_more r bytes)
Takes-inside r [] going inside = rw (append-nil r.partial) (Takes-nothing r)
Takes-inside r (b ∷ bs) going inside =
    let here : (length r.partial + 1 == width_of r) ≡ false = not_equal _ _ (omega (arith, inside)) in
    let longer : length (r.partial ++ b ∷ []) ≡ length r.partial + 1 = length-append r.partial (b ∷ []) in
    let rest : Takes (with_more r (b ∷ [])) bs (with_more (with_more r (b ∷ [])) bs)
    = Takes-inside (with_more r (b ∷ [])) bs going (omega (arith, longer, inside)) in
    let regrouped : with_more (with_more r (b ∷ [])) bs ≡ with_more r (b ∷ bs)
    = ap (λ (l : List ℕ). record r { partial = l }) (append_assoc r.partial (b ∷ []) bs) in
    Takes-byte r b bs (with_more r (b ∷ bs)) going
    (rw (fed_byte-inside r b going here, ← regrouped) rest)

pub Takes-whole : (r : Reading) (bytes : List ℕ) → is_closed r.place ≡ false → 0 < length bytes →
    length r.partial + length bytes ≡ width_of r → Takes r bytes (judged r (r.partial ++ bytes))
Takes-whole r [] going some whole = absurd (omega arith)
Takes-whole r (b ∷ []) going some whole =
    Takes-byte r b [] (judged r (r.partial ++ b ∷ [])) going
    (rw (fed_byte-last r b going (equal _ _ (omega (arith, whole)))) (Takes-nothing (judged r (r.partial ++ b ∷ []))))
Takes-whole r (b ∷ c ∷ bs) going some whole =
    let here : (length r.partial + 1 == width_of r) ≡ false = not_equal _ _ (omega (arith, whole)) in
    let longer : length (r.partial ++ b ∷ []) ≡ length r.partial + 1 = length-append r.partial (b ∷ []) in
    let more : Reading = with_more r (b ∷ []) in
    let rest : Takes more (c ∷ bs) (judged more (more.partial ++ c ∷ bs))
    = Takes-whole more (c ∷ bs) going (omega arith) (omega (arith, longer, whole)) in
    let same : judged more (more.partial ++ c ∷ bs) ≡ judged r (r.partial ++ b ∷ c ∷ bs)
    = judged-more r (b ∷ []) (more.partial ++ c ∷ bs) going ∙ ap (judged r) (append_assoc r.partial (b ∷ []) (c ∷ bs)) in
    Takes-byte r b (c ∷ bs) (judged r (r.partial ++ b ∷ c ∷ bs)) going
    (rw (fed_byte-inside r b going here, ← same) rest)

-- the same, from what a call says of the reading after it
pub Takes-unit : (r after : Reading) (bytes : List ℕ) → is_closed r.place ≡ false → r.partial ≡ [] → 0 < length bytes →
    length bytes ≡ width_of r →
    after ≡ judged r bytes → Takes r bytes after
Takes-unit r after bytes going begun some whole is =
    let nothing : length r.partial ≡ 0 = ap length begun in
    let all : Takes r bytes (judged r (r.partial ++ bytes)) = Takes-whole r bytes going some (omega (arith, nothing, whole)) in
    let same : judged r (r.partial ++ bytes) ≡ after = ap (λ (l : List ℕ). judged r (l ++ bytes)) begun ∙ sym is in
    subst (Takes r bytes) same all

pub Takes-end : (r after : Reading) (bytes unit : List ℕ) → is_closed r.place ≡ false → 0 < length bytes →
    length r.partial + length bytes ≡ width_of r →
    unit ≡ r.partial ++ bytes → after ≡ judged r unit → Takes r bytes after
Takes-end r after bytes unit going some whole is judges =
    let same : judged r (r.partial ++ bytes) ≡ after = ap (judged r) (sym is) ∙ sym judges in
    subst (Takes r bytes) same (Takes-whole r bytes going some whole)

pub Takes-part : (r after : Reading) (bytes : List ℕ) → is_closed r.place ≡ false → length r.partial + length bytes < width_of r →
    after ≡ with_more r bytes → Takes r bytes after
Takes-part r after bytes going inside is = subst (Takes r bytes) (sym is) (Takes-inside r bytes going inside)

-- the front of a buffer, with bytes put after what it holds
pub take-filled : (m : ℕ) (held bytes rest : List ℕ) → length held + length bytes ≡ m → take m (held ++ (bytes ++ rest)) ≡ held ++ bytes
take-filled m held bytes rest e =
    rw (← append_assoc held bytes rest) (take_at (held ++ bytes) rest m (length-append held bytes ∙ e))

pub with_more-at : (v r : Reading) (l bytes : List ℕ) → v ≡ r → l ≡ v.partial ++ bytes → record v { partial = l } ≡ with_more r bytes
with_more-at v r l bytes same is =
    ap (λ (partial : List ℕ). record v { partial = partial }) is ∙ ap (λ (s : Reading). with_more s bytes) same

pub Takes-append : (r m s : Reading) (xs ys : List ℕ) → Takes r xs m → Takes m ys s → Takes r (xs ++ ys) s
Takes-append r m s xs ys front back =
    record {
      reading = fed-append r xs ys ∙ ap (λ (k : Reading). fed k ys) front.reading ∙ back.reading;
      count = taken-append r xs ys front.count ∙ ap (λ (k : Reading). length xs + taken k ys) front.reading
          ∙ ap (λ (n : ℕ). length xs + n) back.count ∙ sym (length-append xs ys);
    }

-- the bytes after those that are taken stay, where nothing more is
pub fed-done : (r s : Reading) (xs ys : List ℕ) → Takes r xs s → is_closed s.place ≡ true → fed r (xs ++ ys) ≡ s
fed-done r s xs ys front closed =
    fed-append r xs ys ∙ ap (λ (k : Reading). fed k ys) front.reading ∙ fed-closed s ys closed

pub taken-done : (r s : Reading) (xs ys : List ℕ) → Takes r xs s → is_closed s.place ≡ true → taken r (xs ++ ys) ≡ length xs
taken-done r s xs ys front closed =
    let more : taken (fed r xs) ys ≡ 0 = ap (λ (k : Reading). taken k ys) front.reading ∙ taken-closed s ys closed in
    omega (arith, taken-append r xs ys front.count, more)

-- the rest of a slice from a place on, as `&s[at..]` gives it
pub rest-is_drop : (at : ℕ) (bytes : List ℕ) → take (length bytes - at) (drop at bytes) ≡ drop at bytes
rest-is_drop at bytes =
    subst (λ (n : ℕ). take n (drop at bytes) ≡ drop at bytes) (length-drop at bytes) (take-length (drop at bytes))

pub Takes-more : (r m s : Reading) (at count : ℕ) (bytes : List ℕ) → Takes r (take at bytes) m →
    Takes m (take count (take (length bytes - at) (drop at bytes))) s → Takes r (take (at + count) bytes) s
Takes-more r m s at count bytes front back =
    let rest : Takes m (take count (drop at bytes)) s = subst (λ (l : List ℕ). Takes m (take count l) s) (rest-is_drop at bytes) back in
    subst (λ (l : List ℕ). Takes r l s) (sym (take-add at count bytes)) (Takes-append r m s _ _ front rest)

pub count-inside : (at count : ℕ) (bytes : List ℕ) → at ≤ length bytes → count ≤ length (take (length bytes - at) (drop at bytes)) →
    at + count ≤ length bytes
count-inside at count bytes inside h =
    omega (arith, inside, h, ap length (rest-is_drop at bytes), length-drop at bytes)

pub taken_le : (r : Reading) (bytes : List ℕ) → taken r bytes ≤ length bytes
unfolding taken
taken_le r [] = omega arith
taken_le r (b ∷ bs) =
    elim (is_closed r.place) as (λ (closed : Bool). (if closed then 0 else 1 + taken (fed_byte r b) bs) ≤ suc (length bs)) [
      | true ↦ omega arith
      | false ↦ omega (arith, taken_le (fed_byte r b) bs)
    ]

pub taken_some : (r : Reading) (bytes : List ℕ) → is_closed r.place ≡ false → 0 < length bytes → 0 < taken r bytes
unfolding taken
taken_some r [] going some = absurd (omega arith)
taken_some r (b ∷ bs) going some = rw going (omega arith)
