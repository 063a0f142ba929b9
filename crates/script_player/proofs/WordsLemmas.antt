-- What is read of a guest's words, and what is left.
use Rattle.std.proofs.Common.{◌≡◌, ◌+◌, ◌*◌, length-append, ◌<◌, ◌^◌, ℕ, suc, List, [], ◌∷◌, ◌++◌, length, Option, Some, None, refl, sym}
use Rattle.std.proofs.{Common.{ap, arith, ◌∙◌, append_assoc, append-nil, take, drop}, Math.Seq.{take-append_seam, drop-append_seam}}
use Rattle.std.{proofs.lemmas.{Grind.flat_map-append, List.nil_from_length}, specs.{List.{flat_map, AllByRecursion}, Int.to_be_bytes}}
use Rattle.std.specs.Int.{w32}
use Rattle.hex.{specs.Hex.lower_digits, proofs.HexLemmas.length-encode_with}
use Rattle.script_player.specs.Guests.{word_field, IsWords}
use Rattle.script_player.proofs.ListLemmas.{all-push}
use Rattle.script_player.specs.laws.Options.{some_same, pair_parts}

-- a word of 32 bits
abbrev pub IsWord : ℕ → Type 0
IsWord w = w < 2 ^ 32

-- ---- the first word

length-word_field : (w : ℕ) → length (word_field w) ≡ 9
length-word_field w = ap suc (length-encode_with lower_digits (to_be_bytes w32 w))

-- a text that begins with a word has its field in front
pub front-field : (text : List ℕ) (w : ℕ) (others : List ℕ) → text ≡ word_field w ++ others
    → (take 9 text ≡ word_field w) × (drop 9 text ≡ others) × (9 + length others ≡ length text)
front-field text w others e =
    let long = length-word_field w in (
      ap (take 9) e ∙ ap (λ k. take k (word_field w ++ others)) (sym long) ∙ take-append_seam (word_field w) others,
      ap (drop 9) e ∙ ap (λ k. drop k (word_field w ++ others)) (sym long) ∙ drop-append_seam (word_field w) others,
      omega (arith, long, length-append (word_field w) others, ap length e),
    )

-- ---- all words

-- what is read so far, and what each reading of the whole leaves for the rest
pub record Reading (text words rest : List ℕ) : Type 0 where
  pub shape : text ≡ flat_map word_field words ++ rest
  pub below : AllByRecursion IsWord words
  pub only : (ws : List ℕ) → IsWords text ws
      → (tail : List ℕ) × (ws ≡ words ++ tail) × (rest ≡ flat_map word_field tail) × AllByRecursion IsWord tail

-- what a text that begins with a word is found to begin with
abbrev pub OnlyFirst : List ℕ → Option (ℕ × List ℕ) → Type 0
OnlyFirst text found = (w : ℕ) (others : List ℕ) → w < 2 ^ 32 → text ≡ word_field w ++ others → found ≡ Some (w, others)

-- one more word is read
pub reading_goes_on : (text words rest others : List ℕ) (w : ℕ) → Reading text words rest → w < 2 ^ 32 → rest ≡ word_field w ++ others
    → OnlyFirst rest (Some (w, others)) → Reading text (words ++ w ∷ []) others
reading_goes_on text words rest others w r small front first = record {
  shape = r.shape ∙ ap (λ t. flat_map word_field words ++ t) front ∙ sym (simp (flat_map-append, append_assoc));
  below = all-push IsWord words w r.below small;
  only = λ ws h. let tail = r.only ws h in remain ws tail.0 tail.1 tail.2 tail.3;
}
  where
    remain : (ws tail : List ℕ) → ws ≡ words ++ tail → rest ≡ flat_map word_field tail → AllByRecursion IsWord tail
        → (more : List ℕ) × (ws ≡ (words ++ w ∷ []) ++ more) × (others ≡ flat_map word_field more) × AllByRecursion IsWord more
    remain ws [] e left small = cc (sym front ∙ left)
    remain ws (v ∷ more) e left small =
        let both = pair_parts (some_same (first v (flat_map word_field more) small.0 left)) in
        (more, e ∙ ap (λ x. words ++ x ∷ more) (sym both.0) ∙ sym (append_assoc words (w ∷ []) more), both.1, small.1)

none_left : (tail rest : List ℕ) → rest ≡ flat_map word_field tail → AllByRecursion IsWord tail → OnlyFirst rest None → tail ≡ []
none_left [] rest e small none = refl
none_left (w ∷ more) rest e small none = cc (none w (flat_map word_field more) small.0 e)

-- where no word comes next, a reading of the whole has the words that were read, and nothing is left
pub reading_done : (text words rest : List ℕ) → Reading text words rest → OnlyFirst rest None → (ws : List ℕ) → IsWords text ws
    → (words ≡ ws) × (rest ≡ [])
reading_done text words rest r none ws h =
    let tail = r.only ws h in
    let last = none_left tail.0 rest tail.2 tail.3 none in
    (sym (tail.1 ∙ ap (λ t. words ++ t) last ∙ append-nil words), tail.2 ∙ ap (flat_map word_field) last)

-- nothing is left, so what was read is all
pub reading_all : (text words rest : List ℕ) → Reading text words rest → length rest ≡ 0 → 0 < length words → IsWords text words
reading_all text words rest r none some = record {
  shape = r.shape ∙ ap (λ t. flat_map word_field words ++ t) (nil_from_length rest none) ∙ append-nil (flat_map word_field words);
  some = some;
  below = r.below;
}

-- nothing is left, and no word was read: no reading
pub reading_empty : (text words rest : List ℕ) → Reading text words rest → length rest ≡ 0 → length words ≡ 0 → (ws : List ℕ)
    → IsWords text ws → ⊥
reading_empty text words rest r none no_word ws h =
    let empty = nil_from_length rest none in
    let same = ap length (reading_done text words rest r (λ w others small e. cc (sym empty ∙ e)) ws h).0 in
    absurd (omega (arith, same, no_word, h.some))

-- nine bytes a word
pub words-long : (ws : List ℕ) → length (flat_map word_field ws) ≡ 9 * length ws
words-long [] = refl
words-long (w ∷ ws) = omega (arith, length-word_field w, words-long ws, length-append (word_field w) (flat_map word_field ws))

-- one word more is counted
pub counted-more : (text rest others : List ℕ) (count w : ℕ) → (words : List ℕ) × (length words ≡ count) × Reading text words rest
    → w < 2 ^ 32 → rest ≡ word_field w ++ others → OnlyFirst rest (Some (w, others))
    → (words : List ℕ) × (length words ≡ count + 1) × Reading text words others
counted-more text rest others count w (words, long, before) small front first = (
  words ++ w ∷ [],
  omega (arith, length-append words (w ∷ []), long),
  reading_goes_on text words rest others w before small front first,
)
