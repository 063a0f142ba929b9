-- Fields of a line, one by one.
use Rattle.std.proofs.Common.{◌≡◌, ◌<◌, ◌+◌, ℕ, zero, suc, List, [], ◌∷◌, ◌++◌, length, map, take, get_or, sym, ap, ◌∙◌, append-nil, append_assoc, arith}
use Rattle.std.proofs.lemmas.{Grind.flat_map-append, List.take_more}
use Rattle.std.specs.List.{join_with_byte, AllByRecursion}
use Rattle.script_player.specs.Printed.{field_text, line, spaced, IsShort}
use Rattle.script_player.specs.declared.text.Field.{Field}

-- the word, and the fields each after a space
joined : (word : List ℕ) (fields : List Field) → join_with_byte 32 (word ∷ map field_text fields) ≡ word ++ spaced fields
joined word [] = sym (append-nil word)
joined word (field ∷ fields) = ap (λ t. word ++ 32 ∷ t) (joined (field_text field) fields)

pub line-made : (word : List ℕ) (fields : List Field) (one more text : List ℕ) → one ≡ word → more ≡ one ++ spaced fields
    → text ≡ more ++ 10 ∷ [] → text ≡ line (word ∷ map field_text fields)
line-made word fields one more text is and_more end =
    end ∙ ap (λ t. t ++ 10 ∷ []) (and_more ∙ ap (λ t. t ++ spaced fields) is ∙ sym (joined word fields))

-- a space and one more field
pub more-spaced : (fields : List Field) (i : ℕ) (d : Field) (old now added text : List ℕ) → i < length fields
    → now ≡ old ++ spaced (take i fields) → added ≡ now ++ 32 ∷ [] → text ≡ added ++ field_text (get_or fields i d)
    → text ≡ old ++ spaced (take (i + 1) fields)
more-spaced fields i d old now added text inside before space more =
    let so_far = spaced (take i fields) in
    let field = field_text (get_or fields i d) in
    more ∙ ap (λ t. t ++ field) (space ∙ ap (λ t. t ++ 32 ∷ []) before)
    ∙ append_assoc (old ++ so_far) (32 ∷ []) field ∙ append_assoc old so_far (32 ∷ field)
    ∙ ap (λ t. old ++ (so_far ++ 32 ∷ t)) (sym (append-nil field))
    ∙ ap (λ t. old ++ t) (sym (flat_map-append (λ f. 32 ∷ field_text f) (take i fields) (get_or fields i d ∷ [])))
    ∙ ap (λ fs. old ++ spaced fs) (sym (take_more fields i d inside))

pub short-at : (fields : List Field) (i : ℕ) (d : Field) → AllByRecursion IsShort fields → i < length fields → IsShort (get_or fields i d)
short-at [] i d all inside = absurd (omega arith)
short-at (field ∷ fields) zero d all inside = all.0
short-at (field ∷ fields) (suc i) d all inside = short-at fields i d all.1 (omega arith)
