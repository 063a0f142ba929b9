-- Words one after another in memory.
use Rattle.std.proofs.Common.{◌≡◌, ℕ, List, ◌++◌, sym, ap, ◌∙◌, Result, Ok, Err, OnOk}
use Rattle.std.specs.Int.{to_le_bytes, w32}
use Rattle.std.proofs.lemmas.Grind.{flat_map-append}
use Rattle.std.proofs.lemmas.List.{append_assoc}
use Rattle.guest_kit.specs.Image.{word_bytes}

-- the words of two lists are those of the one and then those of the other
pub word_bytes_of_both : (ws vs : List ℕ) → word_bytes (ws ++ vs) ≡ word_bytes ws ++ word_bytes vs
word_bytes_of_both ws vs = flat_map-append (to_le_bytes w32) ws vs

-- three lists of words behind some bytes, one after another, are all of them behind these bytes
pub word_bytes_of_three : (bytes ws vs us : List ℕ) → ((bytes ++ word_bytes ws) ++ word_bytes vs) ++ word_bytes us
    ≡ bytes ++ word_bytes (ws ++ (vs ++ us))
word_bytes_of_three bytes ws vs us =
    append_assoc (bytes ++ word_bytes ws) (word_bytes vs) (word_bytes us)
    ∙ append_assoc bytes (word_bytes ws) (word_bytes vs ++ word_bytes us)
    ∙ ap (λ x. bytes ++ (word_bytes ws ++ x)) (sym (word_bytes_of_both vs us))
    ∙ ap (λ x. bytes ++ x) (sym (word_bytes_of_both ws (vs ++ us)))

-- what follows from a fact that a call leaves where it succeeds
pub on_ok : {T E : Type 0} {P Q : Type 0} (r : Result T E) → (P → Q) → OnOk r P → OnOk r Q
on_ok (Ok x) f p = f p
on_ok (Err e) f p = p

-- words put behind some bytes three times
pub put_behind : (bytes first second third ws vs us : List ℕ)
    → first ≡ bytes ++ word_bytes ws → second ≡ first ++ word_bytes vs → third ≡ second ++ word_bytes us
    → third ≡ bytes ++ word_bytes (ws ++ (vs ++ us))
put_behind bytes first second third ws vs us p q r =
    r ∙ ap (λ x. x ++ word_bytes us) (q ∙ ap (λ x. x ++ word_bytes vs) p) ∙ word_bytes_of_three bytes ws vs us
