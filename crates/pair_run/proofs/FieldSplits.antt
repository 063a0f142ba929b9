-- The fields of a text, one by one.
use Rattle.std.proofs.Common.{◌≡◌, ◌<◌, ◌==◌, ℕ, Bool, true, false, cond, List, [], ◌∷◌, length, Option, Some, None}
use Rattle.std.{proofs.Common.{subst, refl, sym, ap, arith, ◌∙◌}, specs.{Option.option_map, List.onto_first}}
use Rattle.std.proofs.lemmas.List.Splits.{slice_split-cons_yes, slice_split-cons_no}
use Rattle.script_player.specs.Fields.{parted}
use Rattle.pair_run.specs.RunFile.{fields_of}

abbrev is_space : ℕ → Bool
is_space byte = byte == 32

-- what a text's first space says of its fields
abbrev Splits : List ℕ → Option (List ℕ × List ℕ) → Type 0
Splits text None = fields_of text ≡ text ∷ []
Splits text (Some parts) = (fields_of text ≡ parts.0 ∷ fields_of parts.1) × (length parts.1 < length text)

longer : (c : ℕ) (text : List ℕ) → is_space c ≡ false → (parts : Option (List ℕ × List ℕ)) → Splits text parts
    → Splits (c ∷ text) (option_map (λ (p : List ℕ × List ℕ). (c ∷ p.0, p.1)) parts)
longer c text e None h = slice_split-cons_no is_space c text e ∙ ap (onto_first c) h
longer c text e (Some parts) h = (slice_split-cons_no is_space c text e ∙ ap (onto_first c) h.0, omega (arith, h.1))

at_byte : (c : ℕ) (text : List ℕ) → Splits text (parted text) → (b : Bool) → (c == 32) ≡ b
    → Splits (c ∷ text) (cond b (Some ([], text)) (option_map (λ (p : List ℕ × List ℕ). (c ∷ p.0, p.1)) (parted text)))
at_byte c text again true e = (slice_split-cons_yes is_space c text e, omega arith)
at_byte c text again false e = longer c text e (parted text) again

pub splits : (text : List ℕ) → Splits text (parted text)
splits [] = refl
splits (c ∷ text) = at_byte c text (splits text) (c == 32) refl

-- the first field, and what stands after it
pub first-field : (text field rest : List ℕ) → Some (field, rest) ≡ parted text
    → (fields_of text ≡ field ∷ fields_of rest) × (length rest < length text)
first-field text field rest e = subst (Splits text) (sym e) (splits text)

pub only-field : (text : List ℕ) → None ≡ parted text → fields_of text ≡ text ∷ []
only-field text e = subst (Splits text) (sym e) (splits text)
