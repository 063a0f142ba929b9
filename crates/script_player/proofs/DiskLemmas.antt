-- The guest that fills a sector is read from the left, and has one reading.
use Rattle.std.proofs.Common.{◌≡◌, ℕ, zero, suc, List, [], ◌∷◌, ◌++◌, length, slice_index_or, Some, refl, sym, ap, arith, ◌∙◌, codes}
use Rattle.hex.specs.Hex.{encode_lower, IsBytes}
use Rattle.script_player.specs.Fields.{text_after, operand_of}
use Rattle.script_player.specs.Guests.{IsDisk}
use Rattle.script_player.specs.laws.Fields.{text_after-some, operand_of-spelled}
use Rattle.script_player.specs.laws.Fields.{operand_of-read}
use Rattle.script_player.specs.laws.Options.{some_same, pair_parts}

-- what stands after the name of a guest that is spelled so
pub disk_operand : (text rest : List ℕ) (sector byte : ℕ) → text_after (codes "disk ") text ≡ Some rest → (h : IsDisk text sector byte)
    → operand_of rest ≡ Some (sector, h.digits)
disk_operand text rest sector byte e h =
    ap operand_of (some_same (sym e ∙ ap (text_after (codes "disk ")) h.shape))
    ∙ operand_of-spelled h.number h.digits sector h.sector_written

-- the number and the digits that are read are those of the guest that is spelled
pub one_reading : (text rest digits : List ℕ) (n sector byte : ℕ) → text_after (codes "disk ") text ≡ Some rest
    → Some (n, digits) ≡ operand_of rest → IsDisk text sector byte
    → (n ≡ sector) × (digits ≡ encode_lower (byte ∷ [])) × IsBytes (byte ∷ [])
one_reading text rest digits n sector byte e read h =
    let both = pair_parts (some_same (read ∙ disk_operand text rest sector byte e h)) in
    (both.0, both.1 ∙ h.byte_written, one_of)
  where
    one_of : IsBytes (byte ∷ [])
    one_of zero = h.below
    one_of (suc i) = omega arith

one_byte : (bytes : List ℕ) → length bytes ≡ 1 → bytes ≡ slice_index_or bytes 0 0 ∷ []
one_byte (b ∷ []) h = refl
one_byte other h = absurd (omega arith)

-- what is read is spelled so
pub disk_read : (text rest digits bytes : List ℕ) (n : ℕ) → text_after (codes "disk ") text ≡ Some rest
    → Some (n, digits) ≡ operand_of rest → digits ≡ encode_lower bytes → length bytes ≡ 1 → IsBytes bytes
    → IsDisk text n (slice_index_or bytes 0 0)
disk_read text rest digits bytes n e read spelled one small =
    let found = operand_of-read rest n digits (sym read) in
    record {
      number = found.0;
      digits = digits;
      shape = text_after-some (codes "disk ") text rest e ∙ ap (λ t. codes "disk " ++ t) found.1;
      sector_written = found.2;
      byte_written = spelled ∙ ap encode_lower (one_byte bytes one);
      below = small 0;
    }
