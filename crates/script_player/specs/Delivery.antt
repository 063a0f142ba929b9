-- The line of a client's frame: `deliver CLIENT HEX`, in fields that are parted by one space.
use Rattle.std.specs.Prelude.{◌≡◌, ℕ, ◌<◌, ◌∷◌, [], List, Option, Some, codes, length, option_and_then}
use Rattle.std.specs.List.{join_with_byte}
use Rattle.hex.specs.Hex.{encode_lower, IsBytes}
use Rattle.script_player.specs.Fields.{text_after, number_written, operand_of}
use Rattle.script_player.specs.declared.delivery.Delivery.{Delivery}

-- the digits write these bytes, at least one, each as two hex digits in lower case
pub record IsHex (digits bytes : List ℕ) : Type 0 where
  pub shape : digits ≡ encode_lower bytes
  pub some : 0 < length bytes
  pub below : IsBytes bytes

-- how a delivery is spelled
pub record IsDelivery (text : List ℕ) (client : ℕ) (bytes : List ℕ) : Type 0 where
  pub number : List ℕ
  pub digits : List ℕ
  pub shape : text ≡ join_with_byte 32 (codes "deliver" ∷ number ∷ digits ∷ [])
  pub client_written : number_written number ≡ Some client
  pub bytes_written : IsHex digits bytes

-- the client's number and what stands after it, read from the left
abbrev pub delivery_head : List ℕ → Option (ℕ × List ℕ)
delivery_head text = option_and_then operand_of (text_after (codes "deliver ") text)

abbrev pub delivery_view : Delivery → ℕ × List ℕ
delivery_view d = (d.client, d.bytes.items)
