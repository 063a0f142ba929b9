-- The name of a checkpoint's text: the generation and the number that it bears.
use Rattle.std.specs.Prelude.{◌≡◌, ℕ, List}
use Rattle.guest_rules.specs.declared.shapes.Shape.{Shape}
use Rattle.pair_record.specs.declared.event.Packet.{Packet}
use Rattle.pair_core.specs.Lines.{packet}
use Rattle.pair_core.specs.Nodes.{read_as}
use Rattle.pair_nodes.specs.Runs.{IsAmong}

abbrev pub name_of : Shape → List ℕ → Packet
name_of shape text = packet (read_as shape text).generation (read_as shape text).number

-- two of these texts that bear one name are one
abbrev pub OneNameOneText : Shape → List (List ℕ) → Type 0
OneNameOneText shape texts = (a b : List ℕ) → IsAmong a texts → IsAmong b texts → name_of shape a ≡ name_of shape b → a ≡ b
