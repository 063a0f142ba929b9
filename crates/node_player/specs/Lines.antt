-- A line of a node, without where its bytes lie in memory, and how each is spelled (docs/NODES.md, "Lines").
use Rattle.std.specs.Prelude.{◌≡◌, ◌⊎◌, ◌<◌, ℕ, List, ◌∷◌, ◌++◌, length, Some, codes}
use Rattle.std.specs.Option.{unwrap_or}
use Rattle.script_player.specs.Boot.{BootLine, IsBoot, boot_line}
use Rattle.script_player.specs.Delivery.{IsHex}
use Rattle.script_player.specs.Fields.{number_written, numbered_by}
use Rattle.node_player.specs.Orders.{IsOrder}
use Rattle.node_player.specs.declared.orders.Order.{Order}
use Rattle.node_player.specs.declared.lines.Line.{Line as ReadLine}
use Rattle.node_player.specs.declared.lines.Line.TheVariants as lines

pub data Line : Type 0 where
  boot : BootLine → Line
  order : Order → Line
  -- a frame for the guest, and a part of a checkpoint's text, by their bytes
  arrive : List ℕ → Line
  piece : List ℕ → Line

-- the front, and digits that write bytes
abbrev pub HasBytes : List ℕ → List ℕ → List ℕ → Type 0
HasBytes front bytes text = (digits : List ℕ) × (text ≡ front ++ digits) × IsHex digits bytes

-- the front, digits that write how many bytes stand behind the line's end, and these, at least one
abbrev pub IsFollowed : List ℕ → List ℕ → List ℕ → Type 0
IsFollowed front bytes text =
    (digits : List ℕ) × (text ≡ front ++ (digits ++ 10 ∷ bytes)) × (number_written digits ≡ Some (length bytes)) × (0 < length bytes)

abbrev pub IsLine : List ℕ → Line → Type 0
IsLine text (boot line) = IsBoot text line
IsLine text (order o) = IsOrder text o
IsLine text (arrive bytes) = HasBytes (codes "arrive ") bytes text
IsLine text (piece bytes) = HasBytes (codes "piece ") bytes text ⊎ IsFollowed (codes "rawpiece ") bytes text

-- a line for which memory is asked while it is read
abbrev pub WantsMemory : Line → Type 0
WantsMemory (order o) = ⊥
WantsMemory line = Unit {0}

abbrev pub line_of : ReadLine → Line
line_of (lines.Boot b) = boot (boot_line b)
line_of (lines.Order o) = order o
line_of (lines.Arrive bytes) = arrive bytes.items
line_of (lines.Piece bytes) = piece bytes.items
line_of (lines.RawPiece bytes) = piece bytes.now

-- how many bytes follow a line, and are a part of it
abbrev pub following : List ℕ → ℕ
following line = unwrap_or (numbered_by (codes "rawpiece ") line) 0
