-- What a node that is nothing yet answers to each line, and what it is then: the first column of the table of docs/NODES.md.
use Rattle.std.specs.Prelude.{◌≡◌, ℕ, List, [], ◌∷◌, codes, decimal}
use Rattle.guest_rules.specs.declared.shapes.Shape.{Shape}
use Rattle.pair_record.specs.declared.event.Refusal.TheVariants.{NoImage}
use Rattle.pair_nodes.specs.Flagged.{Flagged, begun_primary}
use Rattle.pair_nodes.specs.PrimaryCalls.{booted_primary}
use Rattle.pair_nodes.specs.Sides.{Standby as StandbyNode, new_standby}
use Rattle.script_player.specs.Boot.{BootLine}
use Rattle.script_player.specs.Guests.{guest_image}
use Rattle.script_player.specs.Printed.{line}
use Rattle.script_player.specs.Session.{bad_answer}
use Rattle.node_player.specs.declared.orders.Order.TheVariants.{Standby, Show, Sector}
use Rattle.node_player.specs.Lines.{Line, boot, order}
use Rattle.node_player.specs.Nodes.{Node, nothing, primary, standby}
use Rattle.node_player.specs.Outcomes.{Refuses, InMemory}
use Rattle.node_player.specs.Printed.{show_line}

-- a primary that is alone, of the guest of that boot line
pub record IsBooted (b : BootLine) (p : Flagged) : Type 0 where
  pub shape : Shape
  pub pages : shape.pages ≡ b.pages
  pub sectors : shape.sectors ≡ b.sectors
  pub primary_is : p ≡ begun_primary (booted_primary shape (guest_image b.guest))

-- a standby of that shape and generation
pub record IsWaiting (pages sectors generation : ℕ) (b : StandbyNode) : Type 0 where
  pub shape : Shape
  pub pages_are : shape.pages ≡ pages
  pub sectors_are : shape.sectors ≡ sectors
  pub standby_is : b ≡ new_standby shape generation

abbrev pub AtNothing : List ℕ → Line → List ℕ → Node → Type 0
AtNothing no_memory (boot b) printed new =
    InMemory no_memory nothing printed new ((printed ≡ line (codes "booted" ∷ [])) × ((p : Flagged) × IsBooted b p × (new ≡ primary p)))
AtNothing no_memory (order (Standby pages sectors generation)) printed new =
    InMemory no_memory nothing printed new
    ((printed ≡ line (codes "waiting" ∷ decimal generation ∷ []))
    × ((b : StandbyNode) × IsWaiting pages sectors generation b × (new ≡ standby b)))
AtNothing no_memory (order Show) printed new = (printed ≡ show_line (codes "empty") 0 0 0 0) × (new ≡ nothing)
AtNothing no_memory (order (Sector sector)) printed new = (printed ≡ bad_answer) × (new ≡ nothing)
AtNothing no_memory line printed new = Refuses no_memory NoImage nothing printed new
