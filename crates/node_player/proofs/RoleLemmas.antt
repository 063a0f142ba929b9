-- What a node answers, by what it is.
use Rattle.std.proofs.Common.{◌≡◌, ℕ, List, Option, Result, Ok, Err, IfOk, refl, ap, ◌∙◌}
use Rattle.guest_rules.specs.declared.shapes.Shape.{Shape}
use Rattle.pair_record.specs.declared.event.Refusal.TheVariants.{AlreadyPaired}
use Rattle.pair_nodes.specs.{Flagged.{Flagged, begun_primary}, PrimaryCalls.booted_primary}
use Rattle.script_player.specs.{Boot.BootLine, Guests.guest_image, Printed.refusal_line}
use Rattle.node_player.specs.{AtNothing.IsBooted, Lines.{boot, order}, Meaning.{NodeAnswers, node_sector}, Printed.sector_answer}
use Rattle.node_player.specs.Nodes.{Node, nothing, primary, standby, node_of}
use Rattle.node_player.specs.declared.role.Role.{Role}
use Rattle.node_player.specs.declared.role.Role.TheVariants as roles
use Rattle.node_player.specs.declared.orders.Order.TheVariants.{Standby, Sector}

-- a node that is something already doesn't begin
pub boots-once : (no_memory : List ℕ) (role : Role) (line : BootLine) → (role ≡ roles.Nothing → ⊥)
    → NodeAnswers no_memory (node_of role) (boot line) (refusal_line AlreadyPaired) (node_of role)
boots-once no_memory roles.Nothing line some = absurd (some refl)
boots-once no_memory (roles.Primary p) line some = (p, (refl, refl), refl)
boots-once no_memory (roles.Standby b) line some = (refl, refl)

pub waits-once : (no_memory : List ℕ) (role : Role) (pages sectors generation : ℕ) → (role ≡ roles.Nothing → ⊥)
    → NodeAnswers no_memory (node_of role) (order (Standby pages sectors generation)) (refusal_line AlreadyPaired) (node_of role)
waits-once no_memory roles.Nothing pages sectors generation some = absurd (some refl)
waits-once no_memory (roles.Primary p) pages sectors generation some = (p, (refl, refl), refl)
waits-once no_memory (roles.Standby b) pages sectors generation some = (refl, refl)

pub booted-so : {E : Type 0} (r : Result Flagged E) (line : BootLine) (shape : Shape) (image : List ℕ)
    → shape.pages ≡ line.pages → shape.sectors ≡ line.sectors → image ≡ guest_image line.guest
    → IfOk r (λ p. p ≡ begun_primary (booted_primary shape image)) → IfOk r (IsBooted line)
booted-so (Ok p) line shape image pages sectors bytes is =
    let primary = is ∙ ap (λ image. begun_primary (booted_primary shape image)) bytes in
    record { shape = shape; pages = pages; sectors = sectors; primary_is = primary }
booted-so (Err e) line shape image pages sectors bytes is = tt

-- a sector is printed, or a bad line's answer
pub sector-so : (no_memory : List ℕ) (node : Node) (sector : ℕ) (found : Option (List ℕ)) → found ≡ node_sector node sector
    → NodeAnswers no_memory node (order (Sector sector)) (sector_answer sector found) node
sector-so no_memory nothing sector found e = (ap (sector_answer sector) e, refl)
sector-so no_memory (primary p) sector found e = (p, (ap (sector_answer sector) e, refl), refl)
sector-so no_memory (standby b) sector found e = (ap (sector_answer sector) e, refl)
