-- What stands before the guest in a boot line, read from the left: for the program's own steps. What a line is says `Boot`.
use Rattle.std.specs.Prelude.{ℕ, List, Option, Some, None, codes, Bool, nat_le, ◌&&◌, if◌then◌else◌, option_and_then}
use Rattle.script_player.specs.Fields.{text_after, operand_of}
use Rattle.script_player.specs.Limits.{most_pages, most_sectors, most_clients}
use Rattle.script_player.specs.declared.boot.Head.{Head}

-- whether all three are in their ranges
abbrev pub in_limits : ℕ → ℕ → ℕ → Bool
in_limits pages sectors clients =
    nat_le 1 pages && nat_le pages most_pages && (nat_le 1 sectors && nat_le sectors most_sectors)
    && (nat_le 1 clients && nat_le clients most_clients)

-- the number of clients and the guest's text, after pages and sectors
abbrev pub clients_of : ℕ → ℕ → ℕ × List ℕ → Option (ℕ × ℕ × ℕ × List ℕ)
clients_of pages sectors clients = if in_limits pages sectors clients.0 then Some (pages, sectors, clients.0, clients.1) else None

-- pages, sectors, clients, and the guest's text
abbrev pub head_of : List ℕ → Option (ℕ × ℕ × ℕ × List ℕ)
head_of text =
    option_and_then (λ rest.
    option_and_then (λ pages.
    option_and_then (λ sectors.
    option_and_then (clients_of pages.0 sectors.0)
    (operand_of sectors.1))
    (operand_of pages.1))
    (operand_of rest))
    (text_after (codes "boot ") text)

abbrev pub head_view : Head → ℕ × ℕ × ℕ × List ℕ
head_view head = (head.pages, head.sectors, head.clients, head.guest.now)
