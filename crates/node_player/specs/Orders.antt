-- The lines of a node that carry numbers alone: a name, and what it is told (docs/NODES.md, "Lines").
use Rattle.std.specs.Prelude.{◌≡◌, ℕ, ◌≤◌, Bool, ◌&&◌, nat_le, nat_eq, List, ◌∷◌, ◌++◌, Option, Some, None, codes, if◌then◌else◌}
use Rattle.std.specs.Prelude.{option_map}
use Rattle.std.specs.Option.{option_map_or, option_and_then}
use Rattle.std.specs.Str.{bytes_eq}
use Rattle.script_player.specs.Command.{IsNumbered, HasNumbers}
use Rattle.script_player.specs.Fields.{text_after, number_written, numbered_by, numbers_by, operand_of, with_second}
use Rattle.script_player.specs.Limits.{most_pages, most_sectors}
use Rattle.node_player.specs.Limits.{last_generation}
use Rattle.node_player.specs.declared.orders.Form.{Form}
use Rattle.node_player.specs.declared.orders.Form.TheVariants as forms
use Rattle.node_player.specs.declared.orders.Order.{Order}
use Rattle.node_player.specs.declared.orders.Order.TheVariants.{Standby, Step, Cut, Text, Ack, Alone, Protect, Commit, Restart, GoLive}
use Rattle.node_player.specs.declared.orders.Order.TheVariants.{Show, Sector}

-- the front, and digits that write three numbers, parted by one space
abbrev pub HasThreeNumbers : List ℕ → ℕ → ℕ → ℕ → List ℕ → Type 0
HasThreeNumbers front l m n text =
    (first : List ℕ) × (second : List ℕ) × (third : List ℕ)
    × (text ≡ front ++ (first ++ 32 ∷ (second ++ 32 ∷ third)))
    × (number_written first ≡ Some l) × (number_written second ≡ Some m) × (number_written third ≡ Some n)

-- 1 to 16384 pages, 1 to 32768 sectors, and a generation
pub record IsShaped (pages sectors generation : ℕ) : Type 0 where
  pub pages_fit : (1 ≤ pages) × (pages ≤ most_pages)
  pub sectors_fit : (1 ≤ sectors) × (sectors ≤ most_sectors)
  pub generation_fits : (1 ≤ generation) × (generation ≤ last_generation)

-- how a line for bytes of a text begins
abbrev pub text_word : Form → List ℕ
text_word forms.Hex = codes "text "
text_word forms.Raw = codes "rawtext "

-- how each is spelled; a count of steps is at least 1
abbrev pub IsOrder : List ℕ → Order → Type 0
IsOrder text (Standby pages sectors generation) =
    HasThreeNumbers (codes "standby ") pages sectors generation text × IsShaped pages sectors generation
IsOrder text (Step n) = IsNumbered (codes "step ") n text × (1 ≤ n)
IsOrder text Cut = text ≡ codes "cut"
IsOrder text (Text form number from count) = HasThreeNumbers (text_word form) number from count text
IsOrder text (Ack generation number) = HasNumbers (codes "ack ") generation number text
IsOrder text Alone = text ≡ codes "alone"
IsOrder text Protect = text ≡ codes "protect"
IsOrder text Commit = text ≡ codes "commit"
IsOrder text Restart = text ≡ codes "restart"
IsOrder text GoLive = text ≡ codes "golive"
IsOrder text Show = text ≡ codes "show"
IsOrder text (Sector sector) = IsNumbered (codes "sector ") sector text

-- three numbers after front, read from the left
abbrev pub three_by : List ℕ → List ℕ → Option (ℕ × ℕ × ℕ)
three_by front text =
    option_and_then (λ head. option_map (λ two. (head.0, two.0, two.1)) (option_and_then with_second (operand_of head.1)))
    (option_and_then operand_of (text_after front text))

abbrev pub is_shaped : ℕ → ℕ → ℕ → Bool
is_shaped pages sectors generation =
    nat_le 1 pages && nat_le pages most_pages && (nat_le 1 sectors && nat_le sectors most_sectors)
    && (nat_le 1 generation && nat_le generation last_generation)

-- the order for a standby, where all three are in their ranges
abbrev pub shaped_order : ℕ → ℕ → ℕ → Option Order
shaped_order pages sectors generation =
    if is_shaped pages sectors generation then Some (Standby pages sectors generation) else None

-- the order that a line spells, by the first form that fits
abbrev pub order_of : List ℕ → Option Order
order_of text =
    if bytes_eq text (codes "cut") then Some Cut
    else if bytes_eq text (codes "alone") then Some Alone
    else if bytes_eq text (codes "protect") then Some Protect
    else if bytes_eq text (codes "commit") then Some Commit
    else if bytes_eq text (codes "restart") then Some Restart
    else if bytes_eq text (codes "golive") then Some GoLive
    else if bytes_eq text (codes "show") then Some Show
    else option_map_or (λ n. if nat_eq n 0 then None else Some (Step n)) (numbered_by (codes "step ") text)
    (option_map_or (λ f. Some (Ack f.0 f.1)) (numbers_by (codes "ack ") text)
    (option_map_or (λ f. Some (Text forms.Hex f.0 f.1 f.2)) (three_by (codes "text ") text)
    (option_map_or (λ f. Some (Text forms.Raw f.0 f.1 f.2)) (three_by (codes "rawtext ") text)
    (option_map_or (λ sector. Some (Sector sector)) (numbered_by (codes "sector ") text)
    (option_map_or (λ f. shaped_order f.0 f.1 f.2) (three_by (codes "standby ") text)
    None)))))
