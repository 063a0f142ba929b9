-- What is true of each image, by the parts that it keeps.
use Rattle.std.specs.Prelude.{◌≡◌, ℕ, ◌*◌, ◌^◌, ◌<◌, List, [], length, map, Option, Some, None, Ok}
use Rattle.frame_list.specs.Listed.{Listed}
use Rattle.guest_rules.specs.declared.shapes.Shape.{Shape}
use Rattle.guest_rules.specs.Guest.{State, boot_guest}
use Rattle.guest_rules.specs.Limits.{page_bytes}
use Rattle.epoch_snapshot.specs.Checkpoints.{Change}
use Rattle.backup_image.specs.declared.standing.Standing.{Standing}
use Rattle.backup_image.specs.declared.standing.Staged.TheVariants.{New}
use Rattle.backup_image.specs.Images.{ImageState, answer_at, settled_machine}
use Rattle.backup_image.specs.Kept.{Kept, sent_with}
use Rattle.backup_image.specs.Limits.{number_limit}

-- the kept frames of their parts
abbrev pub kept_of : List Listed → ℕ → Kept
kept_of epochs sent = record { lists = map (λ epoch. epoch.items) epochs; sent = sent }

-- an image of its parts
abbrev pub state_of : Shape → State → Option Standing → Option Change → Kept → ImageState
state_of shape machine standing staged kept = record {
  shape = shape;
  guest = machine.guest;
  stands_at = standing;
  staged = staged;
  kept = kept.lists;
  sent = kept.sent;
}

-- the machine is just settled and of the image's shape, and at boot with no program while the image is empty; what is staged is of that
-- shape, is what comes next, and its frames have numbers
pub record IsImage (shape : Shape) (machine : State) (standing : Option Standing) (staged : Option Change) (sent : ℕ) : Type 0 where
  pub settled : machine ≡ settled_machine shape machine.guest
  pub pages : length machine.guest.ram ≡ page_bytes * shape.pages
  pub sectors : length machine.guest.sectors ≡ 512 * shape.sectors
  pub empty : standing ≡ None → machine.guest ≡ boot_guest shape.pages shape.sectors []
  pub numbers : (at : Standing) → standing ≡ Some at → at.number < 2 ^ 62
  pub shapes : (c : Change) → staged ≡ Some c → c.shape ≡ shape
  pub next : (c : Change) → staged ≡ Some c → answer_at standing c.generation c.number ≡ Ok New
  pub numbered : (c : Change) → staged ≡ Some c → sent_with c sent < number_limit
