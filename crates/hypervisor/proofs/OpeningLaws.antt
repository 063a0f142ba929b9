-- With what runner and backup begin, at the start and where a node is protected.
use Rattle.std.proofs.Common.{◌≡◌, ℕ, ◌*◌, List, [], ◌∷◌, ◌++◌, length, refl, sym, ap, ◌∙◌, subst, arith, None, Some}
use Rattle.std.specs.List.{Contains}
use Rattle.backup_image.specs.Images.{ImageState, empty_image, settled_machine}
use Rattle.guest_rules.specs.declared.shapes.Shape.{Shape}
use Rattle.guest_rules.specs.Guest.{Guest, State, boot_guest}
use Rattle.growing_history.specs.LogState.{first_runner, first_backup}
use Rattle.growing_history.specs.Steps.{Protected, Step, step}
use Rattle.growing_history.specs.Views.{Member}
use Rattle.pair_book.specs.Books.{BookState, start_book}
use Rattle.pair_book.specs.Made.{IsShape}
use Rattle.pair_book.specs.Opening.{IsBoot, Unnamed}
use Rattle.pair_book.specs.Settled.{Runs, settled_runner}
use Rattle.pair_book.specs.Standing.{Stands, first_ack}
use Rattle.pair_history.specs.HistoryState.{HistoryState, start_state}
use Rattle.pair_history.specs.Reached.{IsReached}
use Rattle.pair_record.specs.declared.event.Refusal.TheVariants.{Exhausted}
use Rattle.hypervisor.specs.Backups.{ImageStands}
use Rattle.hypervisor.specs.Opening.{start_with, first_image, unseen, IsUnnamed, IsStarted}
use Rattle.hypervisor.specs.Refusals.{protect_refusals}
use Rattle.hypervisor.specs.Runners.{IsSized}
use Rattle.hypervisor.specs.Seats.{SeesLast}

-- A NEW BACKUP stands whatever its image
abbrev pub NewLaw : Type 0
NewLaw = (start : HistoryState) (steps : List Step) (b : ℕ) (image : Guest)
    → Stands start (record { number = b; steps = steps ++ step 0 (Protected b) ∷ [] }) image None 0 1 []

pub new-stands-with : (start : HistoryState) (seat : Member) (shape : Shape) (image : ImageState) → NewLaw → image ≡ empty_image shape
    → SeesLast start (Protected seat.number) seat.steps → ImageStands start seat image
new-stands-with start seat shape image law is sees =
    let seen : seat ≡ record { number = seat.number; steps = sees.last.0 ++ step 0 (Protected seat.number) ∷ [] } =
    λ i. record { number = seat.number; steps = sees.last.1 i } in
    subst (λ (x : Member × ImageState). ImageStands start x.0 x.1) (λ i. (sym seen i, sym is i))
    (law start sees.last.0 seat.number (empty_image shape).guest)

pub may-exhaust : Contains protect_refusals Exhausted
may-exhaust = (3, omega arith, refl)

-- AT THE START

-- the first backup stands, and the first runner runs, with the guest where the history starts
abbrev pub FirstBackupLaw : Type 0
FirstBackupLaw = (start : HistoryState) → Stands start (unseen first_backup) start.guest (Some first_ack) 0 1 []

abbrev pub FirstRunnerLaw : Type 0
FirstRunnerLaw = (start : HistoryState) → Runs start (unseen first_runner) (settled_runner start.guest [])

pub first-runs : (start : HistoryState) (machine : State) (seat : Member) → FirstRunnerLaw → seat ≡ unseen first_runner
    → machine.guest ≡ start.guest → Runs start seat (settled_runner machine.guest [])
first-runs start machine seat law is guest =
    subst (λ (x : Member × Guest). Runs start x.0 (settled_runner x.1 [])) (λ i. (sym is i, sym guest i)) (law start)

pub first-sized : (start : HistoryState) (machine : State) → machine.guest ≡ start.guest → IsSized start machine.guest
first-sized start machine is = record {
  ram = ap (λ (g : Guest). length g.ram) is;
  sectors = ap (λ (g : Guest). length g.sectors) is;
}

pub first-stands : (start : HistoryState) (image : ImageState) (seat : Member) → FirstBackupLaw → seat ≡ unseen first_backup
    → image ≡ first_image image.shape start.guest → ImageStands start seat image
first-stands start image seat law is at =
    let stands : ImageStands start (unseen first_backup) (first_image image.shape start.guest) = law start in
    subst (λ (x : Member × ImageState). ImageStands start x.0 x.1) (λ i. (sym is i, sym at i)) stands

module _ (start : HistoryState) (clients : ℕ) (book : Unnamed) (machine : State) (image : ImageState)
    (h : IsUnnamed clients book machine image) (is : start ≡ start_with image.guest book.clients) where
  guest-is : start.guest ≡ image.guest
  guest-is = ap (λ (s : HistoryState). s.guest) is

  pub settled-is : machine ≡ settled_machine image.shape start.guest
  settled-is = h.settled ∙ ap (λ (g : Guest). settled_machine image.shape g) (sym guest-is)

  pub image-is : image ≡ first_image image.shape start.guest
  image-is = h.first ∙ ap (λ (g : Guest). first_image image.shape g) (sym guest-is)

  state-is : start ≡ start_state image.shape.pages image.shape.sectors h.bytes book.clients
  state-is = is ∙ ap (λ (g : Guest). start_with g book.clients) h.boot

  pub boots : IsBoot start book.clients
  boots = record { pages = image.shape.pages; sectors = image.shape.sectors; image = h.bytes; is = state-is }

  pub reached : ((pages sectors : ℕ) (bytes : List ℕ) (n : ℕ) → IsReached (start_state pages sectors bytes n)) → IsReached start
  reached law =
      subst (λ (s : HistoryState). IsReached s) (sym state-is) (law image.shape.pages image.shape.sectors h.bytes book.clients)

  pub first-shape : length image.guest.ram ≡ 4096 * image.shape.pages → length image.guest.sectors ≡ 512 * image.shape.sectors
      → IsShape start image.shape
  first-shape ram sectors = record {
    ram = ap (λ (g : Guest). length g.ram) guest-is ∙ ram;
    sectors = ap (λ (g : Guest). length g.sectors) guest-is ∙ sectors;
  }

-- NOTHING HAS HAPPENED, whoever got a seat
pub opened : (b now : BookState) (enrolled : ℕ) → now ≡ record b { enrolled = enrolled } → IsStarted b → IsStarted now
opened b now enrolled is started = (
  started.0,
  is
      ∙ ap (λ (x : BookState). record x { enrolled = enrolled }) started.1
      ∙ ap (start_book started.0) (sym (ap (λ (x : BookState). x.enrolled) is)),
)

-- machine and image at boot are those of a pair without a name
pub boots-unnamed : (shape : Shape) (bytes : List ℕ) (clients : ℕ) (book : Unnamed) (machine : State) (image : ImageState)
    → book.clients ≡ clients → machine ≡ settled_machine shape (boot_guest shape.pages shape.sectors bytes)
    → image ≡ first_image shape (boot_guest shape.pages shape.sectors bytes) → IsUnnamed clients book machine image
boots-unnamed shape bytes clients book machine image count settled first =
    let at : settled_machine shape (boot_guest shape.pages shape.sectors bytes) ≡ settled_machine image.shape image.guest =
    λ i. settled_machine (sym first i).shape (sym first i).guest in
    record {
      count = sym count;
      settled = settled ∙ at;
      first = first ∙ λ i. first_image (sym first i).shape (sym first i).guest;
      bytes = bytes;
      boot = ap (λ (x : ImageState). x.guest) first
          ∙ λ i. boot_guest (sym first i).shape.pages (sym first i).shape.sectors bytes;
    }
