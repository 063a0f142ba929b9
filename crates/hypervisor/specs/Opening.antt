-- A pair at its start: nothing happened yet.
use Rattle.std.specs.Prelude.{◌≡◌, ℕ, zero, suc, ◌+◌, List, [], ◌∷◌, ◌++◌}
use Rattle.atomic_table.specs.Seated.{TableId}
use Rattle.backup_image.specs.Images.{ImageState, booted, settled_machine}
use Rattle.growing_history.specs.Views.{Member}
use Rattle.guest_rules.specs.declared.shapes.Shape.{Shape}
use Rattle.guest_rules.specs.Guest.{Guest, State, boot_guest}
use Rattle.pair_book.specs.Books.{BookState, start_book}
use Rattle.pair_book.specs.Opening.{Unnamed}
use Rattle.pair_history.specs.HistoryState.{HistoryState, start_state}
use Rattle.growing_history.specs.LogState.{history_of}
use Rattle.hypervisor.specs.Clients.{ClientState, own}

-- A PAIR WITHOUT A NAME: its word, how many clients there are, how large its guest is, and the guest at boot

pub record UnnamedState : Type 0 where
  pub word : TableId
  pub clients : ℕ
  pub shape : Shape
  pub guest : Guest

-- by its book and its image
abbrev pub unnamed_state : Unnamed → ImageState → UnnamedState
unnamed_state book image =
    record { word = book.word; clients = book.clients; shape = image.shape; guest = image.guest }

-- where the history starts from that guest, with an empty box for each client
abbrev pub start_with : Guest → ℕ → HistoryState
start_with g clients = record (start_state 1 1 [] clients) { guest = g }

-- the image of that guest at boot, which counts as committed under number 0
abbrev pub first_image : Shape → Guest → ImageState
first_image shape g = record (booted shape []) { guest = g }

-- Machine and image are of the one guest at boot, and nothing has run.
pub record IsUnnamed (clients : ℕ) (book : Unnamed) (machine : State) (image : ImageState) : Type 0 where
  pub count : clients ≡ book.clients
  pub settled : machine ≡ settled_machine image.shape image.guest
  pub first : image ≡ first_image image.shape image.guest
  pub bytes : List ℕ
  pub boot : image.guest ≡ boot_guest image.shape.pages image.shape.sectors bytes

-- a book of which nothing has happened, of a pair of so many clients
abbrev pub IsStarted : BookState → Type 0
IsStarted b = (clients : ℕ) × (b ≡ start_book clients b.enrolled)

-- THE MEMBERS: who has seen nothing

abbrev pub unseen : ℕ → Member
unseen number = record { number = number; steps = [] }

-- a client that has seen nothing
abbrev pub new_client : ℕ → ClientState
new_client c = record { number = c; seen = [] }

-- so many of them, client 1 first
abbrev pub new_clients : ℕ → List ClientState
new_clients zero = []
new_clients (suc n) = new_clients n ++ new_client (n + 1) ∷ []

-- The clients at the start: the history that each has seen, and its own entries in it, are empty.
pub record AreNew (start : HistoryState) (count : ℕ) (clients : List ClientState) : Type 0 where
  pub are : clients ≡ new_clients count
  pub history : (c : ℕ) → history_of start (new_client c).seen ≡ []
  pub own : (c : ℕ) → own start (new_client c) ≡ []
