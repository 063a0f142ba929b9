-- What contracts see of the ports, and what each call answers.
use Rattle.std.specs.Prelude.{
  ◌≡◌,
  ℕ,
  ◌+◌,
  ◌≤◌,
  Bool,
  not,
  ◌&&◌,
  List,
  [],
  ◌∷◌,
  ◌++◌,
  length,
  replicate,
  All,
  Result,
  Ok,
  Err,
  nat_le,
  nat_lt,
  if◌then◌else◌,
}
use Rattle.arrayvec.specs.ArrayVec.{ArrayVec}
use Rattle.frame_ports.specs.Addresses.{IsFrame}
use Rattle.frame_ports.specs.Lands.{list_of, with_list}
use Rattle.frame_ports.specs.declared.errors.PortError.{PortError}
use Rattle.frame_ports.specs.declared.errors.PortError.TheVariants.{Full, BadFrame, NoClient, Exhausted}
use Rattle.frame_ports.specs.Limits.{min_frame, max_frame, max_clients, inbox_frames, box_frames, number_limit}

-- the number of the next frame that is delivered; for each client the frames that wait for the guest, with their
-- numbers, the frames that landed for it, and the number of the guest's last frame that came for it, 0 at first: that
-- frame landed, or was dropped at a full box. Client c has the place c - 1 in all three
pub record PortsState : Type 0 where
  pub next : ℕ
  pub inboxes : List (List (ℕ × ArrayVec ℕ))
  pub boxes : List (List (ArrayVec ℕ))
  pub numbers : List ℕ

-- a client's number is 1 to the count of clients
abbrev pub is_client : PortsState → ℕ → Bool
is_client s c = nat_le 1 c && nat_le c (length s.boxes)

abbrev pub IsClient : PortsState → ℕ → Type 0
IsClient s c = (1 ≤ c) × (c ≤ length s.boxes)

abbrev pub inbox_of : PortsState → ℕ → List (ℕ × ArrayVec ℕ)
inbox_of s c = list_of s.inboxes c

abbrev pub box_of : PortsState → ℕ → List (ArrayVec ℕ)
box_of s c = list_of s.boxes c

abbrev pub with_inbox : PortsState → ℕ → List (ℕ × ArrayVec ℕ) → PortsState
with_inbox s c xs = record s { inboxes = with_list s.inboxes c xs }

abbrev pub with_box : PortsState → ℕ → List (ArrayVec ℕ) → PortsState
with_box s c xs = record s { boxes = with_list s.boxes c xs }

-- an inbox: at most 64 frames; and a box: at most 256
abbrev pub IsInbox : List (ℕ × ArrayVec ℕ) → Type 0
IsInbox xs = (length xs ≤ inbox_frames) × All (λ x. IsFrame x.1) xs

abbrev pub IsBox : List (ArrayVec ℕ) → Type 0
IsBox xs = (length xs ≤ box_frames) × All IsFrame xs

-- what is true of all ports
pub record IsPorts (s : PortsState) : Type 0 where
  pub next : (1 ≤ s.next) × (s.next ≤ number_limit)
  pub clients : (1 ≤ length s.boxes) × (length s.boxes ≤ max_clients)
  pub pairs : length s.inboxes ≡ length s.boxes
  pub numbered : length s.numbers ≡ length s.boxes
  pub inboxes : All IsInbox s.inboxes
  pub boxes : All IsBox s.boxes

-- ports at the start: nothing was delivered, nothing landed
abbrev pub empty_ports : ℕ → PortsState
empty_ports clients = record {
  next = 1;
  inboxes = replicate clients [];
  boxes = replicate clients [];
  numbers = replicate clients 0;
}

-- what a delivery to client c answers, by the table of refusals in this order: 3, 2, 1, 14
abbrev pub delivery : PortsState → ℕ → List ℕ → Result ℕ PortError
delivery s c bytes =
    if not (is_client s c) then Err NoClient
    else if nat_lt (length bytes) min_frame then Err BadFrame
    else if nat_lt max_frame (length bytes) then Err BadFrame
    else if nat_le inbox_frames (length (inbox_of s c)) then Err Full
    else if nat_le number_limit s.next then Err Exhausted
    else Ok s.next

-- the ports after it
abbrev pub after_delivery : PortsState → ℕ → List ℕ → PortsState
after_delivery s c bytes =
    record s { next = s.next + 1; inboxes = with_list s.inboxes c (inbox_of s c ++ (s.next, record { items = bytes }) ∷ []) }

-- an answer that only a number that is no client's refuses
abbrev pub for_client : {A : Type 0} → PortsState → ℕ → A → Result A PortError
for_client s c answer = if is_client s c then Ok answer else Err NoClient
