-- The texts of the pending checkpoints, and which of them is given next.
use Rattle.std.specs.Prelude.{◌≡◌, ℕ, ◌+◌, nat_le, nat_lt, Bool, true, if◌then◌else◌, List, [], ◌∷◌, ◌++◌, slice_get, Option, None, Some}
use Rattle.pair_history.specs.Entries.{Entry}
use Rattle.pair_record.specs.declared.event.Event.TheVariants.{Send}
use Rattle.pair_record.specs.declared.event.Refusal.{Refusal}
use Rattle.pair_record.specs.Modes.{mode_refusal}
use Rattle.growing_history.specs.Steps.{Sealed, Step, step}
use Rattle.pair_book.specs.Packets.{PacketState, TextsState}
use Rattle.pair_book.specs.Books.{BookState}

-- whether that number comes after the one given last, if one was
abbrev pub is_after : Option ℕ → ℕ → Bool
is_after None n = true
is_after (Some last) n = nat_lt last n

-- the first of these that comes after it
abbrev pub first_packet_after : Option ℕ → List PacketState → Option PacketState
first_packet_after given [] = None
first_packet_after given (p ∷ ps) = if is_after given p.number then Some p else first_packet_after given ps

abbrev pub or_first : Option PacketState → List PacketState → Option PacketState
or_first (Some p) ps = Some p
or_first None ps = slice_get ps 0

-- Of packets that rise by number: the least above the one given last, else the least; none where there are none.
abbrev pub next_of : TextsState → Option PacketState
next_of t = or_first (first_packet_after t.given t.packets) t.packets

-- once that one was given
abbrev pub given_after : Option PacketState → TextsState → TextsState
given_after None t = t
given_after (Some p) t = record t { given = Some p.number }

-- of packets that rise by number, those above that one
abbrev pub above : ℕ → List PacketState → List PacketState
above n [] = []
above n (p ∷ ps) = if nat_le p.number n then above n ps else p ∷ ps

-- once those up to that number have left
abbrev pub texts_above : ℕ → TextsState → TextsState
texts_above n t = record t { packets = above n t.packets }

-- once one more checkpoint was sealed
abbrev pub with_text : TextsState → PacketState → TextsState
with_text t p = record t { packets = t.packets ++ p ∷ [] }

-- WHAT IS TRUE of a book's packets

-- a checkpoint of its generation and number was sealed with its text
pub record WasSealed (steps : List Step) (p : PacketState) : Type 0 where
  pub before : List Step
  pub later : List Step
  pub by : ℕ
  pub epoch : List Entry
  pub is : steps ≡ before ++ step by (Sealed p.generation p.number epoch p.text) ∷ later

-- packets of that generation, with consecutive numbers from n on, each of which was sealed in the steps
abbrev pub ArePending : List Step → ℕ → ℕ → List PacketState → Type 0
ArePending steps generation n [] = Unit {0}
ArePending steps generation n (p ∷ ps) =
    (p.generation ≡ generation) × (p.number ≡ n) × WasSealed steps p × ArePending steps generation (n + 1) ps

-- why none is given: the primary has stopped, or a node is alone
abbrev pub next_why : BookState → Option Refusal
next_why b = mode_refusal b.protocol.mode Send
