-- What clients and their lines do: a frame is delivered, arrives at the guest, is taken or lost. `X_done` is an event's reply, with the
-- record after it, and the only place that spells them; `on_X` is the event, refused or done.
use Rattle.std.specs.Prelude.{◌≡◌, ◌⊎◌, ℕ, ◌||◌, not, nat_lt, nat_le, Bool, true, false, List, [], ◌∷◌, length, option_map, slice_get, Option, None, Some}
use Rattle.frame_ports.specs.Lands.{list_of}
use Rattle.frame_ports.specs.Limits.{min_frame, max_frame, inbox_frames, number_limit}
use Rattle.pair_history.specs.Entries.{Frame, Entry, Arrive, Delivered, DropIn, DropOut, Took}
use Rattle.pair_history.specs.Entries as entries
use Rattle.pair_record.specs.declared.event.Refusal.{Refusal}
use Rattle.pair_record.specs.declared.event.Refusal.TheVariants.{Full, BadFrame, NoClient, Stopped, Exhausted, NoMemory}
use Rattle.pair_record.specs.declared.event.Reply.{Reply}
use Rattle.pair_record.specs.declared.event.Reply.TheVariants as replies
use Rattle.pair_history.specs.Journal.{with_history, with_moves}
use Rattle.pair_record.specs.Modes.{is_stopped, is_alone}
use Rattle.pair_record.specs.Tables.{Record, Sight, Outcome, Row, first_refusal, refused, or_else, unless, exhausts}
use Rattle.pair_record.specs.Tables.{entry_refusals, is_among}

-- these rows, if there is what they are about
abbrev pub if_there : {A : Type 0} → Option A → List Row → List Row
if_there None rows = []
if_there (Some x) rows = rows

-- ADMIT: of so many clients, where this is the first frame of client c's inbox

abbrev pub admit_refusals : ℕ → Record → ℕ → Option (ℕ × Frame) → List Row
admit_refusals count r c first =
    (not (is_among c count), NoClient) ∷ (is_stopped r.mode, Stopped) ∷ if_there first ((exhausts r 1, Exhausted) ∷ [])

-- it arrives at the guest: that goes into the epoch that runs, or at once into the history
abbrev pub arrival_done : Bool → Record → ℕ → Outcome
arrival_done at_once r n = (replies.Admitted n, record r { journal = with_moves at_once r.journal (Arrive n ∷ []) })

-- where a node is alone, into the history
abbrev pub admit_done : Record → ℕ → Outcome
admit_done r n = arrival_done (is_alone r.mode) r n

-- if there is one
abbrev pub admit_of : Record → Option (ℕ × Frame) → Outcome
admit_of r None = (replies.Empty, r)
admit_of r (Some first) = admit_done r first.0

abbrev pub on_admit : Sight → Record → ℕ → Outcome
on_admit s r c = let first = slice_get (s.inbox c) 0 in unless r (admit_refusals (length s.boxes) r c first) (admit_of r first)

-- DELIVER: of so many clients, where these frames of client c wait and the next frame gets this number

-- whether so many bytes are no frame
abbrev pub is_bad_length : ℕ → Bool
is_bad_length n = nat_lt n min_frame || nat_lt max_frame n

abbrev pub deliver_refusals : Bool → ℕ → List (ℕ × Frame) → ℕ → Record → ℕ → List ℕ → List Row
deliver_refusals word_full count inbox number r c bytes =
    (not (is_among c count), NoClient)
    ∷ (is_bad_length (length bytes), BadFrame)
    ∷ (exhausts r 1, Exhausted)
    ∷ (word_full, Exhausted)
    ∷ (nat_le inbox_frames (length inbox), Full)
    ∷ (nat_le number_limit number, Exhausted)
    ∷ []

-- It may be refused so: by the first row that holds. Memory is wanted where none does, and where the entry that tells of a full inbox is.
abbrev pub RefusesDelivery : List Row → Refusal → Type 0
RefusesDelivery rows (NoMemory w) = (first_refusal rows ≡ None) ⊎ (first_refusal rows ≡ Some Full)
RefusesDelivery rows why = first_refusal rows ≡ Some why

-- a full inbox: that is recorded, and that is all. The other refusals change nothing
abbrev pub delivery_refused : Record → ℕ → Frame → Refusal → Outcome
delivery_refused r c f Full = (replies.Refused Full, record r { journal = with_history r.journal (entries.Refused c f ∷ []) })
delivery_refused r c f why = refused r why

-- the frame waits for the guest under that number
abbrev pub deliver_done : Record → ℕ → Frame → ℕ → Outcome
deliver_done r c f n = (replies.Delivered n, record r { journal = with_history r.journal (Delivered c f n ∷ []) })

abbrev pub on_deliver : Sight → Record → ℕ → List ℕ → Outcome
on_deliver s r c bytes =
    let f : Frame = record { items = bytes } in
    or_else (first_refusal (deliver_refusals false (length s.boxes) (s.inbox c) s.number r c bytes)) (delivery_refused r c f)
    (deliver_done r c f s.number)

-- TAKE

abbrev pub take_refusals : Bool → ℕ → Record → ℕ → List Row
take_refusals word_full count r c = (not (is_among c count), NoClient) ∷ entry_refusals word_full r

-- the first frame of the client's box, or none
abbrev pub take_done : List (List Frame) → Record → ℕ → Outcome
take_done boxes r c =
    let first = slice_get (list_of boxes c) 0 in
    (replies.Took first, record r { journal = with_history r.journal (Took c first ∷ []) })

abbrev pub on_take : Sight → Record → ℕ → Outcome
on_take s r c = unless r (take_refusals false (length s.boxes) r c) (take_done s.boxes r c)

-- LOSEIN, LOSEOUT: the line drops a frame that a client delivered, or one that lies in its box

-- where this entry tells the loss of the frame, if one is there
abbrev pub loss_refusals : Bool → ℕ → Record → ℕ → Option Entry → List Row
loss_refusals word_full count r c lost = (not (is_among c count), NoClient) ∷ if_there lost (entry_refusals word_full r)

-- a frame is dropped, as this entry says
abbrev pub loss_done : Record → Entry → Outcome
loss_done r e = (replies.Dropped, record r { journal = with_history r.journal (e ∷ []) })

-- if there is one
abbrev pub loss_of : Record → Option Entry → Outcome
loss_of r None = (replies.Empty, r)
loss_of r (Some e) = loss_done r e

-- what is answered where one was there, and where none was
abbrev pub loss_reply : Bool → Reply
loss_reply true = replies.Dropped
loss_reply false = replies.Empty

-- a loss of client c's, of so many
abbrev pub on_loss : ℕ → Record → ℕ → Option Entry → Outcome
on_loss count r c lost = unless r (loss_refusals false count r c lost) (loss_of r lost)

-- the entry of the frame at that place of these inbox's frames, and of these in client c's box
abbrev pub lost_in : List (ℕ × Frame) → ℕ → Option Entry
lost_in inbox place = option_map (λ (x : ℕ × Frame). DropIn x.0) (slice_get inbox place)

abbrev pub lost_out : ℕ → List Frame → ℕ → Option Entry
lost_out c box place = option_map (λ (f : Frame). DropOut c place) (slice_get box place)

abbrev pub on_lose_in : Sight → Record → ℕ → ℕ → Outcome
on_lose_in s r c place = on_loss (length s.boxes) r c (lost_in (s.inbox c) place)

abbrev pub on_lose_out : Sight → Record → ℕ → ℕ → Outcome
on_lose_out s r c place = on_loss (length s.boxes) r c (lost_out c (list_of s.boxes c) place)
