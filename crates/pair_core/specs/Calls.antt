-- How the calls of clients, and losses on their lines, are answered: each answer stands exactly where its row says, so that no call is
-- refused without its reason. A row that wants memory may be answered `NoMemory` in its place.
use Rattle.std.specs.Prelude.{ℕ, ◌+◌, ◌<◌, ◌≤◌, ◌⊎◌, ◌++◌, List, length}
use Rattle.frame_ports.specs.Addresses.{IsFrame}
use Rattle.frame_ports.specs.Lands.{list_of}
use Rattle.frame_ports.specs.Limits.{min_frame, max_frame, inbox_frames, number_limit}
use Rattle.guest_rules.specs.Guest.{Guest}
use Rattle.pair_history.specs.Entries.{Entry}
use Rattle.pair_history.specs.HistoryState.{HistoryState, IsClient, inbox_of, at}
use Rattle.pair_record.specs.declared.event.Event.{Event}
use Rattle.pair_record.specs.declared.event.Event.TheVariants.{Deliver, Take, LoseIn, LoseOut}
use Rattle.pair_record.specs.declared.event.Refusal.TheVariants.{Full, BadFrame, NoClient, NoMemory, Exhausted}
use Rattle.pair_record.specs.declared.event.Reply.{Reply}
use Rattle.pair_record.specs.declared.event.Reply.TheVariants as replies
use Rattle.pair_record.specs.Journal.{joined}

-- A moment of a run: the history, what the guest did that the history doesn't have yet, and the guest. Of what it did the epochs that are
-- sealed stand first, the oldest before the others, and then the epoch that runs.
pub record Moment : Type 0 where
  pub history : List Entry
  pub sealed : List (List Entry)
  pub running : List Entry
  pub guest : Guest

-- all that the guest did ahead of the history
abbrev pub ahead_of : Moment → List Entry
ahead_of m = joined m.sealed ++ m.running

-- the state that clients see at a moment, and the one after what the guest did ahead of it
abbrev pub shown_then : HistoryState → Moment → HistoryState
shown_then start m = at start m.history

abbrev pub live_then : HistoryState → Moment → HistoryState
live_then start m = at start (m.history ++ ahead_of m)

-- no client has that number
abbrev pub IsNobody : HistoryState → ℕ → Type 0
IsNobody s c = (c < 1) ⊎ (length s.boxes < c)

-- the history has a place for one entry more, and for what the guest did ahead of it; or it hasn't: entries are counted below 2^62
abbrev pub HasPlace : Moment → Type 0
HasPlace m = length (m.history ++ ahead_of m) + 1 < number_limit

abbrev pub IsExhausted : Moment → Type 0
IsExhausted m = number_limit ≤ length (m.history ++ ahead_of m) + 1

-- Take by client c
abbrev pub AnswersTake : HistoryState → Moment → ℕ → Reply → Type 0
AnswersTake start m c (replies.Took frame) = IsClient (shown_then start m) c × HasPlace m
AnswersTake start m c (replies.Refused NoClient) = IsNobody (shown_then start m) c
AnswersTake start m c (replies.Refused Exhausted) = IsClient (shown_then start m) c × IsExhausted m
AnswersTake start m c (replies.Refused (NoMemory _)) = IsClient (shown_then start m) c × HasPlace m
AnswersTake start m c other = ⊥

-- how many frames of client c wait for the guest
abbrev pub waiting_then : HistoryState → Moment → ℕ → ℕ
waiting_then start m c = length (inbox_of c (live_then start m).waiting)

-- Client c delivers a frame, of 14 to 1514 bytes, or what is none
abbrev pub Offers : HistoryState → Moment → ℕ → List ℕ → Type 0
Offers start m c bytes = IsClient (shown_then start m) c × IsFrame (record { items = bytes })

abbrev pub IsNoFrame : List ℕ → Type 0
IsNoFrame bytes = (length bytes < min_frame) ⊎ (max_frame < length bytes)

-- Deliver by client c, of these bytes: 64 frames of a client may wait, and frames are numbered below 2^62
abbrev pub AnswersDelivery : HistoryState → Moment → ℕ → List ℕ → Reply → Type 0
AnswersDelivery start m c bytes (replies.Delivered n) =
    Offers start m c bytes × HasPlace m × (waiting_then start m c < inbox_frames) × (n < number_limit)
AnswersDelivery start m c bytes (replies.Refused NoClient) = IsNobody (shown_then start m) c
AnswersDelivery start m c bytes (replies.Refused BadFrame) = IsClient (shown_then start m) c × IsNoFrame bytes
AnswersDelivery start m c bytes (replies.Refused Full) = Offers start m c bytes × HasPlace m × (inbox_frames ≤ waiting_then start m c)
AnswersDelivery start m c bytes (replies.Refused Exhausted) =
    Offers start m c bytes
    × (IsExhausted m ⊎ ((waiting_then start m c < inbox_frames) × (number_limit ≤ (shown_then start m).number)))
AnswersDelivery start m c bytes (replies.Refused (NoMemory _)) =
    Offers start m c bytes × HasPlace m
    × ((inbox_frames ≤ waiting_then start m c) ⊎ ((shown_then start m).number < number_limit))
AnswersDelivery start m c bytes other = ⊥

-- LoseIn and LoseOut of client c's line, where that many frames are and the one at that place is meant
abbrev pub AnswersLoss : HistoryState → Moment → ℕ → ℕ → ℕ → Reply → Type 0
AnswersLoss start m c frames place replies.Dropped = IsClient (shown_then start m) c × HasPlace m × (place < frames)
AnswersLoss start m c frames place replies.Empty = IsClient (shown_then start m) c × (frames ≤ place)
AnswersLoss start m c frames place (replies.Refused NoClient) = IsNobody (shown_then start m) c
AnswersLoss start m c frames place (replies.Refused Exhausted) = IsClient (shown_then start m) c × IsExhausted m × (place < frames)
AnswersLoss start m c frames place (replies.Refused (NoMemory _)) = IsClient (shown_then start m) c × HasPlace m × (place < frames)
AnswersLoss start m c frames place other = ⊥

-- What clients and their lines ask for is answered in its own ways only.
abbrev pub AnswersCall : HistoryState → Moment → Event → Reply → Type 0
AnswersCall start m (Deliver c bytes) reply = AnswersDelivery start m c bytes.now reply
AnswersCall start m (Take c) reply = AnswersTake start m c reply
AnswersCall start m (LoseIn c place) reply = AnswersLoss start m c (waiting_then start m c) place reply
AnswersCall start m (LoseOut c place) reply = AnswersLoss start m c (length (list_of (shown_then start m).boxes c)) place reply
AnswersCall start m event reply = Unit {0}
