-- What a client was given, and which step of the guest sent it.
use Rattle.std.specs.Prelude.{◌≡◌, ℕ, ◌+◌, ◌-◌, ◌==◌, ◌⊎◌, nat_lt, Bool, false, if◌then◌else◌, List, [], ◌∷◌, ◌++◌, length, map, slice_get}
use Rattle.std.specs.Prelude.{take, drop, remove, Some}
use Rattle.std.specs.List.{Contains, flat_map, count_by}
use Rattle.guest_rules.specs.Step.{sent}
use Rattle.frame_ports.specs.Addresses.{targets_of}
use Rattle.frame_ports.specs.Lands.{list_of}
use Rattle.pair_history.specs.Entries.{Frame, Entry, Ran, Land, DropOut, Took}
use Rattle.pair_history.specs.HistoryState.{HistoryState, after, at, out_of, along}

-- the frames that the guest's next step sends to client c
abbrev pub frames_for : ℕ → HistoryState → List Frame
frames_for c s = out_of c (targets_of (length s.boxes) (sent s.guest))

-- A frame with the step that sent it: the place of its entry in the history, from 0.
abbrev pub Sent : Type 0
Sent = ℕ × Frame

abbrev pub sent_at : ℕ → List Frame → List Sent
sent_at place fs = map (λ f. (place, f)) fs

abbrev pub frames : List Sent → List Frame
frames ps = map (λ p. p.1) ps

-- What an entry does for one client.
pub data Effect : Type 0 where
  -- the guest sent it these frames
  Sends : List Frame → Effect
  -- the first frame on its way went into its box
  Lands : Effect
  -- the frame at this place of its box was dropped
  DropsBoxed : ℕ → Effect
  -- the one at this place of those on their way was dropped
  DropsOnWay : ℕ → Effect
  -- it took the first frame of its box, if there was one
  Takes : Effect
  Nothing : Effect

abbrev pub effect_on : ℕ → HistoryState → Entry → Effect
effect_on c s Ran = Sends (frames_for c s)
effect_on c s (Land d) = if d == c then Lands else Nothing
effect_on c s (DropOut d place) =
    let boxed = length (list_of s.boxes d) in
    if d == c then (if nat_lt place boxed then DropsBoxed place else DropsOnWay (place - boxed)) else Nothing
effect_on c s (Took d answer) = if d == c then Takes else Nothing
effect_on c s other = Nothing

-- The account of one client: each list in the order in which its frames came there.
pub record Account : Type 0 where
  -- all that the guest sent to it
  pub sent : List Sent
  -- what is on its way, what was put into its box, what lies there, what it took, and what was dropped
  pub on_way : List Sent
  pub released : List Sent
  pub boxed : List Sent
  pub taken : List Sent
  pub dropped : List Sent

abbrev pub empty_account : Account
empty_account = record { sent = []; on_way = []; released = []; boxed = []; taken = []; dropped = [] }

-- the account after the entry at that place
abbrev pub booked : ℕ → Effect → Account → Account
booked place (Sends fs) a = record a { sent = a.sent ++ sent_at place fs; on_way = a.on_way ++ sent_at place fs }
booked place Lands a = record a {
  on_way = drop 1 a.on_way;
  released = a.released ++ take 1 a.on_way;
  boxed = a.boxed ++ take 1 a.on_way;
}
booked place (DropsBoxed k) a = record a { boxed = remove a.boxed k; dropped = a.dropped ++ take 1 (drop k a.boxed) }
booked place (DropsOnWay k) a = record a { on_way = remove a.on_way k; dropped = a.dropped ++ take 1 (drop k a.on_way) }
booked place Takes a = record a { boxed = drop 1 a.boxed; taken = a.taken ++ take 1 a.boxed }
booked place Nothing a = a

-- the account after entries, the first of which stands at that place
abbrev pub goes_on : ℕ → HistoryState → ℕ → Account → List Entry → Account
goes_on c s place a [] = a
goes_on c s place a (e ∷ es) = goes_on c (after s e) (1 + place) (booked place (effect_on c s e) a) es

-- the account of a client along a history
abbrev pub account : HistoryState → List Entry → ℕ → Account
account s es c = goes_on c s 0 empty_account es

-- That entry of the history is a step, and in it the guest sent that frame to client c.
pub record WasSent (s : HistoryState) (es : List Entry) (c : ℕ) (p : Sent) : Type 0 where
  pub step : slice_get es p.0 ≡ Some Ran
  pub frame : Contains (frames_for c (at s (take p.0 es))) p.1

-- xs is ys with some left out and the rest in order: no place of ys is used twice
abbrev pub IsPartOf : {X : Type 0} → List X → List X → Type 0
IsPartOf [] ys = Unit {0}
IsPartOf (x ∷ xs) [] = ⊥
IsPartOf (x ∷ xs) (y ∷ ys) = ((x ≡ y) × IsPartOf xs ys) ⊎ IsPartOf (x ∷ xs) ys

-- What is sent is released in that order, each frame once, and taken in that order; all else is on its way, in the box, or dropped.
pub record IsSound (a : Account) : Type 0 where
  pub in_order : IsPartOf (a.released ++ a.on_way) a.sent
  pub taken_in_order : IsPartOf (a.taken ++ a.boxed) a.released
  pub none_missing : length a.taken + length a.boxed + length a.on_way + length a.dropped ≡ length a.sent

-- The frames that the guest sent to a client in the steps of a history, in order.
abbrev pub sent_for : ℕ → HistoryState → Entry → List Frame
sent_for c s Ran = frames_for c s
sent_for c s other = []

abbrev pub sent_to : HistoryState → List Entry → ℕ → List Frame
sent_to s es c = along (sent_for c) s es

-- The released frames of a client: those that the history put into its box, in order. What a full box drops isn't among them:
-- a legal history drops it on its way, since a frame lands only where the box has room.
abbrev pub landed_by : ℕ → HistoryState → Entry → List Frame
landed_by c s (Land d) = if d == c then take 1 (out_of d s.out) else []
landed_by c s other = []

abbrev pub released : HistoryState → List Entry → ℕ → List Frame
released s es c = along (landed_by c) s es

-- The frames that a client took out of its box, in order.
abbrev pub taken_by : ℕ → Entry → List Frame
taken_by c (Took d (Some f)) = if d == c then f ∷ [] else []
taken_by c other = []

abbrev pub taken : List Entry → ℕ → List Frame
taken es c = flat_map (taken_by c) es

-- How many frames for a client were dropped, on their way or out of its box.
abbrev pub is_drop : ℕ → Entry → Bool
is_drop c (DropOut d place) = d == c
is_drop c other = false

abbrev pub dropped_count : List Entry → ℕ → ℕ
dropped_count es c = count_by (is_drop c) es

-- nothing is on its way and every box is empty, as where a pair starts
pub record IsFresh (s : HistoryState) : Type 0 where
  pub out : s.out ≡ []
  pub boxes : (c : ℕ) → list_of s.boxes c ≡ []
