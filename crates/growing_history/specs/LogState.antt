-- What the keeper's list of steps says of the pair: where its history stands, what is under way, and who is live.
use Rattle.std.specs.Prelude.{◌≡◌, ℕ, zero, suc, ◌+◌, ◌-◌, ◌<◌, nat_lt, Bool, true, false, if◌then◌else◌, nat_eq, List, [], ◌∷◌, ◌++◌, length}
use Rattle.std.specs.Prelude.{map, take, drop}
use Rattle.std.specs.Cmp.Lexicographic.{pointwise}
use Rattle.failover.specs.declared.mode.Mode.{Mode}
use Rattle.failover.specs.declared.mode.Mode.TheVariants.{Paired, Filling, Alone, Stopped}
use Rattle.frame_ports.specs.Limits.{box_frames}
use Rattle.pair_history.specs.Entries.{Entry, Arrive, Delivered, Refused, DropIn, Land, DropOut, Took}
use Rattle.pair_history.specs.HistoryState.{HistoryState, Waiting, inbox_of, at}
use Rattle.pair_history.specs.HistoryState as history
use Rattle.pair_history.specs.Order.{AreGuests, NoneTakes}
use Rattle.pair_history.specs.Landings.{IsAtFull}
use Rattle.pair_history.specs.Failures.{arrived_numbers, all_land, go_live_entries, fail_backup_entries}
use Rattle.growing_history.specs.Steps.{What, Added, Sealed, RanAlone, Committed, PrimaryFailed, BackupFailed, WentLive, Protected, Step}
use Rattle.failover.specs.Modes.{mode_filled}

-- an epoch that was sealed and isn't committed
pub record Epoch : Type 0 where
  pub number : ℕ
  pub entries : List Entry
  pub text : List ℕ

pub record LogState : Type 0 where
  -- where the history stands
  pub history : HistoryState
  -- the pair's mode, as failover has it
  pub mode : Mode
  pub generation : ℕ
  -- the sealed epochs, by rising number
  pub sealed : List Epoch
  -- the number that the next checkpoint gets
  pub next : ℕ
  -- the delivered frames that were handed out to the runner and stand in no epoch yet, in the order in which they are to arrive
  pub handed : List ℕ
  -- the numbers of the seats of the live runner and of the backup
  pub runner : ℕ
  pub backup : ℕ
  -- how often a commit read another text than the sealed one
  pub marked : ℕ

-- Whose seat has which number: the first runner, the first backup and the line, then the clients. No seat has number 0.
abbrev pub first_runner : ℕ
first_runner = 1

abbrev pub first_backup : ℕ
first_backup = 2

abbrev pub line_seat : ℕ
line_seat = 3

abbrev pub client_seat : ℕ → ℕ
client_seat c = c + 3

-- a pair at its start, from that state of the history
abbrev pub start_of : HistoryState → LogState
start_of h = record {
  history = h;
  mode = Paired;
  generation = 1;
  sealed = [];
  next = 1;
  handed = [];
  runner = first_runner;
  backup = first_backup;
  marked = 0;
}

abbrev pub entries_of : List Epoch → List Entry
entries_of [] = []
entries_of (e ∷ es) = e.entries ++ entries_of es

-- what is under way: the sealed epochs, and then the arrivals of what was handed out
abbrev pub under_way : LogState → List Entry
under_way s = entries_of s.sealed ++ map Arrive s.handed

-- the history's state once what is sealed is committed: where the runner last settled
abbrev pub sealed_state : LogState → HistoryState
sealed_state s = at s.history (entries_of s.sealed)

-- an epoch that isn't sealed: its entries, and then what is on its way lands
abbrev pub and_all_land : HistoryState → List Entry → List Entry
and_all_land h epoch = epoch ++ all_land (at h epoch)

-- the entries that a step adds to the history
abbrev pub added : LogState → What → List Entry
added s (Added es) = es
added s (Sealed g zero epoch text) = and_all_land s.history epoch
added s (Sealed g (suc n) epoch text) = []
added s (RanAlone epoch) = and_all_land s.history epoch
added s (Committed g n text) = entries_of (take 1 s.sealed)
added s PrimaryFailed = []
added s BackupFailed = fail_backup_entries s.history (entries_of s.sealed)
added s (WentLive r) = go_live_entries s.history (under_way s)
added s (Protected b) = []

-- the first four waiting frames of each of that many clients, rising from the first one on
abbrev pub first_frames : ℕ → ℕ → List Waiting → List ℕ
first_frames zero first waiting = []
first_frames (suc n) first waiting = map (λ p. p.0) (take 4 (inbox_of first waiting)) ++ first_frames n (first + 1) waiting

-- what is handed out once the epoch ended: nothing new while some of it hasn't arrived
abbrev pub hands_out : List ℕ → HistoryState → List ℕ
hands_out [] h = first_frames (length h.boxes) 1 h.waiting
hands_out (n ∷ ns) h = n ∷ ns

abbrev pub handed_after : LogState → List Entry → HistoryState → List ℕ
handed_after s epoch h = hands_out (drop (length (arrived_numbers epoch)) s.handed) h

-- what is sealed once an epoch was: a full checkpoint is the first of its generation, and its epoch has nothing that isn't committed
abbrev pub sealed_after : LogState → ℕ → List Entry → List ℕ → List Epoch
sealed_after s zero epoch text = record { number = 0; entries = []; text = text } ∷ []
sealed_after s (suc n) epoch text = s.sealed ++ record { number = suc n; entries = epoch; text = text } ∷ []

-- a commit counts as marked where its text isn't that of the sealed epoch
abbrev pub mark_of : List Epoch → List ℕ → ℕ
mark_of [] text = 0
mark_of (e ∷ es) text = if pointwise nat_eq e.text text then 0 else 1

-- What a step does. A backup that goes live goes on behind its last commit, and what was sealed after that counts for nothing.
abbrev pub after_step : LogState → What → LogState
after_step s (Added es) = record s { history = at s.history es }
after_step s (Sealed g n epoch text) =
    let h = at s.history (added s (Sealed g n epoch text)) in
    let now = sealed_after s n epoch text in
    record s { history = h; sealed = now; next = n + 1; handed = handed_after s epoch (at h (entries_of now)) }
after_step s (RanAlone epoch) =
    let h = at s.history (added s (RanAlone epoch)) in
    record s { history = h; handed = handed_after s epoch h }
after_step s (Committed g n text) = record s {
  history = at s.history (added s (Committed g n text));
  mode = mode_filled s.mode;
  sealed = drop 1 s.sealed;
  marked = s.marked + mark_of s.sealed text;
}
after_step s PrimaryFailed = record s { mode = Stopped }
after_step s BackupFailed = record s { history = at s.history (added s BackupFailed); mode = Alone; sealed = [] }
after_step s (WentLive r) = record s {
  history = at s.history (added s (WentLive r));
  mode = Alone;
  generation = s.generation + 1;
  sealed = [];
  next = s.next - length s.sealed;
  handed = [];
  runner = r;
}
after_step s (Protected b) = record s { mode = Filling; generation = s.generation + 1; next = 0; backup = b }

-- whose entry it is: a client's own, a loss of the line's, or the keeper's for what lands or finds a full box
abbrev pub IsOwn : ℕ → Entry → Type 0
IsOwn by (Delivered c f n) = by ≡ client_seat c
IsOwn by (Refused c f) = by ≡ client_seat c
IsOwn by (Took c answer) = by ≡ client_seat c
IsOwn by (Land c) = by ≡ 0
IsOwn by (DropIn n) = by ≡ line_seat
IsOwn by (DropOut c place) = by ≡ (if nat_lt place box_frames then line_seat else 0)
IsOwn by other = ⊥

abbrev pub AreOwn : ℕ → List Entry → Type 0
AreOwn by [] = Unit {0}
AreOwn by (e ∷ es) = IsOwn by e × AreOwn by es

-- why a frame is dropped: the line loses none that arrives in what is under way, and the keeper drops none but the next one on its way to
-- a client whose box is full
abbrev pub IsKnown : List Entry → HistoryState → ℕ → Entry → Type 0
IsKnown way s by (DropIn n) = NoneTakes n way
IsKnown way s by (DropOut c place) = by ≡ 0 → IsAtFull s c place
IsKnown way s by other = Unit {0}

abbrev pub AreKnown : List Entry → HistoryState → ℕ → List Entry → Type 0
AreKnown way s by [] = Unit {0}
AreKnown way s by (e ∷ es) = IsKnown way s by e × AreKnown way (history.after s e) by es

abbrev pub DropsKnown : LogState → ℕ → What → Type 0
DropsKnown s by (Added es) = AreKnown (under_way s) s.history by es
DropsKnown s by other = Unit {0}

-- the runner's epoch: arrivals of what was handed out, in that order, and steps
abbrev pub IsEpoch : LogState → List Entry → Type 0
IsEpoch s epoch = AreGuests epoch × ((rest : List ℕ) × (s.handed ≡ arrived_numbers epoch ++ rest))

abbrev pub HasBackup : Mode → Type 0
HasBackup Paired = Unit {0}
HasBackup Filling = Unit {0}
HasBackup other = ⊥

-- the greatest number of a seat of a client or of the line
abbrev pub last_seat : LogState → ℕ
last_seat s = client_seat (length s.history.boxes)

-- a number for who goes live or is protected: above those of who was live or protected before, of the clients and of the line
abbrev pub IsNew : LogState → ℕ → Type 0
IsNew s n = (s.runner < n) × (s.backup < n) × (last_seat s < n)

-- a full checkpoint is that of a filling pair
abbrev pub MaySeal : ℕ → Mode → Type 0
MaySeal zero Filling = Unit {0}
MaySeal zero other = ⊥
MaySeal (suc n) mode = HasBackup mode

abbrev pub IsAlone : Mode → Type 0
IsAlone Alone = Unit {0}
IsAlone other = ⊥

abbrev pub IsFirstSealed : ℕ → List Epoch → Type 0
IsFirstSealed n [] = ⊥
IsFirstSealed n (e ∷ es) = e.number ≡ n

-- who may make a step, and when
abbrev pub MayStep : LogState → ℕ → What → Type 0
MayStep s by (Added es) = AreOwn by es
MayStep s by (Sealed g n epoch text) = (by ≡ s.runner) × MaySeal n s.mode × (g ≡ s.generation) × (n ≡ s.next) × IsEpoch s epoch
MayStep s by (RanAlone epoch) = (by ≡ s.runner) × IsAlone s.mode × IsEpoch s epoch
MayStep s by (Committed g n text) = (by ≡ s.backup) × (IsAlone s.mode → ⊥) × (g ≡ s.generation) × IsFirstSealed n s.sealed
MayStep s by PrimaryFailed = (by ≡ 0) × (s.mode ≡ Paired)
MayStep s by BackupFailed = (by ≡ 0) × HasBackup s.mode
MayStep s by (WentLive r) = (by ≡ 0) × (s.mode ≡ Stopped) × IsNew s r
MayStep s by (Protected b) = (by ≡ 0) × IsAlone s.mode × IsNew s b

-- What a step needs. Unless a commit is marked, it drops frames for a known reason, and the history with what the step adds to it, and
-- then what is under way after it, is one that a guest that never fails can have.
pub record Needs (s : LogState) (x : Step) : Type 0 where
  pub may : MayStep s x.by x.what
  pub known : s.marked ≡ 0 → DropsKnown s x.by x.what
  pub lawful : s.marked ≡ 0 → history.Legal s.history (added s x.what ++ under_way (after_step s x.what))

-- the state that steps lead to
abbrev pub state_after : LogState → List Step → LogState
state_after s [] = s
state_after s (x ∷ xs) = state_after (after_step s x.what) xs

-- each step has what it needs in its turn
abbrev pub LegalFrom : LogState → List Step → Type 0
LegalFrom s [] = Unit {0}
LegalFrom s (x ∷ xs) = Needs s x × LegalFrom (after_step s x.what) xs

-- the entries that steps add, one after another
abbrev pub history_from : LogState → List Step → List Entry
history_from s [] = []
history_from s (x ∷ xs) = added s x.what ++ history_from (after_step s x.what) xs

-- A legal list of steps of a pair that starts at that state of the history.
unfoldable pub LegalSteps : HistoryState → List Step → Type 0
LegalSteps h xs = LegalFrom (start_of h) xs

-- The state at a list of steps.
unfoldable pub state_at : HistoryState → List Step → LogState
state_at h xs = state_after (start_of h) xs

-- The history: the entries of the steps, joined.
unfoldable pub history_of : HistoryState → List Step → List Entry
history_of h xs = history_from (start_of h) xs
