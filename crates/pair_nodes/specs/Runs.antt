-- RUNS of two nodes: one thing after another, each under these premises. They are assumed of whatever is around the nodes, and nothing else
-- is; above all not that a message comes, or when.
use Rattle.std.specs.Prelude.{◌≡◌, ℕ, ◌+◌, ◌-◌, ◌≤◌, false, List, [], ◌∷◌, ◌++◌, length, Some, slice_get}
use Rattle.failover.specs.declared.mode.Mode.{Mode}
use Rattle.failover.specs.declared.mode.Mode.TheVariants.{Paired, Stopped}
use Rattle.frame_ports.specs.Addresses.{targets_of}
use Rattle.frame_ports.specs.Lands.{list_of}
use Rattle.guest_rules.specs.Runs.{sent_in}
use Rattle.output_gate.specs.Epochs.{frames_of}
use Rattle.pair_history.specs.Entries.{Frame}
use Rattle.pair_record.specs.declared.event.Event.{Event}
use Rattle.pair_record.specs.declared.event.Event.TheVariants.{Deliver, Take}
use Rattle.pair_record.specs.declared.event.Refusal.TheVariants.{Full}
use Rattle.pair_record.specs.declared.event.Reply.{Reply}
use Rattle.pair_record.specs.declared.event.Reply.TheVariants as replies
use Rattle.pair_record.specs.{Kept.all_frames, Modes.{is_alone, is_stopped}}
use Rattle.pair_nodes.specs.Sides.{all_out}
use Rattle.pair_nodes.specs.Sites.{Site, Happening, Happens, cuts, sends, gets, restarts, commits, hears, stops, goes_live, protects, steps}
use Rattle.pair_nodes.specs.Sites.{lone_steps, goes_alone, delivers, overflows, takes, loses_in, loses_out}

-- A CLIENT'S CALL, with its answer.
abbrev pub Call : Type 0
Call = Event × Reply

-- of an event
abbrev pub call_of : Event → Reply → List Call
call_of (Deliver c bytes) reply = (Deliver c bytes, reply) ∷ []
call_of (Take c) reply = (Take c, reply) ∷ []
call_of event reply = []

-- of several, in order
abbrev pub calls_in : List Event → List Reply → List Call
calls_in [] replies = []
calls_in (event ∷ events) [] = []
calls_in (event ∷ events) (reply ∷ replies) = call_of event reply ++ calls_in events replies

-- of what happens at a site
abbrev pub calls_by : Site → Happening → List Call
calls_by s (delivers c bytes) = (Deliver c bytes, replies.Delivered s.network.next) ∷ []
calls_by s (overflows c bytes) = (Deliver c bytes, replies.Refused Full) ∷ []
calls_by s (takes c) = (Take c, replies.Took (slice_get (list_of s.network.boxes c) 0)) ∷ []
calls_by s other = []

-- How many entries it adds to the history at most: one for each step, for each call of a client and each loss, and for each frame that is
-- let out, for each of its clients; two for each kept frame of a standby that goes live; and a lone step needs room for 1024 more.
abbrev pub copies : Site → List Frame → ℕ
copies s fs = length (targets_of (length s.network.boxes) fs)

abbrev pub adds : Site → Happening → ℕ
adds s (cuts text) = 0
adds s (sends k) = 0
adds s (gets bytes) = 0
adds s restarts = 0
adds s commits = 0
adds s (hears p) = copies s (frames_of s.primary.pending)
adds s stops = 0
adds s goes_live = copies s (all_frames s.standby.image.kept) + copies s (all_frames s.standby.image.kept)
adds s (protects text) = 0
adds s (steps n) = n
adds s (lone_steps n) = n + 1024 + copies s (sent_in n s.primary.live.guest)
adds s goes_alone = copies s (all_out s.primary)
adds s other = 1

-- THE PREMISES

abbrev pub IsAmong : {X : Type 0} → X → List X → Type 0
IsAmong x xs = (k : ℕ) × (slice_get xs k ≡ Some x)

-- a node that has stopped does nothing more; a standby goes live only where the primary has stopped; and where there is no standby none
-- gets anything
abbrev pub IsFenced : Mode → Happening → Type 0
IsFenced mode (gets bytes) = is_alone mode ≡ false
IsFenced mode restarts = is_alone mode ≡ false
IsFenced mode commits = is_alone mode ≡ false
IsFenced mode goes_live = mode ≡ Stopped
IsFenced mode (delivers c bytes) = Unit {0}
IsFenced mode (overflows c bytes) = Unit {0}
IsFenced mode (takes c) = Unit {0}
IsFenced mode (loses_in c place) = Unit {0}
IsFenced mode (loses_out c place) = Unit {0}
IsFenced mode of_the_primary = is_stopped mode ≡ false

-- where the primary stops there is a standby that has committed a checkpoint of its generation, and hasn't stopped
abbrev pub HasOther : Mode → Happening → Type 0
HasOther mode stops = mode ≡ Paired
HasOther mode other = Unit {0}

-- these bytes are the first of one of these texts
abbrev pub Begin : List ℕ → List (List ℕ) → Type 0
Begin bytes texts = (text : List ℕ) × (rest : List ℕ) × IsAmong text texts × (text ≡ bytes ++ rest)

-- what comes was sent, and comes as it was sent: what has come since the last restart is the beginning of one text
abbrev pub WasSentSo : Site → Happening → Type 0
WasSentSo s (gets bytes) = Begin (s.came ++ bytes) s.texts
WasSentSo s (hears p) = IsAmong p s.acks
WasSentSo s other = Unit {0}

-- What is assumed of a thing that happens, of whatever is around the nodes.
pub record Premises (s : Site) (x : Happening) (most : ℕ) : Type 0 where
  pub fencing : IsFenced s.mode x
  pub one_stop_a_generation : HasOther s.mode x
  pub unaltered : WasSentSo s x
  -- so many entries may be added still
  pub few_entries : adds s x ≤ most

-- ONE THING AFTER ANOTHER, under these premises: they add at most so many entries, and have these calls of clients, with their answers.
abbrev pub Run : Site → List Happening → ℕ → List Call → Site → Type 0
Run s [] most calls t = (t ≡ s) × (calls ≡ [])
Run s (x ∷ xs) most calls t =
    (mid : Site) × (later : List Call) × Premises s x most × Happens s x mid × (calls ≡ calls_by s x ++ later)
    × Run mid xs (most - adds s x) later t
