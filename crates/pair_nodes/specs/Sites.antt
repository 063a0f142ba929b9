-- Two nodes, every message that was ever sent between them, and the network to their clients: what may happen, one thing at a time. A
-- message comes at any time, again or never, and in any order.
use Rattle.std.specs.Prelude.{◌≡◌, if◌then◌else◌, ℕ, ◌+◌, ◌-◌, ◌≤◌, ◌<◌, nat_lt, true, false, List, [], ◌∷◌, ◌++◌, length, Option, None, Some}
use Rattle.std.specs.Prelude.{slice_get}
use Rattle.std.specs.Borrow.{Bor}
use Rattle.failover.specs.declared.mode.Mode.{Mode}
use Rattle.failover.specs.declared.mode.Mode.TheVariants as modes
use Rattle.frame_ports.specs.Addresses.{IsFrame}
use Rattle.frame_ports.specs.Lands.{list_of}
use Rattle.frame_ports.specs.Limits.{inbox_frames, number_limit}
use Rattle.guest_rules.specs.Runs.{sent_in, HaveRoom}
use Rattle.output_gate.specs.Epochs.{frames_to}
use Rattle.pair_history.specs.Entries.{Frame}
use Rattle.pair_record.specs.Limits.{last_frame}
use Rattle.epoch_snapshot.specs.Checkpoints.{Change}
use Rattle.checkpoint_stream.specs.{Sound.change_in, declared.place.Place.TheVariants.Whole}
use Rattle.pair_record.specs.declared.event.Packet.{Packet}
use Rattle.pair_record.specs.declared.event.Refusal.{Refusal}
use Rattle.pair_record.specs.Tables.{first_refusal}
use Rattle.pair_core.specs.Lines.{packet}
use Rattle.pair_nodes.specs.Sides.{Primary, Standby, cut_rows, IsDelta, after_cut, let_out, after_ack, to_commit, after_commit, after_piece, restarted}
use Rattle.pair_nodes.specs.StandbyCalls.{commit_rows}
use Rattle.pair_nodes.specs.Sides.{new_standby, live_of, IsFull, after_protect, after_run, after_lone_run, after_arrival, after_alone, all_out}
use Rattle.pair_nodes.specs.Networks.{Network, Output, with_frames, with_sent, without_first, with_taken, with_lost_in, with_lost_out, with_out, with_next}
use Rattle.failover.specs.Modes.{mode_filled}

pub record Site : Type 0 where
  -- which of the nodes runs
  pub mode : Mode
  pub primary : Primary
  pub standby : Standby
  -- every checkpoint's text, and every acknowledgement, that was ever sent
  pub texts : List (List ℕ)
  pub acks : List Packet
  -- what has come of a text to the standby, since it last began one
  pub came : List ℕ
  pub out : Output
  pub network : Network

-- What may happen.
pub data Happening : Type 0 where
  -- the primary ends its epoch by a checkpoint with this text
  cuts : List ℕ → Happening
  -- the primary sends the text at that place, once more or for the first time
  sends : ℕ → Happening
  -- these bytes come to the standby, behind what has come of a text; it gives up what has come; it commits the checkpoint that has come whole
  gets : List ℕ → Happening
  restarts : Happening
  commits : Happening
  -- the primary gets an acknowledgement
  hears : Packet → Happening
  -- the primary stops
  stops : Happening
  -- the standby goes live
  goes_live : Happening
  -- a new standby comes, and this is the full checkpoint's text
  protects : List ℕ → Happening
  -- the guest of a pair's primary makes so many steps
  steps : ℕ → Happening
  -- the guest of a primary that is alone makes so many steps, and what they send is let out
  lone_steps : ℕ → Happening
  -- the first frame that waits for the guest of this client comes to the primary
  comes : ℕ → Happening
  -- the standby has stopped, and the primary goes on alone
  goes_alone : Happening
  -- this client sends a frame; or one for which the network has no room
  delivers : ℕ → Bor (List ℕ) → Happening
  overflows : ℕ → Bor (List ℕ) → Happening
  -- this client takes the first frame of its box, if there is one
  takes : ℕ → Happening
  -- the network loses the frame at that place of what this client sent, or of its box
  loses_in : ℕ → ℕ → Happening
  loses_out : ℕ → ℕ → Happening

-- WHAT IT LEAVES

abbrev pub cut_site : Site → List ℕ → Site
cut_site s text = record s { primary = after_cut s.primary text }

-- the standby acknowledges up to that number
abbrev pub acknowledged : Site → ℕ → Site
acknowledged s n = record s { acks = s.acks ++ packet s.standby.generation n ∷ [] }

abbrev pub commit_site : Site → Change → Site
commit_site s c =
    acknowledged (record s { standby = after_commit s.standby c; mode = mode_filled s.mode }) (to_commit s.standby)

abbrev pub again_site : Site → Site
again_site s = acknowledged s (to_commit s.standby - 1)

-- what has come whole is refused, was committed before, or is committed
abbrev pub taken_site : Site → Change → Option Refusal → Site
taken_site s c (Some why) = s
taken_site s c None = if nat_lt c.number (to_commit s.standby) then again_site s else commit_site s c

abbrev pub piece_site : Site → List ℕ → Site
piece_site s bytes = record s { standby = after_piece s.standby bytes; came = s.came ++ bytes }

abbrev pub restart_site : Site → Site
restart_site s = record s { standby = restarted s.standby; came = [] }

abbrev pub whole_site : Site → Site
whole_site s =
    let c = change_in s.standby.reading in
    restart_site (taken_site s c (first_refusal (commit_rows s.standby c)))

-- these frames are let out
abbrev pub letting_out : List Frame → Site → Site
letting_out fs s = record s { out = with_out s.out fs; network = with_frames s.network fs }

abbrev pub hear_site : Site → ℕ → Site
hear_site s n = letting_out (let_out s.primary n) (record s { primary = after_ack s.primary n })

-- None of the frames that its image keeps is let out: it can't know which of them the other let out, and no client may get one twice
-- (Remus, 2008). So what the other's gate held of checkpoints that this one has committed is lost.
abbrev pub lost_to : Site → List Frame
lost_to s = frames_to (to_commit s.standby - 1) s.primary.pending

abbrev pub live_site : Site → Site
live_site s = record s {
  mode = modes.Alone;
  primary = live_of s.standby;
  standby = new_standby s.standby.image.shape (s.standby.generation + 1);
  came = [];
  out = with_next s.out (lost_to s);
}

abbrev pub run_site : ℕ → Site → Site
run_site n s = record s { primary = after_run n s.primary }

abbrev pub lone_site : ℕ → Site → Site
lone_site n s = letting_out (sent_in n s.primary.live.guest) (record s { primary = after_lone_run n s.primary })

abbrev pub come_site : Site → ℕ → Frame → Site
come_site s c f = record s { primary = after_arrival f s.primary; network = without_first s.network c }

abbrev pub alone_site : Site → Site
alone_site s = letting_out (all_out s.primary) (record s {
  mode = modes.Alone;
  primary = after_alone s.primary;
  standby = new_standby s.primary.shape s.primary.generation;
  came = [];
})

-- the guest's frames are numbered anew
abbrev pub protect_site : Site → List ℕ → Site
protect_site s text = record s {
  mode = modes.Filling;
  primary = after_protect s.primary text;
  standby = new_standby s.primary.shape (s.primary.generation + 1);
  came = [];
}

abbrev pub IsClientOf : Site → ℕ → Type 0
IsClientOf s c = (1 ≤ c) × (c ≤ length s.network.boxes)

-- Something happens, by what the nodes have and do, and leads from the site s to t.
abbrev pub Happens : Site → Happening → Site → Type 0
Happens s (cuts text) t =
    (s.primary.backed ≡ true) × (first_refusal (cut_rows s.primary) ≡ None) × (length s.primary.live.outbox ≤ 256) × IsDelta s.primary text
    × (t ≡ cut_site s text)
Happens s (sends k) t =
    (s.primary.backed ≡ true)
    × ((text : List ℕ) × (slice_get s.primary.texts k ≡ Some text) × (t ≡ record s { texts = s.texts ++ text ∷ [] }))
Happens s (gets bytes) t = t ≡ piece_site s bytes
Happens s restarts t = t ≡ restart_site s
Happens s commits t = (s.standby.reading.place ≡ Whole) × (t ≡ whole_site s)
Happens s (hears p) t = (s.primary.backed ≡ true) × (p.generation ≡ s.primary.generation) × (t ≡ hear_site s p.number)
Happens s stops t = t ≡ record s { mode = modes.Stopped }
Happens s goes_live t = (s.standby.generation + 1 ≤ number_limit - 1) × (t ≡ live_site s)
Happens s (protects text) t =
    (s.primary.backed ≡ false) × (s.primary.generation + 1 ≤ number_limit - 1) × IsFull s.primary text × (t ≡ protect_site s text)
Happens s (steps n) t = (s.primary.backed ≡ true) × HaveRoom n s.primary.live.guest s.primary.live.outbox × (t ≡ run_site n s)
Happens s (lone_steps n) t =
    (s.primary.backed ≡ false) × HaveRoom n s.primary.live.guest [] × (s.primary.next_frame + 256 ≤ last_frame) × (t ≡ lone_site n s)
Happens s (comes c) t =
    IsClientOf s c × ((n : ℕ) × (f : Frame) × (slice_get (list_of s.network.inboxes c) 0 ≡ Some (n, f)) × (t ≡ come_site s c f))
Happens s goes_alone t = (s.primary.backed ≡ true) × (length s.primary.live.outbox ≤ 256) × (t ≡ alone_site s)
Happens s (delivers c bytes) t =
    IsClientOf s c × IsFrame (record { items = bytes.now }) × (length (list_of s.network.inboxes c) < inbox_frames)
    × (s.network.next < number_limit) × (t ≡ record s { network = with_sent s.network c bytes.now })
Happens s (overflows c bytes) t =
    IsClientOf s c × IsFrame (record { items = bytes.now }) × (inbox_frames ≤ length (list_of s.network.inboxes c)) × (t ≡ s)
Happens s (takes c) t = IsClientOf s c × (t ≡ record s { network = with_taken s.network c })
Happens s (loses_in c place) t =
    IsClientOf s c × (place < length (list_of s.network.inboxes c)) × (t ≡ record s { network = with_lost_in s.network c place })
Happens s (loses_out c place) t =
    IsClientOf s c × (place < length (list_of s.network.boxes c)) × (t ≡ record s { network = with_lost_out s.network c place })
