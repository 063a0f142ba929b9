-- WHAT TWO NODES ARE TO THEIR CLIENTS: one guest that never fails, behind a network that may lose frames. No node and no message stands in
-- it but the calls of clients, with their answers, and the guests at the end.
use Rattle.std.specs.Prelude.{◌≡◌, ◌⊎◌, ℕ, ◌*◌, ◌≤◌, ◌<◌, ◌++◌, true, false, List, [], length}
use Rattle.failover.specs.declared.mode.Mode.{Mode}
use Rattle.failover.specs.declared.mode.Mode.TheVariants.{Paired, Alone, Stopped}
use Rattle.guest_rules.specs.declared.shapes.Shape.{Shape}
use Rattle.frame_ports.specs.Limits.{number_limit}
use Rattle.guest_rules.specs.Guest.{Guest, boot_guest}
use Rattle.guest_rules.specs.Limits.{page_bytes}
use Rattle.backup_image.specs.Images.{booted}
use Rattle.checkpoint_stream.specs.Readings.{begun}
use Rattle.pair_history.specs.Entries.{Begins}
use Rattle.pair_history.specs.HistoryState.{HistoryState, at}
use Rattle.pair_record.specs.declared.event.Event.{Event}
use Rattle.pair_record.specs.declared.event.Reply.{Reply}
use Rattle.pair_record.specs.Modes.{is_alone, is_stopped}
use Rattle.pair_core.specs.Calls.{Moment, ahead_of}
use Rattle.pair_core.specs.Nodes.{settled_node}
use Rattle.pair_core.specs.Service.{HasServed}
use Rattle.pair_nodes.specs.Frames.{AreLetOut}
use Rattle.pair_nodes.specs.{PrimaryCalls.booted_primary, Sides.new_standby}
use Rattle.pair_nodes.specs.Networks.{no_output, empty_network}
use Rattle.pair_nodes.specs.Runs.{Call, Run, calls_in}
use Rattle.pair_nodes.specs.Sites.{Site, Happening}

-- both nodes boot from this image, which counts as checkpoint 0, committed and acknowledged
abbrev pub start_site : Shape → List ℕ → ℕ → Site
start_site shape image clients = record {
  mode = Paired;
  primary = record {
    live = settled_node (boot_guest shape.pages shape.sectors image);
    shape = shape;
    generation = 1;
    backed = true;
    to_cut = 1;
    pending = [];
    texts = [];
    next_frame = 1;
  };
  standby = record { generation = 1; image = booted shape image; reading = begun shape 0 };
  texts = [];
  acks = [];
  came = [];
  out = no_output;
  network = empty_network clients;
}

-- One node boots from it, alone: as `remus node` does.
abbrev pub lone_start : Shape → List ℕ → ℕ → Site
lone_start shape image clients = record (start_site shape image clients) {
  mode = Alone;
  primary = booted_primary shape image;
  standby = new_standby shape 1;
}

-- where a run begins
abbrev pub IsStart : Shape → List ℕ → ℕ → Site → Type 0
IsStart shape image clients s = (s ≡ start_site shape image clients) ⊎ (s ≡ lone_start shape image clients)

-- Two nodes that boot this image reach the site t, and clients' calls on the way are answered so.
pub record Reach (shape : Shape) (image : List ℕ) (clients : ℕ) (calls : List Call) (t : Site) : Type 0 where
  pub image_fits : length image ≤ page_bytes * shape.pages
  pub begin : Site
  pub begins : IsStart shape image clients begin
  pub happenings : List Happening
  pub entries : ℕ
  pub few_entries : entries < number_limit
  pub run : Run begin happenings entries calls t

abbrev pub start_moment : Shape → List ℕ → ℕ → Moment
start_moment shape image clients = record { history = []; sealed = []; running = []; guest = boot_guest shape.pages shape.sectors image }

-- The standby's image is that guest, but for a new standby that has not got its full checkpoint.
abbrev pub ImageIs : Mode → Guest → Site → Type 0
ImageIs Paired g t = t.standby.image.guest ≡ g
ImageIs Stopped g t = t.standby.image.guest ≡ g
ImageIs other g t = Unit {0}

-- From that start these calls of clients were answered as one guest does that never fails, at points of one history; the live machine is
-- the guest of that history, and of what the guest did ahead of it; where no standby is it is the history's; and an image is the history's.
pub record AreOneGuest (start : HistoryState) (begun : Moment) (calls : List Call) (t : Site) : Type 0 where
  pub events : List Event
  pub replies : List Reply
  pub end : Moment
  pub run : HasServed start begun events replies end
  pub told : calls_in events replies ≡ calls
  pub live : is_stopped t.mode ≡ false → t.primary.live.guest ≡ (at start (end.history ++ ahead_of end)).guest
  pub alone : is_alone t.mode ≡ true → ahead_of end ≡ []
  pub image : ImageIs t.mode (at start end.history).guest t
  pub frames : AreLetOut start end t

-- and then these, at points of the same history
pub record GoesOn (start : HistoryState) (begun : Moment) (calls more : List Call) (s t : Site) : Type 0 where
  pub now : AreOneGuest start begun calls s
  pub then : AreOneGuest start begun (calls ++ more) t
  pub grows : Begins now.end.history then.end.history
