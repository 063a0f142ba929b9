-- Who waits, whatever is marked.
use Rattle.std.specs.Prelude.{◌≡◌, length}
use Rattle.frame_ports.specs.Ports.{PortsState}
use Rattle.pair_history.specs.Failures.{arrived_numbers}
use Rattle.pair_history.specs.Reached.{AreRising}
use Rattle.pair_history.specs.Waits.{AllWait}
use Rattle.pair_record.specs.Accords.{AreInboxes}
use Rattle.growing_history.specs.LogState.{LogState, under_way}
pub use Rattle.pair_book.specs.Books.{waits_at_last}

-- The ports' next number is the state's; the numbers of what waits rise, below it; each frame that is sealed or was handed out waits under
-- its number; and the inboxes are what waits after all that is under way.
pub record AreWaiting (s : LogState) (p : PortsState) : Type 0 where
  pub number : p.next ≡ s.history.number
  pub rising : AreRising 1 p.next s.history.waiting
  pub count : length p.inboxes ≡ length p.boxes
  pub there : AllWait (arrived_numbers (under_way s)) s.history.waiting
  pub inboxes : AreInboxes (length p.boxes) p.inboxes (waits_at_last s)
