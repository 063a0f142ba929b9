-- How the fields of the ports stand for what contracts see.
use Rattle.std.specs.Prelude.{◌≡◌, List, map, All}
use Rattle.circular_buffer.specs.Buffer.{Buffer}
use Rattle.frame_ports.specs.Ports.{PortsState, IsPorts}
use Rattle.frame_ports.specs.declared.ports.Ports.TheInside.{Inside}
use Rattle.frame_ports.specs.Limits.{inbox_frames, box_frames}

-- the items of each ring
abbrev pub rings_items : {X : Type 0} → List (Buffer X) → List (List X)
rings_items rings = map (λ r. r.items) rings

abbrev pub ports_state : Inside → PortsState
ports_state p = record {
  next = p.next;
  inboxes = rings_items p.inboxes.items;
  boxes = rings_items p.boxes.items;
  numbers = p.numbers.items;
}

-- the rings have their size, so that no call but the first takes memory
pub record AreFields (p : Inside) : Type 0 where
  pub state : IsPorts (ports_state p)
  pub inboxes : All (λ r. r.capacity ≡ inbox_frames) p.inboxes.items
  pub boxes : All (λ r. r.capacity ≡ box_frames) p.boxes.items
