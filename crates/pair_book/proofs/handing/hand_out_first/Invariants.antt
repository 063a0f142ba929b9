use Rattle.std.proofs.Common.{◌≡◌, ℕ, ◌+◌, ◌-◌, ◌≤◌, length, take}
use Rattle.std.specs.Prelude.{vec_len, vec_capacity, All}
use Rattle.frame_ports.specs.Addresses.{IsFrame}
use Rattle.frame_ports.specs.Lands.{list_of}
use Rattle.pair_history.specs.Entries.{Frame}
use Rattle.pair_record.specs.Journal.{all_entries}
use Rattle.pair_book.specs.Handing.{handing, handed_all}
use Rattle.pair_book.proofs.handing.hand_out_first.Given as goal

abbrev pub invariant-loop-place : goal.invariant-loop-place
invariant-loop-place l = record {
  done : handed_all l.client (take (4 - l.place) (list_of l.pair.ports.inboxes l.client))
      (handing l.pair.protocol l.pair.ports l.frames.items)
      ≡ handed_all l.client (take 4 (list_of l.initial.pair.ports.inboxes l.client))
      (handing l.initial.pair.protocol l.initial.pair.ports l.initial.frames.items);
  boxes : length l.pair.ports.boxes ≡ length l.initial.pair.ports.boxes;
  inboxes : length l.pair.ports.inboxes ≡ length l.pair.ports.boxes;
  numbers : length (all_entries l.pair.protocol.journal) ≤ length (all_entries l.initial.pair.protocol.journal) + l.place;
  arrival_room : l.initial.pair.arrival_room ≤ l.pair.arrival_room + l.place;
  len : vec_len l.frames ≤ vec_len l.initial.frames + l.place;
  room : vec_capacity l.initial.frames ≤ vec_capacity l.frames;
  frames : All (λ (x : ℕ × Frame). IsFrame x.1) l.frames.items;
}
