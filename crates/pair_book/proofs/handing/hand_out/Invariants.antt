use Rattle.std.proofs.Common.{◌≡◌, ℕ, ◌+◌, ◌-◌, ◌*◌, ◌<◌, ◌≤◌, length}
use Rattle.std.specs.Prelude.{vec_len, vec_capacity, All}
use Rattle.frame_ports.specs.{Addresses.IsFrame, Limits.number_limit}
use Rattle.pair_history.specs.Entries.{Frame}
use Rattle.pair_record.specs.Journal.{all_entries}
use Rattle.pair_book.specs.Handing.{handing, handed_out}
use Rattle.pair_book.proofs.handing.hand_out.Given as goal

abbrev pub invariant-loop-client : goal.invariant-loop-client
invariant-loop-client l = record {
  first : 1 ≤ l.client;
  done : handed_out ((l.clients + 1) - l.client) l.client (handing l.pair.protocol l.pair.ports l.frames.items)
      ≡ handed_out l.clients 1 (handing l.initial.pair.protocol l.initial.pair.ports l.initial.frames.items);
  boxes : length l.pair.ports.boxes ≡ l.clients;
  inboxes : length l.pair.ports.inboxes ≡ l.clients;
  numbers : length (all_entries l.pair.protocol.journal) + 4 * (l.clients + 1) < number_limit + 4 * l.client;
  arrival_room : 4 * (l.clients + 1) ≤ l.pair.arrival_room + 4 * l.client;
  room : vec_len l.frames + 4 * (l.clients + 1) ≤ vec_capacity l.frames + 4 * l.client;
  frames : All (λ (x : ℕ × Frame). IsFrame x.1) l.frames.items;
}
