-- How the fields of a stored journal stand for what contracts see.
use Rattle.std.specs.Prelude.{◌≡◌, ◌+◌, ◌-◌, ◌<◌, List, length, map, vec_len, vec_capacity}
use Rattle.frame_ports.specs.Limits.{number_limit}
use Rattle.pair_history.specs.Entries.{Entry}
use Rattle.pair_history.specs.declared.epochs.RunningEpoch.{RunningEpoch}
use Rattle.pair_history.specs.declared.journal.Journal.TheInside.{Inside}
use Rattle.pair_history.specs.internal.Arrivals.{epoch_entries}
use Rattle.pair_history.specs.Journal.{Stored, kept_entries}

abbrev pub epoch_of : RunningEpoch → List Entry
epoch_of e = epoch_entries e.arrivals.items e.steps

abbrev pub stored : Inside → Stored
stored a = record {
  journal = record { history = a.history.entries; sealed = map epoch_of a.sealed.items; running = epoch_of a.running };
  room = a.history.room;
  byte_room = a.history.byte_room;
  arrival_room = vec_capacity a.running.arrivals - vec_len a.running.arrivals;
}

-- the kept entries are counted, and with the history's they have numbers
pub record AreFields (a : Inside) : Type 0 where
  pub counted : a.kept ≡ length (kept_entries (stored a).journal)
  pub fits : length a.history.entries + a.kept < number_limit
