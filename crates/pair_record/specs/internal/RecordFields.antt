-- How the fields of the pair's record stand for what contracts see.
use Rattle.pair_record.specs.declared.record.PairRecord.TheInside.{Inside}
use Rattle.pair_record.specs.Record.{RecordState, IsRecord, AreNumbered}

abbrev pub record_state : Inside → RecordState
record_state a = record {
  protocol = record {
    mode = a.mode;
    generation = a.generation;
    journal = a.journal.journal;
    window = a.window;
    pending = a.gate.epochs;
    next_frame = a.gate.next;
  };
  ports = a.ports;
  room = a.journal.room;
  arrival_room = a.journal.arrival_room;
}

pub record AreFields (a : Inside) : Type 0 where
  pub is : IsRecord (record_state a).protocol
  pub numbers : AreNumbered (record_state a).protocol a.ports
