-- How the fields of a stored history stand for what contracts see.
use Rattle.std.specs.Prelude.{◌≡◌, ◌-◌, length, vec_len, vec_capacity}
use Rattle.pair_history.specs.Log.{Log}
use Rattle.pair_history.specs.internal.Packed.{unpacked, widths}
use Rattle.pair_history.specs.declared.history.History.TheInside.{Inside}

abbrev pub log_of : Inside → Log
log_of h = record {
  entries = unpacked h.entries.items h.bytes.items;
  room = vec_capacity h.entries - vec_len h.entries;
  byte_room = vec_capacity h.bytes - vec_len h.bytes;
}

-- the entries are counted, and the bytes are those of their frames
pub record AreFields (h : Inside) : Type 0 where
  pub counted : h.len ≡ length (log_of h).entries
  pub widths : widths h.entries.items ≡ length h.bytes.items
