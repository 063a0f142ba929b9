-- How the fields of what is left to read stand for what contracts see.
use Rattle.std.specs.Prelude.{◌≡◌, length}
use Rattle.pair_history.specs.internal.Packed.{unpacked, widths}
use Rattle.pair_history.specs.Unread.{Unread}
use Rattle.pair_history.specs.declared.stored.Entries.TheInside.{Inside}

abbrev pub unread : Inside → Unread
unread r = record { left = unpacked r.stored.now r.bytes.now; stored = length r.stored.now }

-- the bytes are those of the frames that are left
abbrev pub AreFields : Inside → Type 0
AreFields r = widths r.stored.now ≡ length r.bytes.now
