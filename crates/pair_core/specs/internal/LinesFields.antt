-- How the fields of the lines stand for what contracts see.
use Rattle.std.specs.Prelude.{◌≡◌, List, [], ◌∷◌, map, Option, None, Some}
use Rattle.pair_record.specs.declared.event.Packet.{Packet}
use Rattle.pair_core.specs.declared.lines.Lines.TheInside.{Inside}
use Rattle.pair_core.specs.Lines.{Carried}

-- the packets of a line that weren't dropped, in the order sent
abbrev pub packets_of : List (Option Packet) → List Packet
packets_of [] = []
packets_of (None ∷ os) = packets_of os
packets_of (Some p ∷ os) = p ∷ packets_of os

abbrev pub carried : Inside → Carried
carried a = record {
  lines = record { forward = packets_of a.forward.packets; back = packets_of a.back.packets };
  room = a.back.room;
}

-- no packet of a line was dropped
abbrev pub KeepsAll : List (Option Packet) → Type 0
KeepsAll os = os ≡ map Some (packets_of os)

pub record AreFields (a : Inside) : Type 0 where
  pub forward : KeepsAll a.forward.packets
  pub back : KeepsAll a.back.packets
