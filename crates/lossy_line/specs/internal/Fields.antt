-- How the one field of a line stands for what it keeps.
use Rattle.std.specs.Prelude.{◌-◌, Option, Vec, vec_len, vec_capacity}
use Rattle.lossy_line.specs.Lines.{Packets}

abbrev pub packets_kept : {P A : Type 0} → Vec (Option P) A → Packets P
packets_kept v = record { packets = v.items; room = vec_capacity v - vec_len v }
