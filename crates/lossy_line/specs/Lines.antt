-- What a line keeps: each packet that was sent, under its number.
use Rattle.std.specs.Prelude.{ℕ, List, Option, refl}
use Rattle.std.specs.Coded.{Coded, code_by, coded×, coded_ℕ, coded_list, coded_option}

-- the packets in the order sent, None in the place of one that was dropped, and for how many more there is room
pub record Packets (P : Type 0) : Type 0 where
  pub packets : List (Option P)
  pub room : ℕ

-- stored as the pair of its fields
abbrev pub packets_code : {P : Type 0} → Coded P → Coded (Packets P)
packets_code {P} code =
    code_by (List (Option P) × ℕ) (coded× (coded_list (coded_option code)) coded_ℕ) (λ l. (l.packets, l.room))
    (λ p. record { packets = p.0; room = p.1 }) (λ _. refl)
