-- What a standby's answer to a commit acknowledges.
use Rattle.std.specs.Prelude.{List, [], ◌∷◌, Result, Ok, Err}
use Rattle.pair_record.specs.declared.event.Packet.{Packet}
use Rattle.pair_record.specs.declared.event.Refusal.{Refusal}
use Rattle.pair_nodes.specs.declared.standby.Commit.{Commit}
use Rattle.pair_nodes.specs.declared.standby.Commit.TheVariants.{Committed, Again}

abbrev pub acknowledged_by : Result Commit Refusal → List Packet
acknowledged_by (Ok (Committed packet)) = packet ∷ []
acknowledged_by (Ok (Again packet)) = packet ∷ []
acknowledged_by (Err why) = []
