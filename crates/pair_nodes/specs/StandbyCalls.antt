-- What each call of a standby answers and leaves, and why one is refused: rows in order, of which the first that holds says why.
use Rattle.std.specs.Prelude.{if◌then◌else◌, ◌+◌, ◌-◌, ◌==◌, ◌&&◌, nat_le, nat_lt, Bool, List, [], ◌∷◌, ◌++◌, Option, None, Some, Result, Ok, Err}
use Rattle.std.specs.Prelude.{option_map}
use Rattle.failover.specs.Generations.{generation_limit}
use Rattle.backup_image.specs.Kept.{sent_with}
use Rattle.backup_image.specs.Limits.{number_limit}
use Rattle.checkpoint_stream.specs.Readings.{is_whole}
use Rattle.checkpoint_stream.specs.Sound.{change_in, whole_name}
use Rattle.epoch_snapshot.specs.Checkpoints.{Change, is_old_delta}
use Rattle.pair_record.specs.Tables.{Row, first_refusal}
use Rattle.pair_record.specs.declared.event.Packet.{Packet}
use Rattle.pair_record.specs.declared.event.Refusal.{Refusal}
use Rattle.pair_record.specs.declared.event.Refusal.TheVariants.{NoImage, Exhausted, OldVersion}
use Rattle.pair_core.specs.Lines.{packet}
use Rattle.pair_nodes.specs.declared.standby.Commit.{Commit}
use Rattle.pair_nodes.specs.declared.standby.Commit.TheVariants.{Committed, Again}
use Rattle.pair_nodes.specs.Sides.{Standby, to_commit, get_rows, after_commit, restarted}

-- WHAT IT SHOWS: it is empty before the full checkpoint
abbrev pub is_empty : Standby → Bool
is_empty b = to_commit b == 0

-- the checkpoint that is complete, if one is
abbrev pub whole_packet : Standby → Option Packet
whole_packet b = option_map (λ name. packet name.0 name.1) (whole_name b.reading)

-- A COMMIT of this checkpoint, which is complete. The next one needs numbers for its frames, and has to carry them
abbrev pub is_next : Standby → Change → Bool
is_next b c = c.number == to_commit b

abbrev pub commit_rows : Standby → Change → List Row
commit_rows b c =
    get_rows b c
    ++ (is_next b c && is_old_delta c, OldVersion)
    ∷ (is_next b c && nat_le number_limit (sent_with c b.image.sent), Exhausted)
    ∷ []

-- what it answers where it isn't refused: an earlier one is acknowledged again, by the last one committed
abbrev pub commit_answer : Standby → Change → Commit
commit_answer b c =
    if nat_lt c.number (to_commit b)
    then Again (packet b.generation (to_commit b - 1))
    else Committed (packet b.generation (to_commit b))

abbrev pub taken_in : Standby → Change → Standby
taken_in b c = if nat_lt c.number (to_commit b) then b else after_commit b c

abbrev pub taking_if : Standby → Change → Option Refusal → Result Commit Refusal × Standby
taking_if b c (Some why) = (Err why, b)
taking_if b c None = (Ok (commit_answer b c), taken_in b c)

abbrev pub taking : Standby → Change → Result Commit Refusal × Standby
taking b c = taking_if b c (first_refusal (commit_rows b c))

-- It is given up then, refused or not. Where none is complete nothing changes.
abbrev pub commit_outcome : Standby → Result Commit Refusal × Standby
commit_outcome b =
    let taken = taking b (change_in b.reading) in
    if is_whole b.reading.place then (taken.0, restarted taken.1) else (Err NoImage, b)

-- GOING LIVE
abbrev pub live_rows : Standby → List Row
live_rows b = (is_empty b, NoImage) ∷ (nat_le generation_limit (b.generation + 1), Exhausted) ∷ []
