-- A pair's life with every kind of step in it, and one that is worth nothing.
use Rattle.std.specs.Prelude.{List, [], ◌∷◌, Some}
use Rattle.pair_history.specs.Entries.{Frame, Arrive, Delivered, Took}
use Rattle.growing_history.specs.Steps.{Added, Sealed, RanAlone, Committed, PrimaryFailed, BackupFailed, WentLive, Protected, Step, step}
use Rattle.growing_history.specs.LogState.{first_runner, first_backup, client_seat}

-- A pair of two clients seals and commits; client 2 delivers a frame, which is handed out, arrives in the next epoch, and is committed
-- with it. The primary fails, the backup goes live and runs alone; it gets a new backup, whose full checkpoint is sealed and committed,
-- and then that backup fails.
abbrev pub life : Frame → List Step
life f =
    step first_runner (Sealed 1 1 [] (7 ∷ []))
    ∷ step first_backup (Committed 1 1 (7 ∷ []))
    ∷ step (client_seat 2) (Added (Delivered 2 f 1 ∷ []))
    ∷ step first_runner (Sealed 1 2 [] (8 ∷ []))
    ∷ step first_runner (Sealed 1 3 (Arrive 1 ∷ []) (9 ∷ []))
    ∷ step first_backup (Committed 1 2 (8 ∷ []))
    ∷ step first_backup (Committed 1 3 (9 ∷ []))
    ∷ step 0 PrimaryFailed
    ∷ step 0 (WentLive 6)
    ∷ step 6 (RanAlone [])
    ∷ step 0 (Protected 7)
    ∷ step 6 (Sealed 3 0 [] (10 ∷ []))
    ∷ step 7 (Committed 3 0 (10 ∷ []))
    ∷ step 0 BackupFailed
    ∷ []

-- One commit names another text than the sealed one, and then client 1 takes a frame that nobody sent.
abbrev pub marked_life : Frame → List Step
marked_life f =
    step first_runner (Sealed 1 1 [] (7 ∷ []))
    ∷ step first_backup (Committed 1 1 (8 ∷ []))
    ∷ step (client_seat 1) (Added (Took 1 (Some f) ∷ []))
    ∷ []
