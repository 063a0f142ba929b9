-- A pair of two clients, worked through by computing.
use Rattle.std.specs.Prelude.{◌≡◌, ℕ, List, [], ◌∷◌, replicate, None, refl}
use Rattle.failover.specs.declared.mode.Mode.TheVariants.{Paired, Filling, Stopped}
use Rattle.pair_history.specs.Entries.{Frame, Delivered, DropIn, Land, DropOut, Took}
use Rattle.pair_history.specs.HistoryState.{HistoryState, start_state}
use Rattle.growing_history.specs.Steps.{What, Added, Sealed, Committed, PrimaryFailed, BackupFailed, WentLive, Protected, Step, step}
use Rattle.growing_history.specs.Steps.{steps_by}
use Rattle.growing_history.specs.LogState.{LogState, start_of, after_step, added, client_seat}

abbrev pub two_clients : HistoryState
two_clients = start_state 1 1 [] 2

-- client c finds its box empty
abbrev pub found_empty : ℕ → Step
found_empty c = step (client_seat c) (Added (Took c None ∷ []))

-- where these lead
abbrev pub run_from : LogState → List What → LogState
run_from s [] = s
run_from s (w ∷ ws) = run_from (after_step s w) ws

abbrev pub run : List What → LogState
run ws = run_from (start_of two_clients) ws

pub client_2_calls_once : steps_by 5 (found_empty 1 ∷ found_empty 2 ∷ found_empty 1 ∷ []) ≡ found_empty 2 ∷ []
client_2_calls_once = refl

pub stops : (run (PrimaryFailed ∷ [])).mode ≡ Stopped
stops = refl

pub a_runner_goes_live : (run (PrimaryFailed ∷ WentLive 6 ∷ [])).runner ≡ 6
a_runner_goes_live = refl

pub it_begins_a_generation : (run (PrimaryFailed ∷ WentLive 6 ∷ [])).generation ≡ 2
it_begins_a_generation = refl

pub a_new_backup_is_filled : (run (BackupFailed ∷ Protected 6 ∷ [])).mode ≡ Filling
a_new_backup_is_filled = refl

pub its_full_checkpoint_is_number_0 : (run (BackupFailed ∷ Protected 6 ∷ [])).next ≡ 0
its_full_checkpoint_is_number_0 = refl

pub then_the_pair_is_paired : (run (BackupFailed ∷ Protected 6 ∷ Sealed 2 0 [] (7 ∷ []) ∷ Committed 2 0 (7 ∷ []) ∷ [])).mode ≡ Paired
then_the_pair_is_paired = refl

pub the_sealed_text_makes_no_mark : (run (Sealed 1 1 [] (7 ∷ []) ∷ Committed 1 1 (7 ∷ []) ∷ [])).marked ≡ 0
the_sealed_text_makes_no_mark = refl

pub another_text_makes_one : (run (Sealed 1 1 [] (7 ∷ []) ∷ Committed 1 1 (8 ∷ []) ∷ [])).marked ≡ 1
another_text_makes_one = refl

pub a_waiting_frame_is_handed_out : (f : Frame) → (run (Added (Delivered 2 f 1 ∷ []) ∷ Sealed 1 1 [] [] ∷ [])).handed ≡ 1 ∷ []
a_waiting_frame_is_handed_out f = refl

-- what was handed out and went with the primary is lost on its way, and nothing else is
pub going_live_drops_it : (f : Frame)
    → added (run (Added (Delivered 2 f 1 ∷ []) ∷ Sealed 1 1 [] [] ∷ PrimaryFailed ∷ [])) (WentLive 6) ≡ DropIn 1 ∷ []
going_live_drops_it f = refl

-- what was on its way to a client lands
pub going_live_lands_it : (f : Frame)
    → added (run_from (start_of (record two_clients { out = (2, f) ∷ [] })) (PrimaryFailed ∷ [])) (WentLive 6) ≡ Land 2 ∷ []
going_live_lands_it f = refl

-- and a full box drops it
pub a_full_box_drops_it : (f : Frame)
    → added (run_from (start_of (record two_clients { out = (2, f) ∷ []; boxes = [] ∷ replicate 256 f ∷ [] })) (PrimaryFailed ∷ []))
    (WentLive 6) ≡ DropOut 2 256 ∷ []
a_full_box_drops_it f = refl
