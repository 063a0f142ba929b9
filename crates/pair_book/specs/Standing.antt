-- What a backup stands on: its image, and which frames the guest sent along the epochs that it has committed, and which of them it keeps.
use Rattle.std.specs.Prelude.{◌≡◌, ℕ, zero, suc, ◌+◌, ◌-◌, ◌≤◌, false, List, [], ◌∷◌, ◌++◌, length, take, drop, Option, None, Some}
use Rattle.guest_rules.specs.Guest.{Guest}
use Rattle.pair_history.specs.Entries.{Frame}
use Rattle.pair_history.specs.HistoryState.{HistoryState, sent_along}
use Rattle.pair_record.specs.Kept.{all_frames}
use Rattle.growing_history.specs.Steps.{What, Committed, Protected, Step}
use Rattle.growing_history.specs.LogState.{LogState, start_of, entries_of, after_step, state_at, IsAlone}
use Rattle.growing_history.specs.Views.{Member}
use Rattle.pair_book.specs.declared.failures.Ack.{Ack}
use Rattle.failover.specs.Modes.{is_filling}

-- the frames that the guest sent along the first sealed epoch, which a commit commits; along that of a full checkpoint it sent none
abbrev pub first_sent : LogState → List Frame
first_sent s = sent_along s.history (entries_of (take 1 s.sealed))

-- what a step makes of the lists of the backup's commits: a new backup has none
abbrev pub commits_after : LogState → What → List (List Frame) → List (List Frame)
commits_after s (Committed g n text) lists = lists ++ first_sent s ∷ []
commits_after s (Protected b) lists = []
commits_after s other lists = lists

abbrev pub commits_from : LogState → List Step → List (List Frame) → List (List Frame)
commits_from s [] lists = lists
commits_from s (x ∷ xs) lists = commits_from (after_step s x.what) xs (commits_after s x.what lists)

-- For each commit since the backup began, the first one at the start and each later one as it was protected, in order: the frames that the
-- guest sent along the committed epoch.
unfoldable pub commits_of : HistoryState → List Step → List (List Frame)
commits_of h xs = commits_from (start_of h) xs []

-- the last four of these lists
abbrev pub last_four : List (List Frame) → List (List Frame)
last_four lists = drop (length lists - 4) lists

-- Of these lists the last four are kept; the last frame of all has the number `sent`, counted from 1, and the first of those that are kept
-- the number `first`.
pub record KeepsLast (lists : List (List Frame)) (sent first : ℕ) (kept : List (List Frame)) : Type 0 where
  pub last : kept ≡ last_four lists
  pub count : sent ≡ length (all_frames lists)
  pub number : first ≡ sent + 1 - length (all_frames kept)

-- the backup of this seat is the live one's in what it has seen, and no node is alone there
abbrev pub IsLive : HistoryState → Member → Type 0
IsLive start seat =
    (seat.number ≡ (state_at start seat.steps).backup) × (IsAlone (state_at start seat.steps).mode → ⊥)

-- A backup keeps what clients may be owed, by what its seat has seen: its number is at most the live one's there; and where it is live
-- there, unless a commit is marked there, it keeps the frames of its last four commits.
pub record KeepsFrames (start : HistoryState) (seat : Member) (sent first : ℕ) (kept : List (List Frame)) : Type 0 where
  pub born : seat.number ≤ (state_at start seat.steps).backup
  pub keeps : IsLive start seat → (state_at start seat.steps).marked ≡ 0 → KeepsLast (commits_of start seat.steps) sent first kept

-- the acknowledgement of the number before that one, if there is one
abbrev pub ack_before : ℕ → ℕ → Option Ack
ack_before generation zero = None
ack_before generation (suc n) = Some (record { generation = generation; number = n })

-- the acknowledgement of the last checkpoint of the generation that is committed, if one is: the others up to the next number are sealed
abbrev pub last_ack : LogState → Option Ack
last_ack s = ack_before s.generation (s.next - length s.sealed)

-- what the first backup begins with: the guest at the start counts as number 0 of generation 1
abbrev pub first_ack : Ack
first_ack = record { generation = 1; number = 0 }

-- A backup stands, with an image of this guest, and these kept frames, whose last acknowledgement that was. By what its seat has seen, it
-- keeps what clients may be owed. Where it is live there its image is at the last commit; and unless a commit is marked there, its image
-- is the history's guest, once the full checkpoint of a new backup is committed.
pub record Stands (start : HistoryState) (seat : Member) (image : Guest) (last : Option Ack) (sent first : ℕ) (kept : List (List Frame)) :
    Type 0 where
  pub frames : KeepsFrames start seat sent first kept
  pub committed : IsLive start seat → last ≡ last_ack (state_at start seat.steps)
  pub guest : IsLive start seat → (state_at start seat.steps).marked ≡ 0 → is_filling (state_at start seat.steps).mode ≡ false
      → image ≡ (state_at start seat.steps).history.guest
