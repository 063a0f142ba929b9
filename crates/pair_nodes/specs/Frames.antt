-- What nodes let out is what the guest sent: each frame once, in order.
use Rattle.std.specs.Prelude.{◌≡◌, ◌≤◌, ℕ, List, [], ◌∷◌, ◌++◌, take}
use Rattle.output_gate.specs.Epochs.{frames_of, frames_to}
use Rattle.pair_history.specs.Entries.{Frame}
use Rattle.pair_history.specs.HistoryState.{HistoryState, sent_along}
use Rattle.pair_core.specs.Calls.{Moment, ahead_of}
use Rattle.pair_nodes.specs.Networks.{Output, frames_in}
use Rattle.pair_nodes.specs.Sites.{Site, Happening, hears, goes_live, goes_alone, lone_steps, protects}

-- What was sent is, in this order: what each node let out that was live before, with what was lost; what the live one let out; and what
-- that one holds.
abbrev pub AreOut : Output → List Frame → List Frame → Type 0
AreOut out held sent = frames_in out.before ++ (out.now ++ held) ≡ sent

-- So each frame that was let out was sent by a step of the history, none twice, and in the order sent. And what the live node holds, at its
-- gate behind so many checkpoints and in its outbox, is all that its guest sent since the last failure and that it hasn't let out.
pub record AreLetOut (start : HistoryState) (end : Moment) (t : Site) : Type 0 where
  -- of the checkpoints that the gate holds, so many are in the history
  pub committed : ℕ
  pub history : AreOut t.out (frames_of (take committed t.primary.pending)) (sent_along start end.history)
  pub all : AreOut t.out (frames_of t.primary.pending ++ t.primary.live.outbox) (sent_along start (end.history ++ ahead_of end))

-- all that the live node's guest sent since the last failure; and of it what is out, or held for checkpoints up to that number
abbrev pub sent_since : Site → List Frame
sent_since s = s.out.now ++ (frames_of s.primary.pending ++ s.primary.live.outbox)

abbrev pub out_to : ℕ → Site → List Frame
out_to n s = s.out.now ++ frames_to n s.primary.pending

-- no standby goes live
abbrev pub NoneGoesLive : List Happening → Type 0
NoneGoesLive [] = Unit {0}
NoneGoesLive (goes_live ∷ xs) = ⊥
NoneGoesLive (x ∷ xs) = NoneGoesLive xs

-- the primary keeps its standby, and hears of no checkpoint beyond that number
abbrev pub NoneIsHeardBeyond : ℕ → List Happening → Type 0
NoneIsHeardBeyond n [] = Unit {0}
NoneIsHeardBeyond n (hears p ∷ xs) = (p.number ≤ n) × NoneIsHeardBeyond n xs
NoneIsHeardBeyond n (goes_live ∷ xs) = ⊥
NoneIsHeardBeyond n (goes_alone ∷ xs) = ⊥
NoneIsHeardBeyond n (lone_steps k ∷ xs) = ⊥
NoneIsHeardBeyond n (protects text ∷ xs) = ⊥
NoneIsHeardBeyond n (x ∷ xs) = NoneIsHeardBeyond n xs

-- the one list of frames, and maybe more
abbrev pub GoesOnFrom : List Frame → List Frame → Type 0
GoesOnFrom fs gs = (more : List Frame) × (gs ≡ fs ++ more)
