-- What nodes let out is what the guest sent, through each event of the pair.
use Rattle.std.proofs.Common.{◌≡◌, ℕ, zero, suc, ◌+◌, ◌-◌, ◌<◌, ◌≤◌, List, [], ◌∷◌, ◌++◌, length, take, drop, map, replicate, refl, sym, ap, ◌∙◌}
use Rattle.std.proofs.Common.{subst, arith, append_assoc, Bool, true, false, cond}
use Rattle.std.proofs.lemmas.{Bool.Decides.nat_tests, List.{append-nil, take-append-drop}}
use Rattle.std.specs.Prelude.{nat_le}
use Rattle.guest_rules.specs.{Guest.Guest, Step.{sent}, Runs.sent_in}
use Rattle.frame_ports.specs.Lands.{has_room, landed_at}
use Rattle.frame_ports.specs.Limits.{box_frames}
use Rattle.output_gate.specs.Epochs.{Epoch, frames_of, frames_to, after_number}
use Rattle.output_gate.specs.laws.Epochs.{frames_of-append}
use Rattle.pair_history.specs.Entries.{Frame, Entry, Ran, Arrive, DropIn, Land, DropOut}
use Rattle.pair_history.specs.{Failures.{drops_of_taken_in, arrived_numbers, rising}, Landings.landings}
use Rattle.pair_history.specs.HistoryState.{HistoryState, at, after, sent_along, sent_by}
use Rattle.pair_history.specs.Moves.{Move, entries_of, guest_along, frames_along, AllCan}
use Rattle.pair_history.specs.laws.Moves.{AllCan-front, frames_along-append, sent_along-moves}
use Rattle.pair_record.specs.Journal.{joined, first_of, kept_entries, with_moves}
use Rattle.pair_record.specs.Accords.{all_moves, epoch_frames, frames_by_epoch}
use Rattle.pair_record.specs.{Window.{NumberedFrom, committed_count, committed_of, uncommitted_of, with_acknowledged}}
use Rattle.pair_record.specs.laws.{Accords.{kept_is, next_epoch}, Windows.{committed_left, gone, leaves, within}}
use Rattle.std.proofs.Math.Seq.{take-nil}
use Rattle.pair_core.specs.{Invariant.{Holds, KeepsNothing}, Pair.{Pair, shown_state}}
use Rattle.pair_core.specs.laws.Consistent.{live_is}
use Rattle.pair_core.specs.laws.Events.{after_commit}
use Rattle.pair_nodes.specs.Frames.{AreOut}
use Rattle.pair_nodes.specs.Matching.{Kept, held_of, sent_of}
use Rattle.pair_nodes.specs.Networks.{Output, Turn, frames_in, with_out, with_next}

-- WHAT ENTRIES SEND

pub sent-append : (s : HistoryState) (es fs : List Entry) → sent_along s (es ++ fs) ≡ sent_along s es ++ sent_along (at s es) fs
sent-append s [] fs = refl
sent-append s (e ∷ es) fs =
    ap (λ t. sent_by s e ++ t) (sent-append (after s e) es fs) ∙ sym (append_assoc (sent_by s e) (sent_along (after s e) es) _)

-- landings and losses send nothing
pub sent-landings : (s : HistoryState) (boxes : List (List Frame)) (ps : List (ℕ × Frame)) → sent_along s (landings boxes ps) ≡ []
sent-landings s boxes [] = refl
sent-landings s boxes (p ∷ ps) = by_room (has_room boxes p.0) (λ t. sent-landings t (landed_at boxes p.0 p.1) ps)
  where
    by_room : (t : Bool) → ((u : HistoryState) → sent_along u (landings (landed_at boxes p.0 p.1) ps) ≡ [])
        → sent_along s (cond t (Land p.0) (DropOut p.0 box_frames) ∷ landings (landed_at boxes p.0 p.1) ps) ≡ []
    by_room true rest = rest (after s (Land p.0))
    by_room false rest = rest (after s (DropOut p.0 box_frames))

sent-drops : (s : HistoryState) (ns : List ℕ) → sent_along s (map DropIn ns) ≡ []
sent-drops s [] = refl
sent-drops s (n ∷ ns) = sent-drops (after s (DropIn n)) ns

-- steps send what the guest's do
sent-steps : (n : ℕ) (s : HistoryState) → sent_along s (replicate n Ran) ≡ sent_in n s.guest
unfolding sent_in
sent-steps zero s = refl
sent-steps (suc n) s = ap (λ t. sent s.guest ++ t) (sent-steps n (after s Ran))

-- silent entries behind others
silent : (s : HistoryState) (es fs : List Entry) → sent_along (at s es) fs ≡ [] → sent_along s (es ++ fs) ≡ sent_along s es
silent s es fs e = sent-append s es fs ∙ ap (λ t. sent_along s es ++ t) e ∙ append-nil (sent_along s es)

-- WHAT IS LET OUT AND HELD, as more is sent

pub more-held : (out : Output) (held sent more held' sent' : List Frame) → AreOut out held sent → held' ≡ held ++ more → sent' ≡ sent ++ more
    → AreOut out held' sent'
more-held out held sent more held' sent' a h s =
    let fs = frames_in out.before in
    ap (λ t. fs ++ (out.now ++ t)) h ∙ ap (λ t. fs ++ t) (sym (append_assoc out.now held more))
    ∙ sym (append_assoc fs (out.now ++ held) more) ∙ ap (λ t. t ++ more) a ∙ sym s

pub let-out : (out : Output) (fs held sent more held' sent' : List Frame) → AreOut out held sent → fs ++ held' ≡ held ++ more
    → sent' ≡ sent ++ more → AreOut (with_out out fs) held' sent'
let-out out fs held sent more held' sent' a h s =
    ap (λ t. frames_in out.before ++ t) (append_assoc out.now fs held') ∙ more-held out held sent more (fs ++ held') sent' a h s

pub frames_in-push : (ts : List Turn) (t : Turn) → frames_in (ts ++ t ∷ []) ≡ frames_in ts ++ (t.let_out ++ t.lost)
frames_in-push [] t = ap (λ fs. t.let_out ++ fs) (append-nil t.lost)
frames_in-push (u ∷ ts) t =
    ap (λ fs. u.let_out ++ (u.lost ++ fs)) (frames_in-push ts t)
    ∙ ap (λ fs. u.let_out ++ fs) (sym (append_assoc u.lost (frames_in ts) (t.let_out ++ t.lost)))
    ∙ sym (append_assoc u.let_out (u.lost ++ frames_in ts) (t.let_out ++ t.lost))

-- another node goes live: what the one before held is lost
pub next-turn : (out : Output) (held sent lost held' sent' : List Frame) → AreOut out held sent → lost ≡ held → held' ≡ [] → sent' ≡ sent
    → AreOut (with_next out lost) held' sent'
next-turn out held sent lost held' sent' a all none same =
    let last : Turn = record { let_out = out.now; lost = lost } in
    let fs = frames_in (out.before ++ last ∷ []) in
    ap (λ t. fs ++ t) none ∙ append-nil fs ∙ frames_in-push out.before last ∙ ap (λ t. frames_in out.before ++ (out.now ++ t)) all
    ∙ a ∙ sym same

pub same-out : (out : Output) (held sent held' sent' : List Frame) → AreOut out held sent → held' ≡ held → sent' ≡ sent
    → AreOut out held' sent'
same-out out held sent held' sent' a h s = ap (λ t. frames_in out.before ++ (out.now ++ t)) h ∙ a ∙ sym s

-- WHAT IS KEPT

-- the frames of epochs, one after another
of-epochs : (g : Guest) (mss : List (List Move)) (es : List Epoch) → frames_by_epoch es ≡ epoch_frames g mss
    → frames_of es ≡ frames_along g (all_moves mss)
of-epochs g [] [] e = refl
of-epochs g [] (x ∷ es) e = cc
of-epochs g (ms ∷ mss) [] e = cc
of-epochs g (ms ∷ mss) (x ∷ es) e =
    let head : x.frames ≡ frames_along g ms = cc in
    let tail : frames_by_epoch es ≡ epoch_frames (guest_along g ms) mss = cc in
    ap (λ t. t ++ frames_of es) head ∙ ap (λ t. frames_along g ms ++ t) (of-epochs (guest_along g ms) mss es tail)
    ∙ sym (frames_along-append g ms (all_moves mss))

-- what the guest did ahead of the history sent what the gate holds of uncommitted checkpoints, and the outbox
pub kept-sent : (w : Pair) → Holds w → sent_along (shown_state w) (kept_entries w.protocol.state.journal)
    ≡ frames_of (uncommitted_of w.protocol.state.window w.protocol.state.pending) ++ w.nodes.live.outbox
kept-sent w h =
    let r = w.protocol.state in
    let s = shown_state w in
    let a = h.accords in
    let ms = all_moves a.journal.sealed_moves ++ a.journal.running_moves in
    let sealed = all_moves a.journal.sealed_moves in
    ap (sent_along s) (kept_is w.start r w.ports a) ∙ sent_along-moves s ms a.journal.can
    ∙ frames_along-append s.guest sealed a.journal.running_moves
    ∙ ap (λ t. t ++ frames_along (guest_along s.guest sealed) a.journal.running_moves)
    (sym (of-epochs s.guest a.journal.sealed_moves (uncommitted_of r.window r.pending) a.frames))
    ∙ ap (λ t. frames_of (uncommitted_of r.window r.pending) ++ t) (sym h.nodes.outbox)

first-sent : (s : HistoryState) (us : List Epoch) (mss : List (List Move)) (rest : List Move) (e : Epoch) (later : List Epoch)
    → us ≡ e ∷ later → frames_by_epoch us ≡ epoch_frames s.guest mss → AllCan s.waiting (all_moves mss ++ rest)
    → sent_along s (first_of (map entries_of mss)) ≡ e.frames
first-sent s [] mss rest e later is frames can = absurd (cc)
first-sent s (x ∷ us) [] rest e later is frames can = absurd (cc)
first-sent s (x ∷ us) (ms ∷ mss) rest e later is frames can =
    let apart : AllCan s.waiting (ms ++ (all_moves mss ++ rest)) = subst (AllCan s.waiting) (append_assoc ms (all_moves mss) rest) can in
    let here : x.frames ≡ frames_along s.guest ms = cc in
    let same : x ≡ e = cc in
    sent_along-moves s ms (AllCan-front s.waiting ms (all_moves mss ++ rest) apart) ∙ sym here ∙ ap (λ (y : Epoch). y.frames) same

-- behind so many of a longer list comes one more
record Next (n : ℕ) (xs : List Epoch) : Type 0 where
  pub first : Epoch
  pub later : List Epoch
  pub is : drop n xs ≡ first ∷ later

next-of : (n : ℕ) (xs : List Epoch) → n < length xs → Next n xs
next-of n [] l = absurd (omega arith)
next-of zero (x ∷ xs) l = record { first = x; later = xs; is = refl }
next-of (suc n) (x ∷ xs) l =
    let a = next-of n xs (omega arith) in
    record { first = a.first; later = a.later; is = a.is }

-- THE EVENTS

-- a commit
pub commit-frames : (w : Pair) → Kept w → w.protocol.state.window.to_commit < w.protocol.state.window.to_cut → (out : Output)
    → AreOut out (held_of w) (sent_of w) → AreOut out (held_of (after_commit w)) (sent_of (after_commit w))
commit-frames w k more out a =
    let r = w.protocol.state in
    let j = r.journal in
    let n = committed_count r.window in
    let count = k.record_is.window.count in
    let committed = k.record_is.window.committed in
    let x = next-of n r.pending (omega arith) in
    let one : (r.window.to_commit + 1) - r.window.to_acknowledge ≡ suc n = omega arith in
    let held : held_of (after_commit w) ≡ held_of w ++ x.first.frames =
    ap (λ m. frames_of (take m r.pending)) one ∙ ap frames_of (next_epoch n r.pending x.first x.later x.is).0
    ∙ frames_of-append (take n r.pending) (x.first ∷ []) ∙ ap (λ fs. held_of w ++ fs) (append-nil x.first.frames) in
    let acc = k.holds.accords in
    let first : sent_along (shown_state w) (first_of j.sealed) ≡ x.first.frames =
    ap (λ ess. sent_along (shown_state w) (first_of ess)) acc.journal.sealed_are
    ∙ first-sent (shown_state w) (uncommitted_of r.window r.pending) acc.journal.sealed_moves acc.journal.running_moves x.first x.later x.is
    acc.frames acc.journal.can in
    more-held out (held_of w) (sent_of w) x.first.frames (held_of (after_commit w)) (sent_of (after_commit w)) a held
    (sent-append w.start j.history (first_of j.sealed) ∙ ap (λ fs. sent_of w ++ fs) first)

take-front : (n : ℕ) (xs ys : List Epoch) → n ≤ length xs → take n (xs ++ ys) ≡ take n xs
take-front zero xs ys l = refl
take-front (suc n) [] ys l = absurd (omega arith)
take-front (suc n) (x ∷ xs) ys l = ap (λ t. x ∷ t) (take-front n xs ys (omega arith))

-- a cut
pub cut-held : (w : Pair) → Kept w → (e : Epoch)
    → frames_of (take (committed_count w.protocol.state.window) (w.protocol.state.pending ++ e ∷ [])) ≡ held_of w
cut-held w k e =
    let r = w.protocol.state in
    ap frames_of (take-front (committed_count r.window) r.pending (e ∷ []) (within r.window r.pending k.record_is.window))

-- an acknowledgement
module _ (w : Pair) (k : Kept w) (n : ℕ) (below : n < w.protocol.state.window.to_commit) (out : Output) (a : AreOut out (held_of w) (sent_of w))
    (ps : List (ℕ × Frame)) where
  pub hear-frames : AreOut (with_out out (frames_to n w.protocol.state.pending))
      (frames_of (committed_of (with_acknowledged n w.protocol.state.window) (after_number n w.protocol.state.pending)))
      (sent_along w.start (w.protocol.state.journal.history ++ landings w.ports.boxes ps))
  hear-frames =
      let r = w.protocol.state in
      let x = k.record_is.window in
      let l = leaves r.window r.pending x n below in
      let_out_as (gone r.window r.pending x n below) (ap frames_of (committed_left r.window r.pending x n below))
      (ap frames_of l.split ∙ frames_of-append l.gone l.stay)
    where
      let_out_as : {gs ss fs hs : List Frame} → fs ≡ gs → hs ≡ ss → held_of w ≡ gs ++ ss
          → AreOut (with_out out fs) hs (sent_along w.start (w.protocol.state.journal.history ++ landings w.ports.boxes ps))
      let_out_as {gs} {ss} {fs} {hs} f h all =
          let-out out fs (held_of w) (sent_of w) [] hs (sent_along w.start (w.protocol.state.journal.history ++ landings w.ports.boxes ps)) a
          ((λ i. f i ++ h i) ∙ sym all ∙ sym (append-nil (held_of w)))
          (silent w.start w.protocol.state.journal.history (landings w.ports.boxes ps) (sent-landings _ w.ports.boxes ps)
          ∙ sym (append-nil (sent_of w)))

-- where the standby has stopped
module _ (w : Pair) (k : Kept w) (out : Output) (a : AreOut out (held_of w) (sent_of w)) (ps : List (ℕ × Frame)) (m : ℕ) where
  pub alone-frames : AreOut (with_out out (frames_of w.protocol.state.pending ++ w.nodes.live.outbox)) (frames_of (take m []))
      (sent_along w.start ((w.protocol.state.journal.history ++ kept_entries w.protocol.state.journal) ++ landings w.ports.boxes ps))
  alone-frames =
      let r = w.protocol.state in
      let j = r.journal in
      let late = frames_of (uncommitted_of r.window r.pending) in
      let more = late ++ w.nodes.live.outbox in
      let fs = frames_of r.pending ++ w.nodes.live.outbox in
      let none : frames_of (take m []) ≡ [] = ap frames_of (take-nil m) in
      let all : frames_of r.pending ≡ held_of w ++ late =
      ap frames_of (sym (take-append-drop (committed_count r.window) r.pending))
      ∙ frames_of-append (committed_of r.window r.pending) (uncommitted_of r.window r.pending) in
      let-out out fs (held_of w) (sent_of w) more (frames_of (take m [])) _ a
      (ap (λ t. fs ++ t) none ∙ append-nil fs ∙ ap (λ t. t ++ w.nodes.live.outbox) all ∙ append_assoc (held_of w) late w.nodes.live.outbox)
      (silent w.start (j.history ++ kept_entries j) (landings w.ports.boxes ps) (sent-landings _ w.ports.boxes ps)
      ∙ sent-append w.start j.history (kept_entries j) ∙ ap (λ t. sent_of w ++ t) (kept-sent w k.holds))

-- of numbered epochs those below a number are the first ones
none-below : (a n : ℕ) (es : List Epoch) → n < a → NumberedFrom a es → frames_to n es ≡ []
none-below a n [] l h = refl
none-below a n (e ∷ es) l h =
    let number = h.0 in
    let off : nat_le e.number n ≡ false = grind (arith, nat_tests, number, l) in
    ap (λ t. cond t (e.frames ++ frames_to n es) (frames_to n es)) off ∙ none-below (a + 1) n es (omega arith) h.1

below-first : (k a c : ℕ) (es : List Epoch) → 1 ≤ c → a + k ≡ c → NumberedFrom a es → frames_to (c - 1) es ≡ frames_of (take k es)
below-first zero a c es low at h = none-below a (c - 1) es (omega arith) h
below-first (suc k) a c [] low at h = refl
below-first (suc k) a c (e ∷ es) low at h =
    let number = h.0 in
    let before : a ≤ c - 1 = omega arith in
    let on : nat_le e.number (c - 1) ≡ true = grind (arith, nat_tests, number, before) in
    ap (λ t. cond t (e.frames ++ frames_to (c - 1) es) (frames_to (c - 1) es)) on
    ∙ ap (λ t. e.frames ++ t) (below-first k (a + 1) c es low (omega arith) h.1)

-- where the standby goes live, which has committed the checkpoints below that number
module _ (w : Pair) (k : Kept w) (out : Output) (a : AreOut out (held_of w) (sent_of w)) (ps : List (ℕ × Frame)) (m : ℕ)
    (some : 1 ≤ w.protocol.state.window.to_commit) where
  pub live-frames : AreOut (with_next out (frames_to (w.protocol.state.window.to_commit - 1) w.protocol.state.pending)) (frames_of (take m []))
      (sent_along w.start (w.protocol.state.journal.history
      ++ (drops_of_taken_in (kept_entries w.protocol.state.journal) ++ landings w.ports.boxes ps)))
  live-frames =
      let r = w.protocol.state in
      let j = r.journal in
      let ns = rising (arrived_numbers (kept_entries j)) in
      let s = at w.start j.history in
      let x = k.record_is.window in
      let order = x.committed in
      let whole : r.window.to_acknowledge + committed_count r.window ≡ r.window.to_commit = omega arith in
      next-turn out (held_of w) (sent_of w) (frames_to (r.window.to_commit - 1) r.pending) (frames_of (take m [])) _ a
      (below-first (committed_count r.window) r.window.to_acknowledge r.window.to_commit r.pending some whole x.numbers) (ap frames_of (take-nil m))
      (silent w.start j.history (map DropIn ns ++ landings w.ports.boxes ps)
      (silent s (map DropIn ns) (landings w.ports.boxes ps) (sent-landings _ w.ports.boxes ps) ∙ sent-drops s ns))

-- where a node is alone it holds nothing
pub none-held : (w : Pair) → KeepsNothing w.protocol.state → held_of w ≡ []
none-held w nothing =
    ap (λ (es : List Epoch). frames_of (take (committed_count w.protocol.state.window) es)) nothing.2
    ∙ ap frames_of (take-nil (committed_count w.protocol.state.window))

-- its steps
module _ (w : Pair) (k : Kept w) (nothing : KeepsNothing w.protocol.state) (out : Output) (a : AreOut out (held_of w) (sent_of w)) (n : ℕ)
    (ps : List (ℕ × Frame)) where
  shown-guest : (shown_state w).guest ≡ w.nodes.live.guest
  shown-guest =
      let j = w.protocol.state.journal in
      let none : kept_entries j ≡ [] = (λ i. joined (nothing.0 i) ++ nothing.1 i) in
      ap (λ (es : List Entry). (at w.start es).guest) (sym (append-nil j.history))
      ∙ ap (λ (es : List Entry). (at w.start (j.history ++ es)).guest) (sym none) ∙ live_is w k.holds

  pub lone-frames : AreOut (with_out out (sent_in n w.nodes.live.guest)) (held_of w)
      (sent_along w.start (w.protocol.state.journal.history ++ (replicate n Ran ++ landings w.ports.boxes ps)))
  lone-frames =
      let j = w.protocol.state.journal in
      let fs = sent_in n w.nodes.live.guest in
      let s = shown_state w in
      let none = none-held w nothing in
      let-out out fs (held_of w) (sent_of w) fs (held_of w) _ a
      ((λ i. fs ++ none i) ∙ append-nil fs ∙ (λ i. sym none i ++ fs))
      (sent-append w.start j.history (replicate n Ran ++ landings w.ports.boxes ps)
      ∙ ap (λ t. sent_of w ++ t)
      (silent s (replicate n Ran) (landings w.ports.boxes ps) (sent-landings _ w.ports.boxes ps) ∙ sent-steps n s ∙ ap (sent_in n) shown-guest))

-- entries that send nothing
pub quiet-frames : (w : Pair) (out : Output) → AreOut out (held_of w) (sent_of w) → (es : List Entry)
    → ((s : HistoryState) → sent_along s es ≡ []) → AreOut out (held_of w) (sent_along w.start (w.protocol.state.journal.history ++ es))
quiet-frames w out a es e =
    same-out out (held_of w) (sent_of w) (held_of w) _ a refl (silent w.start w.protocol.state.journal.history es (e _))

-- a frame arrives
pub come-frames : (w : Pair) (out : Output) → AreOut out (held_of w) (sent_of w) → (n : ℕ) (t : Bool)
    → AreOut out (held_of w) (sent_along w.start (with_moves t w.protocol.state.journal (Arrive n ∷ [])).history)
come-frames w out a n true = quiet-frames w out a (Arrive n ∷ []) (λ s. refl)
come-frames w out a n false = a
