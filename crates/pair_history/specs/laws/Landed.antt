-- What frames add to the history that land under numbers: those that came before nothing, and the others what frames add that leave the
-- gate.
use Rattle.std.proofs.Common.{◌≡◌, ℕ, ◌+◌, ◌<◌, ◌≤◌, List, [], ◌∷◌, ◌++◌, length, refl, sym, ap, ◌∙◌, arith, append_assoc}
use Rattle.std.proofs.{Common.{Bool, true, false, cond}, lemmas.List.Elements.{All-head, All-tail}}
use Rattle.std.specs.Prelude.{All}
use Rattle.frame_ports.specs.Addresses.{paired_with, targets_of}
use Rattle.frame_ports.specs.Lands.{has_room, landed_at, lands}
use Rattle.frame_ports.specs.{Limits.box_frames, Numbers.{last_come, landing, after_landing}, Ports.PortsState}
use Rattle.frame_ports.specs.declared.landing.Landing.TheVariants.{In, Dropped}
use Rattle.frame_ports.specs.laws.Numbers.{landing-new, landing-old, new_from, old_from}
use Rattle.output_gate.specs.Landings.{clients_for, landed_for, ports_after, AreBelow, AreOld, AreRising}
use Rattle.output_gate.specs.laws.New.{new_here, new_later, rising, new, boxes-frame, count-frame, below-frame}
use Rattle.output_gate.specs.laws.{Old.{same_after, old_for}, Ports.after_frame}
use Rattle.pair_history.specs.{Entries.{Frame, Land, DropOut}, Landings.landings}
use Rattle.pair_history.specs.LandedEntries.{all_frames, entries_of_landing, entries_for, entries_after}

landings-append : (b : List (List Frame)) (ps qs : List (ℕ × Frame)) → landings b (ps ++ qs) ≡ landings b ps ++ landings (lands b ps) qs
landings-append b [] qs = refl
landings-append b (p ∷ ps) qs =
    ap (λ es. cond (has_room b p.0) (Land p.0) (DropOut p.0 box_frames) ∷ es) (landings-append (landed_at b p.0 p.1) ps qs)

-- frames that came before

module _ (n : ℕ) (f : Frame) (p : PortsState) where
  none_for : (cs : List ℕ) → All (λ c. n ≤ last_come p c) cs → entries_for p cs n f ≡ []
  none_for [] old = refl
  none_for (c ∷ cs) old =
      ap (λ x. entries_of_landing c x ++ entries_for (after_landing p c n f) cs n f)
      (landing-old p c n f (old_from p c n f (All-head (λ c. n ≤ last_come p c) c cs old)))
      ∙ ap (λ (q : PortsState). entries_for q cs n f) (same_after n f p c cs old)
      ∙ none_for cs (All-tail (λ c. n ≤ last_come p c) c cs old)

pub entries-old : (p : PortsState) (first : ℕ) (fs : List Frame) → AreOld p first fs → entries_after p first fs ≡ []
entries-old p first [] old = refl
entries-old p first (f ∷ fs) old =
    ap (λ es. es ++ entries_after (landed_for p (clients_for p f) first f) (first + 1) fs) (none_for first f p (clients_for p f) old.0)
    ∙ ap (λ (q : PortsState). entries_after q (first + 1) fs) (old_for first f p (clients_for p f) old.0)
    ∙ entries-old p (first + 1) fs old.1

-- new frames

module _ (n : ℕ) (f : Frame) where
  one_for : (p : PortsState) (c : ℕ) → last_come p c < n
      → entries_of_landing c (landing p c n) ≡ cond (has_room p.boxes c) (Land c) (DropOut c box_frames) ∷ []
  one_for p c new = ap (entries_of_landing c) (landing-new p c n f (new_from p c n f new)) ∙ by_room (has_room p.boxes c)
    where
      by_room : (b : Bool) → entries_of_landing c (cond b In Dropped) ≡ cond b (Land c) (DropOut c box_frames) ∷ []
      by_room true = refl
      by_room false = refl

  all_for : (p : PortsState) (cs : List ℕ) → AreRising cs → All (λ c. last_come p c < n) cs
      → entries_for p cs n f ≡ landings p.boxes (paired_with cs f)
  all_for p [] rises fresh = refl
  all_for p (c ∷ cs) rises fresh =
      ap (λ es. es ++ entries_for (after_landing p c n f) cs n f) (one_for p c (All-head (λ c. last_come p c < n) c cs fresh))
      ∙ ap (λ es. cond (has_room p.boxes c) (Land c) (DropOut c box_frames) ∷ es)
      (all_for (after_landing p c n f) cs rises.2 (new_later n f p c cs rises fresh)
      ∙ ap (λ (b : List (List Frame)). landings b (paired_with cs f)) (new_here n f p c cs fresh))

pub entries-new : (p : PortsState) (first : ℕ) (fs : List Frame) → AreBelow p first
    → entries_after p first fs ≡ landings p.boxes (targets_of (length p.boxes) fs)
entries-new p first [] below = refl
entries-new p first (f ∷ fs) below =
    let q = after_frame p first f in
    let ps = paired_with (clients_for p f) f in
    ap (λ es. es ++ entries_after q (first + 1) fs)
    (all_for first f p (clients_for p f) (rising p first f below) (new p first f below))
    ∙ ap (λ es. landings p.boxes ps ++ es)
    (entries-new q (first + 1) fs (below-frame p first f below)
    ∙ ap (λ k. landings q.boxes (targets_of k fs)) (count-frame p first f below)
    ∙ ap (λ (b : List (List Frame)). landings b (targets_of (length p.boxes) fs)) (boxes-frame p first f below))
    ∙ sym (landings-append p.boxes ps (targets_of (length p.boxes) fs))

-- in parts

pub entries-append : (p : PortsState) (first next : ℕ) (fs gs : List Frame) → next ≡ first + length fs
    → entries_after p first (fs ++ gs) ≡ entries_after p first fs ++ entries_after (ports_after p first fs) next gs
entries-append p first next [] gs e = let same : first ≡ next = omega arith in ap (λ n. entries_after p n gs) same
entries-append p first next (f ∷ fs) gs e =
    ap (λ es. entries_for p (clients_for p f) first f ++ es)
    (entries-append (landed_for p (clients_for p f) first f) (first + 1) next fs gs (omega arith))
    ∙ sym (append_assoc (entries_for p (clients_for p f) first f) (entries_after (landed_for p (clients_for p f) first f) (first + 1) fs)
    (entries_after (ports_after p first (f ∷ fs)) next gs))

pub all_frames-append : (xs ys : List (List Frame)) → all_frames (xs ++ ys) ≡ all_frames xs ++ all_frames ys
all_frames-append [] ys = refl
all_frames-append (x ∷ xs) ys = ap (λ t. x ++ t) (all_frames-append xs ys) ∙ sym (append_assoc x (all_frames xs) (all_frames ys))
