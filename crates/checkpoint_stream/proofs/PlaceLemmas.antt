-- The places of frames, and that a reader never goes back from one.
use Rattle.std.proofs.Common.{◌≡◌, ◌≢◌, ℕ, zero, suc, ◌+◌, ◌<◌, ◌≤◌, ◌==◌, List, [], ◌∷◌, ◌++◌, length, Bool, true, false, refl, sym, ◌∙◌}
use Rattle.std.proofs.{Common.{ap, subst, if◌then◌else◌}, lemmas.List.append-nil}
use Rattle.checkpoint_stream.specs.{declared.place.Place.{Place, TheVariants.{FrameLength, FrameBytes, Whole, Failed}}, Readings.Reading}
use Rattle.checkpoint_stream.specs.Readings.{is_closed, width_of, moved_if, frames_due, frame_judged, judged, judged_at, fed_byte, fed}
use Rattle.checkpoint_stream.specs.Taken.{has_room, HasPlaces}

-- only a frame's bytes lie beside the buffer
pub part-nothing : (p : Place) (filled : ℕ) (part : List ℕ) (frames places : ℕ) → ((left len : ℕ) → p ≢ FrameBytes left len) →
    HasPlaces p filled part frames places → part ≡ []
part-nothing (FrameLength left) filled part frames places other h = h.0
part-nothing (FrameBytes left len) filled part frames places other h = absurd (other left len refl)
part-nothing place filled part frames places other h = h

-- what is known where a frame's bytes come next
pub at-bytes : (p : Place) (filled : ℕ) (part : List ℕ) (frames places left len : ℕ) → p ≡ FrameBytes left len →
    HasPlaces p filled part frames places → (filled ≡ 0) × (length part < len) × (len ≤ 1514) × (frames + (left + 1) ≤ places)
at-bytes p filled part frames places left len e h = subst (λ (q : Place). HasPlaces q filled part frames places) e h

-- bytes put into the buffer, beside which nothing lies
pub beside : (a b part bytes : List ℕ) → part ≡ [] → a ≡ b ++ bytes → a ++ part ≡ (b ++ part) ++ bytes
beside a b part bytes none e =
    ap (λ (l : List ℕ). a ++ l) none ∙ append-nil a ∙ e ∙ ap (λ (l : List ℕ). l ++ bytes) (sym (append-nil b)
    ∙ ap (λ (l : List ℕ). b ++ l) (sym none))

pub judged-frame : (r : Reading) (unit : List ℕ) (left len : ℕ) → r.place ≡ FrameBytes left len →
    judged r unit ≡ frame_judged r left len unit
unfolding judged
judged-frame r unit left len e = ap (λ (p : Place). judged_at p r unit) e

-- whatever lies beside the buffer
pub frame_judged-part : (v r : Reading) (partial : List ℕ) (left len : ℕ) (unit : List ℕ) → v ≡ r →
    frame_judged (record v { partial = partial }) left len unit ≡ frame_judged r left len unit
unfolding frame_judged
frame_judged-part v r partial left len unit same = ap (λ (s : Reading). frame_judged s left len unit) same

-- what stands where places are reserved keeps standing there
due-room : (left : ℕ) → has_room (frames_due left) ≡ true
due-room zero = refl
due-room (suc left) = refl

moved_if-room : (b : Bool) (r : Reading) (p : Place) → has_room p ≡ true → has_room (moved_if b r p).place ≡ true
unfolding moved_if
moved_if-room false r p e = refl
moved_if-room true r p e = e

frame-room : (r : Reading) (left len : ℕ) (unit : List ℕ) → has_room (frame_judged r left len unit).place ≡ true
unfolding frame_judged
frame-room r left len unit = due-room left

judged_at-room : (p : Place) (r : Reading) (unit : List ℕ) → r.place ≡ p → has_room p ≡ true → has_room (judged_at p r unit).place ≡ true
judged_at-room (FrameLength left) r unit at e = moved_if-room _ r _ refl
judged_at-room (FrameBytes left len) r unit at e = frame-room r left len unit
judged_at-room Whole r unit at e = ap has_room at
judged_at-room (Failed x) r unit at e = ap has_room at
judged_at-room other r unit at e = cc

judged-room : (r : Reading) (unit : List ℕ) → has_room r.place ≡ true → has_room (judged r unit).place ≡ true
unfolding judged
judged-room r unit e = judged_at-room r.place r unit refl e

fed_byte-room : (r : Reading) (b : ℕ) → has_room r.place ≡ true → has_room (fed_byte r b).place ≡ true
unfolding fed_byte
fed_byte-room r b e =
    elim (is_closed r.place) as (λ (closed : Bool). has_room (if closed then r else (if length r.partial + 1 == width_of r
    then judged r (r.partial ++ b ∷ []) else record r { partial = r.partial ++ b ∷ [] })).place ≡ true) [
      | true ↦ e
      | false ↦ elim (length r.partial + 1 == width_of r) as (λ (whole : Bool). has_room (if whole
          then judged r (r.partial ++ b ∷ []) else record r { partial = r.partial ++ b ∷ [] }).place ≡ true) [
            | true ↦ judged-room r _ e
            | false ↦ e
          ]
    ]

fed-room : (r : Reading) (bytes : List ℕ) → has_room r.place ≡ true → has_room (fed r bytes).place ≡ true
unfolding fed
fed-room r [] e = e
fed-room r (b ∷ bs) e = fed-room (fed_byte r b) bs (fed_byte-room r b e)

-- so where none are reserved, none were before
pub room-before : (r s : Reading) (bytes : List ℕ) → fed r bytes ≡ s → has_room s.place ≡ false → has_room r.place ≡ false
room-before r s bytes is none = by-room (has_room r.place) refl
  where
    by-room : (b : Bool) → has_room r.place ≡ b → has_room r.place ≡ false
    by-room false e = e
    by-room true e =
        let both : true ≡ false = sym (fed-room r bytes e) ∙ ap (λ (t : Reading). has_room t.place) is ∙ none in cc
