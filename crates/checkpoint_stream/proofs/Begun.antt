-- What a unit makes of a reading doesn't depend on what was taken of the unit before, and has none begun.
use Rattle.std.proofs.Common.{◌≡◌, ℕ, ◌++◌, List, [], Bool, true, false, refl}
use Rattle.checkpoint_stream.specs.declared.{place.Place.{Place, TheVariants.{Head, PageCount, PageIndex, PageMask, Block}}}
use Rattle.checkpoint_stream.specs.declared.place.Place.TheVariants.{SectorCount, SectorIndex, SectorBytes, FrameCount, FrameLength}
use Rattle.checkpoint_stream.specs.{declared.place.Place.TheVariants.{FrameBytes, Whole, Failed}, Readings.{Reading, is_closed, moved_if}}
use Rattle.checkpoint_stream.specs.{HeadTable.{row_at, number_spelled}, declared.rules.Width.TheVariants.Eight}
use Rattle.checkpoint_stream.specs.Readings.{kept_number, kept_mask, kept_block, kept_sector, frame_judged, judged, judged_at}

-- the reading with more of the unit that has begun
abbrev pub with_more : Reading → List ℕ → Reading
with_more r bytes = record r { partial = r.partial ++ bytes }

-- of a unit that keeps its rule and of one that breaks it
by-rule : {X : Type 0} (f g : Bool → X) → f true ≡ g true → f false ≡ g false → (b : Bool) → f b ≡ g b
by-rule f g e h true = e
by-rule f g e h false = h

moved_if-more : (r : Reading) (xs : List ℕ) (place : Place) (b : Bool) → moved_if b (with_more r xs) place ≡ moved_if b r place
unfolding moved_if
moved_if-more r xs place = by-rule (λ b. moved_if b (with_more r xs) place) (λ b. moved_if b r place) refl refl

judged_at-more : (p : Place) (r : Reading) (xs unit : List ℕ) → is_closed p ≡ false → judged_at p (with_more r xs) unit ≡ judged_at p r unit
unfolding moved_if kept_number kept_mask kept_block kept_sector frame_judged
judged_at-more Head r xs unit going =
    let n : ℕ = number_spelled (row_at r.known).width unit in
    by-rule (λ b. kept_number b (with_more r xs) (row_at r.known) n) (λ b. kept_number b r (row_at r.known) n) refl refl _
judged_at-more PageCount r xs unit going = moved_if-more r xs _ _
judged_at-more (PageIndex left from) r xs unit going = moved_if-more r xs _ _
judged_at-more (PageMask left page) r xs unit going =
    let mask : ℕ = number_spelled Eight unit in
    by-rule (λ b. kept_mask b (with_more r xs) left page mask) (λ b. kept_mask b r left page mask) refl refl _
judged_at-more (Block left page more) r xs unit going =
    by-rule (λ b. kept_block b (with_more r xs) left page more unit) (λ b. kept_block b r left page more unit) refl refl _
judged_at-more SectorCount r xs unit going = moved_if-more r xs _ _
judged_at-more (SectorIndex left from) r xs unit going = moved_if-more r xs _ _
judged_at-more (SectorBytes left sector) r xs unit going =
    by-rule (λ b. kept_sector b (with_more r xs) left sector unit) (λ b. kept_sector b r left sector unit) refl refl _
judged_at-more FrameCount r xs unit going = moved_if-more r xs _ _
judged_at-more (FrameLength left) r xs unit going = moved_if-more r xs _ _
judged_at-more (FrameBytes left len) r xs unit going = refl
judged_at-more Whole r xs unit going = cc
judged_at-more (Failed at) r xs unit going = cc

pub judged-more : (r : Reading) (xs unit : List ℕ) → is_closed r.place ≡ false → judged (with_more r xs) unit ≡ judged r unit
unfolding judged
judged-more r xs unit going = judged_at-more r.place r xs unit going

moved_if-begun : (r : Reading) (place : Place) (b : Bool) → (moved_if b r place).partial ≡ []
unfolding moved_if
moved_if-begun r place = by-rule (λ b. (moved_if b r place).partial) (λ _. []) refl refl

judged_at-begun : (p : Place) (r : Reading) (unit : List ℕ) → is_closed p ≡ false → (judged_at p r unit).partial ≡ []
unfolding moved_if kept_number kept_mask kept_block kept_sector frame_judged
judged_at-begun Head r unit going =
    by-rule (λ b. (kept_number b r (row_at r.known) (number_spelled (row_at r.known).width unit)).partial) (λ _. []) refl refl _
judged_at-begun PageCount r unit going = moved_if-begun r _ _
judged_at-begun (PageIndex left from) r unit going = moved_if-begun r _ _
judged_at-begun (PageMask left page) r unit going =
    by-rule (λ b. (kept_mask b r left page (number_spelled Eight unit)).partial) (λ _. []) refl refl _
judged_at-begun (Block left page more) r unit going =
    by-rule (λ b. (kept_block b r left page more unit).partial) (λ _. []) refl refl _
judged_at-begun SectorCount r unit going = moved_if-begun r _ _
judged_at-begun (SectorIndex left from) r unit going = moved_if-begun r _ _
judged_at-begun (SectorBytes left sector) r unit going =
    by-rule (λ b. (kept_sector b r left sector unit).partial) (λ _. []) refl refl _
judged_at-begun FrameCount r unit going = moved_if-begun r _ _
judged_at-begun (FrameLength left) r unit going = moved_if-begun r _ _
judged_at-begun (FrameBytes left len) r unit going = refl
judged_at-begun Whole r unit going = cc
judged_at-begun (Failed at) r unit going = cc

pub judged-begun : (r : Reading) (unit : List ℕ) → is_closed r.place ≡ false → (judged r unit).partial ≡ []
unfolding judged
judged-begun r unit going = judged_at-begun r.place r unit going
