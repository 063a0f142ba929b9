-- What was read stays where more is read.
use Rattle.std.proofs.Common.{◌≡◌, ℕ, List, [], ◌∷◌, ◌++◌, ◌+◌, ◌==◌, length, if◌then◌else◌, Bool, true, false, refl, sym, ◌∙◌, ap}
use Rattle.std.proofs.{Common.append_assoc, lemmas.List.append-nil}
use Rattle.checkpoint_stream.specs.declared.{rules.Row.Row, place.Place.{Place, TheVariants.{Head, PageCount, PageIndex, PageMask, Block}}}
use Rattle.checkpoint_stream.specs.declared.place.Place.TheVariants.{SectorCount, SectorIndex, SectorBytes, FrameCount, FrameLength}
use Rattle.checkpoint_stream.specs.{declared.place.Place.TheVariants.{FrameBytes, Whole, Failed}, Taken.Extends, Readings.Reading}
use Rattle.checkpoint_stream.specs.Readings.{is_closed, moved_if, kept_number, kept_mask, kept_block, kept_sector, frame_judged, judged}
use Rattle.checkpoint_stream.specs.Readings.{judged_at, fed_byte, fed, width_of}

pub Extends-itself : (r : Reading) → Extends r r
Extends-itself r = record {
  shape = refl;
  head = ([], sym (append-nil r.head));
  pages = ([], sym (append-nil r.pages));
  blocks = ([], sym (append-nil r.blocks));
  sectors = ([], sym (append-nil r.sectors));
  frames = ([], sym (append-nil r.frames));
}

-- one more at the end
pushed : {X : Type 0} (old more new : List X) (x : X) → new ≡ old ++ more → new ++ x ∷ [] ≡ old ++ (more ++ x ∷ [])
pushed old more new x e = ap (λ l. l ++ x ∷ []) e ∙ append_assoc old more (x ∷ [])

-- what changes neither the head nor a list
keep-extends : (a r : Reading) (offset : ℕ) (place : Place) (partial : List ℕ) → Extends a r →
    Extends a (record r { offset = offset; place = place; partial = partial })
keep-extends a r offset place partial e =
    record { shape = e.shape; head = e.head; pages = e.pages; blocks = e.blocks; sectors = e.sectors; frames = e.frames }

kept_number-extends : (b : Bool) (a r : Reading) (row : Row) (n : ℕ) → Extends a r → Extends a (kept_number b r row n)
unfolding kept_number
kept_number-extends false a r row n e = keep-extends a r _ _ _ e
kept_number-extends true a r row n e =
    record {
      shape = e.shape;
      head = (_, pushed a.head e.head.0 r.head n e.head.1);
      pages = e.pages;
      blocks = e.blocks;
      sectors = e.sectors;
      frames = e.frames;
    }

moved_if-extends : (b : Bool) (a r : Reading) (p : Place) → Extends a r → Extends a (moved_if b r p)
unfolding moved_if
moved_if-extends false a r p e = keep-extends a r _ _ _ e
moved_if-extends true a r p e = keep-extends a r _ _ _ e

kept_mask-extends : (b : Bool) (a r : Reading) (left page mask : ℕ) → Extends a r → Extends a (kept_mask b r left page mask)
unfolding kept_mask
kept_mask-extends true a r left page mask e = keep-extends a r _ _ _ e
kept_mask-extends false a r left page mask e =
    record {
      shape = e.shape;
      head = e.head;
      pages = (_, pushed a.pages e.pages.0 r.pages _ e.pages.1);
      blocks = e.blocks;
      sectors = e.sectors;
      frames = e.frames;
    }

kept_block-extends : (b : Bool) (a r : Reading) (left page more : ℕ) (unit : List ℕ) → Extends a r →
    Extends a (kept_block b r left page more unit)
unfolding kept_block
kept_block-extends true a r left page more unit e = keep-extends a r _ _ _ e
kept_block-extends false a r left page more unit e =
    record {
      shape = e.shape;
      head = e.head;
      pages = e.pages;
      blocks = (_, pushed a.blocks e.blocks.0 r.blocks unit e.blocks.1);
      sectors = e.sectors;
      frames = e.frames;
    }

kept_sector-extends : (b : Bool) (a r : Reading) (left sector : ℕ) (unit : List ℕ) → Extends a r →
    Extends a (kept_sector b r left sector unit)
unfolding kept_sector
kept_sector-extends true a r left sector unit e = keep-extends a r _ _ _ e
kept_sector-extends false a r left sector unit e =
    record {
      shape = e.shape;
      head = e.head;
      pages = e.pages;
      blocks = e.blocks;
      sectors = (_, pushed a.sectors e.sectors.0 r.sectors _ e.sectors.1);
      frames = e.frames;
    }

frame_judged-extends : (a r : Reading) (left len : ℕ) (unit : List ℕ) → Extends a r → Extends a (frame_judged r left len unit)
unfolding frame_judged
frame_judged-extends a r left len unit e =
    record {
      shape = e.shape;
      head = e.head;
      pages = e.pages;
      blocks = e.blocks;
      sectors = e.sectors;
      frames = (_, pushed a.frames e.frames.0 r.frames _ e.frames.1);
    }

judged_at-extends : (p : Place) (a r : Reading) (unit : List ℕ) → Extends a r → Extends a (judged_at p r unit)
judged_at-extends Head a r unit e = kept_number-extends _ a r _ _ e
judged_at-extends PageCount a r unit e = moved_if-extends _ a r _ e
judged_at-extends (PageIndex left from) a r unit e = moved_if-extends _ a r _ e
judged_at-extends (PageMask left page) a r unit e = kept_mask-extends _ a r _ _ _ e
judged_at-extends (Block left page more) a r unit e = kept_block-extends _ a r _ _ _ _ e
judged_at-extends SectorCount a r unit e = moved_if-extends _ a r _ e
judged_at-extends (SectorIndex left from) a r unit e = moved_if-extends _ a r _ e
judged_at-extends (SectorBytes left sector) a r unit e = kept_sector-extends _ a r _ _ _ e
judged_at-extends FrameCount a r unit e = moved_if-extends _ a r _ e
judged_at-extends (FrameLength left) a r unit e = moved_if-extends _ a r _ e
judged_at-extends (FrameBytes left len) a r unit e = frame_judged-extends a r left len unit e
judged_at-extends Whole a r unit e = e
judged_at-extends (Failed at) a r unit e = e

pub judged-extends : (a r : Reading) (unit : List ℕ) → Extends a r → Extends a (judged r unit)
unfolding judged
judged-extends a r unit e = judged_at-extends r.place a r unit e

pub fed_byte-extends : (a r : Reading) (b : ℕ) → Extends a r → Extends a (fed_byte r b)
unfolding fed_byte
fed_byte-extends a r b e =
    elim (is_closed r.place) as (λ (closed : Bool). Extends a (if closed then r else (if length r.partial + 1 == width_of r
    then judged r (r.partial ++ b ∷ []) else record r { partial = r.partial ++ b ∷ [] }))) [
      | true ↦ e
      | false ↦ elim (length r.partial + 1 == width_of r) as (λ (whole : Bool). Extends a (if whole
          then judged r (r.partial ++ b ∷ []) else record r { partial = r.partial ++ b ∷ [] })) [
            | true ↦ judged-extends a r _ e
            | false ↦ keep-extends a r _ _ _ e
          ]
    ]

pub fed-extends : (a r : Reading) (bytes : List ℕ) → Extends a r → Extends a (fed r bytes)
unfolding fed
fed-extends a r [] e = e
fed-extends a r (b ∷ bs) e = fed-extends a (fed_byte r b) bs (fed_byte-extends a r b e)
