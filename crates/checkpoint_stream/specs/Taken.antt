-- What bytes make of a reading, and how it goes back to where it was.
use Rattle.std.specs.Prelude.{◌≡◌, ◌<◌, ◌≤◌, ◌+◌, ℕ, Bool, true, false, List, [], ◌++◌, length, take}
use Rattle.epoch_snapshot.specs.declared.changes.PageChange.{PageChange}
use Rattle.epoch_snapshot.specs.declared.changes.SectorChange.{SectorChange}
use Rattle.arrayvec.specs.ArrayVec.{ArrayVec}
use Rattle.checkpoint_stream.specs.declared.place.Place.{Place}
use Rattle.checkpoint_stream.specs.declared.place.Place.TheVariants.{Head, FrameLength, FrameBytes, Whole, Failed}
use Rattle.checkpoint_stream.specs.declared.marks.Mark.{Mark}
use Rattle.guest_rules.specs.declared.shapes.Shape.{Shape}
use Rattle.checkpoint_stream.specs.declared.runs.Between.{Between}
use Rattle.checkpoint_stream.specs.Readings.{Reading, fed, taken, width_at, after_number}

-- the reading after the bytes is this, and all of them were taken
pub record Takes (r : Reading) (bytes : List ℕ) (after : Reading) : Type 0 where
  pub reading : fed r bytes ≡ after
  pub count : taken r bytes ≡ length bytes

-- a reading between two numbers of the head, or after the last, of which these are the first that are known
abbrev pub numbered : Reading → Shape → List ℕ → Between → Reading
numbered r shape head at = record r {
  shape = shape;
  offset = at.offset;
  place = after_number at.known;
  known = at.known;
  head = take at.known head;
  before = at.before;
  partial = [];
}

-- a reading goes on from another: its head and the lists of its parts begin with those of the other
pub record Extends (old new : Reading) : Type 0 where
  pub shape : new.shape ≡ old.shape
  pub head : (more : List ℕ) × (new.head ≡ old.head ++ more)
  pub pages : (more : List PageChange) × (new.pages ≡ old.pages ++ more)
  pub blocks : (more : List (List ℕ)) × (new.blocks ≡ old.blocks ++ more)
  pub sectors : (more : List SectorChange) × (new.sectors ≡ old.sectors ++ more)
  pub frames : (more : List (ArrayVec ℕ)) × (new.frames ≡ old.frames ++ more)

-- a frame comes next: its length, or its bytes
abbrev pub is_at_frame : Place → Bool
is_at_frame (FrameLength left) = true
is_at_frame (FrameBytes left len) = true
is_at_frame _ = false

-- the places of the frames that are due are reserved: nothing that comes next takes memory
abbrev pub has_room : Place → Bool
has_room (FrameLength left) = true
has_room (FrameBytes left len) = true
has_room Whole = true
has_room (Failed at) = true
has_room _ = false

-- how many bytes of the unit that has begun lie in the buffer, which are they of a frame, which has a place of its own; and the frames that
-- are due have their places reserved
abbrev pub HasPlaces : Place → ℕ → List ℕ → ℕ → ℕ → Type 0
HasPlaces (FrameLength left) filled part frames places = (part ≡ []) × (frames + (left + 1) ≤ places)
HasPlaces (FrameBytes left len) filled part frames places =
    (filled ≡ 0) × (length part < len) × (len ≤ 1514) × (frames + (left + 1) ≤ places)
HasPlaces _ filled part frames places = part ≡ []

-- the reading that a mark keeps, of which a later one has the parts
abbrev pub marked : Mark → Reading → Reading
marked m r = record {
  shape = r.shape;
  offset = m.offset;
  place = m.place;
  known = m.known;
  head = take m.known m.head;
  before = m.before;
  pages = take m.pages r.pages;
  blocks = take m.blocks r.blocks;
  sectors = take m.sectors r.sectors;
  frames = take m.frames r.frames;
  partial = take m.filled m.buffer;
}

-- a mark is one of a reading
pub record HasRoom (m : Mark) : Type 0 where
  pub known : m.known ≤ 80
  pub head : m.place ≡ Head → m.known < 80
  pub filled : m.filled ≤ 512
  pub begun : m.filled < width_at m.place m.known
  pub place : is_at_frame m.place ≡ false
