-- A stream of checkpoints that ends anywhere: which whole checkpoints its bytes begin with, and the image that they make.
use Rattle.std.specs.Prelude.{◌≡◌, ℕ, List, [], ◌∷◌, ◌++◌, false, length, take, if◌then◌else◌}
use Rattle.guest_rules.specs.declared.shapes.Shape.{Shape}
use Rattle.epoch_snapshot.specs.Checkpoints.{Change, IsCanonical}
use Rattle.checkpoint_stream.specs.declared.place.Place.TheVariants.{Whole}
use Rattle.checkpoint_stream.specs.Readings.{Reading, begun, fed, taken, is_whole}
use Rattle.checkpoint_stream.specs.Sound.{change_in}
use Rattle.checkpoint_stream.specs.Text.{text}
use Rattle.checkpoint_stream.specs.Widths.{HasWidths}
use Rattle.backup_image.specs.Images.{ImageState, after_stage, committed}

-- BY THE BYTES

-- read from there on, these bytes are this checkpoint, whole, and all of them are needed
pub record IsOne (start : Reading) (bytes : List ℕ) (c : Change) : Type 0 where
  pub whole : (fed start bytes).place ≡ Whole
  pub all : taken start bytes ≡ length bytes
  pub is : change_in (fed start bytes) ≡ c

-- where the next checkpoint begins once one was read
abbrev pub renewed : Reading → Reading
renewed r = begun r.shape r.offset

-- read from there on, the bytes begin with these whole checkpoints, one after another, and with no further one
abbrev pub BeginsWith : Reading → List Change → List ℕ → Type 0
BeginsWith start [] bytes = (front after : List ℕ) → bytes ≡ front ++ after → is_whole (fed start front).place ≡ false
BeginsWith start (c ∷ cs) bytes =
    (one : List ℕ) × (rest : List ℕ) × (bytes ≡ one ++ rest) × IsOne start one c × BeginsWith (renewed (fed start one)) cs rest

-- the image after these checkpoints were staged and committed, one after another; one that is refused, or is in it already, changes nothing
abbrev pub after_all : ImageState → List Change → ImageState
after_all i [] = i
after_all i (c ∷ cs) = after_all (committed (after_stage i c)) cs

-- BY THE CALLS

-- a node that follows a stream: its reader, its image, and the bytes that the reader has taken
pub record Follower : Type 0 where
  pub reading : Reading
  pub image : ImageState
  pub came : List ℕ

-- what it does, in any order: it feeds the reader a piece; or takes the checkpoint that stands whole, if one does, stages it and commits
pub data Call : Type 0 where
  feeds : List ℕ → Call
  commits : Call

abbrev pub fed_piece : Follower → List ℕ → Follower
fed_piece f piece = record {
  reading = fed f.reading piece;
  image = f.image;
  came = f.came ++ take (taken f.reading piece) piece;
}

abbrev pub committed_next : Follower → Follower
committed_next f =
    record f { reading = renewed f.reading; image = committed (after_stage f.image (change_in f.reading)) }

abbrev pub after_call : Follower → Call → Follower
after_call f (feeds piece) = fed_piece f piece
after_call f commits = if is_whole f.reading.place then committed_next f else f

abbrev pub after_calls : Follower → List Call → Follower
after_calls f [] = f
after_calls f (call ∷ calls) = after_calls (after_call f call) calls

abbrev pub follower : Reading → ImageState → Follower
follower start i = record { reading = start; image = i; came = [] }

-- BY WHAT WAS WRITTEN

-- a checkpoint of machines of this shape that has a text
pub record IsWritten (shape : Shape) (c : Change) : Type 0 where
  pub shaped : c.shape ≡ shape
  pub canonical : IsCanonical c
  pub widths : HasWidths c

abbrev pub AreWritten : Shape → List Change → Type 0
AreWritten shape [] = Unit {0}
AreWritten shape (c ∷ cs) = IsWritten shape c × AreWritten shape cs

-- their texts, one after another
abbrev pub texts : List Change → List ℕ
texts [] = []
texts (c ∷ cs) = text c ++ texts cs
