-- What is read is of the reader's shape.
use Rattle.std.proofs.Common.{◌≡◌, ℕ, List, refl}
use Rattle.checkpoint_stream.specs.{Readings.{Reading, fed}, Sound.change_in}
use Rattle.checkpoint_stream.specs.laws.Extending.{Extends-itself, fed-extends}

pub fed_shape : (r : Reading) (bytes : List ℕ) → (fed r bytes).shape ≡ r.shape
fed_shape r bytes = (fed-extends r r bytes (Extends-itself r)).shape

pub change_shape : (r : Reading) → (change_in r).shape ≡ r.shape
unfolding change_in
change_shape r = refl
