-- What is read is of the reader's shape.
use Rattle.std.proofs.Common.{◌≡◌, ℕ, List, refl}
use Rattle.checkpoint_stream.specs.{Readings.{Reading, fed}, Sound.change_in, Answers.FeedAnswers}
use Rattle.checkpoint_stream.specs.declared.errors.StreamError.{StreamError}
use Rattle.checkpoint_stream.specs.declared.errors.StreamError.TheVariants.{Malformed, NoMemory}
use Rattle.std.proofs.Common.{Result, Ok, Err, ap, ◌∙◌}
use Rattle.checkpoint_stream.specs.laws.Extending.{Extends-itself, fed-extends}

pub fed_shape : (r : Reading) (bytes : List ℕ) → (fed r bytes).shape ≡ r.shape
fed_shape r bytes = (fed-extends r r bytes (Extends-itself r)).shape

pub change_shape : (r : Reading) → (change_in r).shape ≡ r.shape
unfolding change_in
change_shape r = refl

-- whatever the reader answers
pub answered_shape : (r s : Reading) (bytes : List ℕ) (answer : Result ℕ StreamError) → FeedAnswers r bytes answer s → s.shape ≡ r.shape
answered_shape r s bytes (Ok count) a = ap (λ (x : Reading). x.shape) a.0 ∙ fed_shape r bytes
answered_shape r s bytes (Err (Malformed offset)) a = ap (λ (x : Reading). x.shape) a.0 ∙ fed_shape r bytes
answered_shape r s bytes (Err (NoMemory w)) a = ap (λ (x : Reading). x.shape) a
