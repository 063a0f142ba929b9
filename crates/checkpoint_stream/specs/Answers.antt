-- What a call of the reader answers.
use Rattle.std.specs.Prelude.{◌≡◌, ℕ, List, Result, Ok, Err, Some, None}
use Rattle.checkpoint_stream.specs.declared.errors.StreamError.{StreamError}
use Rattle.checkpoint_stream.specs.declared.errors.StreamError.TheVariants.{Malformed, NoMemory}
use Rattle.checkpoint_stream.specs.Readings.{Reading, fed, taken, failure_at}

-- where memory was refused, nothing changed; else the bytes were read, and the answer is the offset of the unit that broke its rule, or how
-- many bytes were taken
abbrev pub FeedAnswers : Reading → List ℕ → Result ℕ StreamError → Reading → Type 0
FeedAnswers old piece (Ok count) new =
    (new ≡ fed old piece) × (count ≡ taken old piece) × (failure_at new.place ≡ None)
FeedAnswers old piece (Err (Malformed offset)) new = (new ≡ fed old piece) × (failure_at new.place ≡ Some offset)
FeedAnswers old piece (Err (NoMemory _)) new = new ≡ old
