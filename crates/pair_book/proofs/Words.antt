-- Where the word isn't full there is a number for one step more.
use Rattle.std.proofs.Common.{◌≡◌, ◌<◌, ◌+◌, length, false, arith}
use Rattle.frame_ports.specs.Limits.{number_limit}
use Rattle.std.proofs.lemmas.Bool.{leb-false}
use Rattle.pair_book.specs.{Books.BookState, Calls.is_word_full}

pub word_room : (b : BookState) → is_word_full b ≡ false → length b.steps < number_limit
word_room b free = let below = leb-false number_limit (length b.steps + 1) free in omega (arith, below)
