-- what is there and the words that are left make the whole
use Rattle.std.proofs.Common.{◌≡◌, ◌+◌, ◌*◌, ◌++◌, drop, vec_len}
use Rattle.guest_kit.specs.Image.{word_bytes}
use Rattle.guest_kit.proofs.image.push_words.Given as goal

abbrev pub invariant-loop-word : goal.invariant-loop-word
invariant-loop-word l =
    record {
      whole : l.image.items ++ word_bytes (drop l.word-index l.words) ≡ l.fn.image.items ++ word_bytes l.words;
      len : vec_len l.image ≡ vec_len l.fn.image + 4 * l.word-index;
    }
