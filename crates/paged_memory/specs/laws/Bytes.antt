-- Bytes that are overwritten, and a number that is written, leave as many.
use Rattle.std.proofs.Common.{◌≡◌, ℕ, ◌+◌, ◌≤◌, ◌++◌, List, length, take, drop}
use Rattle.std.proofs.Common.{arith}
use Rattle.std.proofs.lemmas.List.{length-take-le, length-append, length-drop}
use Rattle.byteorder.specs.Endian.{little_bytes}
use Rattle.paged_memory.specs.Bytes.{with_number}

-- a length that a write keeps
pub length_overwritten : (items digits : List ℕ) (at n : ℕ) → at + n ≤ length items → length digits ≡ n →
    length (take at items ++ (digits ++ drop (at + n) items)) ≡ length items
length_overwritten items digits at n fits long =
    omega (
      arith,
      length-append (take at items) (digits ++ drop (at + n) items),
      length-append digits (drop (at + n) items),
      length-take-le at items (omega arith),
      length-drop (at + n) items,
    )

-- a number's write keeps the length
pub length-with_number : (memory : List ℕ) (at n value : ℕ) → at + n ≤ length memory → length (little_bytes n value) ≡ n →
    length (with_number memory at n value) ≡ length memory
unfolding with_number
length-with_number memory at n value fits long = length_overwritten memory (little_bytes n value) at n fits long
