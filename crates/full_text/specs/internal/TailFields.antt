-- How the fields of a tail stand for what contracts see: what of it wasn't put.
use Rattle.std.specs.Prelude.{◌≤◌, ℕ, List, length, drop}
use Rattle.full_text.specs.declared.tail.Tail.TheInside.{Inside}

abbrev pub tail_left : Inside → List ℕ
tail_left a = drop a.put a.bytes.items

abbrev pub IsTail : Inside → Type 0
IsTail a = a.put ≤ length a.bytes.items
