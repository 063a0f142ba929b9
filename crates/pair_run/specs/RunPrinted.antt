-- What `remus run` prints of a run that has ended (docs/SCRIPTS.md, "A pair in threads").
use Rattle.std.specs.Prelude.{ℕ, List, [], ◌∷◌, ◌++◌, codes, decimal, Result, Ok, Err}
use Rattle.std.specs.List.{flat_map}
use Rattle.script_player.specs.Printed.{line, reply_line}
use Rattle.script_player.specs.Streams.{Writing, Writes, WritesFront}
use Rattle.pair_run.specs.declared.printing.Answered.{Answered}

-- a client
abbrev pub client_title : ℕ → List ℕ
client_title client = line (codes "client" ∷ decimal client ∷ [])

-- a client that has ended, and each answer as in a script
abbrev pub answered_lines : Answered → List ℕ
answered_lines answered = client_title answered.client ++ flat_map reply_line answered.replies.items

-- how long the history is
abbrev pub entries_line : ℕ → List ℕ
entries_line entries = line (codes "entries" ∷ decimal entries ∷ [])

-- the clients, one after another, and the history's length
abbrev pub run_text : List Answered → ℕ → List ℕ
run_text clients entries = flat_map answered_lines clients ++ entries_line entries

-- All of this was written out, and no write failed; or a write failed, and the first of it was written, or none.
abbrev pub IsWritten : {T E : Type 0} → Writing → Writing → Result T E → List ℕ → Type 0
IsWritten old new (Ok done) bytes = Writes old new bytes
IsWritten old new (Err e) bytes = WritesFront old new bytes
