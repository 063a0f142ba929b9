-- What contracts see of a stored history: its entries, one by one, and how many more may be stored without taking memory, and with
-- how many bytes of frames.
use Rattle.std.specs.Prelude.{ℕ, List, [], ◌∷◌, ◌++◌, replicate, None, Some}
use Rattle.pair_history.specs.Entries as whole
use Rattle.pair_history.specs.declared.history.Entry.{Entry}
use Rattle.pair_history.specs.declared.history.Entry.TheVariants.{Ran, Arrive, Delivered, Refused, DropIn, Land, DropOut, Took}

pub record Log : Type 0 where
  pub entries : List whole.Entry
  pub room : ℕ
  pub byte_room : ℕ

-- a stored entry stands for these: so many steps, or itself
abbrev pub expanded : Entry → List whole.Entry
expanded (Ran count) = replicate count whole.Ran
expanded (Arrive number) = whole.Arrive number ∷ []
expanded (Delivered client bytes number) = whole.Delivered client (record { items = bytes.now }) number ∷ []
expanded (Refused client bytes) = whole.Refused client (record { items = bytes.now }) ∷ []
expanded (DropIn number) = whole.DropIn number ∷ []
expanded (Land client) = whole.Land client ∷ []
expanded (DropOut client place) = whole.DropOut client place ∷ []
expanded (Took client None) = whole.Took client None ∷ []
expanded (Took client (Some bytes)) = whole.Took client (Some (record { items = bytes.now })) ∷ []

abbrev pub all_expanded : List Entry → List whole.Entry
all_expanded [] = []
all_expanded (e ∷ es) = expanded e ++ all_expanded es

-- the bytes of an entry's frame, if it has one
abbrev pub frame_bytes : Entry → List ℕ
frame_bytes (Delivered client bytes number) = bytes.now
frame_bytes (Refused client bytes) = bytes.now
frame_bytes (Took client (Some bytes)) = bytes.now
frame_bytes other = []
