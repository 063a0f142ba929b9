-- How entries are stored: each with the length of its frame, and the bytes of all frames one after another.
use Rattle.std.specs.Prelude.{ℕ, ◌+◌, List, [], ◌∷◌, ◌++◌, replicate, take, drop, None, Some}
use Rattle.pair_history.specs.Entries as whole
use Rattle.pair_history.specs.declared.stored.StoredEntry.{StoredEntry}
use Rattle.pair_history.specs.declared.stored.StoredEntry.TheVariants.{Ran, Arrive, Delivered, Refused, DropIn, Land, DropOut, Took}

-- how many bytes the frame of a stored entry has
abbrev pub width : StoredEntry → ℕ
width (Delivered client len number) = len
width (Refused client len) = len
width (Took client (Some len)) = len
width other = 0

-- what a stored entry stands for whose frame has these bytes
abbrev pub with_bytes : StoredEntry → List ℕ → List whole.Entry
with_bytes (Ran count) bytes = replicate count whole.Ran
with_bytes (Arrive number) bytes = whole.Arrive number ∷ []
with_bytes (Delivered client len number) bytes = whole.Delivered client (record { items = bytes }) number ∷ []
with_bytes (Refused client len) bytes = whole.Refused client (record { items = bytes }) ∷ []
with_bytes (DropIn number) bytes = whole.DropIn number ∷ []
with_bytes (Land client) bytes = whole.Land client ∷ []
with_bytes (DropOut client place) bytes = whole.DropOut client place ∷ []
with_bytes (Took client None) bytes = whole.Took client None ∷ []
with_bytes (Took client (Some len)) bytes = whole.Took client (Some (record { items = bytes })) ∷ []

-- how many bytes the frames of stored entries have in all
abbrev pub widths : List StoredEntry → ℕ
widths [] = 0
widths (e ∷ es) = width e + widths es

-- what stored entries stand for, the bytes of whose frames are these
abbrev pub unpacked : List StoredEntry → List ℕ → List whole.Entry
unpacked [] bytes = []
unpacked (e ∷ es) bytes = with_bytes e (take (width e) bytes) ++ unpacked es (drop (width e) bytes)
