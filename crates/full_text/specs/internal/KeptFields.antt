-- How the fields of kept pages stand for what contracts see: what is kept of each page, by its index.
use Rattle.std.specs.Prelude.{◌≤◌, ℕ, ◌+◌, All, List, Option, None, Some, length, map, option_map, slice_range}
use Rattle.full_text.specs.declared.kept.KeptPages.TheInside.{Inside}

-- the page that stands from this place on
abbrev pub page_from : List ℕ → ℕ → List ℕ
page_from bytes place = slice_range bytes place (place + 4096)

abbrev pub kept_pages : Inside → List (Option (List ℕ))
kept_pages a = map (λ at. option_map (page_from a.bytes.items) at) a.places.items

-- each place is one of the bytes
abbrev pub place_end : Option ℕ → ℕ
place_end None = 0
place_end (Some place) = place + 4096

abbrev pub AreKept : Inside → Type 0
AreKept a = All (λ at. place_end at ≤ length a.bytes.items) a.places.items
