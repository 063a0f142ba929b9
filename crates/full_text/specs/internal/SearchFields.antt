-- How the fields of a text whose pages are searched for stand for what contracts see.
use Rattle.std.specs.Prelude.{◌≤◌, length, vec_capacity}
use Rattle.full_text.specs.Full.{Searching, most}
use Rattle.full_text.specs.declared.search.PageSearch.TheInside.{Inside}

abbrev pub searching : Inside → Searching
searching a = record { head = a.head.items; found = a.found.items; looked = a.looked; pages = a.pages; kept = a.kept; tail = a.tail }

-- there is room for all pages, and for as many bytes as the text may have
pub record IsSearch (a : Inside) : Type 0 where
  pub within : a.looked ≤ a.pages
  pub few : length a.found.items ≤ a.looked
  pub places : a.pages ≤ vec_capacity a.found
  pub room : most (searching a) ≤ vec_capacity a.head
