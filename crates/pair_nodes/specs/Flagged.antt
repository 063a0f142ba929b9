-- A PRIMARY AS ITS CALLS SEE IT: what a run of two nodes tells of it, and a flag for each page of its guest, whether the page was written
-- since the last cut. The flags are the machine's own (State of guest_rules): none is set where it was just settled, as at a cut, at a
-- full checkpoint and where a primary begins; from then on none is taken away, and a page without one is as it was. What may happen at two
-- nodes says nothing of them.
use Rattle.std.specs.Prelude.{ℕ, Bool, false, List, length, replicate}
use Rattle.guest_rules.specs.Pages.{written_pages}
use Rattle.pair_nodes.specs.Sides.{Primary}

pub record Flagged : Type 0 where
  pub primary : Primary
  pub flags : List Bool

-- how many pages were written since
abbrev pub written_of : Flagged → ℕ
written_of p = written_pages p.flags

-- another state under the same flags
abbrev pub with_primary : Flagged → Primary → Flagged
with_primary p q = record { primary = q; flags = p.flags }

-- the same pages, none of them written
abbrev pub unwritten : List Bool → List Bool
unwritten flags = replicate (length flags) false

-- one that begins: no page was written
abbrev pub begun_primary : Primary → Flagged
begun_primary p = record { primary = p; flags = replicate p.shape.pages false }
