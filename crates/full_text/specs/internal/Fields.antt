-- How the fields of a text in the making stand for what contracts see.
use Rattle.std.specs.Prelude.{◌≤◌, ◌<◌, ◌^◌, length, drop, vec_capacity}
use Rattle.full_text.specs.Full.{Making, size}
use Rattle.full_text.specs.declared.text.FullText.TheInside.{Inside}

abbrev pub making : Inside → Making
making a = record { made = a.made.items; pages = drop a.next a.pages.items; kept = a.kept; tail = a.tail }

-- what is still to come has room, and there are no more pages than a machine has
pub record IsMaking (a : Inside) : Type 0 where
  pub place : a.next ≤ length a.pages.items
  pub few : length a.pages.items < 2 ^ 32
  pub room : size (making a) ≤ vec_capacity a.made
