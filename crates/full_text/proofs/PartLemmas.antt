-- A part of a text that is made so far is one of the bytes that are made.
use Rattle.std.proofs.Common.{◌≡◌, ◌≤◌, ◌<◌, ◌+◌, ℕ, List, ◌++◌, length, take, drop, sym, ap, ◌∙◌, arith, append_assoc, ◌⊎◌, inl, inr}
use Rattle.std.proofs.lemmas.Bool.{cases_lt}
use Rattle.std.proofs.lemmas.List.{drop-append-le, length-drop, take-append-le}
use Rattle.checkpoint_stream.specs.HeadTable.{bytes_of}
use Rattle.checkpoint_stream.specs.declared.rules.Width.TheVariants.{Four}
use Rattle.full_text.specs.Full.{IsMadeTo, Making, Searching, found_of, page_at, page_records, part_of, whole}
use Rattle.full_text.specs.UsedPages.{used_pages}
use Rattle.full_text.proofs.KeptLemmas.{whole-made}

part-front : (xs ys : List ℕ) (from count : ℕ) → from + count ≤ length xs → part_of from count xs ≡ part_of from count (xs ++ ys)
part-front xs ys from count within =
    sym (ap (take count) (drop-append-le from xs ys (omega (arith, within)))
    ∙ take-append-le count (drop from xs) ys (omega (arith, within, length-drop from xs)))

pub made-part : (ram : List ℕ) (f : Making) (from count : ℕ) → IsMadeTo (from + count) f → part_of from count f.made ≡ part_of from count (whole ram f)
made-part ram f from count made = by_order (cases_lt (length f.made) (from + count))
  where
    by_order : (length f.made < from + count) ⊎ (from + count ≤ length f.made) → part_of from count f.made ≡ part_of from count (whole ram f)
    by_order (inl less) = ap (part_of from count) (sym (whole-made ram f (made less).0 (made less).1))
    by_order (inr within) = part-front f.made (page_records (page_at ram f.kept) f.pages ++ f.tail) from count within

pub head-part : (ram : List ℕ) (s : Searching) (from count : ℕ) → from + count ≤ length s.head
    → part_of from count s.head ≡ part_of from count (whole ram (found_of ram s))
head-part ram s from count within =
    let pages = used_pages (page_at ram s.kept) s.pages in
    let rest = page_records (page_at ram s.kept) pages ++ s.tail in
    part-front s.head (bytes_of Four (length pages) ++ rest) from count within
    ∙ ap (part_of from count) (sym (append_assoc s.head (bytes_of Four (length pages)) rest))
