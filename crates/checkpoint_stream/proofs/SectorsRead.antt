-- The units of the sector records are read as these.
use Rattle.std.proofs.Common.{◌≡◌, ℕ, ◌+◌, ◌<◌, ◌%◌, ◌^◌, ◌&&◌, List, [], ◌∷◌, ◌++◌, length, map, IsTrue, not, Bool, true, false, All}
use Rattle.std.proofs.{Common.{refl, ap, arith, append_assoc, nat_le, nat_lt}, lemmas.List.{append-nil, Elements.{All-head, All-tail}}}
use Rattle.guest_rules.specs.{Dirty.Rises, declared.shapes.Shape.Shape}
use Rattle.epoch_snapshot.specs.{declared.changes.SectorChange.SectorChange, Blocks.is_zero}
use Rattle.checkpoint_stream.specs.declared.{rules.Width.TheVariants.Four, place.Place.TheVariants.{SectorIndex, SectorBytes}}
use Rattle.checkpoint_stream.specs.{HeadTable.bytes_of, Readings.{Reading, judged, kept_sector, sectors_due, after_sectors, is_full}}
use Rattle.checkpoint_stream.specs.Text.{sector_units}
use Rattle.checkpoint_stream.proofs.Leading.{at, Leads, Leads-append, Leads-unit, Leads-none, Leads-number}
use Rattle.checkpoint_stream.proofs.RecordsRead.{IsSectorWide, Rises-end, inside-test, not-true}

-- in a full checkpoint no sector is all zero
abbrev pub HasSectorByte : SectorChange → Type 0
HasSectorByte s = IsTrue (not (is_zero s.bytes))

full-test : (full : Bool) (bytes : List ℕ) → (full ≡ true → IsTrue (not (is_zero bytes))) → (full && is_zero bytes) ≡ false
full-test true bytes some = not-true (some refl)
full-test false bytes some = refl

sector-step : (r : Reading) (left : ℕ) (s : SectorChange) → (is_full r ≡ true → IsTrue (not (is_zero s.bytes))) → length s.bytes ≡ 512 →
    Leads (record r { place = SectorBytes left s.sector }) (s.bytes ∷ [])
    (record r { place = sectors_due (after_sectors r) left (s.sector + 1); sectors = r.sectors ++ s ∷ [] })
unfolding judged kept_sector
sector-step r left s some wide =
    let q : Reading = record r { place = SectorBytes left s.sector } in
    Leads-unit q _ _ refl (omega (arith, wide)) wide
    (λ o. ((o + 512) % 2 ^ 64, ap (λ (b : Bool). kept_sector b (at q o) left s.sector s.bytes) (full-test (is_full r) s.bytes some)))

sector_units-nil : sector_units [] ≡ []
unfolding sector_units
sector_units-nil = refl

sector_units-cons : (s : SectorChange) (ss : List SectorChange) →
    sector_units (s ∷ ss) ≡ (bytes_of Four s.sector ∷ []) ++ ((s.bytes ∷ []) ++ sector_units ss)
unfolding sector_units
sector_units-cons s ss = refl

-- the sector records that are left
pub record SectorsLeft (shape : Shape) (full : Bool) (from : ℕ) (sectors : List SectorChange) : Type 0 where
  pub rises : Rises from shape.sectors (map (λ s. s.sector) sectors)
  pub some : full ≡ true → All (λ s. IsTrue (not (is_zero s.bytes))) sectors
  pub wide : All (λ s. length s.bytes ≡ 512) sectors

pub sectors-lead : (r : Reading) (from : ℕ) (ss : List SectorChange) → SectorsLeft r.shape (is_full r) from ss →
    Leads (record r { place = sectors_due (after_sectors r) (length ss) from }) (sector_units ss)
    (record r { place = after_sectors r; sectors = r.sectors ++ ss })
unfolding judged
sectors-lead r from [] h = rw (sector_units-nil, append-nil r.sectors) (Leads-none _)
sectors-lead r from (s ∷ ss) h =
    let below : s.sector < r.shape.sectors = omega (arith, h.rises.0, Rises-end _ _ _ h.rises.1) in
    let next : Reading = record r { sectors = r.sectors ++ s ∷ [] } in
    let left : SectorsLeft r.shape (is_full r) (s.sector + 1) ss = record {
      rises = h.rises.1;
      some = λ (e : is_full r ≡ true). All-tail HasSectorByte s ss (h.some e);
      wide = All-tail IsSectorWide s ss h.wide;
    } in
    let all : Leads (record r { place = SectorIndex (length ss) from })
    ((bytes_of Four s.sector ∷ []) ++ ((s.bytes ∷ []) ++ sector_units ss))
    (record next { place = after_sectors r; sectors = next.sectors ++ ss })
    = Leads-append _ _ _ _ _ (Leads-number (record r { place = SectorIndex (length ss) from }) s.sector
    (λ m. nat_le from m && nat_lt m r.shape.sectors) (λ m. SectorBytes (length ss) m) refl refl (λ o. refl)
    (omega (arith, below, r.shape.most_sectors)) (inside-test from s.sector r.shape.sectors h.rises.0 below))
    (Leads-append _ _ _ _ _ (sector-step r (length ss) s (λ (e : is_full r ≡ true). All-head HasSectorByte s ss (h.some e))
    (All-head IsSectorWide s ss h.wide)) (sectors-lead next (s.sector + 1) ss left)) in
    let same : (r.sectors ++ s ∷ []) ++ ss ≡ r.sectors ++ s ∷ ss = append_assoc r.sectors (s ∷ []) ss in
    rw (sector_units-cons s ss, ← same) all
