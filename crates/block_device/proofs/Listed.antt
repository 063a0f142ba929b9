-- However many requests are served, only sectors of the list are changed, and none is taken off it.
use Rattle.std.proofs.Common.{◌≡◌, ℕ, ◌+◌, ◌/◌, ◌<◌, ◌≤◌, Bool, true, false, ◌&&◌, ◌||◌, ◌⊎◌, inl, inr, List, length, refl, sym, ap, ◌∙◌}
use Rattle.std.proofs.{Common.{subst, nat_le, nat_lt}, lemmas.Bool.{cases_lt, le-leb, lt-ltb}}
use Rattle.virtio_mmio.specs.{declared.{kinds.DeviceKind.TheVariants.Block, states.DeviceState.DeviceState}, ServingLoop.standing}
use Rattle.block_device.specs.{Dirty.is_in, Contents.{Contents, capacity, in_capacity, contents_with}, Disk.disk_served, Listed.IsListed}
use Rattle.block_device.specs.Request.{Outcome, Request, outcome, write_outcome}
use Rattle.block_device.proofs.{Members.in_written, ReadBack.other_sector, Serving.{write_cases, by_kind, read_size, served_keeps}}

neither : (a b : Bool) → (a || b) ≡ false → (a ≡ false) × (b ≡ false)
neither false false h = (refl, refl)
neither false true h = (refl, h)
neither true b h = (h, let no : ⊥ = cc in absurd no)

outside : (first n i : ℕ) → (nat_le first i && nat_lt i (first + n)) ≡ false → (i < first) ⊎ (first + n ≤ i)
outside first n i h =
    elim (cases_lt i first) [
      | inl below ↦ inl below
      | inr above ↦ elim (cases_lt i (first + n)) [
        | inl inside ↦ absurd (both above inside h)
        | inr past ↦ inr past
      ]
    ]
  where
    both : first ≤ i → i < first + n → (nat_le first i && nat_lt i (first + n)) ≡ false → ⊥
    both above inside none =
        let yes : (nat_le first i && nat_lt i (first + n)) ≡ true =
        ap (λ (b : Bool). b && nat_lt i (first + n)) (le-leb first i above) ∙ lt-ltb i (first + n) inside in
        cc

true_or : (a b : Bool) → a ≡ true → (a || b) ≡ true
true_or true b h = refl
true_or false b h = let no : ⊥ = cc in absurd no

module _ (old : Contents) where
  -- whole sectors are written
  written_listed : (disk : Contents) (sector : ℕ) (new : List ℕ) → in_capacity disk sector (length new) ≡ true → IsListed old disk →
      IsListed old (contents_with disk sector new)
  written_listed disk sector new fits p = record {
    others = λ i none.
        let parts = neither (is_in i disk.dirty) (nat_le sector i && nat_lt i (sector + length new / 512))
        (sym (in_written disk.dirty sector (length new / 512) i) ∙ none) in
        other_sector disk sector i new fits (outside sector (length new / 512) i parts.1) ∙ p.others i parts.0;
    stays = λ i here.
        in_written disk.dirty sector (length new / 512) i
        ∙ true_or (is_in i disk.dirty) (nat_le sector i && nat_lt i (sector + length new / 512)) (p.stays i here);
  }

  write_listed : (disk : Contents) (sector : ℕ) (new : List ℕ) → IsListed old disk → IsListed old (write_outcome disk sector new).disk
  write_listed disk sector new p =
      elim (write_cases disk sector new) [
        | inl w ↦ subst (λ (o : Outcome). IsListed old o.disk) (sym w.1) (written_listed disk sector new w.0 p)
        | inr w ↦ subst (λ (o : Outcome). IsListed old o.disk) (sym w.1) p
      ]

  outcome_listed : (disk : Contents) (r : Request) (room : ℕ) → IsListed old disk → IsListed old (outcome disk r room).disk
  outcome_listed disk r room p =
      by_kind (λ o. IsListed old o.disk) disk r room (subst (IsListed old) (sym (read_size disk r.sector room)) p)
      (λ is. write_listed disk r.sector r.payload p) p p

pub served_listed : (ram : List ℕ) (state : DeviceState) (c : Contents) → IsListed c (disk_served ram state c).kept
unfolding disk_served
served_listed ram state c =
    served_keeps (IsListed c) (outcome_listed c) (Block (capacity c)) 0 (standing ram state c)
    (record { others = λ i none. refl; stays = λ i here. here })
