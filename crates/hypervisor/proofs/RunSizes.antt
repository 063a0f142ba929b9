-- What a run keeps of the runner's machine: its size, and at which guest it was last settled. The laws of the guest come as premises, since
-- functions of guest_machine promise them.
use Rattle.std.proofs.Common.{rules, ◌≡◌, ℕ, zero, suc, ◌/◌, ◌<◌, Bool, true, false, List, [], ◌∷◌, length, refl, sym, ap, ◌∙◌}
use Rattle.std.proofs.Common.{subst, arith}
use Rattle.arrayvec.specs.ArrayVec.{ArrayVec}
use Rattle.guest_rules.specs.Dirty.{is_in}
use Rattle.guest_rules.specs.Guest.{Guest, HasDeviceRecords}
use Rattle.guest_rules.specs.Guest as guest
use Rattle.guest_rules.specs.Runs.{after_steps, marked_in}
use Rattle.guest_rules.specs.Step.{next, arrived}
use Rattle.epoch_snapshot.specs.Bases.{IsBase}
use Rattle.epoch_snapshot.specs.Cuts.{sector_of}
use Rattle.pair_history.specs.Entries.{Frame}
use Rattle.pair_history.specs.HistoryState.{HistoryState}
use Rattle.hypervisor.specs.Runners.{RunnerState, IsSized}
use Rattle.hypervisor.specs.Runs.{HasRun, after_arrivals, frames_of, guest_ready}

-- the laws of the guest's step and of an arrival
pub record GuestLaws : Type 0 where
  pub bytes : (g : Guest) → HasDeviceRecords g → length (next g).ram ≡ length g.ram
  pub records : (g : Guest) → HasDeviceRecords g → HasDeviceRecords (next g)
  pub bytes_at_arrival : (g : Guest) (f : ArrayVec ℕ) → HasDeviceRecords g → length (arrived g f).ram ≡ length g.ram
  pub records_at_arrival : (g : Guest) (f : ArrayVec ℕ) → HasDeviceRecords g → HasDeviceRecords (arrived g f)
  pub disk : (g : Guest) → length (next g).sectors ≡ length g.sectors
  pub disk_at_arrival : (g : Guest) (f : ArrayVec ℕ) → (arrived g f).sectors ≡ g.sectors
  -- steps change no sector that isn't listed after them, and take none off the list
  pub others : (n : ℕ) (g : Guest) (dirty : List ℕ) (i : ℕ) → is_in i (marked_in n g dirty) ≡ false
      → guest.sector_of (after_steps n g).sectors i ≡ guest.sector_of g.sectors i
  pub stays : (n : ℕ) (g : Guest) (dirty : List ℕ) (i : ℕ) → is_in i dirty ≡ true → is_in i (marked_in n g dirty) ≡ true

module _ (laws : GuestLaws) where
  -- along arrivals
  arrivals-records : (fs : List Frame) (g : Guest) → HasDeviceRecords g → HasDeviceRecords (after_arrivals g fs)
  arrivals-records [] g r = r
  arrivals-records (f ∷ fs) g r = arrivals-records fs (arrived g f) (laws.records_at_arrival g f r)

  arrivals-ram : (fs : List Frame) (g : Guest) → HasDeviceRecords g → length (after_arrivals g fs).ram ≡ length g.ram
  arrivals-ram [] g r = refl
  arrivals-ram (f ∷ fs) g r = arrivals-ram fs (arrived g f) (laws.records_at_arrival g f r) ∙ laws.bytes_at_arrival g f r

  arrivals-disk : (fs : List Frame) (g : Guest) → (after_arrivals g fs).sectors ≡ g.sectors
  arrivals-disk [] g = refl
  arrivals-disk (f ∷ fs) g = arrivals-disk fs (arrived g f) ∙ laws.disk_at_arrival g f

  -- along steps
  steps-ram : (n : ℕ) (g : Guest) → HasDeviceRecords g → length (after_steps n g).ram ≡ length g.ram
  unfolding after_steps
  steps-ram zero g r = refl
  steps-ram (suc n) g r = steps-ram n (next g) (laws.records g r) ∙ laws.bytes g r

  steps-disk : (n : ℕ) (g : Guest) → length (after_steps n g).sectors ≡ length g.sectors
  unfolding after_steps
  steps-disk zero g = refl
  steps-disk (suc n) g = steps-disk n (next g) ∙ laws.disk g

  module _ (made : ℕ) (old new : RunnerState) (run : HasRun made old new) where
    abbrev g : Guest
    g = guest_ready old

    disk-ready : g.sectors ≡ old.machine.guest.sectors
    disk-ready = arrivals-disk (frames_of old.held) old.machine.guest

    disk-kept : length new.machine.guest.sectors ≡ length old.machine.guest.sectors
    disk-kept =
        ap (λ (x : Guest). length x.sectors) run.guest
        ∙ steps-disk made g
        ∙ ap (λ (l : List ℕ). length l) disk-ready

    pub sized-after : (start : HistoryState) → HasDeviceRecords old.machine.guest → IsSized start old.machine.guest
        → IsSized start new.machine.guest
    sized-after start records sized = record {
      ram =
          ap (λ (x : Guest). length x.ram) run.guest
          ∙ steps-ram made g (arrivals-records (frames_of old.held) old.machine.guest records)
          ∙ arrivals-ram (frames_of old.held) old.machine.guest records
          ∙ sized.ram;
      sectors = disk-kept ∙ sized.sectors;
    }

    sector-slice : (bytes : List ℕ) (i : ℕ) → guest.sector_of bytes i ≡ sector_of bytes i
    sector-slice bytes i = search (arith, rules)

    unlisted : (a b : Bool) → (a ≡ true → b ≡ true) → b ≡ false → a ≡ false
    unlisted true b f e = search (arith, rules)
    unlisted false b f e = refl

    pub base-after : (base : Guest) → IsBase old.machine base → IsBase new.machine base
    base-after base was =
        record {
          ram = was.ram ∙ sym run.settled;
          size = was.size ∙ sym disk-kept;
          sectors = λ i low none.
              let free : is_in i (marked_in made g old.machine.dirty) ≡ false = ap (is_in i) (sym run.dirty) ∙ none in
              was.sectors i
              (subst (λ (k : ℕ). i < k / 512) disk-kept low)
              (unlisted (is_in i old.machine.dirty) (is_in i (marked_in made g old.machine.dirty))
              (laws.stays made g old.machine.dirty i) free)
              ∙ ap (λ (l : List ℕ). sector_of l i) (sym disk-ready)
              ∙ sym (sector-slice g.sectors i)
              ∙ sym (laws.others made g old.machine.dirty i free)
              ∙ sector-slice (after_steps made g).sectors i
              ∙ ap (λ (x : Guest). sector_of x.sectors i) (sym run.guest);
        }
