-- How many entries there are once an epoch ended, and what is handed out then.
use Rattle.std.proofs.Common.{◌≡◌, ℕ, ◌+◌, ◌<◌, List, [], ◌∷◌, length, refl, sym, ap, ◌∙◌, None, arith}
use Rattle.std.proofs.lemmas.List.{length-append, nil_from_length}
use Rattle.std.specs.Prelude.{map, drop}
use Rattle.frame_ports.specs.{Addresses.targets_of, Limits.number_limit, Ports.PortsState}
use Rattle.pair_history.specs.Entries.{Frame, Entry, Arrive}
use Rattle.pair_history.specs.Failures.{arrived_numbers}
use Rattle.pair_history.specs.Landings.{landings}
use Rattle.frame_ports.specs.laws.Lands.{length-lands}
use Rattle.pair_history.specs.laws.Waits.{arrived_numbers-arrivals}
use Rattle.pair_record.specs.EpochActs.{guest_epoch, behind, seal_epoch_done, enter_epoch_done, enter_epoch_refusals}
use Rattle.pair_record.specs.Journal.{Journal, all_entries, kept_entries, entered}
use Rattle.pair_record.specs.Protocol.{Record, first_refusal}
use Rattle.pair_record.specs.Record.{ports_landed}
use Rattle.pair_record.specs.Epochs.{kept-sealed, all-entered}
use Rattle.pair_record.specs.Joined.{length-all}
use Rattle.pair_history.specs.laws.Landings.{length-landings}
use Rattle.pair_record.specs.laws.Tables.{passed, has_room_for}
use Rattle.pair_book.specs.declared.runner.Kind.{Kind}
use Rattle.pair_book.specs.declared.runner.Kind.TheVariants.{Nothing, Delta, Full}
use Rattle.pair_book.specs.Handing.{Handing, handed_behind, handed_next, handed_out}
use Rattle.pair_book.specs.Submitting.{ended_rows, most_handed, protocol_ended, ended_as}
use Rattle.pair_book.specs.laws.EpochWords.{behind-arrivals}

module _ (r : Record) (p : PortsState) (arrivals steps : ℕ) (fs : List Frame) where
  pub sealed-few : first_refusal (ended_rows Delta steps fs r p) ≡ None
      → length (all_entries (seal_epoch_done arrivals steps fs r).1.journal) + most_handed p < number_limit
  sealed-few free =
      let room = has_room_for r (steps + most_handed p) (passed _ _ _ free).0 in
      let kept = kept-sealed arrivals steps r.journal in
      let new = length-append r.journal.history (kept_entries (seal_epoch_done arrivals steps fs r).1.journal) in
      let old = length-append r.journal.history (kept_entries r.journal) in
      omega (arith, room, kept, new, old)

  pub entered-few : first_refusal (enter_epoch_refusals (steps + most_handed p) p.boxes fs r) ≡ None
      → length (all_entries (enter_epoch_done arrivals steps p.boxes fs r).journal) + most_handed p < number_limit
  entered-few free =
      let ps = targets_of (length p.boxes) fs in
      let room = has_room_for r ((steps + most_handed p) + length ps) (passed _ _ _ free).0 in
      let j : Journal = entered (guest_epoch arrivals steps r.journal.running) (behind arrivals r.journal.running) r.journal in
      let all = all-entered arrivals steps r.journal in
      let a = length-all j in
      let b = length-all (enter_epoch_done arrivals steps p.boxes fs r).journal in
      let c = length-append j.history (landings p.boxes ps) in
      let d = length-landings p.boxes ps in
      omega (arith, room, all, a, b, c, d)

  pub landed-long : length (ports_landed p r.next_frame fs).boxes ≡ length p.boxes
  landed-long = length-lands p.boxes (targets_of (length p.boxes) fs)

-- WHAT RUNS ON is arrivals alone, where it was before

ended-runs : (kind : Kind) (arrivals steps : ℕ) (fs : List Frame) (r : Record) (p : PortsState)
    → (protocol_ended kind arrivals steps fs r p).journal.running ≡ behind arrivals r.journal.running
ended-runs Nothing arrivals steps fs r p = refl
ended-runs Delta arrivals steps fs r p = refl
ended-runs Full arrivals steps fs r p = refl

module _ (kind : Kind) (arrivals steps : ℕ) (fs : List Frame) (r : Record) (p : PortsState)
    (only : r.journal.running ≡ map Arrive (arrived_numbers r.journal.running)) where
  abbrev h : Handing
  h = ended_as kind arrivals steps fs r p

  abbrev later : List ℕ
  later = drop arrivals (arrived_numbers r.journal.running)

  runs : h.protocol.journal.running ≡ map Arrive later
  runs = ended-runs kind arrivals steps fs r p ∙ ap (behind arrivals) only ∙ behind-arrivals arrivals (arrived_numbers r.journal.running)

  count : length (arrived_numbers h.protocol.journal.running) ≡ length later
  count = ap (λ (es : List Entry). length (arrived_numbers es)) runs ∙ ap length (arrived_numbers-arrivals later)

  by-later : (ns : List ℕ) → later ≡ ns → h.protocol.journal.running ≡ map Arrive ns
  by-later ns e = runs ∙ ap (map Arrive) e

  pub none-runs : length (arrived_numbers h.protocol.journal.running) ≡ 0 → handed_next h ≡ handed_out (length h.ports.boxes) 1 h
  none-runs zero-left =
      let none : later ≡ [] = nil_from_length later (sym count ∙ zero-left) in
      ap (λ es. handed_behind es h) (by-later [] none)

  pub some-run : (length (arrived_numbers h.protocol.journal.running) ≡ 0 → ⊥) → handed_next h ≡ h
  some-run some = by-cases later refl
    where
      by-cases : (ns : List ℕ) → later ≡ ns → handed_next h ≡ h
      by-cases [] e = absurd (some (count ∙ ap length e))
      by-cases (k ∷ ks) e = ap (λ es. handed_behind es h) (by-later (k ∷ ks) e)
