-- A runner that has just settled and holds nothing runs some steps: it runs on, and what it then has to prepare is its checkpoint's text.
-- And what the first backup keeps of its first commit. The laws of the guest come as premises, since functions of guest_machine promise
-- them.
use Rattle.std.proofs.Common.{rules, ◌≡◌, ℕ, zero, suc, ◌+◌, ◌*◌, ◌-◌, Bool, false, List, [], ◌∷◌, ◌++◌, length, replicate, refl, sym, ap}
use Rattle.std.proofs.Common.{◌∙◌, subst, arith, Some}
use Rattle.std.proofs.lemmas.List.{append-nil}
use Rattle.std.specs.Prelude.{◌==◌, if◌then◌else◌}
use Rattle.guest_rules.specs.Dirty.{is_in}
use Rattle.guest_rules.specs.Guest.{Guest, State, HasDeviceRecords}
use Rattle.guest_rules.specs.Guest as guest
use Rattle.guest_rules.specs.Runs.{after_steps, sent_in, marked_in}
use Rattle.guest_rules.specs.Step.{next, sent}
use Rattle.epoch_snapshot.specs.{Bases.IsBase, Checkpoints.Change, Cuts.sector_of, Images.image_of}
use Rattle.checkpoint_stream.specs.ReadBack.{ReadsBack}
use Rattle.checkpoint_stream.specs.{Readings.{begun, fed}, Sound.change_in, Text.text}
use Rattle.pair_history.specs.Entries.{Frame, Ran}
use Rattle.pair_history.specs.HistoryState.{HistoryState, at, after, sent_along}
use Rattle.pair_record.specs.Kept.{all_frames}
use Rattle.growing_history.specs.LogState.{sealed_state, state_at}
use Rattle.growing_history.specs.SealedTexts.{Makes}
use Rattle.growing_history.specs.Views.{Member}
use Rattle.pair_book.specs.declared.failures.Ack.{Ack}
use Rattle.pair_book.specs.Commits.{WasRead, StandsAfterNext, kept_then, sent_then, first_then}
use Rattle.pair_book.specs.Made.{IsShape, Reads, carried}
use Rattle.pair_book.specs.Packets.{PacketState}
use Rattle.pair_book.specs.Settled.{Runs, runner_outside, settled_runner}
use Rattle.pair_book.specs.Standing.{KeepsFrames, Stands, first_ack, last_four}
use Rattle.book_tests.specs.Machines.{IsLike}

steps-guest : (n : ℕ) (h : HistoryState) → (at h (replicate n Ran)).guest ≡ after_steps n h.guest
unfolding after_steps
steps-guest zero h = refl
steps-guest (suc n) h = steps-guest n (after h Ran)

steps-send : (n : ℕ) (h : HistoryState) → sent_along h (replicate n Ran) ≡ sent_in n h.guest
unfolding sent_in
steps-send zero h = refl
steps-send (suc n) h = ap (λ l. sent h.guest ++ l) (steps-send n (after h Ran))

-- it had settled with this guest
pub runs-steps : (start : HistoryState) (seat : Member) (g : Guest) (n : ℕ) (m : State) → Runs start seat (settled_runner g [])
    → m.guest ≡ after_steps n g → m.outbox ≡ sent_in n g → Runs start seat (runner_outside 0 n [] m.guest m.outbox g)
runs-steps start seat g n m runs is sends =
    let s = state_at start seat.steps in
    record {
      born = runs.born;
      came = runs.came;
      holds = runs.holds;
      follows = λ live none. record {
        held = (runs.follows live none).held;
        settled = (runs.follows live none).settled;
        guest = is ∙ ap (after_steps n) (runs.follows live none).settled ∙ sym (steps-guest n (sealed_state s));
        outbox = sends ∙ ap (sent_in n) (runs.follows live none).settled ∙ sym (steps-send n (sealed_state s));
      };
    }

-- the laws of the guest's step
pub record StepLaws : Type 0 where
  pub bytes : (g : Guest) → HasDeviceRecords g → length (next g).ram ≡ length g.ram
  pub records : (g : Guest) → HasDeviceRecords g → HasDeviceRecords (next g)
  pub disk : (g : Guest) → length (next g).sectors ≡ length g.sectors
  -- steps change no sector that isn't listed after them
  pub others : (n : ℕ) (g : Guest) (i : ℕ) → is_in i (marked_in n g []) ≡ false
      → guest.sector_of (after_steps n g).sectors i ≡ guest.sector_of g.sectors i

steps-ram : StepLaws → (n : ℕ) (g : Guest) → HasDeviceRecords g → length (after_steps n g).ram ≡ length g.ram
unfolding after_steps
steps-ram laws zero g r = refl
steps-ram laws (suc n) g r = steps-ram laws n (next g) (laws.records g r) ∙ laws.bytes g r

steps-disk : StepLaws → (n : ℕ) (g : Guest) → length (after_steps n g).sectors ≡ length g.sectors
unfolding after_steps
steps-disk laws zero g = refl
steps-disk laws (suc n) g = steps-disk laws n (next g) ∙ laws.disk g

sector-slice : (bytes : List ℕ) (i : ℕ) → guest.sector_of bytes i ≡ sector_of bytes i
sector-slice bytes i = search (arith, rules)

-- THE MACHINE after n steps of that guest
module _ (laws : StepLaws) (start : HistoryState) (records : HasDeviceRecords start.guest) (n : ℕ) (m : State)
    (is : m.guest ≡ after_steps n start.guest) (dirty : m.dirty ≡ marked_in n start.guest []) (settled : m.settled ≡ start.guest.ram) where
  same-ram : length start.guest.ram ≡ length m.guest.ram
  same-ram = sym (ap (λ (g : Guest). length g.ram) is ∙ steps-ram laws n start.guest records)

  same-disk : length start.guest.sectors ≡ length m.guest.sectors
  same-disk = sym (ap (λ (g : Guest). length g.sectors) is ∙ steps-disk laws n start.guest)

  pub steps-like : IsLike start m.guest
  steps-like = record { ram = same-ram; sectors = same-disk }

  base : IsBase m start.guest
  base = record {
    ram = sym settled;
    size = same-disk;
    sectors = λ i low none.
        sym (sector-slice start.guest.sectors i)
        ∙ sym (laws.others n start.guest i (ap (is_in i) (sym dirty) ∙ none))
        ∙ sector-slice (after_steps n start.guest).sectors i
        ∙ ap (λ (g : Guest). sector_of g.sectors i) (sym is);
  }

  -- ITS CHECKPOINT
  module _ (c : Change) (pages : length m.guest.ram ≡ 4096 * c.shape.pages) (sectors : length m.guest.sectors ≡ 512 * c.shape.sectors) where
    pub steps-shape : IsShape start c.shape
    steps-shape = record { ram = same-ram ∙ pages; sectors = same-disk ∙ sectors }

    pub steps-made : (p : PacketState) → p.number ≡ 1 → ReadsBack c p.text → c.frames ≡ m.outbox
        → ((from : Guest) → IsBase m from → image_of c from ≡ m.guest)
        → Makes (Reads start) p.number p.text (carried p.number m.outbox) start.guest m.guest
    steps-made p number back frames image =
        let reads : Reads start p.text m.outbox start.guest m.guest =
        record { change = c; reads_back = back; of_shape = steps-shape; carries = frames; makes = image start.guest base } in
        subst (λ (k : ℕ). Makes (Reads start) k p.text (carried k m.outbox) start.guest m.guest) (sym number) reads

-- the checkpoint is what its own text reads as
pub was-read : (c : Change) (p : PacketState) → ReadsBack c p.text → p.text ≡ text c → WasRead c
unfolding ReadsBack
was-read c p back is = (0, ap (λ (l : List ℕ). change_in (fed (begun c.shape 0) l)) (sym is) ∙ (back 0).1)

-- WHAT THE FIRST BACKUP KEEPS of its first commit: the frames of that
module _ (start : HistoryState) (c : Change) (ack : Ack) (seat seat' : Member) (one : c.number ≡ 1) where
  not-full : (c.number == 0) ≡ false
  not-full = ap (λ (k : ℕ). k == 0) one

  kept : kept_then c [] ≡ c.frames ∷ []
  kept = ap (λ (t : Bool). last_four ((if t then [] else []) ++ c.frames ∷ [])) not-full

  count : sent_then c 0 ≡ length c.frames
  count =
      ap (λ (t : Bool). (if t then 0 else 0) + length c.frames) not-full
      ∙ (let plain : 0 + length c.frames ≡ length c.frames = omega arith in plain)

  first : first_then c 0 [] ≡ 1
  first =
      (λ i. count i + 1 - length (all_frames (kept i)))
      ∙ (let none = ap (λ (l : List Frame). length l) (append-nil c.frames) in omega (arith, none))

  pub keeps-first : StandsAfterNext start c ack seat seat' → WasRead c → IsShape start c.shape
      → Stands start seat start.guest (Some first_ack) 0 1 [] → KeepsFrames start seat' (length c.frames) 1 (c.frames ∷ [])
  keeps-first by read shape stood =
      subst (λ (x : ℕ × ℕ × List (List Frame)). KeepsFrames start seat' x.0 x.1 x.2) (λ i. (count i, first i, kept i))
      (by read shape start.guest (Some first_ack) 0 1 [] stood).1.frames
