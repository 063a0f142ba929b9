-- Head, count, records and sectors are the text of the machine's full checkpoint.
use Rattle.std.proofs.Common.{◌≡◌, ℕ, ◌*◌, ◌^◌, ◌<◌, ◌≤◌, ◌++◌, List, Option, length, refl, sym, ap, ◌∙◌, subst, arith}
use Rattle.guest_rules.specs.Guest.{State}
use Rattle.guest_rules.specs.MachineStates.{IsMachineState, state_of, with_state}
use Rattle.guest_rules.specs.declared.machine_state.MachineState.{MachineState}
use Rattle.guest_rules.specs.declared.shapes.Shape.{Shape}
use Rattle.epoch_snapshot.specs.declared.changes.PageChange.{PageChange}
use Rattle.epoch_snapshot.specs.Bases.{IsFullCut}
use Rattle.epoch_snapshot.specs.Checkpoints.{Change, IsCanonical}
use Rattle.epoch_snapshot.specs.Cuts.{changed_pages, used_sectors}
use Rattle.checkpoint_stream.specs.HeadTable.{bytes_of}
use Rattle.checkpoint_stream.specs.Widths.{HasWidths}
use Rattle.checkpoint_stream.specs.declared.rules.Width.TheVariants.{Four}
use Rattle.full_text.specs.Full.{AreIn, Searching, found_of, page_at, whole, zeros}
use Rattle.full_text.proofs.FullLemmas.{full_change, full-cut, full-widths, full-whole, full-text}
use Rattle.full_text.proofs.SearchLemmas.{found-changed, most-is, used-in, used-none}
use Rattle.full_text.proofs.search.PageSearch.new.Goals as goal

-- the checkpoint is canonical
canonical : (m : State) (shape : Shape) (g : ℕ) → length m.guest.ram ≡ 4096 * shape.pages → length m.guest.sectors ≡ 512 * shape.sectors
    → ((m : State) (g : ℕ) (c : Change) → IsFullCut m g c → 1 ≤ g → g < 2 ^ 62 → IsMachineState (state_of m.guest) → IsCanonical c)
    → 1 ≤ g → g < 2 ^ 62 → {s : MachineState} → s ≡ state_of m.guest → IsMachineState s → IsCanonical (full_change shape m g)
canonical m shape g pages sectors law first last is rules =
    law m g (full_change shape m g) (full-cut shape m g pages sectors) first last (subst IsMachineState is rules)

-- of its pages none is looked at
abbrev fresh : List ℕ → List PageChange → ℕ → List (Option (List ℕ)) → List ℕ → Searching
fresh head found pages kept tail = record { head = head; found = found; looked = 0; pages = pages; kept = kept; tail = tail }

pub returns-clause-text : goal.returns-clause-text
returns-clause-text c =
    let m = c.args.machine.now in
    let ram = m.guest.ram in
    let shape = c.shape-shape.result in
    let g = c.args.generation in
    let s = fresh c.put.new.text.items c.in_ok-found.found.items shape.pages c.new.result c.in_ok-tail.tail in
    let f = found_of ram s in
    let all : with_state m.guest (state_of m.guest) ≡ m.guest =
    ap (with_state m.guest) (sym c.state-state.ensures.value) ∙ c.state-state.ensures.whole in
    let checkpoint = full_change shape m g in
    let cut = full-cut shape m g c.shape-shape.ensures.pages c.shape-shape.ensures.sectors in
    let cuts = c.full_cuts_are_whole.ensures in
    let texts = c.texts_are_their_parts.ensures in
    let rules : IsCanonical checkpoint =
    canonical m shape g c.shape-shape.ensures.pages c.shape-shape.ensures.sectors cuts.canonical c.requires.first c.requires.last
    c.state-state.ensures.value c.state-state.ensures.rules in
    let masks = cuts.masks m g checkpoint cut in
    let widths : HasWidths checkpoint =
    full-widths shape m g c.in_ok-head.ensures.widths masks (cuts.blocks m g checkpoint cut) (cuts.sectors m g checkpoint cut) in
    let head : s.head ≡ c.in_ok-head.head.items =
    c.put.ensures.items ∙ (λ i. c.in_ok-made.ensures.items i ++ c.as_slice.ensures.value i) in
    let pages : f.pages ≡ changed_pages (zeros ram) ram shape.pages =
    found-changed ram shape.pages s.kept c.new.ensures c.pages_are_their_blocks.ensures.page c.changes_are_found_in_turn.ensures.pages
    c.shape-shape.ensures.pages in
    let within : AreIn (length ram) f.pages = used-in (page_at ram s.kept) shape.pages (length ram) (omega (arith, c.shape-shape.ensures.pages)) in
    full-text shape m g (whole ram f) cut
    (full-whole c.masks_name_blocks.ensures.all c.pages_are_their_blocks.ensures.own shape m g f c.new.ensures pages masks within texts.parts texts.page
    c.in_ok-head.head.items (bytes_of Four (length f.pages)) (used_sectors m.guest.sectors shape.sectors)
    (ap (λ (l : List ℕ). l ++ bytes_of Four (length f.pages)) head) c.in_ok-head.ensures.head refl refl c.in_ok-tail.ensures.tail)
    (λ base. cuts.image m g checkpoint base cut all) (c.text_is_read_back.ensures checkpoint rules widths)
    (texts.short checkpoint refl rules widths)

pub returns-clause-most : goal.returns-clause-most
returns-clause-most c =
    let m = c.args.machine.now in
    let ram = m.guest.ram in
    let shape = c.shape-shape.result in
    let s = fresh c.put.new.text.items c.in_ok-found.found.items shape.pages c.new.result c.in_ok-tail.tail in
    let cut = full-cut shape m c.args.generation c.shape-shape.ensures.pages c.shape-shape.ensures.sectors in
    most-is c.masks_name_blocks.ensures.all c.pages_are_their_blocks.ensures.own shape m c.args.generation s c.new.ensures
    c.shape-shape.ensures.pages
    (found-changed ram shape.pages s.kept c.new.ensures c.pages_are_their_blocks.ensures.page c.changes_are_found_in_turn.ensures.pages
    c.shape-shape.ensures.pages)
    (c.full_cuts_are_whole.ensures.masks m c.args.generation (full_change shape m c.args.generation) cut)
    (used-in (page_at ram s.kept) shape.pages (length ram) (omega (arith, c.shape-shape.ensures.pages)))

pub returns-clause-fits : goal.returns-clause-fits
returns-clause-fits c = record {
  found = c.in_ok-found.ensures.items ∙ sym (used-none (page_at c.args.machine.now.guest.ram c.new.result));
  size = c.shape-shape.ensures.pages;
}
