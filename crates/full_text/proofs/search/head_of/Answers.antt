-- The text of a checkpoint without pages and sectors is its head and three counts of nothing.
use Rattle.std.proofs.Common.{◌≡◌, ◌+◌, ◌-◌, ◌++◌, List, [], ℕ, length, ap, ◌∙◌, arith, length-append}
use Rattle.guest_rules.specs.ArrayVec.{ArrayVec}
use Rattle.guest_rules.specs.Guest.{Guest}
use Rattle.guest_rules.specs.MachineStates.{state_of}
use Rattle.guest_rules.specs.declared.machine_state.MachineState.{MachineState}
use Rattle.guest_rules.specs.declared.shapes.Shape.{Shape}
use Rattle.epoch_snapshot.specs.declared.changes.PageChange.{PageChange}
use Rattle.epoch_snapshot.specs.declared.changes.SectorChange.{SectorChange}
use Rattle.epoch_snapshot.specs.Checkpoints.{Change, change_of}
use Rattle.checkpoint_stream.specs.Bounds.{most_text}
use Rattle.checkpoint_stream.specs.HeadTable.{head_table}
use Rattle.checkpoint_stream.specs.Text.{head_numbers, number_units, joined, text}
use Rattle.full_text.specs.Full.{blank}
use Rattle.full_text.proofs.TextLemmas.{HasParts, nothing, blank-spelled, length-nothing, front-of}
use Rattle.full_text.proofs.search.head_of.Goals as goal

abbrev head_bytes : Shape → Guest → ℕ → List ℕ
head_bytes shape g generation = joined (number_units head_table (head_numbers (blank shape g generation)))

-- what is written of one that has nothing
spelled : HasParts → (shape : Shape) (g : Guest) (generation : ℕ) {state : MachineState} {pages : List PageChange} {blocks : List (List ℕ)}
    {sectors : List SectorChange} {frames : List (ArrayVec ℕ)} {bytes : List ℕ} → state ≡ state_of g → pages ≡ [] → blocks ≡ [] → sectors ≡ [] → frames ≡ []
    → bytes ≡ text (change_of 2 shape generation 0 state pages blocks sectors frames) → bytes ≡ head_bytes shape g generation ++ nothing
spelled parts shape g generation state pages blocks sectors frames written =
    written
    ∙ ap text (λ i. change_of 2 shape generation 0 (state i) (pages i) (blocks i) (sectors i) (frames i))
    ∙ blank-spelled parts shape g generation

longer : (head : List ℕ) {bytes : List ℕ} → bytes ≡ head ++ nothing → length bytes ≡ length head + 12
longer head is = omega (arith, ap (λ (l : List ℕ). length l) is, length-append head nothing, length-nothing)

pub overflow_sub-head : goal.overflow_sub-head
overflow_sub-head c =
    let text_is = spelled c.texts_are_their_parts.ensures.parts c.args.shape c.args.machine.now.guest c.args.generation c.state.ensures.value
    c.new.ensures.items c.new-2.ensures.items c.new-3.ensures.items c.new-4.ensures
    (c.in_ok-text.ensures.text ∙ ap text c.from_parts-checkpoint.ensures) in
    omega (arith, c.len.ensures, longer _ text_is)

pub returns-clause-head : goal.returns-clause-head
returns-clause-head c =
    let text_is = spelled c.texts_are_their_parts.ensures.parts c.args.shape c.args.machine.now.guest c.args.generation c.state.ensures.value
    c.new.ensures.items c.new-2.ensures.items c.new-3.ensures.items c.new-4.ensures
    (c.in_ok-text.ensures.text ∙ ap text c.from_parts-checkpoint.ensures) in
    c.truncate.ensures.items ∙ front-of c.in_ok-text.text.items _ nothing (c.len.result - 12) text_is length-nothing (omega (arith, c.len.ensures, longer _ text_is))

pub returns-clause-short : goal.returns-clause-short
returns-clause-short c =
    let text_is = spelled c.texts_are_their_parts.ensures.parts c.args.shape c.args.machine.now.guest c.args.generation c.state.ensures.value
    c.new.ensures.items c.new-2.ensures.items c.new-3.ensures.items c.new-4.ensures
    (c.in_ok-text.ensures.text ∙ ap text c.from_parts-checkpoint.ensures) in
    omega (
      arith,
      c.in_ok-text.ensures.short,
      ap (λ (k : Change). most_text k.shape) c.from_parts-checkpoint.ensures,
      longer _ text_is,
      ap (λ (l : List ℕ). length l) (c.truncate.ensures.items
          ∙ front-of c.in_ok-text.text.items _ nothing (c.len.result - 12) text_is length-nothing (omega (arith, c.len.ensures, longer _ text_is))),
    )
