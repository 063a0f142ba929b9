-- A block that the mask names is put.
use Rattle.std.proofs.Common.{◌≡◌, ℕ, ◌++◌, List, length, map, sym, ap, ◌∙◌, arith, length-append}
use Rattle.std.proofs.lemmas.List.{append-nil}
use Rattle.epoch_snapshot.specs.Blocks.{block_in, named_below, set_blocks}
use Rattle.checkpoint_stream.specs.Text.{joined}
use Rattle.full_text.proofs.RecordLemmas.{blocks-put, blocks-pass, room-left, length-block}
use Rattle.full_text.proofs.records.put_blocks.Goals.{then-mask-number-eq1, else-mask-number-eq1}
use Rattle.full_text.proofs.records.put_blocks.Goals as goal

pub loop-number-init : goal.loop-number-init
unfolding joined
loop-number-init c = record { items = sym (append-nil c.args.text.now.items); room = omega arith }

pub put-requires : goal.put-requires
put-requires c =
    let page = c.args.page.now in
    let m = c.args.mask in
    let n = c.loop-number.number in
    omega (
      arith,
      c.requires.room,
      c.loop-number.invariant.room,
      ap (λ (l : List ℕ). length l) c.loop-number.invariant.items,
      length-append c.args.text.now.items (joined (map (λ i. block_in page i) (named_below m n))),
      room-left c.masks_name_blocks.ensures.fewer page m n (omega arith) c.requires.long c.loop-number-test.true c.if-mask-number-eq1.true,
      ap (λ (l : List ℕ). length l) c.block.ensures,
      length-block page n (omega (arith, c.requires.long, c.loop-number-test.true)),
    )

pub loop-number-preserved : goal.loop-number-preserved
loop-number-preserved c =
    let page = c.args.page.now in
    let m = c.args.mask in
    let n = c.loop-number.number in
    let xs = c.args.text.now.items in
    elim c.if-mask-number-eq1.branch [
      | then-mask-number-eq1 w ↦
          rw w.text-is (record {
            items = w.put.ensures.items
                ∙ blocks-put c.masks_name_blocks.ensures.next c.texts_are_their_parts.ensures.joined (λ i. block_in page i) m n xs c.loop-number.text.items w.block.result.now w.if-mask-number-eq1.true
                w.block.ensures c.loop-number.invariant.items;
            room = omega (arith, c.loop-number.invariant.room, w.put.ensures.room);
          })
      | else-mask-number-eq1 w ↦
          rw w.text-is (record {
            items = c.loop-number.invariant.items
                ∙ ap (λ (is : List ℕ). xs ++ joined (map (λ i. block_in page i) is)) (sym (blocks-pass c.masks_name_blocks.ensures.next m n w.if-mask-number-eq1.false));
            room = c.loop-number.invariant.room;
          })
    ]

pub returns-clause-items : goal.returns-clause-items
unfolding set_blocks
returns-clause-items c =
    let end : c.loop-number.number ≡ 64 = omega (arith, c.loop-number-test.false, c.loop-number.auto.number-end) in
    c.loop-number.invariant.items
    ∙ ap (λ n. c.args.text.now.items ++ joined (map (λ i. block_in c.args.page.now i) (named_below c.args.mask n))) end
