-- A page's record is its number, its mask and its blocks.
use Rattle.std.proofs.Common.{ℕ, List, length, map, ap, arith, length-append}
use Rattle.epoch_snapshot.specs.Blocks.{block_in, set_blocks}
use Rattle.checkpoint_stream.specs.Text.{joined}
use Rattle.std.proofs.lemmas.Nat.{ones-le}
use Rattle.full_text.proofs.KeptLemmas.{record-put}
use Rattle.full_text.proofs.RecordLemmas.{blocks-length}
use Rattle.full_text.proofs.records.put_record.Goals as goal

pub returns-clause-items : goal.returns-clause-items
returns-clause-items c =
    record-put c.args.bytes.now c.args.text.now.items c.put_four.new.text.items c.put_eight.new.text.items c.put_blocks.new.text.items
    c.args.change c.put_four.ensures.items c.put_eight.ensures.items c.put_blocks.ensures.items

pub returns-clause-size : goal.returns-clause-size
returns-clause-size c =
    omega (
      arith,
      ap (λ (l : List ℕ). length l) c.put_blocks.ensures.items,
      length-append c.put_eight.new.text.items (joined (map (λ i. block_in c.args.bytes.now i) (set_blocks c.args.change.mask))),
      blocks-length c.masks_name_blocks.ensures.all c.args.bytes.now c.args.change.mask (omega arith) (omega arith),
      c.put_four.ensures.size,
      c.put_eight.ensures.size,
    )

pub returns-clause-most : goal.returns-clause-most
returns-clause-most c = omega (arith, ones-le 64 c.args.change.mask (omega arith))
