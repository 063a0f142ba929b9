-- The count is put before the records once they are.
use Rattle.std.proofs.Common.{◌≡◌, ◌++◌, List, ℕ, length, ap, ◌∙◌}
use Rattle.epoch_snapshot.specs.Cuts.{changed_sectors, used_sectors}
use Rattle.checkpoint_stream.specs.HeadTable.{bytes_of}
use Rattle.checkpoint_stream.specs.Text.{joined, sector_units}
use Rattle.checkpoint_stream.specs.declared.rules.Width.TheVariants.{Four}
use Rattle.full_text.proofs.TextLemmas.{count-set}
use Rattle.full_text.proofs.tail.Tail.of_sectors.Goals as goal

counted : (n m : ℕ) (given : List ℕ) → given ≡ bytes_of Four n → n ≡ m → given ≡ bytes_of Four m
counted n m given is same = is ∙ ap (bytes_of Four) same

pub returns-clause-tail : goal.returns-clause-tail
unfolding bytes_of
returns-clause-tail c =
    let disk = c.args.machine.now.guest.sectors in
    let used = used_sectors disk c.args.count in
    c.put_four-2.ensures.items
    ∙ ap (λ (l : List ℕ). l ++ bytes_of Four 0)
    (count-set (length used) c.to_le_bytes.result c.in_ok-bytes.bytes.items c.put_four.new.text.items c.put_used-used.new.text.items
    c.put_at.new.text.items (joined (sector_units (changed_sectors disk used)))
    (counted c.put_used-used.result (length used) c.to_le_bytes.result c.to_le_bytes.ensures c.put_used-used.ensures.count)
    c.in_ok-bytes.ensures.items c.put_four.ensures.items c.put_used-used.ensures.items c.put_at.ensures.items)
