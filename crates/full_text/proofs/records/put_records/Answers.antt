-- A record is put, and its page isn't left any more.
use Rattle.std.proofs.Common.{ℕ, ◌++◌, List, get_or, ap, ◌∙◌, arith}
use Rattle.epoch_snapshot.specs.declared.changes.PageChange.{PageChange}
use Rattle.full_text.specs.Full.{page_at, page_record}
use Rattle.full_text.proofs.KeptLemmas.{records-next}
use Rattle.full_text.proofs.RecordLemmas.{sizes-next}
use Rattle.full_text.proofs.records.put_records.Goals as goal

none : PageChange
none = record { page = 0; mask = 0 }

pub loop-next-preserved : goal.loop-next-preserved
unfolding none
loop-next-preserved c =
    let ps = c.args.pages.now in
    let i = c.loop-next.next in
    let within = c.loop-next-test.true in
    record {
      last = omega (arith, within);
      items = records-next (page_at c.args.machine.now.settled c.args.kept.now) c.loop-next.text.items c.put_record.new.text.items ps i none within
          (c.put_record.ensures.items
          ∙ ap (λ (l : List ℕ). c.loop-next.text.items ++ page_record l (get_or ps i none)) c.page_of.ensures) ∙ c.loop-next.invariant.items;
      size = omega (arith, sizes-next ps i none within, c.put_record.ensures.size, c.loop-next.invariant.size);
      grows = omega (arith, c.put_record.ensures.size, c.loop-next.invariant.grows);
      no_further = λ grown. omega (arith, c.put_record.ensures.size, c.put_record.ensures.most, c.ends_before.ensures.yes c.if-ends_before.true, c.len.ensures);
      room = omega (arith, c.loop-next.invariant.room, c.put_record.ensures.room);
    }
