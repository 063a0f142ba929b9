-- What is made and what is left is as much as before, and the pages that are left are among those that were.
use Rattle.std.proofs.Common.{◌≡◌, ◌+◌, ◌-◌, ◌*◌, ◌≤◌, length, drop, sym, ap, ◌∙◌, subst, arith}
use Rattle.std.proofs.lemmas.List.{drop-drop, length-drop, take_all}
use Rattle.std.proofs.lemmas.List.Elements.{All-drop}
use Rattle.epoch_snapshot.specs.declared.changes.PageChange.{PageChange}
use Rattle.full_text.specs.Full.{AreIn, Making, page_at, whole}
use Rattle.full_text.proofs.KeptLemmas.{make-end}
use Rattle.full_text.proofs.text.FullText.make_to.Goals as goal

pub returns-then-self-len-clause-same : goal.returns-then-self-len-clause-same
returns-then-self-len-clause-same c =
    let a = c.self.inside in
    let settled = c.args.machine.now.settled in
    let is : _ ≡ drop a.next a.pages.items =
    take_all (length c.deref.result.now - a.next) (drop a.next c.deref.result.now) (omega (arith, length-drop a.next c.deref.result.now))
    ∙ ap (drop a.next) c.deref.ensures.value in
    make-end (page_at settled a.kept) a.made.items c.put_records.new.text.items c.put_to.new.text.items a.tail c.put_to.new.self a.pages.items _
    a.next c.put_records.result c.put_records.ensures.items is (omega (arith, c.if-self-len.true, c.len.ensures)) c.put_to.ensures.items
    ∙ ap (whole settled) c.self.view_is

pub returns-else-self-len-clause-pages : goal.returns-else-self-len-clause-pages
returns-else-self-len-clause-pages c =
    let a = c.self.inside in
    let bytes = length c.args.machine.now.guest.ram in
    let all : AreIn bytes (drop a.next a.pages.items) = subst (λ (f : Making). AreIn bytes f.pages) (sym c.self.view_is) c.requires in
    subst (AreIn bytes) (drop-drop c.put_records.result a.next a.pages.items)
    (All-drop (λ (p : PageChange). 4096 * p.page + 4096 ≤ bytes) c.put_records.result (drop a.next a.pages.items) all)
