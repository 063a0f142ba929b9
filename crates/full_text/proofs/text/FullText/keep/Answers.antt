-- What is left is the same of what memory has now.
use Rattle.std.proofs.Common.{◌≡◌, ◌-◌, List, [], length, take, drop, sym, ap, ◌∙◌, arith, All, Result, Ok, Err, OnOk}
use Rattle.std.proofs.lemmas.List.{drop_all, length-drop, take_all}
use Rattle.std.proofs.lemmas.List.Elements.{All-nil, All-same}
use Rattle.epoch_snapshot.specs.declared.changes.PageChange.{PageChange}
use Rattle.full_text.specs.Full.{IsSameIn, Making}
use Rattle.full_text.proofs.KeptLemmas.{whole-agree}
use Rattle.full_text.proofs.text.FullText.keep.Goals as goal

on_ok : {T E : Type 0} (r : Result T E) (P Q : Type 0) → (P → Q) → OnOk r P → OnOk r Q
on_ok (Ok x) P Q f h = f h
on_ok (Err e) P Q f h = h

pub returns-then-self-len-clause-kept : goal.returns-then-self-len-clause-kept
returns-then-self-len-clause-kept c =
    let a = c.self.inside in
    let m = c.args.machine.now in
    let f = c.args.self.now in
    let none : f.pages ≡ [] =
    sym (ap (λ (g : Making). g.pages) c.self.view_is) ∙ drop_all a.next a.pages.items (omega (arith, c.if-self-len.true, c.len.ensures)) in
    whole-agree m.guest.ram m.settled f
    (All-same (λ (p : PageChange). IsSameIn m f.kept p.page) f.pages [] none (All-nil (λ (p : PageChange). IsSameIn m f.kept p.page)))

pub returns-clause-kept : goal.returns-clause-kept
returns-clause-kept c =
    let a = c.self.inside in
    let m = c.args.machine.now in
    let f : Making = record { made = a.made.items; pages = drop a.next a.pages.items; kept = c.keep_pages.new.kept; tail = a.tail } in
    let slice : List PageChange = take (length c.deref.result.now - a.next) (drop a.next c.deref.result.now) in
    let is : slice ≡ f.pages =
    take_all (length c.deref.result.now - a.next) (drop a.next c.deref.result.now) (omega (arith, length-drop a.next c.deref.result.now))
    ∙ ap (drop a.next) c.deref.ensures.value in
    on_ok c.keep_pages.result (All (λ (p : PageChange). IsSameIn m f.kept p.page) slice) _
    (λ all. whole-agree m.guest.ram m.settled f (All-same (λ (p : PageChange). IsSameIn m f.kept p.page) f.pages slice (sym is) all))
    c.keep_pages.ensures.same
