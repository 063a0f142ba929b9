-- One page more is the same of what memory has now.
use Rattle.std.proofs.Common.{take, sym, ◌∙◌, arith}
use Rattle.std.proofs.lemmas.List.{take_all}
use Rattle.std.proofs.lemmas.List.Elements.{All-more, All-same, All-weaker}
use Rattle.epoch_snapshot.specs.declared.changes.PageChange.{PageChange}
use Rattle.full_text.specs.Full.{IsSameIn}
use Rattle.full_text.proofs.records.keep_pages.Goals as goal

none : PageChange
none = record { page = 0; mask = 0 }

pub loop-change-preserved : goal.loop-change-preserved
unfolding none
loop-change-preserved c =
    let m = c.args.machine.now in
    let ps = c.args.pages.now in
    let i = c.loop-change.change-index in
    record {
      settled = λ q. c.keep_page.ensures.settled q ∙ c.loop-change.invariant.settled q;
      same = All-more (λ (p : PageChange). IsSameIn m c.keep_page.new.kept p.page) ps i none c.loop-change-test.true
          (All-weaker (λ (p : PageChange). IsSameIn m c.loop-change.kept p.page) (λ (p : PageChange). IsSameIn m c.keep_page.new.kept p.page)
          (λ p. c.keep_page.ensures.others p.page) (take i ps) c.loop-change.invariant.same)
          c.in_ok-keep_page.ensures.here;
      room = c.keep_page.ensures.room ∙ c.loop-change.invariant.room;
    }

pub returns-clause-same : goal.returns-clause-same
returns-clause-same c =
    let ps = c.args.pages.now in
    let i = c.loop-change.change-index in
    All-same (λ (p : PageChange). IsSameIn c.args.machine.now c.loop-change.kept p.page) ps (take i ps)
    (sym (take_all i ps (omega (arith, c.loop-change-test.false)))) c.loop-change.invariant.same
