-- A page whose mask isn't 0 is added, and its blocks are.
use Rattle.std.proofs.Common.{◌++◌, ◌∷◌, [], ap, sym, ◌∙◌}
use Rattle.epoch_cuts.specs.Over.{old_ram}
use Rattle.epoch_snapshot.specs.{Cuts.{changed_pages, changed_blocks}, declared.changes.PageChange.PageChange}
use Rattle.epoch_snapshot.specs.laws.Pages.{changed_pages-push, changed_pages-skip, changed_blocks-push, no_pages, no_blocks}
use Rattle.epoch_cuts.proofs.memory.push_pages.Goals.{then-mask-ne0+in_ok-push_page, else-mask-ne0}
use Rattle.epoch_cuts.proofs.memory.push_pages.Goals as goal

pub loop-page-init : goal.loop-page-init
loop-page-init c =
    let old = old_ram c.args.over c.args.machine.now in
    let new = c.args.machine.now.guest.ram in
    let none = no_pages old new ∙ sym c.next_page-page.ensures.same in
    record {
      pages = c.requires.no_pages ∙ none;
      blocks = c.requires.no_blocks ∙ no_blocks old new ∙ ap (changed_blocks old new) none;
      last = c.next_page-page.ensures.last;
    }

pub loop-page-preserved : goal.loop-page-preserved
loop-page-preserved c =
    let old = old_ram c.args.over c.args.machine.now in
    let new = c.args.machine.now.guest.ram in
    let so_far = c.loop-page.invariant in
    let next = c.next_page-page-in-loop-page.ensures in
    let page : PageChange = record { page = c.loop-page.page; mask = c.page_mask-mask.result } in
    let before = changed_pages old new c.loop-page.page in
    elim c.if-mask-ne0.branch [
      | then-mask-ne0+in_ok-push_page w ↦
          let more = changed_pages-push old new c.loop-page.page c.page_mask-mask.result c.page_mask-mask.ensures w.if-mask-ne0.true in
          rw w.pages-is (rw w.blocks-is (record {
            pages = w.in_ok-push_page.ensures.pages ∙ ap (λ l. l ++ page ∷ []) so_far.pages ∙ sym more ∙ sym next.same;
            blocks =
                w.in_ok-push_page.ensures.blocks
                ∙ ap (λ l. l ++ changed_blocks old new (page ∷ [])) so_far.blocks
                ∙ sym (changed_blocks-push old new before page)
                ∙ ap (changed_blocks old new) (sym more ∙ sym next.same);
            last = next.last;
          }))
      | else-mask-ne0 w ↦
          let same = sym (changed_pages-skip old new c.loop-page.page c.page_mask-mask.result c.page_mask-mask.ensures w.if-mask-ne0.false)
          ∙ sym next.same in
          rw w.pages-is (rw w.blocks-is (record {
            pages = so_far.pages ∙ same;
            blocks = so_far.blocks ∙ ap (changed_blocks old new) same;
            last = next.last;
          }))
    ]
