-- One page more is looked at.
use Rattle.std.proofs.Common.{◌+◌, ◌<◌, ◌^◌, ℕ, refl, ap, ◌∙◌, arith}
use Rattle.full_text.specs.Full.{page_at}
use Rattle.full_text.specs.UsedPages.{used_mask}
use Rattle.full_text.proofs.SearchLemmas.{found-next}
use Rattle.full_text.proofs.found.find_pages.Goals as goal

next-fits : (page to : ℕ) → page < to → to < 2 ^ 32 → page + 1 < 2 ^ 32
next-fits page to within fits = omega (arith, within, fits)

pub loop-page-2-preserved : goal.loop-page-2-preserved
loop-page-2-preserved c =
    let page = c.loop-page-2.page in
    record {
      within = omega (arith, c.loop-page-2-test.true);
      few = omega (arith, c.loop-page-2.invariant.few, c.add_page.ensures.few);
      pages = found-next (page_at c.args.machine.now.settled c.args.kept.now) page (page + 1) c.page_mask.result c.loop-page-2.pages.items
          c.add_page.new.pages.items (c.page_mask.ensures ∙ ap (λ b. used_mask b 64) c.page_of.ensures) c.loop-page-2.invariant.pages
          c.add_page.ensures.pages refl;
      room = omega (arith, c.loop-page-2.invariant.room, c.add_page.ensures.room);
    }

pub add_page-requires : goal.add_page-requires
add_page-requires c =
    omega (
      arith,
      c.loop-page-2.invariant.few,
      c.loop-page-2.invariant.room,
      c.loop-page-2-test.true,
      c.requires.room,
    )

pub overflow_add-page-in-loop-page-2 : goal.overflow_add-page-in-loop-page-2
overflow_add-page-in-loop-page-2 c = record { fits = next-fits c.loop-page-2.page c.args.to c.loop-page-2-test.true c.ranges.to.fits }

pub loop-page-2-smaller : goal.loop-page-2-smaller
loop-page-2-smaller c = omega (arith, c.loop-page-2-test.true)
