use Rattle.std.proofs.{Common.arith, lemmas.List.Elements.All-more}
use Rattle.epoch_snapshot.specs.declared.changes.PageChange.{PageChange}
use Rattle.checkpoint_stream.proofs.Spelling.{advance, finish, page_units-split, page_units-done, all-seen}
use Rattle.epoch_snapshot.specs.laws.Blocks.{block_count-drop}
use Rattle.checkpoint_stream.proofs.RecordsRead.{FitsMask}
use Rattle.checkpoint_stream.proofs.encoding.put_pages.Goals as goal

none : PageChange
none = record { page = 0; mask = 0 }

pub loop-page-preserved : goal.loop-page-preserved
unfolding none
loop-page-preserved c = record {
  put = advance c.loop-page.out.items _ c.put_page.new.out.items _ _ _ c.loop-page.invariant.put
      (page_units-split c.args.pages.now c.loop-page.rest.now c.split_at.result.0.now c.split_at.result.1.now c.loop-page.page-index
      none c.loop-page-test.true
      c.split_at.ensures.front c.split_at.ensures.back)
      c.in_ok-put_page.ensures.put;
  enough = omega (
    arith,
    c.loop-page.invariant.enough,
    c.split_at.ensures.back_len,
    block_count-drop c.args.pages.now c.loop-page.page-index none c.loop-page-test.true,
  );
  width = All-more FitsMask c.args.pages.now c.loop-page.page-index none c.loop-page-test.true c.loop-page.invariant.width
      c.in_ok-put_page.ensures.width;
}

pub split_at-requires : goal.split_at-requires
unfolding none
split_at-requires c =
    omega (arith, c.loop-page.invariant.enough, block_count-drop c.args.pages.now c.loop-page.page-index none c.loop-page-test.true)

pub returns : goal.returns
returns c = record {
  put = finish c.loop-page.out.items _ _ c.loop-page.invariant.put
      (page_units-done c.args.pages.now _ c.loop-page.page-index (omega arith));
  width = all-seen FitsMask c.args.pages.now c.loop-page.page-index (omega arith) c.loop-page.invariant.width;
}
