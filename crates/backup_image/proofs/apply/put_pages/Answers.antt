-- One page more.
use Rattle.std.proofs.{Common.{◌≡◌, ℕ, List, ◌++◌, length, take, drop, sym, ap, ◌∙◌, arith}, lemmas.List.take-append-drop}
use Rattle.epoch_snapshot.specs.declared.changes.PageChange.{PageChange}
use Rattle.backup_image.proofs.{RisingLemmas.rising-below, PutLemmas.{pages-begin, pages-put, pages-done}}
use Rattle.epoch_snapshot.specs.laws.Blocks.{block_count-drop}
use Rattle.backup_image.proofs.apply.put_pages.Goals as goal

none : PageChange
none = record { page = 0; mask = 0 }

-- the two parts of a list that is split
parts : (rest own later : List (List ℕ)) (n : ℕ) → own ≡ take n rest → later ≡ drop n rest → rest ≡ own ++ later
parts rest own later n front back = sym ((λ k. front k ++ back k) ∙ take-append-drop n rest)

pub loop-change-init : goal.loop-change-init
loop-change-init c = pages-begin c.args.machine.now c.args.pages.now c.args.blocks.now c.requires.enough

pub split_at-requires : goal.split_at-requires
unfolding none
split_at-requires c =
    omega (arith, c.loop-change.invariant.enough, block_count-drop c.args.pages.now c.loop-change.change-index none (omega arith))

pub put_page-requires-clause-inside : goal.put_page-requires-clause-inside
unfolding none
put_page-requires-clause-inside c =
    let below = rising-below (λ (p : PageChange). p.page) 0 (length c.args.machine.now.written) c.args.pages.now
    c.loop-change.change-index none c.requires.inside (omega arith) in
    omega (arith, below, ap length c.loop-change.invariant.same.flags)

pub put_page-requires-clause-whole : goal.put_page-requires-clause-whole
put_page-requires-clause-whole c =
    omega (arith, c.requires.whole, c.loop-change.invariant.same.size, ap length c.loop-change.invariant.same.flags)

pub put_page-requires-clause-enough : goal.put_page-requires-clause-enough
put_page-requires-clause-enough c = omega (arith, c.split_at.ensures.front_len)

pub loop-change-preserved : goal.loop-change-preserved
unfolding none
loop-change-preserved c =
    pages-put c.args.machine.now c.loop-change.machine c.put_page.new.machine c.args.pages.now c.loop-change.change-index none
    c.args.blocks.now c.loop-change.rest.now
    c.split_at.result.0.now c.split_at.result.1.now c.loop-change.invariant (omega arith) c.put_page.ensures.count
    (parts c.loop-change.rest.now c.split_at.result.0.now c.split_at.result.1.now _ c.split_at.ensures.front c.split_at.ensures.back)
    c.split_at.ensures.front_len c.put_page.ensures.guest c.put_page.ensures.size c.put_page.ensures.flags

pub returns-clause-guest : goal.returns-clause-guest
returns-clause-guest c =
    pages-done c.args.machine.now c.loop-change.machine c.args.pages.now c.loop-change.change-index c.args.blocks.now
    c.loop-change.rest.now c.loop-change.invariant (omega arith)
