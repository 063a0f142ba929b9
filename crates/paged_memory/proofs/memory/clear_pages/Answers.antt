use Rattle.std.proofs.Common.{ℕ, ◌<◌, ◌≤◌, Bool, Global, List, Vec, true, length, replicate, arith, ap, ◌∙◌, sym}
use Rattle.std.proofs.lemmas.List.{get_or_default}
use Rattle.paged_memory.proofs.ClearedLemmas.{one_passed, one_filled, no_flag_left, no_byte_left}
use Rattle.paged_memory.proofs.memory.clear_pages.Goals.{then-index, else-index}
use Rattle.paged_memory.proofs.memory.clear_pages.Goals as goal

pub loop-page-preserved : goal.loop-page-preserved
loop-page-preserved c =
    let n : ℕ = length c.args.touched.now.items in
    let inside : c.loop-page.page < n = omega (arith, c.loop-page-test.true, c.len-page-end.ensures) in
    let bytes : Vec ℕ Global → List ℕ = λ v. v.items in
    let flags : Vec Bool Global → List Bool = λ v. v.items in
    elim c.if-index.branch [
      | then-index w ↦
          one_filled c.loop-page.bytes.items c.if-index.bytes.items c.loop-page.touched.items c.if-index.touched.items n c.loop-page.page
          inside (ap bytes w.bytes-is ∙ w.clear_bytes.ensures) (ap flags w.touched-is) c.loop-page.invariant
      | else-index w ↦
          one_passed c.loop-page.bytes.items c.if-index.bytes.items c.loop-page.touched.items c.if-index.touched.items n c.loop-page.page
          (get_or_default c.loop-page.touched.items c.loop-page.page true c.index.result.now (omega (arith, inside, c.loop-page.invariant.flags))
          ∙ sym c.index.ensures ∙ w.if-index.false)
          (ap bytes w.bytes-is) (ap flags w.touched-is) c.loop-page.invariant
    ]

pub returns-clause-bytes : goal.returns-clause-bytes
returns-clause-bytes c =
    let is = c.loop-page.invariant in
    let end : length c.args.touched.now.items ≤ c.loop-page.page = omega (arith, c.loop-page-test.false, c.len-page-end.ensures) in
    no_byte_left c.loop-page.bytes.items c.loop-page.touched.items (length c.args.touched.now.items) c.loop-page.page end is
    ∙ ap (λ (k : ℕ). replicate k 0) (is.whole ∙ sym c.requires.whole)

pub returns-clause-touched : goal.returns-clause-touched
returns-clause-touched c =
    let end : length c.args.touched.now.items ≤ c.loop-page.page = omega (arith, c.loop-page-test.false, c.len-page-end.ensures) in
    no_flag_left c.loop-page.bytes.items c.loop-page.touched.items (length c.args.touched.now.items) c.loop-page.page end c.loop-page.invariant
