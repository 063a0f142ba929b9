-- One place more is counted.
use Rattle.std.proofs.Common.{arith}
use Rattle.page_lanes.proofs.PartLemmas.{differing-more_yes, differing-more_no}
use Rattle.page_lanes.proofs.bytes.count_bytes.Goals as goal
use Rattle.page_lanes.proofs.bytes.count_bytes.Goals.{then-byte-b, else-byte-b}

pub loop-i-preserved : goal.loop-i-preserved
loop-i-preserved c =
    let a = c.args.a.now in
    let b = c.args.b.now in
    let i = c.loop-i.i in
    elim c.if-byte-b.branch [
      | then-byte-b w ↦ record {
        count = omega (
          arith,
          differing-more_yes a b i c.requires c.loop-i-test.true w.if-byte-b.true,
          c.loop-i.invariant.count,
          w.count-is,
        );
        few = omega (arith, c.loop-i.invariant.few, w.count-is);
      }
      | else-byte-b w ↦ record {
        count = omega (
          arith,
          differing-more_no a b i c.requires c.loop-i-test.true w.if-byte-b.false,
          c.loop-i.invariant.count,
          w.count-is,
        );
        few = omega (arith, c.loop-i.invariant.few, w.count-is);
      }
    ]
