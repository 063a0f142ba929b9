use Rattle.std.proofs.Common.{◌≡◌, ◌+◌, ◌-◌, ℕ, take, drop, length-set, sym, ◌∙◌, ap, arith}
use Rattle.checkpoint_stream.{specs.HeadTable.number_spelled, proofs.{Feeding.Takes-nothing, RunLemmas.numbered-next, Numbers.width-most}}
use Rattle.checkpoint_stream.proofs.runs.read_numbers.Goals as goal

pub loop-known-init : goal.loop-known-init
loop-known-init c = record {
  inside = omega arith;
  known = omega arith;
  long = omega arith;
  read = λ r. Takes-nothing _;
}

pub loop-known-preserved : goal.loop-known-preserved
loop-known-preserved c =
    let l = c.loop-known in
    let w = c.bytes-width.result in
    let count : l.at + w - l.at ≡ w = omega arith in
    let number = c.number_of-n.ensures
    ∙ ap (λ (k : ℕ). number_spelled c.head_row-row.result.width (take k (drop l.at c.args.rest.now))) count in
    record {
      inside = omega (arith, c.bytes-width.ensures, width-most c.head_row-row.result.width);
      known = omega arith;
      long = omega (arith, length-set {A = ℕ}, c.loop-known.invariant.long);
      read = λ r. numbered-next r _ c.args.shape l.head l.known l.before l.offset l.at w c.number_of-n.result c.args.rest.now
          c.head_row-row.result (omega arith) l.invariant.long c.head_row-row.ensures c.bytes-width.ensures (omega arith) number
          (sym c.passes.ensures ∙ c.if-not-passes.false) (l.invariant.read r);
    }
