-- One byte more is changed.
use Rattle.std.proofs.Common.{List, ℕ, set, get_or, bit_xor, ◌∙◌, ap, sym, arith}
use Rattle.page_lanes.proofs.PartLemmas.{xored_to-none, xored_to-byte, xored_to-all}
use Rattle.page_lanes.proofs.bytes.xor_bytes.Goals as goal

pub loop-i-init : goal.loop-i-init
loop-i-init c = sym (xored_to-none c.args.into.now c.args.from.now)

pub loop-i-preserved : goal.loop-i-preserved
loop-i-preserved c =
    let s = c.args.into.now in
    let f = c.args.from.now in
    let i = c.loop-i.i in
    ap (λ (l : List ℕ). set l i (bit_xor (get_or l i 0) (get_or f i 0))) c.loop-i.invariant ∙ xored_to-byte s f i c.requires (omega arith)

pub returns : goal.returns
returns c = c.loop-i.invariant ∙ xored_to-all c.args.into.now c.args.from.now c.loop-i.i c.requires (omega arith)
