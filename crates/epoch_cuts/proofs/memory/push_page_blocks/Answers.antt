-- A block that the mask names is added.
use Rattle.std.proofs.{Common.{ℕ, List, ◌+◌, ◌++◌, length, map, ap, sym, ◌∙◌, arith, length-append, w64}, lemmas.List.length-map}
use Rattle.std.{proofs.lemmas.Nat.shr-shr, specs.Int.trailing_zeros}
use Rattle.epoch_snapshot.specs.Blocks.{block_in, named_below, xored}
use Rattle.epoch_cuts.proofs.BitLemmas.{next_set, all_below}
use Rattle.epoch_snapshot.specs.laws.Pages.{blocks-push, fewer_blocks}
use Rattle.epoch_cuts.proofs.memory.push_page_blocks.Goals as goal

pub block-requires : goal.block-requires
block-requires c =
    (next_set c.args.mask c.loop-rest.next c.loop-rest.rest (omega arith) c.loop-rest.invariant.rest (omega arith) (omega arith)).0

pub block-requires-in-loop-rest : goal.block-requires-in-loop-rest
block-requires-in-loop-rest c =
    (next_set c.args.mask c.loop-rest.next c.loop-rest.rest (omega arith) c.loop-rest.invariant.rest (omega arith) (omega arith)).0

pub push_reserved-requires : goal.push_reserved-requires
push_reserved-requires c =
    let f : ℕ → List ℕ = λ i. xored (block_in c.args.old.now i) (block_in c.args.new.now i) in
    let m = c.args.mask in
    let s = c.loop-rest.next in
    let t = trailing_zeros w64 c.loop-rest.rest in
    let found = next_set m s c.loop-rest.rest (omega arith) c.loop-rest.invariant.rest (omega arith) (omega arith) in
    let fewer = fewer_blocks m (s + t) found.0 found.1 in
    omega (
      arith,
      fewer,
      ap length found.2,
      ap length c.loop-rest.invariant.items,
      c.loop-rest.invariant.capacity,
      length-append c.args.list.now.items (map f (named_below m s)),
      length-map (named_below m s) f,
    )

pub loop-rest-preserved : goal.loop-rest-preserved
loop-rest-preserved c =
    let f : ℕ → List ℕ = λ i. xored (block_in c.args.old.now i) (block_in c.args.new.now i) in
    let m = c.args.mask in
    let s = c.loop-rest.next in
    let t = trailing_zeros w64 c.loop-rest.rest in
    let found = next_set m s c.loop-rest.rest (omega arith) c.loop-rest.invariant.rest (omega arith) (omega arith) in
    record {
      items =
          c.push_reserved.ensures.items
          ∙ blocks-push f m (s + t) c.args.list.now.items c.loop-rest.list.items c.xor_blocks.result found.1
          (c.xor_blocks.ensures ∙ (λ k. xored (c.block.ensures k) (c.block-in-loop-rest.ensures k)))
          (c.loop-rest.invariant.items ∙ ap (λ ns. c.args.list.now.items ++ map f ns) (sym found.2));
      capacity = c.push_reserved.ensures.capacity ∙ c.loop-rest.invariant.capacity;
      most = omega (arith, found.0);
      rest = shr-shr m (s + t) 1;
    }

pub returns-clause-items : goal.returns-clause-items
returns-clause-items c =
    let f : ℕ → List ℕ = λ i. xored (block_in c.args.old.now i) (block_in c.args.new.now i) in
    c.loop-rest.invariant.items
    ∙ ap (λ ns. c.args.list.now.items ++ map f ns)
    (sym (all_below c.args.mask c.loop-rest.next c.loop-rest.invariant.most (omega (arith, c.loop-rest.invariant.rest))))
