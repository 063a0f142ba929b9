use Rattle.std.proofs.{Common.{◌≡◌, ◌≤◌, ◌+◌, ℕ, List, ◌++◌, length, take, drop, ap, ◌∙◌, arith, length-drop}, lemmas.List.length-take-le}
use Rattle.std.proofs.lemmas.Simd.{length-zip2}
use Rattle.page_lanes.specs.Kernels.{xored}
use Rattle.paged_memory.{specs.{Bytes.with_xored, Pages.Paged}, proofs.SeenLemmas.seen_unmarked, proofs.StoredLemmas.stored_by_touch}
use Rattle.paged_memory.proofs.memory.Memory.xor_settled.Goals as goal

pub invariant_of-self : goal.invariant_of-self
invariant_of-self c =
    let s = c.self.inside in
    let at = c.args.at in
    let within : at + 64 ≤ length s.bytes.items = omega (arith, ap (λ (p : Paged). length p.bytes) c.self.view_is, c.requires.within) in
    let old : length (take 64 (drop at s.bytes.items)) ≡ 64
    = length-take-le 64 (drop at s.bytes.items) (omega (arith, length-drop at s.bytes.items)) in
    let new : List ℕ = xored (take 64 (drop at s.bytes.items)) c.args.block.now in
    let long : length new ≡ 64 = length-zip2 _ (take 64 (drop at s.bytes.items)) c.args.block.now (omega (arith, old)) ∙ old in
    let put : c.xor_at.new.bytes.items ≡ take at s.bytes.items ++ (new ++ drop (at + 64) s.bytes.items)
    = c.xor_at.ensures.value ∙ ap (λ n. take at s.bytes.items ++ (new ++ drop (at + n) s.bytes.items)) long in
    stored_by_touch s.bytes.items c.xor_at.new.bytes.items s.originals.items new s.written.items s.touched.items c.touch.new.flags.items
    s.places.items s.dirty.items _ _ s.copies at 64 (omega arith) long within put c.touch.ensures c.self.invariant

pub returns-clause-value : goal.returns-clause-value
returns-clause-value c =
    let s = c.self.inside in
    seen_unmarked c.args.self.now s.bytes.items c.xor_at.new.bytes.items s.originals.items s.written.items s.places.items s.copies
    (λ (xs : List ℕ). with_xored xs c.args.at c.args.block.now) c.self.invariant.whole c.self.view_is c.requires.settled
    c.xor_at.ensures.value c.xor_at.ensures.size
