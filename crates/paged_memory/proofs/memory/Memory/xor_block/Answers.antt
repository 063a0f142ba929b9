use Rattle.std.proofs.{Common.{◌≡◌, ◌+◌, ℕ, List, ◌++◌, length, take, drop, sym, ap, ◌∙◌, arith, length-drop}, lemmas.List.length-take-le}
use Rattle.std.proofs.lemmas.Simd.{length-zip2}
use Rattle.page_lanes.specs.Kernels.{xored}
use Rattle.paged_memory.{specs.{Bytes.with_bytes, Pages.{Paged, with_written}}, proofs.SeenLemmas.after_write}
use Rattle.paged_memory.proofs.memory.Memory.xor_block.Goals as goal

pub invariant_of-self : goal.invariant_of-self
invariant_of-self c =
    let s = c.self.inside in
    let m = c.args.self.now in
    let at = c.args.at in
    let same : s.bytes.items ≡ m.bytes = ap (λ (p : Paged). p.bytes) (c.self.view_is ∙ c.keep_few.ensures.value) in
    let new : List ℕ = xored (take 64 (drop at s.bytes.items)) c.args.block.now in
    let old : length (take 64 (drop at s.bytes.items)) ≡ 64
    = length-take-le 64 (drop at s.bytes.items) (omega (arith, length-drop at s.bytes.items, ap length same, c.requires)) in
    let long : length new ≡ 64 = length-zip2 _ (take 64 (drop at s.bytes.items)) c.args.block.now (omega (arith, old)) ∙ old in
    let put : c.xor_at.new.bytes.items ≡ take at s.bytes.items ++ (new ++ drop (at + 64) s.bytes.items)
    = c.xor_at.ensures.value ∙ ap (λ n. take at s.bytes.items ++ (new ++ drop (at + n) s.bytes.items)) long in
    let after =
    after_write m s.bytes.items c.xor_at.new.bytes.items s.originals.items new s.written.items s.touched.items s.places.items s.dirty.items
    _ _ s.copies at 64 long c.requires c.keep_few.ensures.rules c.self.invariant (c.self.view_is ∙ c.keep_few.ensures.value) put in
    after.stored

pub returns-clause-value : goal.returns-clause-value
returns-clause-value c =
    let s = c.self.inside in
    let m = c.args.self.now in
    let at = c.args.at in
    let same : s.bytes.items ≡ m.bytes = ap (λ (p : Paged). p.bytes) (c.self.view_is ∙ c.keep_few.ensures.value) in
    let new : List ℕ = xored (take 64 (drop at s.bytes.items)) c.args.block.now in
    let old : length (take 64 (drop at s.bytes.items)) ≡ 64
    = length-take-le 64 (drop at s.bytes.items) (omega (arith, length-drop at s.bytes.items, ap length same, c.requires)) in
    let long : length new ≡ 64 = length-zip2 _ (take 64 (drop at s.bytes.items)) c.args.block.now (omega (arith, old)) ∙ old in
    let put : c.xor_at.new.bytes.items ≡ take at s.bytes.items ++ (new ++ drop (at + 64) s.bytes.items)
    = c.xor_at.ensures.value ∙ ap (λ n. take at s.bytes.items ++ (new ++ drop (at + n) s.bytes.items)) long in
    let after =
    after_write m s.bytes.items c.xor_at.new.bytes.items s.originals.items new s.written.items s.touched.items s.places.items s.dirty.items
    _ _ s.copies at 64 long c.requires c.keep_few.ensures.rules c.self.invariant (c.self.view_is ∙ c.keep_few.ensures.value) put in
    after.value
    ∙ ap (λ n. with_written m at 64 (take at m.bytes ++ (new ++ drop (at + n) m.bytes))) (sym long)
    ∙ ap (λ (l : List ℕ). with_written m at 64 (with_bytes m.bytes at (xored (take 64 (drop at l)) c.args.block.now))) same
