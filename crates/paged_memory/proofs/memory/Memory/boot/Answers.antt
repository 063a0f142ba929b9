use Rattle.std.proofs.Common.{◌≡◌, ◌+◌, ◌-◌, ◌*◌, ◌/◌, ◌≤◌, ◌++◌, ℕ, true, false, length, replicate, arith, rules}
use Rattle.std.proofs.lemmas.Grind.{common_steps}
use Rattle.paged_memory.{specs.{Pages.boot_bytes, Stored.AreUntouched}, proofs.SeenLemmas.seen_at_boot}
use Rattle.paged_memory.proofs.{StoredLemmas.stored_afresh, UntouchedLemmas.{length_reached, untouched_at_boot}}
use Rattle.paged_memory.proofs.memory.Memory.boot.Goals as goal

pub invariant_of-result : goal.invariant_of-result
invariant_of-result c =
    let n = c.args.pages in
    let k : ℕ = (length c.args.image.now + 4096 - 1) / 4096 in
    let bytes : c.resize.new.list.items ≡ boot_bytes n c.args.image.now = grind (arith, common_steps) in
    let flags : c.resize-3.new.list.items ≡ replicate n false = grind (arith, common_steps) in
    let touched : c.in_ok-touched.touched.items ≡ replicate k true ++ replicate (n - k) false = grind (arith, common_steps) in
    let long : length c.resize.new.list.items ≡ 4096 * n = search rules in
    let numbered : length c.resize-2.new.list.items ≡ n = search rules in
    let within : k ≤ n = omega (arith, c.requires.fits) in
    let untouched : AreUntouched c.resize.new.list.items c.resize-3.new.list.items c.in_ok-touched.touched.items =
    untouched_at_boot c.resize.new.list.items c.args.image.now c.resize-3.new.list.items c.in_ok-touched.touched.items n k bytes flags
    touched (omega arith) within in
    stored_afresh c.resize.new.list.items c.in_ok-originals.originals.items c.resize-3.new.list.items c.in_ok-touched.touched.items
    c.resize-2.new.list.items c.in_ok-dirty.dirty.items n _ _ 0 long c.requires.some c.requires.most c.in_ok-originals.ensures.items flags
    numbered c.in_ok-dirty.ensures.items (omega (arith, c.in_ok-originals.ensures.capacity))
    (omega (arith, c.in_ok-dirty.ensures.capacity)) (omega arith)
    (length_reached c.in_ok-touched.touched.items n k touched within) untouched

pub returns : goal.returns
returns c =
    let n = c.args.pages in
    let bytes : c.resize.new.list.items ≡ boot_bytes n c.args.image.now = grind (arith, common_steps) in
    let flags : c.resize-3.new.list.items ≡ replicate n false = grind (arith, common_steps) in
    let long : length c.resize.new.list.items ≡ 4096 * n = search rules in
    seen_at_boot c.resize.new.list.items c.in_ok-originals.originals.items (boot_bytes n c.args.image.now)
    c.resize-3.new.list.items c.resize-2.new.list.items n long bytes flags
