use Rattle.std.proofs.Common.{◌≡◌, ◌*◌, ℕ, [], false, length, replicate, arith, ap, ◌∙◌}
use Rattle.std.proofs.lemmas.List.{length-replicate}
use Rattle.paged_memory.specs.Pages.{Paged, boot_bytes}
use Rattle.paged_memory.proofs.SeenLemmas.{seen_at_boot}
use Rattle.paged_memory.proofs.memory.Memory.clear.Goals as goal

pub returns : goal.returns
returns c =
    let s = c.self.inside in
    let n : ℕ = length c.args.self.now.written in
    let flags : s.written.items ≡ replicate n false = ap (λ (m : Paged). m.written) (c.self.view_is ∙ c.settle.ensures.value) in
    let size : length s.bytes.items ≡ 4096 * n = omega (arith, c.self.invariant.whole, ap length flags, length-replicate n false) in
    let bytes : c.clear_pages.new.bytes.items ≡ boot_bytes n [] =
    c.clear_pages.ensures.bytes ∙ ap (λ (k : ℕ). replicate {A = ℕ} k 0) (omega (arith, size)) in
    let long : length c.clear_pages.new.bytes.items ≡ 4096 * n =
    omega (arith, ap length c.clear_pages.ensures.bytes, length-replicate {A = ℕ} (length s.bytes.items) 0, size) in
    seen_at_boot c.clear_pages.new.bytes.items s.originals.items (boot_bytes n []) s.written.items s.places.items n long bytes flags
