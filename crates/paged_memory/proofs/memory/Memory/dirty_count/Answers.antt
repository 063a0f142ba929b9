use Rattle.std.proofs.Common.{◌≡◌, ◌∙◌, length, ap, arith}
use Rattle.paged_memory.specs.Pages.{Paged, written_pages}
use Rattle.paged_memory.proofs.memory.Memory.dirty_count.Goals as goal

pub returns : goal.returns
returns c =
    let s = c.self.inside in
    let count : c.len.result ≡ length s.dirty.items = omega (arith, c.len.ensures, s.dirty.ok) in
    count ∙ c.self.invariant.count ∙ ap (λ (p : Paged). written_pages p.written) c.self.view_is
