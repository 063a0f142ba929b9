use Rattle.std.proofs.Common.{subst}
use Rattle.paged_memory.{specs.Pages.{Paged, IsPaged}, proofs.StoredLemmas.paged}
use Rattle.paged_memory.proofs.memory.Memory.size.Goals as goal

pub returns-clause-rules : goal.returns-clause-rules
returns-clause-rules c =
    let s = c.self.inside in
    let P : Paged → Type 0 = λ m. IsPaged m in
    subst P c.self.view_is
    (paged s.bytes.items s.originals.items s.written.items s.touched.items s.places.items s.dirty.items _ _ s.copies c.self.invariant)
