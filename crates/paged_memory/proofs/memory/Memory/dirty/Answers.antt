use Rattle.std.proofs.{Common.{◌<◌, true, length, sym, ap, ◌∙◌, subst, arith}, lemmas.List.get_or_read}
use Rattle.paged_memory.{specs.Pages.{Paged, IsPaged, is_written}, proofs.StoredLemmas.paged}
use Rattle.paged_memory.proofs.memory.Memory.dirty.Goals as goal

pub returns-clause-same : goal.returns-clause-same
returns-clause-same c =
    let s = c.self.inside in
    let P : Paged → Type 0 = λ m. IsPaged m in
    let is = subst P c.self.view_is
    (paged s.bytes.items s.originals.items s.written.items s.touched.items s.places.items s.dirty.items _ _ s.copies c.self.invariant) in
    let here : c.args.page < length s.written.items =
    omega (arith, ap (λ (p : Paged). length p.bytes) c.self.view_is, c.requires, c.self.invariant.whole) in
    λ none. is.kept.same c.args.page
    (sym (get_or_read s.written.items c.args.page c.index.result.now here c.index.ensures true
    ∙ ap (λ (p : Paged). is_written p.written c.args.page) c.self.view_is) ∙ none)
