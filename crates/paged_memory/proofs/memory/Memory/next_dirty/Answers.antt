use Rattle.std.proofs.Common.{◌≡◌, ℕ, List, ◌∙◌, length, sym, ap, subst, arith}
use Rattle.paged_memory.{specs.{Listed.IsLeast, Pages.Paged}, proofs.SeenLemmas.{IsNext, next_is}}
use Rattle.paged_memory.proofs.memory.Memory.next_dirty.Goals as goal

pub least_from-requires : goal.least_from-requires
least_from-requires c = omega (arith, c.requires, c.pages.ensures.bytes)

pub returns : goal.returns
returns c =
    let s = c.self.inside in
    let end : c.pages.result ≡ length s.written.items =
    c.pages.ensures.value ∙ sym (ap (λ (p : Paged). length p.written) c.self.view_is) in
    let Least : List ℕ → Type 0 = λ xs. IsLeast xs c.args.from c.pages.result (length xs) c.least_from.result in
    let least : Least s.dirty.items = subst Least c.as_slice.ensures.value c.least_from.ensures in
    let Next : Paged → Type 0 = λ p. IsNext p c.args.from c.least_from.result in
    let next : Next c.args.self.now =
    subst Next c.self.view_is
    (next_is s.bytes.items s.originals.items s.written.items s.touched.items s.places.items s.dirty.items _ _ s.copies c.args.from
    c.pages.result c.least_from.result end c.self.invariant least) in
    record {
      first = least.first;
      last = omega (arith, least.last, c.pages.ensures.bytes);
      here = next.here;
      before = next.before;
    }
