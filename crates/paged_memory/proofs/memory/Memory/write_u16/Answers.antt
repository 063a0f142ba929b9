use Rattle.std.proofs.Common.{◌∙◌, length, refl, ap}
use Rattle.paged_memory.{specs.Pages.Paged, proofs.SeenLemmas.after_number}
use Rattle.paged_memory.proofs.memory.Memory.write_u16.Goals as goal

pub invariant_of-self : goal.invariant_of-self
invariant_of-self c =
    let s = c.self.inside in
    let after =
    after_number c.args.self.now s.bytes.items c.put_u16.new.bytes.items s.originals.items s.written.items s.touched.items s.places.items
    s.dirty.items _ _ s.copies c.args.at 2 c.args.value refl c.requires c.keep_few.ensures.rules c.self.invariant
    (c.self.view_is ∙ c.keep_few.ensures.value) c.put_u16.ensures.value in
    after.stored

pub returns : goal.returns
returns c =
    let s = c.self.inside in
    let after =
    after_number c.args.self.now s.bytes.items c.put_u16.new.bytes.items s.originals.items s.written.items s.touched.items s.places.items
    s.dirty.items _ _ s.copies c.args.at 2 c.args.value refl c.requires c.keep_few.ensures.rules c.self.invariant
    (c.self.view_is ∙ c.keep_few.ensures.value) c.put_u16.ensures.value in
    record {
      value = after.value;
      size = ap (λ (p : Paged). length p.bytes) after.value ∙ after.size;
      pages = ap (λ (p : Paged). length p.written) after.value ∙ after.pages;
    }
