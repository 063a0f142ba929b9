use Rattle.std.proofs.Common.{◌∙◌, ◌-◌, ◌+◌, ◌%◌, ◌^◌, length, refl, sym, ap}
use Rattle.paged_memory.{specs.Pages.{Paged, written_pages}, proofs.SeenLemmas.after_write}
use Rattle.paged_memory.proofs.memory.Memory.write.Goals as goal

pub invariant_of-self : goal.invariant_of-self
invariant_of-self c =
    let s = c.self.inside in
    let after =
    after_write c.args.self.now s.bytes.items c.put.new.bytes.items s.originals.items c.args.from.now s.written.items s.touched.items
    s.places.items s.dirty.items _ _ s.copies c.args.at (length c.args.from.now) refl c.requires c.keep.ensures.rules c.self.invariant
    (c.self.view_is ∙ c.keep.ensures.value) c.put.ensures.value in
    after.stored

pub returns : goal.returns
returns c =
    let s = c.self.inside in
    let m = c.args.self.now in
    let after =
    after_write m s.bytes.items c.put.new.bytes.items s.originals.items c.args.from.now s.written.items s.touched.items s.places.items
    s.dirty.items _ _ s.copies c.args.at (length c.args.from.now) refl c.requires c.keep.ensures.rules c.self.invariant
    (c.self.view_is ∙ c.keep.ensures.value) c.put.ensures.value in
    record {
      value = after.value;
      size = ap (λ (p : Paged). length p.bytes) after.value ∙ after.size;
      pages = ap (λ (p : Paged). length p.written) after.value ∙ after.pages;
      copies = ap (λ (p : Paged). p.copies) after.value
          ∙ sym (ap (λ (p : Paged). (m.copies + (written_pages p.written - written_pages m.written)) % 2 ^ 64) after.value);
    }
