use Rattle.std.proofs.Common.{◌≡◌, ◌≤◌, ◌<◌, ◌*◌, ◌^◌, length, sym, ap, ◌∙◌, subst, arith}
use Rattle.paged_memory.specs.Pages.{Paged, IsPaged, with_flags}
use Rattle.paged_memory.specs.laws.Flags.{marked_some}
use Rattle.paged_memory.proofs.StoredLemmas.{paged}
use Rattle.paged_memory.proofs.SeenLemmas.{nothing_kept}
use Rattle.paged_memory.proofs.memory.Memory.keep.Goals as goal

pub returns-then-count-gt0 : goal.returns-then-count-gt0
returns-then-count-gt0 c =
    let s = c.self.inside in
    let P : Paged → Type 0 = λ m. IsPaged m in
    record {
      value = c.keep_pages.ensures
          ∙ ap (with_flags c.args.self.now) (sym (marked_some c.args.self.now.written c.args.at c.args.count c.if-count-gt0.true));
      rules = subst P c.self.view_is
          (paged s.bytes.items s.originals.items s.written.items s.touched.items s.places.items s.dirty.items _ _ s.copies
          c.self.invariant);
    }

pub returns-else-count-gt0 : goal.returns-else-count-gt0
returns-else-count-gt0 c =
    let s = c.self.inside in
    let m = c.args.self.now in
    let P : Paged → Type 0 = λ m. IsPaged m in
    let rules = subst P c.self.view_is
    (paged s.bytes.items s.originals.items s.written.items s.touched.items s.places.items s.dirty.items _ _ s.copies c.self.invariant) in
    let count : s.copies ≡ m.copies = ap (λ (p : Paged). p.copies) c.self.view_is in
    let small : m.copies < 2 ^ 64 = omega (arith, c.self.invariant.small) in
    let within : c.args.at ≤ 4096 * length m.written = omega (arith, c.requires, rules.whole) in
    record { value = nothing_kept m c.args.at c.args.count (omega arith) within small; rules = rules }
