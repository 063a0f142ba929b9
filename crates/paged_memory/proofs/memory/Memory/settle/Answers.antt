use Rattle.std.proofs.Common.{arith}
use Rattle.paged_memory.proofs.{StoredLemmas.stored_by_settle, SeenLemmas.seen_by_settle}
use Rattle.paged_memory.proofs.memory.Memory.settle.Goals as goal

pub invariant_of-self : goal.invariant_of-self
invariant_of-self c =
    let s = c.self.inside in
    stored_by_settle s.bytes.items s.originals.items c.clear-2.new.self.items s.written.items c.clear_flags.new.flags.items s.touched.items
    s.places.items s.dirty.items c.clear.new.self.items _ _ _ _ s.copies c.clear_flags.ensures c.clear.ensures.items c.clear-2.ensures.items
    (omega (arith, c.clear-2.ensures.capacity)) c.clear.ensures.capacity c.self.invariant

pub returns-clause-value : goal.returns-clause-value
returns-clause-value c =
    let s = c.self.inside in
    seen_by_settle c.args.self.now s.bytes.items s.originals.items c.clear-2.new.self.items s.written.items
    c.clear_flags.new.flags.items s.places.items s.copies c.self.invariant.whole c.self.view_is c.clear_flags.ensures
