use Rattle.std.proofs.{Common.{◌≡◌, ◌<◌, ◌+◌, ◌%◌, ◌^◌, ◌++◌, ℕ, List, Bool, false, length, ap, ◌∙◌, arith}, Math.{ListN.set, Nat.mod-lt}}
use Rattle.paged_memory.specs.Pages.{Paged, page_of, is_written}
use Rattle.paged_memory.proofs.{StoredLemmas.{room_for_one, room_for_original, stored_by_keep}, SeenLemmas.seen_by_keep}
use Rattle.paged_memory.proofs.memory.Memory.keep_page.Goals as goal

pub append-requires : goal.append-requires
append-requires c =
    let s = c.self.inside in
    let flags : s.written.items ≡ c.args.self.now.written = ap (λ (p : Paged). p.written) c.self.view_is in
    let none : is_written s.written.items c.args.page ≡ false =
    ap (λ (x : List Bool). is_written x c.args.page) flags ∙ c.requires.unwritten in
    let here : c.args.page < length s.written.items = omega (arith, ap length flags, c.requires.inside) in
    omega (
      arith,
      room_for_original s.bytes.items s.originals.items s.written.items s.touched.items s.places.items s.dirty.items _ _ s.copies
          c.args.page none
          c.self.invariant,
      s.originals.ok,
    )

pub push_reserved-requires : goal.push_reserved-requires
push_reserved-requires c =
    let s = c.self.inside in
    let flags : s.written.items ≡ c.args.self.now.written = ap (λ (p : Paged). p.written) c.self.view_is in
    let none : is_written s.written.items c.args.page ≡ false =
    ap (λ (x : List Bool). is_written x c.args.page) flags ∙ c.requires.unwritten in
    omega (
      arith,
      room_for_one s.bytes.items s.originals.items s.written.items s.touched.items s.places.items s.dirty.items _ _ s.copies c.args.page
          none
          c.self.invariant,
      s.dirty.ok,
    )

pub invariant_of-self : goal.invariant_of-self
invariant_of-self c =
    let s = c.self.inside in
    let flags : s.written.items ≡ c.args.self.now.written = ap (λ (p : Paged). p.written) c.self.view_is in
    let none : is_written s.written.items c.args.page ≡ false =
    ap (λ (x : List Bool). is_written x c.args.page) flags ∙ c.requires.unwritten in
    let here : c.args.page < length s.written.items = omega (arith, ap length flags, c.requires.inside) in
    let more : ℕ = (s.copies + 1) % 2 ^ 64 in
    let place : c.len.result ≡ length s.dirty.items = omega (arith, c.len.ensures, s.dirty.ok) in
    stored_by_keep s.bytes.items s.originals.items c.append.new.into.items s.written.items s.touched.items s.places.items _ s.dirty.items
    c.push_reserved.new.self.items _ _ _ _ s.copies more c.args.page here none
    (c.append.ensures.items ∙ ap (λ (x : List ℕ). s.originals.items ++ page_of x c.args.page) c.deref.ensures.value)
    (ap (λ (k : ℕ). set s.places.items c.args.page k) place)
    c.push_reserved.ensures.items c.append.ensures.capacity c.push_reserved.ensures.capacity
    (mod-lt (s.copies + 1) (omega arith)) c.self.invariant

pub returns : goal.returns
returns c =
    let s = c.self.inside in
    let flags : s.written.items ≡ c.args.self.now.written = ap (λ (p : Paged). p.written) c.self.view_is in
    let none : is_written s.written.items c.args.page ≡ false =
    ap (λ (x : List Bool). is_written x c.args.page) flags ∙ c.requires.unwritten in
    let here : c.args.page < length s.written.items = omega (arith, ap length flags, c.requires.inside) in
    let place : c.len.result ≡ length s.dirty.items = omega (arith, c.len.ensures, s.dirty.ok) in
    seen_by_keep c.args.self.now s.bytes.items s.originals.items c.append.new.into.items s.written.items s.touched.items s.places.items _
    s.dirty.items _ _ s.copies c.args.page c.self.invariant c.self.view_is here none
    (c.append.ensures.items ∙ ap (λ (x : List ℕ). s.originals.items ++ page_of x c.args.page) c.deref.ensures.value)
    (ap (λ (k : ℕ). set s.places.items c.args.page k) place)
