use Rattle.std.proofs.{Common.{◌≡◌, ◌<◌, ◌≤◌, ◌+◌, ◌*◌, true, length, List, ℕ, sym, ap, ◌∙◌, arith}, lemmas.List.get_or_read}
use Rattle.paged_memory.{specs.Pages.{Paged, page_of}, proofs.StoredLemmas.{length-settled, original_fits, page_kept, page_unkept}}
use Rattle.paged_memory.proofs.memory.Memory.original.Goals as goal

pub page_at-requires : goal.page_at-requires
page_at-requires c =
    let s = c.self.inside in
    let w = s.written.items in
    let p = s.places.items in
    let size : length s.bytes.items ≡ length c.args.self.now.bytes = ap (λ (p : Paged). length p.bytes) c.self.view_is in
    let here : c.args.page < length w = omega (arith, size, c.requires, c.self.invariant.whole) in
    let flag = sym (get_or_read w c.args.page c.index.result.now here c.index.ensures true) ∙ c.if-index.true in
    let place =
    get_or_read p c.args.page c.index-then-index.result.now (omega (arith, here, c.self.invariant.numbered)) c.index-then-index.ensures
    0 in
    omega (
      arith,
      place,
      original_fits s.bytes.items s.originals.items w s.touched.items p s.dirty.items _ _ s.copies c.args.page c.self.invariant here flag,
    )

pub returns-then-index : goal.returns-then-index
returns-then-index c =
    let s = c.self.inside in
    let w = s.written.items in
    let p = s.places.items in
    let size : length s.bytes.items ≡ length c.args.self.now.bytes = ap (λ (p : Paged). length p.bytes) c.self.view_is in
    let fits : 4096 * c.args.page + 4096 ≤ length s.bytes.items = omega (arith, c.requires) in
    let here : c.args.page < length w = omega (arith, c.self.invariant.whole) in
    let flag = sym (get_or_read w c.args.page c.index.result.now here c.index.ensures true) ∙ c.if-index.true in
    let place =
    get_or_read p c.args.page c.index-then-index.result.now (omega (arith, here, c.self.invariant.numbered)) c.index-then-index.ensures
    0 in
    let placed = original_fits s.bytes.items s.originals.items w s.touched.items p s.dirty.items _ _ s.copies c.args.page c.self.invariant
    here flag in
    record {
      value = c.page_at.ensures
          ∙ ap (λ (x : List ℕ). page_of x c.index-then-index.result.now) c.as_slice.ensures.value
          ∙ ap (λ (k : ℕ). page_of s.originals.items k) place
          ∙ sym (page_kept s.bytes.items s.originals.items w p c.args.page fits placed flag)
          ∙ ap (λ (p : Paged). page_of p.settled c.args.page) c.self.view_is;
      size = sym (ap (λ (p : Paged). length p.settled) c.self.view_is) ∙ length-settled s.bytes.items s.originals.items w p ∙ size;
    }

pub returns-else-index : goal.returns-else-index
returns-else-index c =
    let s = c.self.inside in
    let w = s.written.items in
    let p = s.places.items in
    let size : length s.bytes.items ≡ length c.args.self.now.bytes = ap (λ (p : Paged). length p.bytes) c.self.view_is in
    let fits : 4096 * c.args.page + 4096 ≤ length s.bytes.items = omega (arith, c.requires) in
    let here : c.args.page < length w = omega (arith, c.self.invariant.whole) in
    let flag = sym (get_or_read w c.args.page c.index.result.now here c.index.ensures true) ∙ c.if-index.false in
    record {
      value = c.page_at-else-index.ensures
          ∙ ap (λ (x : List ℕ). page_of x c.args.page) c.as_slice-else-index.ensures.value
          ∙ sym (page_unkept s.bytes.items s.originals.items w p c.args.page fits flag)
          ∙ ap (λ (p : Paged). page_of p.settled c.args.page) c.self.view_is;
      size = sym (ap (λ (p : Paged). length p.settled) c.self.view_is) ∙ length-settled s.bytes.items s.originals.items w p ∙ size;
    }
