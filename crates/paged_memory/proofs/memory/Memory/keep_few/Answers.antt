use Rattle.std.proofs.{lemmas.{Bool.true≢false, List.get_or_read}, Common.{◌≡◌, ◌≤◌, ◌<◌, ◌+◌, ◌-◌, ◌*◌, ◌/◌, ◌^◌, ℕ, ◌&&◌, List, Bool}}
use Rattle.std.proofs.Common.{true, false, length, refl, sym, ap, ◌∙◌, subst, arith}
use Rattle.paged_memory.specs.Pages.{Paged, IsPaged, is_written, with_flags}
use Rattle.paged_memory.specs.laws.Flags.{marked_some}
use Rattle.paged_memory.proofs.StoredLemmas.{paged}
use Rattle.paged_memory.proofs.SeenLemmas.{all_kept}
use Rattle.paged_memory.proofs.memory.Memory.keep_few.Goals as goal

pub returns-then-not-first_written-index : goal.returns-then-not-first_written-index
returns-then-not-first_written-index c =
    let s = c.self.inside in
    let P : Paged → Type 0 = λ m. IsPaged m in
    record {
      value = c.keep_pages.ensures
          ∙ ap (with_flags c.args.self.now) (sym (marked_some c.args.self.now.written c.args.at c.args.count c.requires.some));
      rules = subst P c.self.view_is
          (paged s.bytes.items s.originals.items s.written.items s.touched.items s.places.items s.dirty.items _ _ s.copies
          c.self.invariant);
    }

and_first : (a b : Bool) → (a && b) ≡ true → a ≡ true
and_first true b both = refl
and_first false b both = both

and_last : (a b : Bool) → (a && b) ≡ true → b ≡ true
and_last true b both = both
and_last false b both = absurd (true≢false (sym both))

pub returns-else-not-first_written-index : goal.returns-else-not-first_written-index
returns-else-not-first_written-index c =
    let s = c.self.inside in
    let m = c.args.self.now in
    let w = s.written.items in
    let P : Paged → Type 0 = λ m. IsPaged m in
    let rules = subst P c.self.view_is
    (paged s.bytes.items s.originals.items w s.touched.items s.places.items s.dirty.items _ _ s.copies c.self.invariant) in
    let count : s.copies ≡ m.copies = ap (λ (p : Paged). p.copies) c.self.view_is in
    let small : m.copies < 2 ^ 64 = omega (arith, c.self.invariant.small) in
    let within : c.args.at + c.args.count ≤ 4096 * length m.written = omega (arith, c.requires.within, rules.whole) in
    let flags : w ≡ m.written = ap (λ (p : Paged). p.written) c.self.view_is in
    let both = c.if-not-first_written-index.false in
    let last : ℕ = (c.args.at + c.args.count - 1) / 4096 in
    let first_flag : is_written m.written (c.args.at / 4096) ≡ true =
    sym (get_or_read w (c.args.at / 4096) c.index-first_written.result.now (omega (arith, ap length flags)) c.index-first_written.ensures
    true ∙ ap (λ (x : List Bool). is_written x (c.args.at / 4096)) flags)
    ∙ and_first c.index-first_written.result.now c.index.result.now both in
    let last_flag : is_written m.written last ≡ true =
    sym (get_or_read w last c.index.result.now (omega (arith, ap length flags)) c.index.ensures true
    ∙ ap (λ (x : List Bool). is_written x last) flags)
    ∙ and_last c.index-first_written.result.now c.index.result.now both in
    record { value = all_kept m c.args.at c.args.count c.requires.some c.requires.few within small first_flag last_flag; rules = rules }
