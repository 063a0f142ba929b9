use Rattle.std.proofs.{Common.{◌≡◌, ◌<◌, ◌+◌, ℕ, true, length, sym, ap, ◌∙◌, subst, arith}, lemmas.List.get_or_read}
use Rattle.paged_memory.specs.Pages.{Paged, is_written}
use Rattle.paged_memory.specs.laws.Flags.{length-flagged}
use Rattle.paged_memory.proofs.SeenLemmas.{KeptBelow, one_below}
use Rattle.paged_memory.proofs.{SeenLemmas.one_kept_below, memory.Memory.keep_pages.Goals.{then-not-index, else-not-index}}
use Rattle.paged_memory.proofs.memory.Memory.keep_pages.Goals as goal

pub loop-page-preserved : goal.loop-page-preserved
loop-page-preserved c =
    let m = c.args.self.now in
    let s = c.loop-page.self in
    let page : ℕ = c.loop-page.page in
    let view = c.self-in-loop-page.view_is in
    let within : page < length m.written = omega (arith, c.requires.within, c.loop-page-test.true) in
    let here : page < length c.self-in-loop-page.inside.written.items =
    omega (
      arith,
      within,
      ap (λ (p : Paged). length p.written) view,
      ap (λ (p : Paged). length p.written) c.loop-page.invariant.value,
      length-flagged m.written c.args.from page c.loop-page.auto.page (omega arith),
    ) in
    let flag : is_written s.written page ≡ c.index.result.now =
    sym (get_or_read c.self-in-loop-page.inside.written.items page c.index.result.now here c.index.ensures true
    ∙ ap (λ (p : Paged). is_written p.written page) view) in
    let Below : Paged → Type 0 = λ p. KeptBelow m p c.args.from (page + 1) in
    elim c.if-not-index.branch [
      | then-not-index w ↦
          subst Below (sym w.self-is)
          (one_kept_below m s w.keep_page.new.self c.args.from page c.loop-page.auto.page within (flag ∙ w.if-not-index.true)
          w.keep_page.ensures c.loop-page.invariant)
      | else-not-index w ↦
          subst Below (sym w.self-is)
          (one_below m s c.args.from page c.loop-page.auto.page within (flag ∙ w.if-not-index.false) c.loop-page.invariant)
    ]
