-- There are more places, of pages that aren't kept.
use Rattle.std.proofs.Common.{ℕ, List, Option, None, get_or, ap, ◌∙◌, arith}
use Rattle.full_text.specs.declared.kept.KeptPages.TheInside.{Inside}
use Rattle.full_text.proofs.KeptLemmas.{more-seen, same-seen}
use Rattle.full_text.proofs.kept.KeptPages.reserve.Goals.{then-len-pages+in_ok-resize, else-len-pages}
use Rattle.full_text.proofs.kept.KeptPages.reserve.Goals as goal

pub returns-clause-same : goal.returns-clause-same
returns-clause-same c =
    let a = c.self.inside in
    let view = λ (page : ℕ). ap (λ (kept : List (Option (List ℕ))). get_or kept page None) c.self.view_is in
    elim c.if-len-pages.branch [
      | then-len-pages+in_ok-resize w ↦
          λ page. more-seen a.bytes.items c.reserve.new.list.items a.places.items c.if-len-pages.self-inside.places.items _ _ page
          (c.reserve.ensures.items ∙ ap (λ (b : Inside). b.bytes.items) w.self-inside-is)
          (ap (λ (b : Inside). b.places.items) w.self-inside-is ∙ w.in_ok-resize.ensures.items)
          (omega (arith, c.len.ensures, w.if-len-pages.true)) ∙ view page
      | else-len-pages w ↦
          λ page. same-seen a.bytes.items c.reserve.new.list.items a.places.items c.if-len-pages.self-inside.places.items page
          (c.reserve.ensures.items ∙ ap (λ (b : Inside). b.bytes.items) w.self-inside-is)
          (ap (λ (b : Inside). b.places.items) w.self-inside-is) ∙ view page
    ]
