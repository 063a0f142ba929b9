-- The page stands behind the others.
use Rattle.std.proofs.Common.{ℕ, List, Option, Some, set, ap, ◌∙◌, arith}
use Rattle.full_text.proofs.KeptLemmas.{kept-put}
use Rattle.full_text.proofs.kept.KeptPages.keep.Goals as goal

pub returns-clause-done : goal.returns-clause-done
returns-clause-done c =
    let a = c.self.inside in
    let page = c.args.bytes.now in
    kept-put a.bytes.items page c.extend_from_slice.new.list.items a.places.items c.args.page c.len-place.result c.self.invariant
    (omega (arith, c.len-place.ensures)) (omega arith) c.in_ok-extend_from_slice.ensures.items
    ∙ ap (λ (kept : List (Option (List ℕ))). set kept c.args.page (Some page)) c.self.view_is
