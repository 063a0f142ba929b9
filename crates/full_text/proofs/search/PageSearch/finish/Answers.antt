-- Its pages are the memory's.
use Rattle.std.proofs.Common.{◌≡◌, length, sym, ap, ◌∙◌, subst, arith}
use Rattle.full_text.specs.Full.{AreIn, Making, Searching, page_at}
use Rattle.full_text.specs.UsedPages.{used_pages}
use Rattle.full_text.proofs.SearchLemmas.{used-in}
use Rattle.full_text.proofs.search.PageSearch.finish.Goals as goal

pub returns-clause-pages : goal.returns-clause-pages
returns-clause-pages c = λ ram fits.
    let s = c.args.self in
    let is : c.from_parts.result.pages ≡ used_pages (page_at ram s.kept) s.pages =
    ap (λ (f : Making). f.pages) c.from_parts.ensures
    ∙ ap (λ (a : Searching). a.found) c.self.view_is
    ∙ fits.found
    ∙ ap (used_pages (page_at ram s.kept)) c.requires in
    subst (AreIn (length ram)) (sym is) (used-in (page_at ram s.kept) s.pages (length ram) (omega (arith, fits.size)))
