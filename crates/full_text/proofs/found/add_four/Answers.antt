-- Four pages in turn are found one after another.
use Rattle.std.proofs.Common.{◌+◌, get_or, refl, ap, arith}
use Rattle.full_text.specs.Full.{page_at}
use Rattle.full_text.proofs.SearchLemmas.{found-next}
use Rattle.full_text.proofs.found.add_four.Goals as goal

pub returns-clause-pages : goal.returns-clause-pages
returns-clause-pages c =
    let found = found-next (page_at c.args.machine.now.settled c.args.kept.now) in
    let page = c.args.page in
    let masks = c.four_masks.ensures in
    let one = found page (page + 1) _ c.args.pages.now.items c.add_page.new.pages.items (ap (λ l. get_or l 0 0) masks) c.requires.so_far
    c.add_page.ensures.pages refl in
    let two = found (page + 1) (page + 2) _ c.add_page.new.pages.items c.add_page-2.new.pages.items (ap (λ l. get_or l 1 0) masks) one
    c.add_page-2.ensures.pages (omega arith) in
    let three = found (page + 2) (page + 3) _ c.add_page-2.new.pages.items c.add_page-3.new.pages.items (ap (λ l. get_or l 2 0) masks) two
    c.add_page-3.ensures.pages (omega arith) in
    found (page + 3) (page + 4) _ c.add_page-3.new.pages.items c.add_page-4.new.pages.items (ap (λ l. get_or l 3 0) masks) three
    c.add_page-4.ensures.pages (omega arith)
