use Rattle.std.proofs.Common.{◌≡◌, ◌∙◌, List, refl, subst, sym}
use Rattle.std.proofs.lemmas.Result.{err_from_is_err_and}
use Rattle.hypervisor.specs.Clients.{ClientState}
use Rattle.hypervisor.specs.Looking.{SeeAll}
use Rattle.pair_threads.proofs.file_run.told.Goals as goal

pub returns-clause-told : goal.returns-clause-told
returns-clause-told g c =
    let finds = c.in_ok-found.ensures.first in
    let all = finds.looked.all in
    let after = c.look_beside-found.new.clients.items in
    let listed = c.in-Ok.ensures in
    record {
      all = all;
      found = c.in_ok-found.found;
      has = finds.looked.has;
      unmarked = finds.unmarked;
      looked = after;
      see = subst (λ (cs : List ClientState). SeeAll g.P.Pair.start all cs after) listed.clients finds.looked.see;
      answered = listed.answered;
      count = refl;
      whole = c.is_whole_by.ensures;
    }

pub returns-in_err-found-clause-why : goal.returns-in_err-found-clause-why
returns-in_err-found-clause-why g c =
    let finds = c.in_err-found.ensures.later in
    let all = finds.looked.all in
    let after = c.look_beside-found.new.clients.items in
    let p = err_from_is_err_and c.from_residual.result c.from_residual.ensures.1 in
    rw (p.1, p.2)
    (record {
      all = all;
      found = finds.found;
      has = finds.looked.has;
      later = λ is. finds.later (sym finds.number ∙ is);
      looked = after;
      see = subst (λ (cs : List ClientState). SeeAll g.P.Pair.start all cs after) c.in-Ok.ensures.clients finds.looked.see;
    })
