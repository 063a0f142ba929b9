use Rattle.std.proofs.Common.{◌≡◌, ℕ, []}
use Rattle.hypervisor.specs.Clients.{own}
use Rattle.hypervisor.specs.Opening.{new_client}
use Rattle.pair_threads.specs.Runs.{IsRunFrom}
use Rattle.pair_threads.specs.declared.file_run.Played.{Played}
use Rattle.pair_threads.specs.internal.Scripts.{AreScripts, HasEnded, HasEndedUntold, IsUntold}
use Rattle.pair_threads.proofs.RunLemmas.{ended-run, if-had, if-refused, of-had, untold-run}
use Rattle.pair_threads.proofs.file_run.play_named.Goals as goal

pub returns-clause-told : goal.returns-clause-told
returns-clause-told g c =
    let start = g.P.Pair.start in
    let lines = c.args.lines.items in
    let epochs = c.args.epochs in
    let made = c.assign.result in
    let assigned = c.in-Some.assigned in
    let scripts = assigned.scripts.items in
    let ended = c.in-Ok.ended.sessions.items in
    let is = c.in-Some.ensures.1 in
    let unseen = of-had made assigned (λ _. (n : ℕ) → own start (new_client n) ≡ []) is c.assign.ensures.unseen in
    let are = of-had made assigned (λ a. AreScripts lines a.scripts.items) is c.assign.ensures.scripts in
    if-had c.told.result (λ (p : Played). HasEnded start ended epochs p.clients.items p.entries p.is_whole)
    (λ (p : Played). IsRunFrom start lines epochs p.clients.items p.entries p.is_whole)
    (λ p has. ended-run start unseen lines scripts ended epochs p.clients.items p.entries p.is_whole are c.in-Ok.ensures has)
    c.told.ensures.told

pub returns-clause-why : goal.returns-clause-why
returns-clause-why g c =
    let start = g.P.Pair.start in
    let lines = c.args.lines.items in
    let made = c.assign.result in
    let assigned = c.in-Some.assigned in
    let scripts = assigned.scripts.items in
    let ended = c.in-Ok.ended.sessions.items in
    let is = c.in-Some.ensures.1 in
    let unseen = of-had made assigned (λ _. (n : ℕ) → own start (new_client n) ≡ []) is c.assign.ensures.unseen in
    let are = of-had made assigned (λ a. AreScripts lines a.scripts.items) is c.assign.ensures.scripts in
    if-refused c.told.result (HasEndedUntold start ended) (IsUntold start lines)
    (λ why has. untold-run start unseen lines scripts ended why are c.in-Ok.ensures has) c.told.ensures.why
