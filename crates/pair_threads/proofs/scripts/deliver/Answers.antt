use Rattle.std.proofs.Common.{◌≡◌, ℕ, List, length, false, subst}
use Rattle.pair_record.specs.Protocol.{is_bad_length}
use Rattle.hypervisor.specs.Refusals.{MayRefuseDelivery}
use Rattle.pair_history.specs.Entries as entries
use Rattle.hypervisor.specs.Clients.{Calls, RefusesDelivery}
use Rattle.pair_threads.proofs.ToldLemmas.{called, not-delivered}
use Rattle.pair_threads.proofs.scripts.deliver.Goals as goal

pub returns-in-Ok : goal.returns-in-Ok
returns-in-Ok g c =
    let start = g.P.Pair.start in
    let old = c.args.client.now in
    let new = c.deliver.new.self in
    let call =
    subst (λ (bytes : List ℕ). Calls start (entries.Delivered old.number (record { items = bytes }) c.in-Ok.number) old new)
    c.as_slice.ensures.value c.in-Ok.ensures.done in
    record {
      number = call.number;
      may = subst (λ (bytes : List ℕ). is_bad_length (length bytes) ≡ false) c.as_slice.ensures.value c.in-Ok.ensures.frame;
      own = called start (entries.Delivered old.number (record { items = c.args.bytes.now.items }) c.in-Ok.number) old new call;
    }

pub returns-in-Err : goal.returns-in-Err
returns-in-Err g c =
    let start = g.P.Pair.start in
    let old = c.args.client.now in
    let new = c.deliver.new.self in
    not-delivered start old new c.args.bytes.now c.in-Err.why
    (subst (λ (bytes : List ℕ). MayRefuseDelivery bytes c.in-Err.why) c.as_slice.ensures.value c.in-Err.ensures.why)
    (subst (λ (bytes : List ℕ). RefusesDelivery start (record { items = bytes }) c.in-Err.why old new) c.as_slice.ensures.value
    c.in-Err.ensures.refused)
