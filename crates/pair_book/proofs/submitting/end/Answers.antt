use Rattle.std.proofs.Common.{◌+◌, ◌<◌, length, sym, ap, ◌∙◌, subst}
use Rattle.frame_ports.specs.Ports.{PortsState}
use Rattle.frame_ports.specs.Limits.{number_limit}
use Rattle.pair_record.specs.Journal.{all_entries}
use Rattle.pair_record.specs.Protocol.{Record, Outcome, first_refusal}
use Rattle.pair_book.specs.declared.runner.Kind.{Kind}
use Rattle.pair_book.specs.Submitting.{ended_rows, most_handed}
use Rattle.pair_book.proofs.SubmitEnds.{sealed-few, entered-few, landed-long}
use Rattle.pair_book.proofs.submitting.end.Goals as goal

pub returns-in-Ok-clause-boxes : goal.returns-in-Ok-clause-boxes
returns-in-Ok-clause-boxes c =
    let p = c.args.pair.now in
    ap (λ (q : PortsState). length q.boxes) c.in-Ok.ensures.ports
    ∙ landed-long p.protocol p.ports c.args.epoch.arrivals c.args.epoch.steps c.args.frames.now

pub returns-in-Ok-clause-numbers : goal.returns-in-Ok-clause-numbers
returns-in-Ok-clause-numbers c =
    let p = c.args.pair.now in
    let free = ap (λ (k : Kind). first_refusal (ended_rows k c.args.epoch.steps c.args.frames.now p.protocol p.ports)) (sym c.in-Nothing.is)
    ∙ c.requires.free in
    let few = entered-few p.protocol p.ports c.args.epoch.arrivals c.args.epoch.steps c.args.frames.now free in
    subst (λ (r : Record). length (all_entries r.journal) + most_handed p.ports < number_limit) (sym c.in-Ok.ensures.protocol) few

pub returns-in-Ok-seal_epoch-clause-numbers : goal.returns-in-Ok-seal_epoch-clause-numbers
returns-in-Ok-seal_epoch-clause-numbers c =
    let p = c.args.pair.now in
    let free = ap (λ (k : Kind). first_refusal (ended_rows k c.args.epoch.steps c.args.frames.now p.protocol p.ports)) (sym c.in-Delta.is)
    ∙ c.requires.free in
    let few = sealed-few p.protocol p.ports c.args.epoch.arrivals c.args.epoch.steps c.args.frames.now free in
    subst (λ (r : Record). length (all_entries r.journal) + most_handed p.ports < number_limit)
    (sym (ap (λ (o : Outcome). o.1) c.in-Ok-seal_epoch.ensures.ok)) few

pub returns-in-Ok-enter_epoch_and_seal_full-clause-boxes : goal.returns-in-Ok-enter_epoch_and_seal_full-clause-boxes
returns-in-Ok-enter_epoch_and_seal_full-clause-boxes c =
    let p = c.args.pair.now in
    ap (λ (q : PortsState). length q.boxes) c.in-Ok-enter_epoch_and_seal_full.ensures.ports
    ∙ landed-long p.protocol p.ports c.args.epoch.arrivals c.args.epoch.steps c.args.frames.now

pub returns-in-Ok-enter_epoch_and_seal_full-clause-numbers : goal.returns-in-Ok-enter_epoch_and_seal_full-clause-numbers
returns-in-Ok-enter_epoch_and_seal_full-clause-numbers c =
    let p = c.args.pair.now in
    let free = ap (λ (k : Kind). first_refusal (ended_rows k c.args.epoch.steps c.args.frames.now p.protocol p.ports)) (sym c.in-Full.is)
    ∙ c.requires.free in
    let few = entered-few p.protocol p.ports c.args.epoch.arrivals c.args.epoch.steps c.args.frames.now free in
    subst (λ (r : Record). length (all_entries r.journal) + most_handed p.ports < number_limit)
    (sym (ap (λ (o : Outcome). o.1) c.in-Ok-enter_epoch_and_seal_full.ensures.ok)) few
