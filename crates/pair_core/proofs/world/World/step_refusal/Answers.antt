use Rattle.std.proofs.Common.{◌∙◌, List, ap}
use Rattle.guest_rules.specs.Step.{next, sent}
use Rattle.pair_history.specs.Entries.{Frame}
use Rattle.pair_record.specs.Protocol.{first_refusal, step_refusals, step_done, step_outcome}
use Rattle.pair_core.specs.internal.WorldFields.{pair_of}
use Rattle.pair_core.specs.laws.Outcomes.{refused_if_one_refuses, step_sees_the_pair}
use Rattle.pair_core.proofs.world.World.step_refusal.Goals as goal

pub returns-clause-refused : goal.returns-clause-refused
returns-clause-refused c =
    let w = pair_of c.self.inside in
    rw (← c.self.view_is) (refused_if_one_refuses w.protocol.state (step_refusals w.nodes.live.outbox w.protocol.state) (step_done w.ports.boxes (sent
    w.nodes.live.guest) (next w.nodes.live.guest).steps w.protocol.state) (step_outcome w.start w.protocol.state) c.step_refusal.result
    (c.step_refusal.ensures ∙ ap (λ (fs : List Frame). first_refusal (step_refusals fs w.protocol.state)) c.outbox.ensures.value) (step_sees_the_pair w
    c.self.invariant))
