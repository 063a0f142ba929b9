use Rattle.std.proofs.Common.{◌≡◌, sym, ap, subst, Result, Ok, Err, None, false}
use Rattle.std.specs.Prelude.{IfOk, OnOk, OnErr}
use Rattle.failover.specs.declared.change.Change.TheVariants as changes
use Rattle.failover.specs.declared.mode.Mode.TheVariants.{Stopped}
use Rattle.frame_ports.specs.Ports.{PortsState}
use Rattle.pair_record.specs.{declared.event.Refusal.Refusal, declared.event.Reply.Reply, Modes.change_refusal}
use Rattle.pair_record.specs.Protocol.{Record, Outcome, fail_primary_refusal, fail_primary_done}
use Rattle.pair_core.specs.{Invariant.Holds, Pair.Pair, internal.WorldFields.pair_of}
use Rattle.pair_record.specs.laws.Modes.{stop_goes, mode_passed}
use Rattle.pair_core.specs.laws.Events.{mode_holds}
use Rattle.pair_core.proofs.world.World.fail_primary.Goals as goal

-- refused or done
after : (w : Pair) → Holds w → (result : Result Reply Refusal) (r : Record) (p : PortsState)
    → IfOk result (λ reply. (reply, r) ≡ fail_primary_done w.protocol.state) → OnOk result (p ≡ w.ports)
    → OnOk result (fail_primary_refusal false w.protocol.state ≡ None) → OnErr result ((r ≡ w.protocol.state) × (p ≡ w.ports))
    → Holds (record w { protocol = record w.protocol { state = r }; ports = p })
after w h (Ok reply) r p done ports free refused =
    let goes = mode_passed (change_refusal changes.FailPrimary w.protocol.state.mode) _ free in
    subst Holds (λ i. record w { protocol = record w.protocol { state = sym (ap (λ (o : Outcome). o.1) done) i }; ports = sym ports i })
    (mode_holds w h Stopped (stop_goes w.protocol.state.mode goes))
after w h (Err why) r p done ports free refused =
    subst Holds (λ i. record w { protocol = record w.protocol { state = sym refused.0 i }; ports = sym refused.1 i }) h

pub invariant_of-self : goal.invariant_of-self
invariant_of-self c =
    let e = c.fail_primary.ensures in
    after (pair_of c.self.inside) c.self.invariant c.fail_primary.result _ _ e.done e.ports e.free e.refused
