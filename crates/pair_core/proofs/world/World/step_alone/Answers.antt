use Rattle.std.proofs.Common.{◌≡◌, ◌∙◌, ℕ, zero, suc, ◌+◌, ◌<◌, List, ◌++◌, length, replicate, sym, ap, subst, arith, true}
use Rattle.guest_rules.specs.Runs.{sent_in}
use Rattle.frame_ports.specs.{Addresses.targets_of, Limits.number_limit}
use Rattle.pair_history.specs.{Entries.{Frame, Ran}, Landings.landings}
use Rattle.pair_record.specs.{Journal.{all_entries, with_history}, Modes.is_alone, Record.ports_landed}
use Rattle.pair_core.specs.{Invariant.Holds, Nodes.{Nodes, after_run, with_sent_off}}
use Rattle.pair_core.specs.{internal.WorldFields.pair_of}
use Rattle.pair_core.specs.laws.LoneSteps.{after_lone_steps, lone_steps_hold, lone_steps_answered}
use Rattle.pair_core.specs.laws.Consistent.{alone_is, keeps_nothing}
use Rattle.pair_core.proofs.world.World.step_alone.Goals.{After-send_off}
use Rattle.pair_record.specs.declared.event.Reply.TheVariants as replies
use Rattle.pair_core.proofs.world.World.step_alone.Goals as goal

by_count : (n used : ℕ) → used + 1025 < number_limit → (0 < n → used + (n + 1024) < number_limit) → used + (n + 1024) < number_limit
by_count zero used room some = omega arith
by_count (suc n) used room some = some (omega arith)

lone_is : (c : After-send_off) → is_alone (pair_of c.self.inside).protocol.state.mode ≡ true
lone_is c = rw (← c.self.view_is) at c.requires.alone

-- what was sent is what these steps send
sent_is : (c : After-send_off) → c.outbox.result.now ≡ sent_in c.run_to_frame-steps.result (pair_of c.self.inside).nodes.live.guest
sent_is c =
    let w = pair_of c.self.inside in
    let fs = sent_in c.run_to_frame-steps.result w.nodes.live.guest in
    c.outbox.ensures.value
    ∙ ap (λ (x : Nodes). x.live.outbox) c.run_to_frame-steps.ensures.made
    ∙ ap (λ (t : List Frame). t ++ fs) (alone_is w c.self.invariant (keeps_nothing w c.self.invariant c.keep.ensures.record (lone_is c))).outbox

protocol_is : (c : After-send_off) → c.run_alone.new.self.protocol
    ≡ (after_lone_steps (pair_of c.self.inside) c.run_to_frame-steps.result
    (sent_in c.run_to_frame-steps.result (pair_of c.self.inside).nodes.live.guest)).protocol.state
protocol_is c =
    let same = c.in_ok-most.ensures.same in
    c.run_alone.ensures.protocol
    ∙ (λ i. record (same.0 i) {
      journal = with_history (same.0 i).journal (replicate c.run_to_frame-steps.result Ran
          ++ landings (same.1 i).boxes (targets_of (length (same.1 i).boxes) (sent_is c i)));
      next_frame = (same.0 i).next_frame + length (sent_is c i);
    })

ports_are : (c : After-send_off) → c.run_alone.new.self.ports
    ≡ (after_lone_steps (pair_of c.self.inside) c.run_to_frame-steps.result
    (sent_in c.run_to_frame-steps.result (pair_of c.self.inside).nodes.live.guest)).ports
ports_are c =
    let same = c.in_ok-most.ensures.same in
    c.run_alone.ensures.ports
    ∙ (λ i. ports_landed (same.1 i) (same.0 i).next_frame (sent_is c i))

nodes_are : (c : After-send_off) → c.send_off.new.self.nodes
    ≡ with_sent_off (after_run c.run_to_frame-steps.result (pair_of c.self.inside).nodes)
nodes_are c = c.send_off.ensures ∙ ap with_sent_off c.run_to_frame-steps.ensures.made

pub invariant_of-self-2 : goal.invariant_of-self-2
invariant_of-self-2 c =
    let w = pair_of c.self.inside in
    subst Holds (λ i. record w { protocol = record w.protocol { state = sym (protocol_is c) i }; ports = sym (ports_are c) i; nodes = sym (nodes_are c) i })
    (lone_steps_hold w c.self.invariant (keeps_nothing w c.self.invariant c.keep.ensures.record (lone_is c)) (lone_is c) c.run_to_frame-steps.result)

pub returns-clause-answered : goal.returns-clause-answered
returns-clause-answered c =
    let w = pair_of c.self.inside in
    let n = c.run_to_frame-steps.result in
    let most = c.run_to_frame-steps.ensures.most in
    let room = rw (← c.self.view_is) at c.requires.room in
    let numbers = rw (← c.self.view_is) at c.requires.numbers in
    let fits = by_count c.in_ok-most.most (length (all_entries w.protocol.state.journal)) room c.in_ok-most.ensures.fits in
    rw (← c.self.view_is) ((λ i. (replies.Steps (nodes_are c i).live.guest.steps, protocol_is c i))
    ∙ lone_steps_answered w c.self.invariant (keeps_nothing w c.self.invariant c.keep.ensures.record (lone_is c)) (lone_is c) n
    c.run_to_frame-steps.ensures.quiet (omega arith) numbers)
