use Rattle.std.proofs.Common.{◌≡◌, ◌+◌, ◌-◌, sym, ap, ◌∙◌, arith}
use Rattle.virtio_mmio.specs.Transport.{Device}
use Rattle.virtio_mmio.specs.Serving.{needing_reset}
use Rattle.virtio_mmio.specs.ServingLoop.{standing}
use Rattle.virtio_mmio.proofs.Loop.{step_served, step_broken, all_served, same_device}
use Rattle.virtio_mmio.proofs.transport.Transport.serve_chains.Goals as goal

pub returns-then-is_err-clause-memory : goal.returns-then-is_err-clause-memory
returns-then-is_err-clause-memory g c =
    ap (λ s. s.ram) (step_broken c.loop-done.self.kind c.args.self.now.kind c.args.number g.H.ChainHandler.act
    (c.args.count - c.loop-done._done) (c.args.count - (c.loop-done._done + 1))
    (standing (g.R.GuestRam.bytes c.loop-done.ram) c.loop-done.self.state c.loop-done.handler) _ c.serve_chain.result
    (g.R.GuestRam.bytes c.serve_chain.new.ram) c.serve_chain.new.self.state c.serve_chain.new.handler
    c.loop-done.invariant.kind (omega arith) c.serve_chain.ensures.answer c.serve_chain.ensures.memory
    (ap (λ (d : Device). d.state) c.serve_chain.ensures.state) c.serve_chain.ensures.kept c.loop-done.invariant.ahead
    (sym c.is_err.ensures.value ∙ c.if-is_err.true))

pub returns-then-is_err-clause-state : goal.returns-then-is_err-clause-state
returns-then-is_err-clause-state g c =
    let was : c.serve_chain.new.self.kind ≡ c.loop-done.self.kind = ap (λ (d : Device). d.kind) c.serve_chain.ensures.state in
    c.need_reset.ensures
    ∙ same_device (record { kind = c.serve_chain.new.self.kind; state = needing_reset c.serve_chain.new.self.state }) c.args.self.now.kind _
    (was ∙ c.loop-done.invariant.kind)
    (ap (λ s. s.state) (step_broken c.loop-done.self.kind c.args.self.now.kind c.args.number g.H.ChainHandler.act
    (c.args.count - c.loop-done._done) (c.args.count - (c.loop-done._done + 1))
    (standing (g.R.GuestRam.bytes c.loop-done.ram) c.loop-done.self.state c.loop-done.handler) _ c.serve_chain.result
    (g.R.GuestRam.bytes c.serve_chain.new.ram) c.serve_chain.new.self.state c.serve_chain.new.handler
    c.loop-done.invariant.kind (omega arith) c.serve_chain.ensures.answer c.serve_chain.ensures.memory
    (ap (λ (d : Device). d.state) c.serve_chain.ensures.state) c.serve_chain.ensures.kept c.loop-done.invariant.ahead
    (sym c.is_err.ensures.value ∙ c.if-is_err.true)))

pub returns-then-is_err-clause-kept : goal.returns-then-is_err-clause-kept
returns-then-is_err-clause-kept g c =
    ap (λ s. s.kept) (step_broken c.loop-done.self.kind c.args.self.now.kind c.args.number g.H.ChainHandler.act
    (c.args.count - c.loop-done._done) (c.args.count - (c.loop-done._done + 1))
    (standing (g.R.GuestRam.bytes c.loop-done.ram) c.loop-done.self.state c.loop-done.handler) _ c.serve_chain.result
    (g.R.GuestRam.bytes c.serve_chain.new.ram) c.serve_chain.new.self.state c.serve_chain.new.handler
    c.loop-done.invariant.kind (omega arith) c.serve_chain.ensures.answer c.serve_chain.ensures.memory
    (ap (λ (d : Device). d.state) c.serve_chain.ensures.state) c.serve_chain.ensures.kept c.loop-done.invariant.ahead
    (sym c.is_err.ensures.value ∙ c.if-is_err.true))

pub loop-done-preserved : goal.loop-done-preserved
loop-done-preserved g c = record {
  kind = ap (λ (d : Device). d.kind) c.serve_chain.ensures.state ∙ c.loop-done.invariant.kind;
  areas = c.serve_chain.ensures.areas;
  sized = c.serve_chain.ensures.sized;
  size = c.serve_chain.ensures.size ∙ c.loop-done.invariant.size;
  fixed = c.serve_chain.ensures.fixed ∙ c.loop-done.invariant.fixed;
  room = omega (arith, c.serve_chain.ensures.room, c.loop-done.invariant.room);
  ahead = step_served c.loop-done.self.kind c.args.self.now.kind c.args.number g.H.ChainHandler.act (c.args.count - c.loop-done._done)
      (c.args.count - (c.loop-done._done + 1))
      (standing (g.R.GuestRam.bytes c.loop-done.ram) c.loop-done.self.state c.loop-done.handler) _ c.serve_chain.result
      (g.R.GuestRam.bytes c.serve_chain.new.ram) c.serve_chain.new.self.state c.serve_chain.new.handler
      c.loop-done.invariant.kind (omega arith) c.serve_chain.ensures.answer c.serve_chain.ensures.memory
      (ap (λ (d : Device). d.state) c.serve_chain.ensures.state) c.serve_chain.ensures.kept c.loop-done.invariant.ahead
      (sym c.is_err.ensures.value ∙ c.if-is_err.false);
}

pub returns-clause-memory : goal.returns-clause-memory
returns-clause-memory g c =
    ap (λ s. s.ram) (all_served c.args.self.now.kind c.args.number g.H.ChainHandler.act _
    (standing (g.R.GuestRam.bytes c.loop-done.ram) c.loop-done.self.state c.loop-done.handler) _ (omega arith)
    c.loop-done.invariant.ahead)

pub returns-clause-state : goal.returns-clause-state
returns-clause-state g c =
    same_device c.loop-done.self c.args.self.now.kind _ c.loop-done.invariant.kind
    (ap (λ s. s.state) (all_served c.args.self.now.kind c.args.number g.H.ChainHandler.act _
    (standing (g.R.GuestRam.bytes c.loop-done.ram) c.loop-done.self.state c.loop-done.handler) _ (omega arith)
    c.loop-done.invariant.ahead))

pub returns-clause-kept : goal.returns-clause-kept
returns-clause-kept g c =
    ap (λ s. s.kept) (all_served c.args.self.now.kind c.args.number g.H.ChainHandler.act _
    (standing (g.R.GuestRam.bytes c.loop-done.ram) c.loop-done.self.state c.loop-done.handler) _ (omega arith)
    c.loop-done.invariant.ahead)
