-- The whole row lands under its numbers.
use Rattle.std.proofs.Common.{All, length, sym, ◌∙◌, ap, subst, arith}
use Rattle.frame_ports.specs.Addresses.{IsFrame}
use Rattle.output_gate.specs.Gate.{IsGate, first_held}
use Rattle.output_gate.specs.Landings.{ports_after, landed_count, dropped_count}
use Rattle.output_gate.proofs.GateLemmas.{row_is, row_frames, row_few}
use Rattle.output_gate.proofs.gate.Gate.open_all.Goals as goal

pub land_numbered-landed-requires-clause-frames : goal.land_numbered-landed-requires-clause-frames
land_numbered-landed-requires-clause-frames c =
    subst (λ l. All IsFrame l) (sym c.deref.ensures.value) (row_frames c.self.inside c.args.self.now c.self.view_is c.self.invariant)

pub land_numbered-landed-requires-clause-few : goal.land_numbered-landed-requires-clause-few
land_numbered-landed-requires-clause-few c =
    let gate : IsGate c.args.self.now = subst IsGate c.self.view_is c.self.invariant.gate in
    omega (arith, gate.few, row_few c.self.inside c.args.self.now c.self.view_is c.self.invariant, ap (λ l. length l) c.deref.ensures.value)

pub land_numbered-landed-requires-clause-numbers : goal.land_numbered-landed-requires-clause-numbers
land_numbered-landed-requires-clause-numbers c =
    omega (
      arith,
      c.first-first.ensures.bound,
      ap (λ l. length l) (row_is c.self.inside c.args.self.now c.self.view_is c.self.invariant),
      ap (λ l. length l) c.deref.ensures.value,
    )

pub returns-clause-ports : goal.returns-clause-ports
returns-clause-ports c =
    c.land_numbered-landed.ensures.ports ∙ ap (λ n. ports_after c.args.ports.now n c.deref.result.now) c.first-first.ensures.first
    ∙ ap (ports_after c.args.ports.now (first_held c.args.self.now))
    (c.deref.ensures.value ∙ row_is c.self.inside c.args.self.now c.self.view_is c.self.invariant)

pub returns-clause-landed : goal.returns-clause-landed
returns-clause-landed c =
    c.land_numbered-landed.ensures.landed ∙ ap (λ n. landed_count c.args.ports.now n c.deref.result.now) c.first-first.ensures.first
    ∙ ap (landed_count c.args.ports.now (first_held c.args.self.now))
    (c.deref.ensures.value ∙ row_is c.self.inside c.args.self.now c.self.view_is c.self.invariant)

pub returns-clause-dropped : goal.returns-clause-dropped
returns-clause-dropped c =
    c.land_numbered-landed.ensures.dropped ∙ ap (λ n. dropped_count c.args.ports.now n c.deref.result.now) c.first-first.ensures.first
    ∙ ap (dropped_count c.args.ports.now (first_held c.args.self.now))
    (c.deref.ensures.value ∙ row_is c.self.inside c.args.self.now c.self.view_is c.self.invariant)
