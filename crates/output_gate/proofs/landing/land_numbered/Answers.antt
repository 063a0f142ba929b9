-- A frame lands once at most for each of its clients.
use Rattle.std.proofs.{Common.{length, arith}, Math.Nat.mul-le-mul}
use Rattle.frame_ports.specs.laws.Addresses.{length-targets_of}
use Rattle.output_gate.proofs.StepLemmas.{landings_most}
use Rattle.output_gate.proofs.landing.land_numbered.Goals as goal

pub land_telling-requires-clause-room : goal.land_telling-requires-clause-room
land_telling-requires-clause-room c =
    let p = c.args.ports.now in
    let fs = c.args.frames.now in
    let clients = c.clients-clients.ensures.ports.clients.1 in
    omega (
      arith,
      landings_most p c.args.first fs,
      length-targets_of (length p.boxes) fs,
      mul-le-mul {n₁ = length fs} {m₁ = length p.boxes} {n₂ = 1280} {m₂ = 16} c.requires.few clients,
    )
