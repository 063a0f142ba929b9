use Rattle.std.proofs.Common.{rules, ℕ, List, All, sym, subst}
use Rattle.std.proofs.lemmas.List.Elements.{All-append}
use Rattle.frame_ports.specs.Addresses.{IsFrame}
use Rattle.pair_history.specs.Entries.{Frame}
use Rattle.hypervisor.proofs.runner.Runner.submit.Goals as goal

pub invariant_of-self-2 : goal.invariant_of-self-2
invariant_of-self-2 g c =
    let frames = subst (λ (xs : List (ℕ × Frame)). All (λ (x : ℕ × Frame). IsFrame x.1) xs) (sym c.hold.ensures)
    (All-append (λ (x : ℕ × Frame). IsFrame x.1) c.self.inside.held.items c.in_ok-next.next.items c.self.invariant.frames
    c.in_ok-next.ensures.frames) in
    record {
      frames = frames;
      first = search rules;
      few = search rules;
      prepared = search rules;
      sized = search rules;
      runs = search rules;
    }
