use Rattle.std.proofs.Common.{rules, ◌≡◌, ◌<◌, ◌++◌, [], take, IsTrue, refl, ◌∙◌, ap}
use Rattle.checkpoint_stream.specs.{contracts.parts.Parts.the_view, declared.place.Place.TheVariants.Head, Readings.Reading}
use Rattle.checkpoint_stream.proofs.{Feeding.Takes-nothing, RunLemmas.run-taken}
use Rattle.checkpoint_stream.proofs.parts.Parts.take_numbers.Goals as goal

pub returns-then-not-is_at_number-clause-read : goal.returns-then-not-is_at_number-clause-read
returns-then-not-is_at_number-clause-read c = Takes-nothing c.args.self.now

pub returns-clause-read : goal.returns-clause-read
returns-clause-read c =
    let is : IsTrue c.is_at_number.result = search rules in
    let at = c.is_at_number.ensures is in
    let place : c.self.inside.place ≡ Head = ap (λ (r : Reading). r.place) c.self.view_is ∙ at.0 in
    let begun : take c.self.inside.filled c.self.inside.buffer ++ c.self.inside.part.items ≡ []
    = ap (λ (r : Reading). r.partial) c.self.view_is ∙ at.1 in
    let known : c.self.inside.known < 80 = c.self.invariant.1 place in
    run-taken (the_view c.self.inside) c.args.self.now c.self.inside.head c.read_numbers-bytes.new.head c.read_numbers-bytes.result.0
    c.after_number-self-inside.result _ c.self.view_is known place begun refl c.after_number-self-inside.ensures.value
    (c.read_numbers-bytes.ensures.read (the_view c.self.inside))
