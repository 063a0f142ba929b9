use Rattle.std.proofs.{Common.{rules, ◌≡◌, ◌≢◌, ◌<◌, ℕ, [], length, take, ◌∙◌, ap, arith}, lemmas.List.length-take-le}
use Rattle.checkpoint_stream.specs.{Readings.{width_of, width_at, judged}, declared.place.Place.TheVariants.FrameBytes}
use Rattle.checkpoint_stream.proofs.{Feeding.Takes-unit, PlaceLemmas.part-nothing}
use Rattle.checkpoint_stream.proofs.parts.Parts.take.Goals as goal

pub returns-then-width-rest-clause-read : goal.returns-then-width-rest-clause-read
returns-then-width-rest-clause-read c =
    let other : (left len : ℕ) → c.self.inside.place ≢ FrameBytes left len = search rules in
    let part : c.self.inside.part.items ≡ [] = part-nothing c.self.inside.place _ c.self.inside.part.items _ _ other c.self.invariant.4 in
    let begun : c.args.self.now.partial ≡ [] = rw (← c.self.view_is, c.if-self-eq0.true) part in
    let whole : length (take c.width-width.result c.args.rest.now) ≡ c.width-width.result
    = length-take-le c.width-width.result c.args.rest.now (omega arith) in
    let width : width_at c.self.inside.place c.self.inside.known ≡ width_of c.args.self.now = ap width_of c.self.view_is in
    let some : 0 < c.width-width.result = omega (arith, c.width-width.ensures.value, width, c.self.invariant.3) in
    Takes-unit c.args.self.now c.judge.new.self _ c.requires.going begun (omega (arith, whole, some)) (whole
    ∙ c.width-width.ensures.value) (c.in_ok-judge.ensures.ok
    ∙ ap (λ r. judged r (take c.width-width.result c.args.rest.now)) c.make_room.ensures.same)
