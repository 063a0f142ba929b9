use Rattle.std.proofs.{Common.{◌≡◌, ◌+◌, ℕ, List, [], ◌++◌, length, take, sym, ◌∙◌, ap, arith}, lemmas.List.{append-nil, length-take-le}}
use Rattle.checkpoint_stream.specs.{Readings.{Reading, width_of, width_at}, contracts.parts.Parts.the_view}
use Rattle.checkpoint_stream.proofs.{Feeding.{Takes-part, Takes-end, take-filled, with_more-at}, PlaceLemmas.{part-nothing, beside}}
use Rattle.checkpoint_stream.proofs.parts.Parts.take_part.Goals as goal

pub returns-then-filled-taken-clause-read : goal.returns-then-filled-taken-clause-read
returns-then-filled-taken-clause-read c =
    let held : length (take c.self.inside.filled c.self.inside.buffer) ≡ c.self.inside.filled
    = length-take-le c.self.inside.filled c.self.inside.buffer (omega arith) in
    let part : c.self.inside.part.items ≡ []
    = part-nothing c.self.inside.place _ c.self.inside.part.items _ _
    (λ left len e. c.requires.other left len (sym (ap (λ (r : Reading). r.place) c.self.view_is) ∙ e)) c.self.invariant.4 in
    let partial : take c.self.inside.filled c.self.inside.buffer ≡ c.args.self.now.partial
    = sym (append-nil (take c.self.inside.filled c.self.inside.buffer))
    ∙ ap (λ (l : List ℕ). take c.self.inside.filled c.self.inside.buffer ++ l) (sym part)
    ∙ ap (λ (r : Reading). r.partial) c.self.view_is in
    let bytes : length (take c.min-taken.result c.args.rest.now) ≡ c.min-taken.result
    = length-take-le c.min-taken.result c.args.rest.now (omega (arith, c.min-taken.ensures)) in
    Takes-part c.args.self.now _ _ c.requires.going
    (omega (arith, held, ap length partial, bytes, c.requires.width, c.if-filled-taken.true))
    (with_more-at (the_view c.self.inside) c.args.self.now _ _ c.self.view_is
    (beside _ (take c.self.inside.filled c.self.inside.buffer) c.self.inside.part.items _ part (take-filled _ (take c.self.inside.filled c.self.inside.buffer) c.copy_from_slice.new.self _
    (omega (arith, held, bytes, ap length c.copy_from_slice.ensures.after))
    ∙ ap (λ (l : List ℕ). take c.self.inside.filled c.self.inside.buffer ++ l) c.copy_from_slice.ensures.after)))

pub returns-in_ok-judge-clause-read : goal.returns-in_ok-judge-clause-read
returns-in_ok-judge-clause-read c =
    let held : length (take c.self.inside.filled c.self.inside.buffer) ≡ c.self.inside.filled
    = length-take-le c.self.inside.filled c.self.inside.buffer (omega arith) in
    let part : c.self.inside.part.items ≡ []
    = part-nothing c.self.inside.place _ c.self.inside.part.items _ _
    (λ left len e. c.requires.other left len (sym (ap (λ (r : Reading). r.place) c.self.view_is) ∙ e)) c.self.invariant.4 in
    let partial : take c.self.inside.filled c.self.inside.buffer ≡ c.args.self.now.partial
    = sym (append-nil (take c.self.inside.filled c.self.inside.buffer))
    ∙ ap (λ (l : List ℕ). take c.self.inside.filled c.self.inside.buffer ++ l) (sym part)
    ∙ ap (λ (r : Reading). r.partial) c.self.view_is in
    let bytes : length (take c.min-taken.result c.args.rest.now) ≡ c.min-taken.result
    = length-take-le c.min-taken.result c.args.rest.now (omega (arith, c.min-taken.ensures)) in
    let width : width_at c.self.inside.place c.self.inside.known ≡ c.args.width = ap width_of c.self.view_is ∙ sym c.requires.width in
    let filled : c.self.inside.filled + c.min-taken.result ≡ c.args.width
    = omega (arith, width, c.self.invariant.3, c.min-taken.ensures, c.if-filled-taken.false) in
    Takes-end c.args.self.now c.judge.new.self _ _ c.requires.going
    (omega (arith, bytes, c.min-taken.ensures, filled, width, c.self.invariant.3))
    (omega (arith, held, ap length partial, bytes, filled, c.requires.width))
    (take-filled _ (take c.self.inside.filled c.self.inside.buffer) c.copy_from_slice.new.self _
    (omega (arith, held, bytes, filled, ap length c.copy_from_slice.ensures.after))
    ∙ ap (λ (l : List ℕ). take c.self.inside.filled c.self.inside.buffer ++ l) c.copy_from_slice.ensures.after
    ∙ ap (λ (l : List ℕ). l ++ take c.min-taken.result c.args.rest.now) partial)
    c.in_ok-judge.ensures.ok
