use Rattle.std.proofs.{lemmas.List.{nil_from_length, length-take-le}, Common.{◌≡◌, ◌++◌, ℕ, List, [], length, take, sym, ◌∙◌, ap}}
use Rattle.std.proofs.Common.{arith, append_assoc}
use Rattle.checkpoint_stream.specs.{declared.place.Place.Place, Readings.{Reading, is_closed, width_of, width_at}}
use Rattle.checkpoint_stream.{specs.contracts.parts.Parts.the_view, proofs.Feeding.{Takes-unit, Takes-part, Takes-end, with_more-at}}
use Rattle.checkpoint_stream.proofs.PlaceLemmas.{at-bytes, judged-frame, frame_judged-part}
use Rattle.checkpoint_stream.proofs.parts.Parts.take_frame.Goals as goal

pub returns-then-len-rest-clause-read : goal.returns-then-len-rest-clause-read
returns-then-len-rest-clause-read c =
    let m = c.args.self.now in
    let unit : List ℕ = take c.args.len c.args.rest.now in
    let at = at-bytes c.self.inside.place _ c.self.inside.part.items _ _ c.args.left c.args.len
    (ap (λ (r : Reading). r.place) c.self.view_is ∙ c.requires.place) c.self.invariant.4 in
    let partial : m.partial ≡ c.self.inside.part.items
    = sym (ap (λ (r : Reading). r.partial) c.self.view_is)
    ∙ ap (λ (n : ℕ). take n c.self.inside.buffer ++ c.self.inside.part.items) at.0 in
    let begun : m.partial ≡ []
    = partial ∙ nil_from_length c.self.inside.part.items (omega (arith, c.len-held.ensures.value, c.if-held-eq0.true)) in
    let whole : length unit ≡ c.args.len = length-take-le c.args.len c.args.rest.now (omega (arith, c.if-len-rest.true)) in
    Takes-unit m c.keep_bytes.new.self unit (ap is_closed c.requires.place) begun (omega (arith, whole, at.1))
    (whole ∙ sym (ap (λ (p : Place). width_at p m.known) c.requires.place))
    (c.keep_bytes.ensures ∙ sym (judged-frame m unit c.args.left c.args.len c.requires.place))

pub returns-then-held-taken-clause-read : goal.returns-then-held-taken-clause-read
returns-then-held-taken-clause-read c =
    let m = c.args.self.now in
    let bytes : List ℕ = take c.min-taken.result c.args.rest.now in
    let at = at-bytes c.self.inside.place _ c.self.inside.part.items _ _ c.args.left c.args.len
    (ap (λ (r : Reading). r.place) c.self.view_is ∙ c.requires.place) c.self.invariant.4 in
    let partial : m.partial ≡ c.self.inside.part.items
    = sym (ap (λ (r : Reading). r.partial) c.self.view_is)
    ∙ ap (λ (n : ℕ). take n c.self.inside.buffer ++ c.self.inside.part.items) at.0 in
    let count : length bytes ≡ c.min-taken.result = length-take-le c.min-taken.result c.args.rest.now (omega (arith, c.min-taken.ensures)) in
    let held : length m.partial ≡ c.len-held.result = ap length partial ∙ sym c.len-held.ensures.value in
    let wide : width_of m ≡ c.args.len = ap (λ (p : Place). width_at p m.known) c.requires.place in
    Takes-end m c.keep_bytes-then-held-taken.new.self bytes c.as_slice.result.now (ap is_closed c.requires.place)
    (omega (arith, count, c.min-taken.ensures, at.1, c.len-held.ensures.value, c.requires.some))
    (omega (arith, held, count, wide, c.if-held-taken.true))
    (c.as_slice.ensures.value ∙ (λ i. (c.replace-frame.ensures.value i).items) ∙ c.put_in.ensures ∙ ap (λ (l : List ℕ). l ++ bytes) (sym partial))
    (c.keep_bytes-then-held-taken.ensures
    ∙ frame_judged-part (the_view c.self.inside) m _ c.args.left c.args.len c.as_slice.result.now c.self.view_is
    ∙ sym (judged-frame m c.as_slice.result.now c.args.left c.args.len c.requires.place))

pub returns-else-held-taken-clause-read : goal.returns-else-held-taken-clause-read
returns-else-held-taken-clause-read c =
    let m = c.args.self.now in
    let bytes : List ℕ = take c.min-taken.result c.args.rest.now in
    let at = at-bytes c.self.inside.place _ c.self.inside.part.items _ _ c.args.left c.args.len
    (ap (λ (r : Reading). r.place) c.self.view_is ∙ c.requires.place) c.self.invariant.4 in
    let partial : m.partial ≡ c.self.inside.part.items
    = sym (ap (λ (r : Reading). r.partial) c.self.view_is)
    ∙ ap (λ (n : ℕ). take n c.self.inside.buffer ++ c.self.inside.part.items) at.0 in
    let count : length bytes ≡ c.min-taken.result = length-take-le c.min-taken.result c.args.rest.now (omega (arith, c.min-taken.ensures)) in
    let held : length m.partial ≡ c.len-held.result = ap length partial ∙ sym c.len-held.ensures.value in
    let wide : width_of m ≡ c.args.len = ap (λ (p : Place). width_at p m.known) c.requires.place in
    Takes-part m _ bytes (ap is_closed c.requires.place)
    (omega (arith, held, count, wide, c.min-taken.ensures, c.if-held-taken.false, at.1, c.len-held.ensures.value))
    (with_more-at (the_view c.self.inside) m _ bytes c.self.view_is
    (ap (λ (l : List ℕ). take c.self.inside.filled c.self.inside.buffer ++ l) c.put_in.ensures
    ∙ sym (append_assoc (take c.self.inside.filled c.self.inside.buffer) c.self.inside.part.items bytes)))
