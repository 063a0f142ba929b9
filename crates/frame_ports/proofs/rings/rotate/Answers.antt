-- One item goes from the front to the end.
use Rattle.std.proofs.Common.{◌<◌, ◌++◌, ◌∷◌, [], drop, length, sym, ◌∙◌, ap, arith, slice_get}
use Rattle.circular_buffer.specs.Buffer.{Buffer, buffer}
use Rattle.frame_ports.proofs.RingLemmas.{rotate_more, rotated_some}
use Rattle.frame_ports.proofs.rings.rotate.Goals as goal
use Rattle.frame_ports.proofs.rings.rotate.Goals.{in-Some, in_default}

pub loop-preserved : goal.loop-preserved
loop-preserved g c =
    let xs = c.args.ring.now.items in
    let k = c.loop.counter in
    let inside : k < length xs = omega arith in
    elim c.match-pop_front.branch [
      | in-Some w ↦
          let x = w.in-Some.item in
          let first = sym w.in-Some.is ∙ c.pop_front.ensures.value ∙ ap (λ (b : Buffer g.row.T.Denot). slice_get b.items 0)
          c.loop.invariant in
          w.ring-is ∙ w.put_last.ensures
          ∙ ap (λ (b : Buffer g.row.T.Denot). buffer (b.items ++ x ∷ []) b.capacity) c.pop_front.ensures.items
          ∙ ap (λ (b : Buffer g.row.T.Denot). buffer (drop 1 b.items ++ x ∷ []) b.capacity) c.loop.invariant
          ∙ ap (λ l. buffer l c.args.ring.now.capacity) (rotate_more xs k x inside first)
      | in_default w ↦
          absurd (rotated_some xs k inside (sym w.in_default.is ∙ c.pop_front.ensures.value
          ∙ ap (λ (b : Buffer g.row.T.Denot). slice_get b.items 0) c.loop.invariant))
    ]
