-- A rotation to the place, a pop, and a rotation of what was behind it.
use Rattle.std.proofs.Common.{◌<◌, ◌++◌, ◌-◌, take, drop, length, ◌∙◌, ap, arith}
use Rattle.circular_buffer.specs.Buffer.{Buffer, buffer}
use Rattle.frame_ports.proofs.RingLemmas.{removed}
use Rattle.frame_ports.proofs.rings.remove_at.Goals as goal

pub returns-clause-rest : goal.returns-clause-rest
returns-clause-rest g c =
    let xs = c.args.ring.now.items in
    let k = c.args.place in
    let inside : k < length xs = omega (arith, c.len-len.ensures.len) in
    let n = c.len-len.result - k - 1 in
    c.rotate-2.ensures
    ∙ ap (λ (b : Buffer g.row.T.Denot). buffer (drop n b.items ++ take n b.items) b.capacity)
    (c.pop_front-item.ensures.items ∙ ap (λ (b : Buffer g.row.T.Denot). buffer (drop 1 b.items) b.capacity) c.rotate.ensures)
    ∙ ap (λ m. let ys = drop 1 (drop k xs ++ take k xs) in buffer (drop (m - k - 1) ys ++ take (m - k - 1) ys) c.args.ring.now.capacity)
    c.len-len.ensures.len
    ∙ ap (λ l. buffer l c.args.ring.now.capacity) (removed xs k inside)
