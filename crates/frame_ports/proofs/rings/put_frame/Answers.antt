-- An empty frame was put last, and then filled where it lies.
use Rattle.std.proofs.Common.{◌++◌, ◌∷◌, [], List, sym, ◌∙◌, ap, slice_get, slice_set, ℕ}
use Rattle.std.proofs.Math.Seq.{set-append_seam}
use Rattle.std.proofs.lemmas.Option.{none-some}
use Rattle.std.specs.Option.{option_copied_mut}
use Rattle.arrayvec.specs.ArrayVec.{ArrayVec}
use Rattle.circular_buffer.specs.Buffer.{Buffer, buffer}
use Rattle.frame_ports.proofs.RingLemmas.{last_there}
use Rattle.frame_ports.proofs.rings.put_frame.Goals as goal

pub returns-in-Some : goal.returns-in-Some
returns-in-Some c =
    let xs = c.args.ring.now.items in
    ap (λ (b : Buffer (ArrayVec ℕ)). buffer (slice_set b.items c.len-last.result c.fill.new.frame) b.capacity) c.put_last.ensures
    ∙ ap (λ n. buffer (slice_set (xs ++ c.new.result ∷ []) n c.fill.new.frame) c.args.ring.now.capacity) c.len-last.ensures.len
    ∙ ap (λ l. buffer l c.args.ring.now.capacity) (set-append_seam xs c.new.result [] c.fill.new.frame)
    ∙ ap (λ (l : List ℕ). let f : ArrayVec ℕ = record { items = l } in buffer (xs ++ f ∷ []) c.args.ring.now.capacity) c.fill.ensures

pub returns-in_default : goal.returns-in_default
returns-in_default c =
    let xs = c.args.ring.now.items in
    let gone = ap option_copied_mut (sym c.in_default.is) ∙ c.get_mut.ensures.value in
    let there = ap (λ (b : Buffer (ArrayVec ℕ)). slice_get b.items c.len-last.result) c.put_last.ensures
    ∙ ap (slice_get (xs ++ c.new.result ∷ [])) c.len-last.ensures.len ∙ last_there xs c.new.result in
    absurd (none-some c.new.result (gone ∙ there))
