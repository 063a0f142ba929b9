use Rattle.std.proofs.Common.{◌++◌, ◌+◌, ℕ, drop, length, sym, ◌∙◌, ap, arith}
use Rattle.arrayvec.specs.ArrayVec.{ArrayVec}
use Rattle.checkpoint_stream.specs.{HeadTable.bytes_of, declared.rules.Width.TheVariants.Four, Text.{joined, frame_units}}
use Rattle.checkpoint_stream.proofs.Spelling.{advance, finish, frame_units-drop, frame_units-done}
use Rattle.checkpoint_stream.proofs.encoding.put_frames.Goals as goal

pub loop-at-preserved : goal.loop-at-preserved
loop-at-preserved c =
    let fs = c.args.frames.now.items in
    let i = c.loop-at.at in
    let f : ArrayVec ℕ = record { items = c.bytes.result.now } in
    advance c.loop-at.out.items _ c.put_frame.new.out.items _ _ _ c.loop-at.invariant
    (frame_units-drop fs i f (omega arith) ∙ ap (λ (g : ArrayVec ℕ). (bytes_of Four (length g.items) ++ g.items)
    ++ joined (frame_units (drop (i + 1) fs))) (sym c.bytes.ensures.value)) c.in_ok-put_frame.ensures

pub returns : goal.returns
returns c =
    finish c.loop-at.out.items _ _ c.loop-at.invariant
    (frame_units-done c.args.frames.now.items c.loop-at.at (omega arith))
