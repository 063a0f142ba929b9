use Rattle.std.proofs.Common.{drop, ◌+◌, arith, sym, append-nil, []}
use Rattle.std.proofs.lemmas.List.{take_all}
use Rattle.script_player.specs.Streams.{IsPut}
use Rattle.script_player.specs.laws.Options.{failed}
use Rattle.node_player.{specs.Printed.{frame_line, frame_lines}, proofs.PutLemmas.{put-last, put-failed, lines-from}}
use Rattle.node_player.proofs.printing.put_frames.Goals as goal

pub returns-in_err-put_frame : goal.returns-in_err-put_frame
returns-in_err-put_frame g c =
    let o = g.O.Sink.written c.args.out.now in
    let o' = g.O.Sink.written c.put_frame.new.out in
    let frames = c.args.frames.now in
    let i = c.loop-frame.frame-index in
    let frame = c.frame-item.result in
    let split = lines-from frames i frame (omega (arith, c.loop-frame-test.true)) (sym c.frame-item.is) in
    failed _ (λ r. IsPut o o' r (frame_lines frames)) c.from_residual.result c.from_residual.ensures.1
    (λ e is. rw split (put-failed c.loop-frame.invariant o' (frame_line frame) (frame_lines (drop (i + 1) frames))
    c.in_err-put_frame.ensures))

pub returns : goal.returns
returns g c =
    let all = take_all c.loop-frame.frame-index c.args.frames.now c.loop-frame-test.false in
    rw (append-nil, all) at
    (put-last c.loop-frame.invariant (g.O.Sink.written c.put.new.self) [] c.put.result c.put.ensures)
