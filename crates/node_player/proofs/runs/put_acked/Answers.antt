use Rattle.std.proofs.Common.{◌∷◌, [], length, codes, decimal, ◌∙◌}
use Rattle.script_player.specs.Streams.{IsPut}
use Rattle.script_player.specs.Printed.{line}
use Rattle.script_player.specs.laws.Options.{failed}
use Rattle.node_player.{specs.Printed.{frame_lines, acked_lines}, proofs.PutLemmas.{front-longer, put-none, put-more, put-last}}
use Rattle.node_player.proofs.runs.put_acked.Goals as goal

pub returns-in_err-put : goal.returns-in_err-put
returns-in_err-put g c =
    let o = g.O.Sink.written c.args.out.now in
    let o' = g.O.Sink.written c.put.new.self in
    let ack = c.args.ack in
    let frames = c.args.frames.now in
    let head = line (codes "acked" ∷ decimal ack.generation ∷ decimal ack.number ∷ codes "frames" ∷ decimal (length frames) ∷ []) in
    failed _ (λ r. IsPut o o' r (acked_lines ack.generation ack.number frames)) c.from_residual.result c.from_residual.ensures.1
    (λ e is. front-longer o o' head (frame_lines frames)
    (rw (c.as_slice.ensures.value ∙ c.write_acked.ensures) at c.in_err-put.ensures))

pub returns : goal.returns
returns g c =
    let o = g.O.Sink.written c.args.out.now in
    let m = g.O.Sink.written c.put.new.self in
    let ack = c.args.ack in
    let frames = c.args.frames.now in
    let head = line (codes "acked" ∷ decimal ack.generation ∷ decimal ack.number ∷ codes "frames" ∷ decimal (length frames) ∷ []) in
    let front = put-more (put-none o) m head (rw (c.as_slice.ensures.value ∙ c.write_acked.ensures) at c.in_ok-put.ensures) in
    put-last front (g.O.Sink.written c.put_frames.new.out) (frame_lines frames) c.put_frames.result c.put_frames.ensures
