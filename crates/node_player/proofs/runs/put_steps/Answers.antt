use Rattle.std.proofs.Common.{length, ◌∙◌}
use Rattle.script_player.specs.Streams.{IsPut}
use Rattle.script_player.specs.laws.Options.{failed}
use Rattle.node_player.{specs.Printed.{frame_lines, steps_line, steps_lines}, proofs.PutLemmas.{front-longer, put-none, put-more, put-last}}
use Rattle.node_player.proofs.runs.put_steps.Goals as goal

pub returns-in_err-put : goal.returns-in_err-put
returns-in_err-put g c =
    let o = g.O.Sink.written c.args.out.now in
    let o' = g.O.Sink.written c.put.new.self in
    let head = steps_line c.args.steps c.args.waiting (length c.args.frames.now) in
    failed _ (λ r. IsPut o o' r (steps_lines c.args.steps c.args.waiting c.args.frames.now)) c.from_residual.result c.from_residual.ensures.1
    (λ e is. front-longer o o' head (frame_lines c.args.frames.now)
    (rw (c.as_slice.ensures.value ∙ c.write_steps.ensures) at c.in_err-put.ensures))

pub returns : goal.returns
returns g c =
    let o = g.O.Sink.written c.args.out.now in
    let m = g.O.Sink.written c.put.new.self in
    let head = steps_line c.args.steps c.args.waiting (length c.args.frames.now) in
    let front = put-more (put-none o) m head (rw (c.as_slice.ensures.value ∙ c.write_steps.ensures) at c.in_ok-put.ensures) in
    put-last front (g.O.Sink.written c.put_frames.new.out) (frame_lines c.args.frames.now) c.put_frames.result c.put_frames.ensures
