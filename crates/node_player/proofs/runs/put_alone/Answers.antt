use Rattle.std.proofs.Common.{◌∷◌, ◌++◌, [], length, codes, decimal, ◌∙◌, ap, sym, append_assoc, length-append}
use Rattle.std.proofs.lemmas.Grind.{flat_map-append}
use Rattle.script_player.specs.Streams.{IsPut}
use Rattle.script_player.specs.Printed.{line}
use Rattle.script_player.specs.laws.Options.{failed}
use Rattle.node_player.specs.Printed.{frame_line, frame_lines, alone_lines}
use Rattle.node_player.proofs.PutLemmas.{front-longer, put-none, put-more, put-last, put-failed}
use Rattle.node_player.proofs.runs.put_alone.Goals as goal

pub returns-in_err-put : goal.returns-in_err-put
returns-in_err-put g c =
    let o = g.O.Sink.written c.args.out.now in
    let o' = g.O.Sink.written c.put.new.self in
    let held = c.args.held.now in
    let sent = c.args.sent.now in
    let head = line (codes "alone" ∷ decimal c.args.generation ∷ codes "frames" ∷ decimal (length (held ++ sent)) ∷ []) in
    let said = c.as_slice.ensures.value ∙ c.write_generation.ensures in
    failed _ (λ r. IsPut o o' r (alone_lines c.args.generation (held ++ sent))) c.from_residual.result c.from_residual.ensures.1
    (λ e is. front-longer o o' head (frame_lines (held ++ sent)) (rw (said, sym (length-append held sent)) at c.in_err-put.ensures))

pub returns-in_err-put_frames : goal.returns-in_err-put_frames
returns-in_err-put_frames g c =
    let o = g.O.Sink.written c.args.out.now in
    let m = g.O.Sink.written c.put.new.self in
    let o' = g.O.Sink.written c.put_frames.new.out in
    let held = c.args.held.now in
    let sent = c.args.sent.now in
    let head = line (codes "alone" ∷ decimal c.args.generation ∷ codes "frames" ∷ decimal (length (held ++ sent)) ∷ []) in
    let said = c.as_slice.ensures.value ∙ c.write_generation.ensures in
    let front = put-more (put-none o) m head (rw (said, sym (length-append held sent)) at c.in_ok-put.ensures) in
    let all = ap (λ t. head ++ t) (flat_map-append frame_line held sent) in
    failed _ (λ r. IsPut o o' r (alone_lines c.args.generation (held ++ sent))) c.from_residual-in_err-put_frames.result
    c.from_residual-in_err-put_frames.ensures.1
    (λ e is. rw all (put-failed front o' (frame_lines held) (frame_lines sent) c.in_err-put_frames.ensures))

pub returns : goal.returns
returns g c =
    let o = g.O.Sink.written c.args.out.now in
    let m = g.O.Sink.written c.put.new.self in
    let n = g.O.Sink.written c.put_frames.new.out in
    let held = c.args.held.now in
    let sent = c.args.sent.now in
    let head = line (codes "alone" ∷ decimal c.args.generation ∷ codes "frames" ∷ decimal (length (held ++ sent)) ∷ []) in
    let said = c.as_slice.ensures.value ∙ c.write_generation.ensures in
    let front = put-more (put-none o) m head (rw (said, sym (length-append held sent)) at c.in_ok-put.ensures) in
    let both = put-more front n (frame_lines held) c.in_ok-put_frames.ensures in
    let all = ap (λ t. head ++ t) (flat_map-append frame_line held sent) ∙ sym (append_assoc head (frame_lines held) (frame_lines sent)) in
    rw all (put-last both (g.O.Sink.written c.put_frames-2.new.out) (frame_lines sent) c.put_frames-2.result c.put_frames-2.ensures)
