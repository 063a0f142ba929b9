use Rattle.std.proofs.Common.{sym, ◌∙◌}
use Rattle.frame_ports.specs.Ports.{box_of}
use Rattle.pair_record.specs.Protocol.{lost_out}
use Rattle.pair_record.specs.Record.{ports_after_lose_out}
use Rattle.hypervisor.proofs.LossLaws.{lost-out, not-lost}
use Rattle.hypervisor.proofs.LossWhys.{loss-why}
use Rattle.hypervisor.proofs.losses.lose_out.Goals as goal

pub returns-clause-done : goal.returns-clause-done
returns-clause-done g c =
    let p = c.args.book.now.ports in
    lost-out g.P.Pair.start c.args.book.now c.lose_out-lost.new.self c.args.line.now c.lose_out-lost.new.seat
    (sym c.lose_out-lost.ensures.number ∙ c.keep-2.ensures.line) c.keep-2.ensures.legal
    (ports_after_lose_out p c.args.client c.args.place) c.args.client c.args.place c.lose_out-lost.result c.keep.ensures.boxes
    c.lose_out-lost.ensures.done

pub returns-clause-why : goal.returns-clause-why
returns-clause-why g c =
    loss-why g.P.Pair.start c.args.book.now c.args.client
    (lost_out c.args.client (box_of c.args.book.now.ports c.args.client) c.args.place) c.lose_out-lost.result
    c.keep.ensures.clients c.lose_out-lost.ensures.why

pub returns-clause-refused : goal.returns-clause-refused
returns-clause-refused g c =
    not-lost c.args.book.now c.lose_out-lost.new.self c.args.line.now c.lose_out-lost.new.seat c.lose_out-lost.result
    c.lose_out-lost.ensures.refused
