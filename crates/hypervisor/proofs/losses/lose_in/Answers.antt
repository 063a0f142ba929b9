use Rattle.std.proofs.Common.{sym, ◌∙◌}
use Rattle.frame_ports.specs.Ports.{inbox_of}
use Rattle.pair_record.specs.Protocol.{lost_in}
use Rattle.pair_record.specs.Record.{ports_after_lose_in}
use Rattle.hypervisor.proofs.LossLaws.{lost-in, not-lost}
use Rattle.hypervisor.proofs.LossWhys.{loss-why}
use Rattle.hypervisor.proofs.losses.lose_in.Goals as goal

pub returns-clause-done : goal.returns-clause-done
returns-clause-done g c =
    let p = c.args.book.now.ports in
    lost-in g.P.Pair.start c.args.book.now c.lose_in-lost.new.self c.args.line.now c.lose_in-lost.new.seat
    (sym c.lose_in-lost.ensures.number ∙ c.keep-2.ensures.line) c.keep-2.ensures.legal
    (ports_after_lose_in p c.args.client c.args.place) c.args.client c.args.place c.lose_in-lost.result c.keep.ensures.inboxes
    c.lose_in-lost.ensures.free c.lose_in-lost.ensures.done

pub returns-clause-why : goal.returns-clause-why
returns-clause-why g c =
    loss-why g.P.Pair.start c.args.book.now c.args.client (lost_in (inbox_of c.args.book.now.ports c.args.client) c.args.place)
    c.lose_in-lost.result c.keep.ensures.clients c.lose_in-lost.ensures.why

pub returns-clause-refused : goal.returns-clause-refused
returns-clause-refused g c =
    not-lost c.args.book.now c.lose_in-lost.new.self c.args.line.now c.lose_in-lost.new.seat c.lose_in-lost.result
    c.lose_in-lost.ensures.refused
