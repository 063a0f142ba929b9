-- Rings of no items are ports with nothing delivered and nothing landed.
use Rattle.std.proofs.Common.{refl}
use Rattle.frame_ports.proofs.PortsLemmas.{fields-empty, state-empty}
use Rattle.frame_ports.proofs.ports.Ports.new.Goals as goal

pub invariant_of-result : goal.invariant_of-result
invariant_of-result c =
    fields-empty (record { next = 1; inboxes = c.in_ok-inboxes.inboxes; boxes = c.in_ok-boxes.boxes; numbers = c.zeros.result }) c.args.clients refl
    c.in_ok-inboxes.ensures c.in_ok-boxes.ensures c.zeros.ensures c.requires.some c.requires.few

pub returns-clause-ok : goal.returns-clause-ok
returns-clause-ok c =
    state-empty (record { next = 1; inboxes = c.in_ok-inboxes.inboxes; boxes = c.in_ok-boxes.boxes; numbers = c.zeros.result }) c.args.clients refl
    c.in_ok-inboxes.ensures c.in_ok-boxes.ensures c.zeros.ensures
