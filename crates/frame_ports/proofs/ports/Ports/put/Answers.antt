-- The frame goes last in the inbox under the next number, and the boxes stay.
use Rattle.std.proofs.Common.{ℕ, ◌+◌, ◌<◌, length, ◌∙◌, ap, ◌++◌, ◌∷◌, [], List, arith}
use Rattle.frame_ports.specs.Addresses.{IsFrame}
use Rattle.frame_ports.specs.Ports.{PortsState, with_inbox, inbox_of}
use Rattle.frame_ports.specs.Limits.{inbox_frames}
use Rattle.frame_ports.proofs.PortsLemmas.{inbox_changed, inbox_seen, inbox-push}
use Rattle.frame_ports.proofs.ports.Ports.put.Goals as goal

pub invariant_of-self : goal.invariant_of-self
invariant_of-self c =
    let client = c.requires.client in
    let xs = c.index_mut-inbox.result.now.items in
    let at = inbox_seen c.self.inside c.args.client c.args.self.now c.self.view_is c.self.invariant client c.index_mut-inbox.result.now
    c.index_mut-inbox.ensures.value in
    let room : length xs < inbox_frames = omega (arith, c.requires.room, ap (λ l. length l) at.0) in
    let frame : IsFrame c.frame_of.result = (
      omega (arith, c.requires.frame.0, ap (λ l. length l) c.frame_of.ensures),
      omega (arith, c.requires.frame.1, ap (λ l. length l) c.frame_of.ensures),
    ) in
    (inbox_changed c.self.inside c.args.client c.args.self.now c.self.view_is c.self.invariant client (c.self.inside.next + 1)
    (λ l. l ++ (c.self.inside.next, c.frame_of.result) ∷ []) c.index_mut-inbox.result.now c.put_last.new.ring
    (omega arith, omega (arith, c.requires.numbers, ap (λ (s : PortsState). s.next) c.self.view_is))
    c.index_mut-inbox.ensures.value c.put_last.ensures (inbox-push xs (c.self.inside.next, c.frame_of.result) room frame)).0

pub returns-clause-ports : goal.returns-clause-ports
returns-clause-ports c =
    let client = c.requires.client in
    let xs = c.index_mut-inbox.result.now.items in
    let at = inbox_seen c.self.inside c.args.client c.args.self.now c.self.view_is c.self.invariant client c.index_mut-inbox.result.now
    c.index_mut-inbox.ensures.value in
    let room : length xs < inbox_frames = omega (arith, c.requires.room, ap (λ l. length l) at.0) in
    let frame : IsFrame c.frame_of.result = (
      omega (arith, c.requires.frame.0, ap (λ l. length l) c.frame_of.ensures),
      omega (arith, c.requires.frame.1, ap (λ l. length l) c.frame_of.ensures),
    ) in
    let after : ℕ → List ℕ → PortsState = λ n bytes. let s : PortsState =
    record (with_inbox c.args.self.now c.args.client (inbox_of c.args.self.now c.args.client ++ (n, record { items = bytes }) ∷ []))
    { next = n + 1 } in s in
    (inbox_changed c.self.inside c.args.client c.args.self.now c.self.view_is c.self.invariant client (c.self.inside.next + 1)
    (λ l. l ++ (c.self.inside.next, c.frame_of.result) ∷ []) c.index_mut-inbox.result.now c.put_last.new.ring
    (omega arith, omega (arith, c.requires.numbers, ap (λ (s : PortsState). s.next) c.self.view_is))
    c.index_mut-inbox.ensures.value c.put_last.ensures (inbox-push xs (c.self.inside.next, c.frame_of.result) room frame)).1
    ∙ ap (λ n. after n c.frame_of.result.items) (ap (λ (s : PortsState). s.next) c.self.view_is)
    ∙ ap (λ bytes. after c.args.self.now.next bytes) c.frame_of.ensures
