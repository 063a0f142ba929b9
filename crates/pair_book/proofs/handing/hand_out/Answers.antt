use Rattle.std.proofs.Common.{◌≡◌, ◌+◌, ◌-◌, ℕ, suc, sym, ap, ◌∙◌, arith}
use Rattle.pair_book.specs.Handing.{Handing, handing, handed_out}
use Rattle.pair_book.proofs.handing.hand_out.Goals as goal

pub loop-client-preserved : goal.loop-client-preserved
loop-client-preserved c =
    let v = c.loop-client.invariant in
    let p = c.loop-client.pair in
    let new = c.hand_out_first.new.pair in
    let e = c.hand_out_first.ensures in
    let clients = c.clients-clients.result in
    let client = c.loop-client.client in
    let m = clients - client in
    let h : Handing = handing p.protocol p.ports c.loop-client.frames.items in
    let now : Handing = handing new.protocol new.ports c.hand_out_first.new.frames.items in
    let next : (clients + 1) - (client + 1) ≡ m = omega arith in
    let this : (clients + 1) - client ≡ suc m = omega (arith, c.loop-client-test.true) in
    record {
      first = omega arith;
      done =
          ap (λ (k : ℕ). handed_out k (client + 1) now) next
          ∙ ap (handed_out m (client + 1)) e.done
          ∙ ap (λ (k : ℕ). handed_out k client h) (sym this)
          ∙ v.done;
      boxes = e.boxes ∙ v.boxes;
      inboxes = e.inboxes ∙ e.boxes ∙ v.boxes;
      numbers = omega (arith, e.numbers, v.numbers);
      arrival_room = omega (arith, e.arrival_room, v.arrival_room);
      room = omega (arith, e.len, e.room, v.room);
      frames = e.frames;
    }

pub returns-clause-done : goal.returns-clause-done
returns-clause-done c =
    let old = c.args.pair.now in
    let before : Handing = handing old.protocol old.ports c.args.frames.now.items in
    let now : Handing = handing c.loop-client.pair.protocol c.loop-client.pair.ports c.loop-client.frames.items in
    let count = c.clients-clients.ensures.count in
    let over : (c.clients-clients.result + 1) - c.loop-client.client ≡ 0 = omega (arith, c.loop-client-test.false) in
    sym (ap (λ (k : ℕ). handed_out k c.loop-client.client now) over)
    ∙ c.loop-client.invariant.done
    ∙ ap (λ (k : ℕ). handed_out k 1 before) count
