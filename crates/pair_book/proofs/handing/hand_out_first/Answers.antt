use Rattle.std.proofs.Common.{rules, ◌≡◌, ◌+◌, ◌-◌, ◌≤◌, ℕ, [], ◌∷◌, ◌++◌, length, drop, take, suc, sym, ap, ◌∙◌, subst, arith}
use Rattle.std.proofs.lemmas.List.{length-set}
use Rattle.std.proofs.lemmas.List.Elements.{All-push}
use Rattle.std.specs.Prelude.{All}
use Rattle.frame_ports.specs.{Addresses.IsFrame, Lands.list_of, Ports.PortsState}
use Rattle.pair_history.specs.Entries.{Frame}
use Rattle.pair_record.specs.{Journal.all_entries, Protocol.Record}
use Rattle.pair_book.specs.Handing.{Handing, handing, handed_one, handed_all}
use Rattle.pair_book.proofs.HandingLaws.{one-more, one-entry, none-more}
use Rattle.pair_book.proofs.handing.hand_out_first.Goals as goal

pub loop-place-preserved : goal.loop-place-preserved
loop-place-preserved c =
    let v = c.loop-place.invariant in
    let p = c.loop-place.pair in
    let new = c.hand_out.new.self in
    let x = c.in-Some.frame in
    let client = c.args.client in
    let place = c.loop-place.place in
    let n = 4 - (place + 1) in
    let h : Handing = handing p.protocol p.ports c.loop-place.frames.items in
    let now : Handing = handing new.protocol new.ports c.push.new.self.items in
    let protocol = c.in-Some.ensures.protocol in
    let ports = c.in-Some.ensures.ports in
    let items : c.push.new.self.items ≡ c.loop-place.frames.items ++ x ∷ [] = search rules in
    let is : now ≡ handed_one client x h = λ i. handing (protocol i) (ports i) (items i) in
    let low = c.requires.client.0 in
    let high : client ≤ length p.ports.inboxes = omega (arith, c.requires.client.1, v.boxes, v.inboxes) in
    let next : suc n ≡ 4 - place = omega (arith, c.loop-place-test.true) in
    let all = λ (k : ℕ). handed_all client (take k (list_of p.ports.inboxes client)) h in
    let count = ap (λ (r : Record). length (all_entries r.journal)) protocol ∙ one-entry p.protocol.journal x.0 in
    record {
      done = one-more h now client n x low high (sym c.in-Some.ensures.first) is ∙ ap all next ∙ v.done;
      boxes = ap (λ (q : PortsState). length q.boxes) ports ∙ v.boxes;
      inboxes =
          ap (λ (q : PortsState). length q.inboxes) ports
          ∙ length-set p.ports.inboxes (client - 1) (drop 1 (list_of p.ports.inboxes client))
          ∙ v.inboxes
          ∙ sym (ap (λ (q : PortsState). length q.boxes) ports);
      numbers = omega (arith, count, v.numbers);
      arrival_room = omega (arith, c.in-Some.ensures.room, v.arrival_room);
      len = search (arith, rules);
      room = search (arith, rules);
      frames =
          let IsOne : ℕ × Frame → Type 0 = λ y. IsFrame y.1 in
          subst (All IsOne) (sym items)
          (All-push IsOne c.loop-place.frames.items x v.frames c.in-Some.ensures.frame);
    }

-- no more waits
pub returns-in_default-clause-done : goal.returns-in_default-clause-done
returns-in_default-clause-done c =
    let p = c.loop-place.pair in
    let client = c.args.client in
    let inbox = list_of p.ports.inboxes client in
    let frames = c.loop-place.frames.items in
    let same = rw c.in_default.is at c.hand_out.ensures.none in
    (λ i. handing (same i).protocol (same i).ports frames)
    ∙ sym (ap (λ l. handed_all client l (handing p.protocol p.ports frames))
    (none-more (4 - c.loop-place.place) inbox (sym c.hand_out.ensures.first ∙ c.in_default.is)))
    ∙ c.loop-place.invariant.done
