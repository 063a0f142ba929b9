use Rattle.std.proofs.Common.{◌≡◌, List, take, get_or, ap, ◌∙◌, sym, arith, subst}
use Rattle.std.proofs.lemmas.List.{get_or-take, length-take-le}
use Rattle.std.specs.Prelude.{All}
use Rattle.frame_ports.specs.Ports.{IsClient}
use Rattle.pair_history.specs.Entries.{Frame}
use Rattle.pair_history.specs.internal.NewFrames.{new_for}
use Rattle.pair_history.proofs.NewFrameLaws.{new_next}
use Rattle.pair_history.proofs.landings.count_new_frames.Goals as goal

pub count_new-requires-clause-known : goal.count_new-requires-clause-known
count_new-requires-clause-known c =
    subst (All (IsClient c.args.ports.now)) (sym c.as_slice.ensures.value) c.receivers_of-clients.ensures.known

pub loop-at-preserved : goal.loop-at-preserved
loop-at-preserved c =
    let p = c.args.ports.now in
    let n = c.loop-at.number in
    let i = c.loop-at.at in
    let fs : List Frame = take c.args.known c.args.frames.now.items in
    let long = length-take-le c.args.known c.args.frames.now.items c.requires.there in
    let f : Frame = record { items = c.bytes.result.now } in
    let is : f ≡ get_or fs i f = c.bytes.ensures.value ∙ sym (get_or-take c.args.known c.args.frames.now.items i f (omega arith)) in
    let one = ap (λ cs. new_for p cs n) (c.as_slice.ensures.value ∙ c.receivers_of-clients.ensures.clients) in
    let k = new_next p n fs i f (omega arith) is in
    record { number = omega arith; limit = omega arith; most = omega arith; exact = λ below. omega arith }
