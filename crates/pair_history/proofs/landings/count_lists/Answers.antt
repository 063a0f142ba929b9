use Rattle.std.proofs.Common.{◌≡◌, ◌+◌, ◌-◌, [], List, take, drop}
use Rattle.std.proofs.Common.{ap, ◌∙◌, arith, map}
use Rattle.std.proofs.lemmas.List.{drop_all, length-map, length-take-le, take_all}
use Rattle.pair_history.specs.Entries.{Frame}
use Rattle.pair_history.specs.internal.NewFrames.{new_after}
use Rattle.pair_history.specs.LandedEntries.{all_frames}
use Rattle.pair_history.proofs.LandedEntryLaws.{next_list}
use Rattle.pair_history.proofs.NewFrameLaws.{FrameLands, new_is, new-append}
use Rattle.pair_history.proofs.landings.count_lists.Goals.{After-up_to-known}
use Rattle.pair_history.proofs.landings.count_lists.Goals as goal

-- in parts
counted : (c : After-up_to-known)
    → new_after c.args.ports.now c.loop-frames.number
    (take (c.args.end - c.loop-frames.number) (all_frames (drop c.loop-frames.frames-index (map (λ v. v.items) c.args.lists.now))))
    ≡ new_after c.args.ports.now c.loop-frames.number (take c.up_to-known.result c.frames-item.result.items)
    + new_after c.args.ports.now (c.loop-frames.number + c.up_to-known.result)
    (take (c.args.end - (c.loop-frames.number + c.up_to-known.result))
    (all_frames (drop (c.loop-frames.frames-index + 1) (map (λ v. v.items) c.args.lists.now))))
counted c =
    let p = c.args.ports.now in
    let n = c.loop-frames.number in
    let k = c.up_to-known.result in
    let v = c.frames-item.result in
    let known = c.up_to-known.ensures in
    let long = length-take-le k v.items known.there in
    ap (new_after p n) (next_list c.args.end n c.args.lists.now c.loop-frames.frames-index v k (omega arith) c.frames-item.is known.frames known.there)
    ∙ new-append p n (n + k) (take k v.items) _ (omega arith)

pub loop-frames-preserved : goal.loop-frames-preserved
loop-frames-preserved c =
    let k = counted (goal.at.loop-frames-preserved c).After-up_to-known in
    record { limit = omega arith; most = omega arith; exact = λ below. omega arith }

pub returns-clause-most : goal.returns-clause-most
returns-clause-most c =
    let all = all_frames (map (λ v. v.items) c.args.lists.now) in
    let said = c.one_frame_lands.ensures in
    let law : FrameLands = record { rise = said.rise; others = said.others; clients = said.clients; later = said.later } in
    let is = new_is law c.args.ports.now c.args.first (take (c.args.end - c.args.first) all) in
    let most = c.loop-frames.invariant.most in
    omega arith

pub returns-clause-exact : goal.returns-clause-exact
returns-clause-exact c = λ below.
    let p = c.args.ports.now in
    let n = c.loop-frames.number in
    let fss = map (λ v. v.items) c.args.lists.now in
    let said = c.one_frame_lands.ensures in
    let law : FrameLands = record { rise = said.rise; others = said.others; clients = said.clients; later = said.later } in
    let is = new_is law p c.args.first (take (c.args.end - c.args.first) (all_frames fss)) in
    let exact = c.loop-frames.invariant.exact below in
    let long = length-map c.args.lists.now (λ v. v.items) in
    let none = ap (λ (l : List (List Frame)). new_after p n (take (c.args.end - n) (all_frames l)))
    (drop_all c.loop-frames.frames-index fss (omega arith))
    ∙ ap (new_after p n) (take_all (c.args.end - n) [] (omega arith)) in
    omega arith
