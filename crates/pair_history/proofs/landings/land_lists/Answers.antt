-- One list more has landed: its frames that have a number below the end, and behind them those of the later lists.
use Rattle.std.proofs.Common.{◌≡◌, ℕ, ◌+◌, ◌++◌, List, length, take, refl, ap, ◌∙◌, sym, arith}
use Rattle.std.proofs.lemmas.List.{length-take-le}
use Rattle.frame_ports.specs.{Ports.PortsState, declared.landing.Landing.Landing}
use Rattle.output_gate.specs.Landings.{ports_after, landed_count, dropped_count, told_after}
use Rattle.pair_history.specs.Entries.{Frame}
use Rattle.pair_history.proofs.LandedEntryLaws.{next_list}
use Rattle.pair_history.proofs.landings.land_lists.Goals as goal

module _ (p q : PortsState) (n next : ℕ) (now fs gs : List Frame) (parts : now ≡ fs ++ gs) (behind : next ≡ n + length fs)
    (landed : q ≡ ports_after p n fs) where
  ports_on : ports_after p n (fs ++ gs) ≡ ports_after (ports_after p n fs) (n + length fs) gs → ports_after q next gs ≡ ports_after p n now
  ports_on law = (λ i. ports_after (landed i) (behind i) gs) ∙ sym law ∙ ap (ports_after p n) (sym parts)

  counts_on : (count : PortsState → ℕ → List Frame → ℕ)
      → count p n (fs ++ gs) ≡ count p n fs + count (ports_after p n fs) (n + length fs) gs → count p n now ≡ count p n fs + count q next gs
  counts_on count law = ap (count p n) parts ∙ law ∙ (λ i. count p n fs + count (sym landed i) (sym behind i) gs)

  told_on : {X : Type 0} (told : X → ℕ → Landing → X) (x y : X) → y ≡ told_after told x p n fs
      → told_after told x p n (fs ++ gs) ≡ told_after told (told_after told x p n fs) (ports_after p n fs) (n + length fs) gs
      → told_after told y q next gs ≡ told_after told x p n now
  told_on told x y heard law =
      (λ i. told_after told (heard i) (landed i) (behind i) gs) ∙ sym law ∙ ap (told_after told x p n) (sym parts)

pub land_frames-requires-clause-room : goal.land_frames-requires-clause-room
land_frames-requires-clause-room g c =
    let p = c.loop-frames.ports in
    let n = c.loop-frames.number in
    let k = c.up_to-known.result in
    let v = c.frames-item.result in
    let known = c.up_to-known.ensures in
    let fs : List Frame = take k v.items in
    let long = length-take-le k v.items known.there in
    let parts = next_list c.args.end n c.args.lists.now c.loop-frames.frames-index v k (omega arith) c.frames-item.is known.frames known.there in
    omega (
      arith,
      c.loop-frames.invariant.room,
      counts_on p (ports_after p n fs) n (n + k) _ fs _ parts (omega arith) refl landed_count (c.landings_go_in_parts.ensures.landed p n fs _),
      counts_on p (ports_after p n fs) n (n + k) _ fs _ parts (omega arith) refl dropped_count (c.landings_go_in_parts.ensures.dropped p n fs _),
    )

pub loop-frames-preserved : goal.loop-frames-preserved
loop-frames-preserved g c =
    let p = c.loop-frames.ports in
    let q = c.land_frames.new.ports in
    let n = c.loop-frames.number in
    let k = c.up_to-known.result in
    let v = c.frames-item.result in
    let known = c.up_to-known.ensures in
    let fs : List Frame = take k v.items in
    let long = length-take-le k v.items known.there in
    let behind : n + k ≡ n + length fs = omega arith in
    let parts = next_list c.args.end n c.args.lists.now c.loop-frames.frames-index v k (omega arith) c.frames-item.is known.frames known.there in
    let landed = c.land_frames.ensures.ports in
    record {
      ports = ports_on p q n (n + k) _ fs _ parts behind landed (c.landings_go_in_parts.ensures.ports p n fs _) ∙ c.loop-frames.invariant.ports;
      known =
          told_on p q n (n + k) _ fs _ parts behind landed g.L.Listener.told (g.L.Listener.known c.loop-frames.listener)
          (g.L.Listener.known c.land_frames.new.listener) c.land_frames.ensures.known (c.listeners_hear_in_parts.ensures _ p n fs _)
          ∙ c.loop-frames.invariant.known;
      room = omega (
        arith,
        c.loop-frames.invariant.room,
        c.land_frames.ensures.room,
        counts_on p q n (n + k) _ fs _ parts behind landed landed_count (c.landings_go_in_parts.ensures.landed p n fs _),
        counts_on p q n (n + k) _ fs _ parts behind landed dropped_count (c.landings_go_in_parts.ensures.dropped p n fs _),
      );
    }
