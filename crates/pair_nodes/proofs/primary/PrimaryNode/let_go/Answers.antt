-- What an acknowledgement leaves is numbered as before, and the full checkpoint isn't among it.
use Rattle.std.proofs.Common.{rules, ◌≡◌, ◌+◌, ◌-◌, ℕ, List, length, drop, sym, ap, ◌∙◌, subst, arith, All, ◌≤◌}
use Rattle.std.specs.Prelude.{not}
use Rattle.std.proofs.lemmas.List.{length-drop}
use Rattle.std.proofs.lemmas.List.Elements.{All-drop}
use Rattle.failover.specs.Generations.{GenerationState}
use Rattle.guest_rules.specs.Guest.{State}
use Rattle.output_gate.specs.Epochs.{Epoch, after_number}
use Rattle.output_gate.specs.Gate.{GateState}
use Rattle.pair_record.specs.Modes.{is_alone}
use Rattle.pair_record.specs.Window.{NumberedFrom}
use Rattle.pair_core.specs.Nodes.{HasShape, node_of}
use Rattle.checkpoint_stream.specs.Bounds.{most_text}
use Rattle.pair_nodes.specs.Flagged.{Flagged}
use Rattle.pair_nodes.specs.internal.NodeFields.{primary_state}
use Rattle.pair_nodes.proofs.Pending.{Left, left_of, not_full, mode_paired}
use Rattle.pair_nodes.proofs.primary.PrimaryNode.let_go.Goals as goal
use Rattle.pair_nodes.proofs.primary.PrimaryNode.let_go.Goals.{After-end_filling}

left : (c : After-end_filling) → Left c.args.number (c.self.inside.to_cut - length c.self.inside.gate.epochs) c.self.inside.gate.epochs
left c =
    left_of c.args.number (c.self.inside.to_cut - length c.self.inside.gate.epochs) c.self.inside.gate.epochs c.self.invariant.numbered
    (omega (arith, c.self.invariant.most, c.requires.cut, ap (λ (p : Flagged). p.primary.to_cut) c.self.view_is))

pub invariant_of-self : goal.invariant_of-self
invariant_of-self c =
    let a = c.self.inside in
    let inv = c.self.invariant in
    let n = c.args.number in
    let l = left c in
    let es : c.let_go-frames.new.self.epochs ≡ after_number n a.gate.epochs = ap (λ (g : GateState). g.epochs) c.let_go-frames.ensures.gate in
    let next : c.let_go-frames.new.self.next ≡ a.gate.next = ap (λ (g : GateState). g.next) c.let_go-frames.ensures.gate in
    let long = ap (λ (l : List Epoch). length l) es in
    let place : (a.to_cut - length a.gate.epochs + length a.gate.epochs) - length (after_number n a.gate.epochs)
    ≡ a.to_cut - length c.let_go-frames.new.self.epochs = omega (arith, long, inv.most) in
    let numbered : NumberedFrom (a.to_cut - length c.let_go-frames.new.self.epochs) c.let_go-frames.new.self.epochs =
    subst (λ es. NumberedFrom (a.to_cut - length c.let_go-frames.new.self.epochs) es) (sym es)
    (subst (λ m. NumberedFrom m (after_number n a.gate.epochs)) place l.numbered) in
    let paired = ap (λ (g : GenerationState). g.mode) c.end_filling.ensures in
    record {
      sized = subst (λ (m : State). HasShape a.shape m.guest) (sym c.drop_first.ensures.machine) inv.sized;
      numbered = numbered;
      most = omega (arith, long, l.few, inv.most);
      few = omega (arith, long, l.few, inv.few);
      texts = omega (
        arith,
        ap (λ (ts : List (List ℕ)). length ts) c.drop_first.ensures.texts,
        length-drop c.saturating_sub-count.result a.kept.texts,
        c.count.ensures,
        c.saturating_sub-count.ensures,
        l.count,
        l.few,
        inv.texts,
        long,
      );
      short = subst (All (λ t. length t ≤ most_text a.shape)) (sym c.drop_first.ensures.texts)
          (All-drop (λ t. length t ≤ most_text a.shape) c.saturating_sub-count.result a.kept.texts inv.short);
      mode = mode_paired c.end_filling.new.generation.mode c.let_go-frames.new.self.epochs paired
          (not_full (a.to_cut - length c.let_go-frames.new.self.epochs) c.let_go-frames.new.self.epochs numbered
          (omega (arith, long, l.count, l.few, inv.most, c.requires.cut, ap (λ (p : Flagged). p.primary.to_cut) c.self.view_is)));
      alone = search (arith, rules, paired);
      to_cut = inv.to_cut;
      last_cut = inv.last_cut;
      numbers = omega (arith, next, inv.numbers, ap (λ (m : State). length m.outbox) c.drop_first.ensures.machine);
      room = search (arith, rules, next, inv.room, c.requires.backed, ap (λ (p : Flagged). p.primary) c.self.view_is);
    }

pub returns : goal.returns
returns c =
    let a = c.self.inside in
    let n = c.args.number in
    let l = left c in
    let es : c.let_go-frames.new.self.epochs ≡ after_number n a.gate.epochs = ap (λ (g : GateState). g.epochs) c.let_go-frames.ensures.gate in
    let next : c.let_go-frames.new.self.next ≡ a.gate.next = ap (λ (g : GateState). g.next) c.let_go-frames.ensures.gate in
    let count : c.saturating_sub-count.result ≡ length a.gate.epochs - length (after_number n a.gate.epochs) =
    omega (arith, c.saturating_sub-count.ensures, c.count.ensures, l.count, c.self.invariant.texts) in
    let texts : c.drop_first.new.self.texts ≡ drop (length a.gate.epochs - length (after_number n a.gate.epochs)) a.kept.texts =
    c.drop_first.ensures.texts ∙ ap (λ k. drop k a.kept.texts) count in
    let live : node_of c.drop_first.new.self.machine ≡ node_of a.kept.machine = ap node_of c.drop_first.ensures.machine in
    let backed : not (is_alone c.end_filling.new.generation.mode) ≡ not (is_alone a.generation.mode) =
    ap (λ (g : GenerationState). not (is_alone g.mode)) c.end_filling.ensures
    ∙ sym (ap (λ (p : Flagged). p.primary.backed) c.self.view_is ∙ c.requires.backed) in
    let number : c.end_filling.new.generation.number ≡ a.generation.number = ap (λ (g : GenerationState). g.number) c.end_filling.ensures in
    let flags : c.drop_first.new.self.machine.written ≡ a.kept.machine.written =
    ap (λ (m : State). m.written) c.drop_first.ensures.machine in
    rw (← c.self.view_is) (λ i. record {
      primary = record (primary_state a) {
        live = live i;
        generation = number i;
        backed = backed i;
        pending = es i;
        texts = texts i;
        next_frame = next i;
      };
      flags = flags i;
    })
