-- What is kept of a full text changes nothing that is seen; and a cut's epoch is pending last, under its own number.
use Rattle.std.proofs.Common.{rules, ◌≡◌, ◌+◌, ◌-◌, ◌++◌, ◌∷◌, [], List, length, sym, ap, ◌∙◌, subst, arith, All, ◌≤◌}
use Rattle.std.specs.Prelude.{not, if◌then◌else◌}
use Rattle.std.proofs.lemmas.List.{length-append}
use Rattle.std.proofs.lemmas.List.Elements.{All-append, All-cons, All-nil}
use Rattle.failover.specs.declared.mode.Mode.TheVariants as modes
use Rattle.guest_rules.specs.Guest.{State}
use Rattle.output_gate.specs.Epochs.{Epoch, epoch}
use Rattle.output_gate.specs.Gate.{GateState}
use Rattle.pair_record.specs.laws.Windows.{NumberedFrom-push}
use Rattle.pair_record.specs.Modes.{is_alone}
use Rattle.pair_core.specs.Nodes.{HasShape}
use Rattle.pair_record.specs.Window.{NumberedFrom}
use Rattle.checkpoint_stream.specs.Bounds.{most_text}
use Rattle.pair_nodes.specs.PrimaryCalls.{has_full}
use Rattle.pair_nodes.specs.Flagged.{Flagged}
use Rattle.pair_nodes.proofs.Pending.{below_all, full-append}
use Rattle.pair_nodes.proofs.primary.PrimaryNode.seal.Goals as goal

pub invariant_of-self : goal.invariant_of-self
invariant_of-self c =
    let a = c.self.inside in
    let inv = c.self.invariant in
    let kept = c.keep.ensures in
    record {
      sized = subst (λ (m : State). HasShape a.shape m.guest) (sym kept.machine) inv.sized;
      numbered = inv.numbered;
      most = inv.most;
      few = inv.few;
      texts = ap (λ ts. length ts) kept.texts ∙ inv.texts;
      short = subst (All (λ t. length t ≤ most_text a.shape)) (sym kept.texts) inv.short;
      mode = inv.mode;
      alone = inv.alone;
      to_cut = inv.to_cut;
      last_cut = inv.last_cut;
      numbers = omega (arith, inv.numbers, ap (λ (m : State). length m.outbox) kept.machine);
      room = inv.room;
    }

pub invariant_of-self-2 : goal.invariant_of-self-2
invariant_of-self-2 c =
    let a = c.self.inside in
    let inv = c.self.invariant in
    let kept = c.keep.ensures in
    let es = a.gate.epochs in
    let e : Epoch = epoch a.to_cut c.outbox.result.now in
    let few = ap (λ (p : Flagged). length p.primary.pending) c.self.view_is in
    let cut = ap (λ (p : Flagged). p.primary.to_cut) c.self.view_is in
    let frames = ap (λ (p : Flagged). p.primary.next_frame) c.self.view_is in
    let backed = ap (λ (p : Flagged). p.primary.backed) c.self.view_is ∙ c.requires.backed in
    let epochs : c.hold.new.self.epochs ≡ es ++ e ∷ [] = ap (λ (g : GateState). g.epochs) c.hold.ensures in
    let next : c.hold.new.self.next ≡ a.gate.next + length c.outbox.result.now = ap (λ (g : GateState). g.next) c.hold.ensures in
    let long = ap (λ (l : List Epoch). length l) epochs in
    let more : length (es ++ e ∷ []) ≡ length es + 1 = length-append es (e ∷ []) in
    let first : a.to_cut - length es ≡ (a.to_cut + 1) - length c.hold.new.self.epochs = omega (arith, long, more, inv.most) in
    let place : e.number ≡ (a.to_cut - length es) + length es = omega (arith, inv.most) in
    let out : length c.settle_with.new.self.machine.outbox ≡ 0 = ap (λ (m : State). length m.outbox) c.settle_with.ensures.machine in
    let short = ap (λ (p : Flagged). most_text p.primary.shape) c.self.view_is in
    let before = c.keep.new.self.texts in
    record {
      sized = subst (λ (m : State). HasShape a.shape m.guest) (sym c.settle_with.ensures.machine)
          (subst (λ (m : State). HasShape a.shape m.guest) (sym kept.machine) inv.sized);
      numbered = subst (λ n. NumberedFrom n c.hold.new.self.epochs) first
          (subst (NumberedFrom (a.to_cut - length es)) (sym epochs) (NumberedFrom-push (a.to_cut - length es) es e inv.numbered place));
      most = omega (arith, long, more, inv.most);
      few = omega (arith, long, more, few, c.requires.few);
      texts = omega (
        arith,
        ap (λ ts. length ts) c.settle_with.ensures.texts,
        length-append before (c.args.text.items ∷ []),
        ap (λ ts. length ts) kept.texts,
        inv.texts,
        long,
        more,
      );
      short = subst (All (λ t. length t ≤ most_text a.shape)) (sym c.settle_with.ensures.texts)
          (All-append (λ t. length t ≤ most_text a.shape) before (c.args.text.items ∷ [])
          (subst (All (λ t. length t ≤ most_text a.shape)) (sym kept.texts) inv.short)
          (All-cons (λ t. length t ≤ most_text a.shape) c.args.text.items [] (omega (arith, short, c.requires.short))
          (All-nil (λ t. length t ≤ most_text a.shape))));
      mode = inv.mode ∙ ap (λ b. if not (is_alone a.generation.mode) then (if b then modes.Filling else modes.Paired) else modes.Alone)
          (sym (ap has_full epochs ∙ full-append es e inv.to_cut));
      alone = search (arith, rules, backed);
      to_cut = omega (arith, inv.to_cut);
      last_cut = omega (arith, cut, c.requires.number);
      numbers = omega (arith, next, out, frames, c.requires.frames, c.outbox.ensures.most, ap (λ l. length l) c.outbox.ensures.value);
      room = λ paired. omega (arith, next, frames, c.requires.frames, c.outbox.ensures.most, ap (λ l. length l) c.outbox.ensures.value);
    }

pub hold-requires-clause-above : goal.hold-requires-clause-above
hold-requires-clause-above c =
    let a = c.self.inside in
    below_all (a.to_cut - length a.gate.epochs) a.to_cut a.gate.epochs c.self.invariant.numbered (omega (arith, c.self.invariant.most))
