use Rattle.std.proofs.Common.{◌+◌, ℕ, List, arith, refl, subst, sym, ◌∙◌}
use Rattle.guest_rules.specs.Aligned.{IsAligned}
use Rattle.guest_rules.specs.Flags.{KeepsFlags}
use Rattle.guest_rules.specs.Guest.{State}
use Rattle.guest_machine.specs.PageOps.{AreDecoded}
use Rattle.guest_machine.specs.Parts.{state_with}
use Rattle.guest_rules.specs.laws.Aligned.{aligned-next, aligned_after}
use Rattle.guest_machine.proofs.FlagLemmas.{keeps_same, keeps_on}
use Rattle.guest_rules.specs.laws.Runs.{IsRun, no_run, none_before, longer_run, few_before, run_then_quiet, few_before_quiet}
use Rattle.guest_machine.proofs.machine.Machine.run_while.Goals as goal

pub loop-made-init : goal.loop-made-init
loop-made-init c =
    let parts = c.self.inside in
    let now : State = state_with parts.hart parts.ram.memory parts.devices parts.outbox in
    let Run : State → Type 0 = λ s. IsRun 0 s now in
    let Flags : State → Type 0 = λ s. KeepsFlags s.written now.written in
    record {
      most = omega arith;
      run = subst Run c.self.view_is (no_run now);
      flags = subst Flags c.self.view_is (keeps_same now.written);
      before = none_before c.args.limit c.args.self.now;
      unchanged = λ none. c.self.view_is;
      aligned = c.self.invariant.0;
      decoded = c.self.invariant.1;
    }

pub loop-made-preserved : goal.loop-made-preserved
loop-made-preserved c =
    let quiet = c.run_stretch-made.ensures in
    let Decoded : List ℕ → Type 0 = λ settled.
    AreDecoded settled c.run_stretch-made.new.pages.owners.items c.run_stretch-made.new.pages.pool.items
    in
    record {
      most = omega arith;
      run =
          run_then_quiet c.loop-made.made c.run_stretch-made.result _ _ _ c.loop-made.invariant.run quiet.run (omega arith) refl refl
          quiet.settled;
      flags = keeps_on _ _ _ c.loop-made.invariant.flags quiet.flags;
      before =
          few_before_quiet c.args.limit c.loop-made.made c.run_stretch-made.result _ _ _ c.loop-made.invariant.run quiet.run (omega arith)
          c.loop-made.invariant.before;
      unchanged = λ none. absurd (omega (arith, none, c.if-made-count.false, c.loop-made-test.true));
      aligned = subst IsAligned (sym quiet.run.guest) (aligned_after c.run_stretch-made.result _ c.loop-made.invariant.aligned);
      decoded = subst Decoded (sym quiet.settled) quiet.decoded;
    }

pub loop-made-preserved-then-made-count : goal.loop-made-preserved-then-made-count
loop-made-preserved-then-made-count c =
    let quiet = c.run_stretch-made.ensures in
    let Decoded : List ℕ → Type 0 = λ settled.
    AreDecoded settled c.run_stretch-made.new.pages.owners.items c.run_stretch-made.new.pages.pool.items
    in
    let inside = c.loop-made.self-inside in
    let stretched : State =
    state_with c.run_stretch-made.new.hart c.run_stretch-made.new.ram.memory inside.devices inside.outbox
    in
    let run : IsRun (c.loop-made.made + c.run_stretch-made.result) c.args.self.now stretched =
    run_then_quiet c.loop-made.made c.run_stretch-made.result _ _ _ c.loop-made.invariant.run quiet.run (omega arith) refl refl
    quiet.settled
    in
    let aligned : IsAligned stretched.guest =
    subst IsAligned (sym quiet.run.guest) (aligned_after c.run_stretch-made.result _ c.loop-made.invariant.aligned)
    in
    record {
      most = omega arith;
      run =
          longer_run _ _ _ _ run (omega arith) c.run_step.ensures.guest c.run_step.ensures.frames c.run_step.ensures.list
          c.run_step.ensures.settled;
      flags = keeps_on _ _ _ (keeps_on _ _ _ c.loop-made.invariant.flags quiet.flags) c.run_step.ensures.flags;
      before = few_before _ _ _ _ run (omega arith);
      unchanged = λ none. absurd (omega arith);
      aligned = subst IsAligned (sym c.run_step.ensures.guest) (aligned-next _ aligned);
      decoded = subst Decoded (sym (c.run_step.ensures.settled ∙ quiet.settled)) quiet.decoded;
    }

pub run_stretch-made-requires : goal.run_stretch-made-requires
run_stretch-made-requires c = c.loop-made.invariant.decoded

pub invariant_of-self : goal.invariant_of-self
invariant_of-self c = (c.loop-made.invariant.aligned, c.loop-made.invariant.decoded)
