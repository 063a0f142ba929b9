-- What is taken in stands in the standby's generation.
use Rattle.std.proofs.Common.{rules, ◌≡◌, ◌≤◌, sym, ap, ◌∙◌, subst, arith, Ok}
use Rattle.backup_image.specs.Images.{ImageState, stage_answer, after_stage, committed}
use Rattle.backup_image.specs.declared.standing.Staged.TheVariants.{New}
use Rattle.failover.specs.Generations.{GenerationState}
use Rattle.pair_nodes.specs.Refusing.{IsFree}
use Rattle.pair_nodes.specs.Sides.{Standby, to_commit}
use Rattle.pair_nodes.specs.StandbyCalls.{commit_rows}
use Rattle.pair_nodes.specs.internal.NodeFields.{standby_state}
use Rattle.pair_nodes.proofs.Taking.{is-new, of_generation, stands-at, unstaged, shape-stays}
use Rattle.pair_nodes.proofs.standby.StandbyNode.take_in.Goals as goal
use Rattle.pair_nodes.proofs.standby.StandbyNode.take_in.Goals.{After-end_filling}

pub invariant_of-self : goal.invariant_of-self
invariant_of-self c =
    let a = c.self.inside in
    let inv = c.self.invariant in
    let seen : standby_state a ≡ c.args.self.now = c.self.view_is in
    let free : IsFree (commit_rows (standby_state a) c.args.checkpoint) = subst (λ (b : Standby). IsFree (commit_rows b c.args.checkpoint)) (sym seen) c.requires.free in
    let next : to_commit (standby_state a) ≤ c.args.checkpoint.number = omega (arith, c.requires.next, ap to_commit seen) in
    let new : stage_answer a.image c.args.checkpoint ≡ Ok New = is-new (standby_state a) c.args.checkpoint inv.stands free next in
    let of_gen = of_generation (standby_state a) c.args.checkpoint inv.stands free next in
    let is : c.commit.new.self ≡ committed (after_stage a.image c.args.checkpoint) = c.commit.ensures ∙ ap committed c.stage-staged.ensures.image in
    let at = ap (λ (i : ImageState). i.stands_at) is ∙ stands-at a.image c.args.checkpoint new in
    let number = ap (λ (g : GenerationState). g.number) c.end_filling.ensures in
    let mode = ap (λ (g : GenerationState). g.mode) c.end_filling.ensures in
    record {
      staged = ap (λ (i : ImageState). i.staged) is ∙ unstaged a.image c.args.checkpoint new;
      stands = λ s here. search (arith, rules, at, here, number, of_gen);
      shape = inv.shape ∙ sym (ap (λ (i : ImageState). i.shape) is ∙ shape-stays a.image c.args.checkpoint new);
      last = search (arith, rules, at, c.requires.last);
      mode = search (arith, rules, at, mode);
    }
