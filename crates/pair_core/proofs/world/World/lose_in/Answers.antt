use Rattle.std.proofs.Common.{rules, ◌∙◌}
use Rattle.pair_core.specs.internal.WorldFields.{pair_of}
use Rattle.pair_core.proofs.Calls.{on_err}
use Rattle.pair_core.specs.laws.{ClientEvents.lost_in_holds, Losses.lose_in_by_table, Outcomes.{done_by_table, refused_by_table, wanted_by_table}}
use Rattle.pair_core.proofs.world.World.lose_in.Goals as goal

pub invariant_of-self : goal.invariant_of-self
invariant_of-self c =
    lost_in_holds (pair_of c.self.inside) c.self.invariant c.args.client c.args.place c.in-Ok.is_there c.lose_in.new.self.protocol
    c.lose_in.new.self.ports c.in-Ok.ensures.free c.in-Ok.ensures.done c.in-Ok.ensures.ports

pub returns-in-Ok : goal.returns-in-Ok
returns-in-Ok c = (
  (let table = lose_in_by_table (pair_of c.self.inside) c.self.invariant c.args.client c.args.place in
      (λ i. (c.lost.ensures i, c.lose_in.new.self.protocol)) ∙ c.in-Ok.ensures.done
      ∙ rw (← c.self.view_is) (done_by_table table c.in-Ok.ensures.free)),
  search rules,
  search rules,
  search rules,
)

pub returns-in_err-why-in-Err : goal.returns-in_err-why-in-Err
returns-in_err-why-in-Err c = (
  search rules,
  search rules,
  (let table = lose_in_by_table (pair_of c.self.inside) c.self.invariant c.args.client c.args.place in
      rw (← c.self.view_is) (on_err _ _ (wanted_by_table table c.in-Err.why _ c.in-Err.ensures.why c.in_err-why-in-Err.ensures.memory))),
  search rules,
)

pub returns : goal.returns
returns c = (
  (let table = lose_in_by_table (pair_of c.self.inside) c.self.invariant c.args.client c.args.place in
      rw (← c.self.view_is) (refused_by_table table c.in-Err.why _ _ c.in-Err.ensures.why c.in_ok-why-in-Err.ensures.same
      c.in_ok-why-in-Err.ensures.other c.in-Err.ensures.refused.0)),
  search rules,
  search rules,
  search rules,
)
