use Rattle.std.proofs.Common.{◌≡◌, ℕ, ◌+◌, ◌-◌, suc, ◌∙◌, arith}
use Rattle.std.proofs.lemmas.Result.{err_from_is_err_and}
use Rattle.virtqueue.proofs.Walk.{walk_goes_on, walk_ends, walk_breaks, goes_on_true, goes_on_false}
use Rattle.virtqueue.proofs.rings.Queue.parts.Goals as goal

pub returns-in_err-entry : goal.returns-in_err-entry
returns-in_err-entry g c =
    let p = err_from_is_err_and c.from_residual.result c.from_residual.ensures.1 in
    rw (p.1, p.2) (walk_breaks c.args.self.now (g.R.GuestRam.bytes c.args.ram.now) c.loop-done.parts.items c.loop-done.after
    c.loop-done.index _ _ c.in_err-entry.ensures ∙ c.loop-done.invariant.same)

pub returns-then-entry-ne-NEXT : goal.returns-then-entry-ne-NEXT
returns-then-entry-ne-NEXT g c =
    let left : ℕ = c.args.self.now.num - (c.loop-done._done + 1) in
    let count : c.args.self.now.num - c.loop-done._done ≡ suc left = omega arith in
    rw c.push.ensures.items
    (walk_ends c.args.self.now (g.R.GuestRam.bytes c.args.ram.now) c.loop-done.parts.items c.loop-done.after c.loop-done.index _ left
    c.in_ok-entry.entry count
    c.in_ok-entry.ensures (goes_on_false c.in_ok-entry.entry c.if-entry-ne-NEXT.true) ∙ c.loop-done.invariant.same)

pub loop-done-preserved : goal.loop-done-preserved
loop-done-preserved g c =
    let left : ℕ = c.args.self.now.num - (c.loop-done._done + 1) in
    let count : c.args.self.now.num - c.loop-done._done ≡ suc left = omega arith in
    record {
      count = omega arith;
      same = rw c.push.ensures.items
          (walk_goes_on c.args.self.now (g.R.GuestRam.bytes c.args.ram.now) c.loop-done.parts.items c.loop-done.after c.loop-done.index _
          left c.in_ok-entry.entry count
          c.in_ok-entry.ensures (goes_on_true c.in_ok-entry.entry c.if-entry-ne-NEXT.false) ∙ c.loop-done.invariant.same);
    }

pub returns-in_err-entry-2 : goal.returns-in_err-entry-2
returns-in_err-entry-2 g c =
    let p = err_from_is_err_and c.from_residual-in_err-entry-2.result c.from_residual-in_err-entry-2.ensures.1 in
    rw (p.1, p.2) (walk_breaks c.args.self.now (g.R.GuestRam.bytes c.args.ram.now) c.loop-done.parts.items c.loop-done.after
    c.loop-done.index _ _ c.in_err-entry-2.ensures ∙ c.loop-done.invariant.same)
