use Rattle.std.proofs.Common.{◌≡◌, true, false, cond, length, Ok, Err, refl, sym, ap, ◌∙◌}
use Rattle.pair_nodes.specs.{Flagged.{Flagged, with_primary}, PrimaryCalls.after_release}
use Rattle.node_player.proofs.runs.step_guest.Goals as goal

pub returns-in-Err : goal.returns-in-Err
returns-in-Err g c =
    let left = c.in-Err.ensures in (_, c.refuse.ensures, (Err c.in-Err.why, c.step.new.self, left.steps, (refl, refl), left.flags))

pub returns-then-is_backed : goal.returns-then-is_backed
returns-then-is_backed g c =
    let backed : c.step.new.self.primary.backed ≡ true = sym c.is_backed.ensures ∙ c.if-is_backed.true in (
      _,
      rw (c.steps.ensures, c.outbox.ensures.value) at c.put_steps.ensures,
      (Ok c.in_default.field-0, c.step.new.self, c.in_default.ensures.steps, (rw backed refl, rw backed refl), c.in_default.ensures.flags),
    )

pub returns : goal.returns
returns g c =
    let q = c.step.new.self in
    let lone : q.primary.backed ≡ false = sym c.is_backed.ensures ∙ c.if-is_backed.false in
    let left = c.release.ensures ∙ sym (ap (λ b. with_primary q (cond b q.primary (after_release q.primary))) lone) in
    let none : length c.release.new.self.primary.live.outbox ≡ 0 = ap (λ (p : Flagged). length p.primary.live.outbox) c.release.ensures in (
      _,
      rw (c.steps-2.ensures, c.outbox-2.ensures.value) at c.put_steps-written.ensures,
      (Ok c.in_default.field-0, c.step.new.self, c.in_default.ensures.steps, (rw (none, lone) refl, left), c.in_default.ensures.flags),
    )
