use Rattle.std.proofs.Common.{rules, ◌≡◌, ℕ, ◌-◌, ◌∙◌, ap, subst, sym}
use Rattle.std.specs.Prelude.{map}
use Rattle.pair_record.specs.declared.event.Reply.TheVariants as replies
use Rattle.pair_core.specs.{Invariant.Holds, internal.WorldFields.pair_of}
use Rattle.pair_core.specs.Lines.{packet_of, packets_from, with_forward, lines_after}
use Rattle.pair_core.specs.laws.{Events.lines_hold, Lines.{sent_are, named-sent}}
use Rattle.pair_core.proofs.world.World.send.Goals.{After-pending}
use Rattle.pair_core.proofs.world.World.send.Goals as goal

-- what is on the line to the backup then
lines_are : (c : After-pending) → c.send.new.self.lines
    ≡ with_forward (pair_of c.self.inside).protocol.lines
    (map (packet_of (pair_of c.self.inside).protocol.state.generation) (pair_of c.self.inside).protocol.state.pending)
lines_are c =
    let w = pair_of c.self.inside in
    c.in_ok-send.ensures.ok
    ∙ (λ i. with_forward w.protocol.lines (packets_from (c.generation.ensures i) (c.window-window.ensures i).to_acknowledge
    ((c.window-window.ensures i).to_cut - (c.window-window.ensures i).to_acknowledge)))
    ∙ ap (with_forward w.protocol.lines) (sent_are w.protocol.state c.keep.ensures.record.window)

pub invariant_of-self-2 : goal.invariant_of-self-2
invariant_of-self-2 c =
    let w = pair_of c.self.inside in
    let lines = lines_are (goal.at.invariant_of-self-2 c).After-pending in
    subst Holds (λ i. record w { protocol = record w.protocol { lines = sym lines i } })
    (lines_hold w c.self.invariant _ (named-sent w.protocol.state w.protocol.lines c.self.invariant.lines c.keep.ensures.record.window))

pub returns : goal.returns
returns c = (
  (λ i. (replies.Sent (c.pending.ensures i), (pair_of c.self.inside).protocol.state)) ∙ search rules,
  (let w = pair_of c.self.inside in
      record {
        start = search rules;
        lines = rw (← c.self.view_is) (lines_are (goal.at.returns c).After-pending ∙ ap (λ (n : ℕ). lines_after w.protocol (replies.Sent n)) (sym c.pending.ensures));
        replicates = search rules;
        refused = search rules;
      }),
  search rules,
  search rules,
)
