use Rattle.std.proofs.Common.{rules, arith, ◌≡◌, ◌∙◌, ◌+◌, ◌-◌, ℕ, List, All, map, sym, ap, subst}
use Rattle.frame_ports.specs.{Addresses.IsFrame, Limits.number_limit}
use Rattle.backup_image.specs.Kept.{count_kept}
use Rattle.pair_history.specs.Entries.{Frame}
use Rattle.pair_record.specs.{Kept.Brings, Protocol.{Outcome, first_refusal, go_live_refusals}, Record.owed_to}
use Rattle.pair_core.specs.{Kept.first_kept, Invariant.Holds, internal.WorldFields.pair_of}
use Rattle.pair_record.specs.laws.{Modes.{live_goes, live_full}, Tables.passed, Records.some_committed}
use Rattle.std.proofs.lemmas.Bool.{leb-false}
use Rattle.pair_core.specs.laws.{GoneLive.gone_live_holds, Kept.{count-kept, each-of, keeps_brings}}
use Rattle.pair_core.proofs.world.World.go_live.Goals.{After-go_live_refusal}
use Rattle.pair_core.proofs.world.World.go_live.Goals as goal

-- the image's frames are those that the clients are owed
brings_here : (c : After-go_live_refusal)
    → Brings (pair_of c.self.inside).protocol.state (pair_of c.self.inside).ports c.first-first.result
    (map (λ v. v.items) c.epochs-frames.result.now)
brings_here c =
    let w = pair_of c.self.inside in
    let i = w.nodes.image in
    let two = live_goes w.protocol.state.mode (rw (← c.self.view_is) at c.requires) in
    let brings = keeps_brings w.protocol.state w.ports i (c.self.invariant.kept two) c.keep.ensures.numbers in
    let kept = c.kept-kept.ensures in
    let lists : map (λ v. v.items) c.epochs-frames.result.now ≡ i.kept = c.epochs-frames.ensures.value ∙ kept.lists in
    let first : c.first-first.result ≡ first_kept i =
    c.first-first.ensures.value ∙ (λ k. kept.sent k + 1 - count_kept (kept.lists k)) ∙ ap (λ n. i.sent + 1 - n) (count-kept i.kept) in
    subst (λ (x : ℕ × List (List Frame)). Brings w.protocol.state w.ports x.0 x.1) (λ k. (sym first k, sym lists k)) brings

-- so the table of refusals is the protocol's
table : (c : After-go_live_refusal) → c.go_live_refusal.result
    ≡ first_refusal (go_live_refusals (pair_of c.self.inside).ports.boxes
    (owed_to (pair_of c.self.inside).protocol.state (pair_of c.self.inside).ports) (pair_of c.self.inside).protocol.state)
table c = c.go_live_refusal.ensures.owed (brings_here c)

pub go_live-requires-clause-frames : goal.go_live-requires-clause-frames
go_live-requires-clause-frames c =
    each-of (λ v. v.items) (λ fs. All IsFrame fs) c.epochs-frames.result.now
    (subst (λ (l : List (List Frame)). All (λ fs. All IsFrame fs) l) (sym c.epochs-frames.ensures.value)
    c.epochs-frames.ensures.rules.frames)

pub returns-in-Some : goal.returns-in-Some
returns-in-Some c = (
  (let row = table (goal.at.returns-in-Some c).After-go_live_refusal in
      search (arith, rules, row)),
  search rules,
  search rules,
  search rules,
)

pub returns-in_err-reply : goal.returns-in_err-reply
returns-in_err-reply c = (
  search rules,
  search rules,
  (let row = table (goal.at.returns-in_err-reply c).After-go_live_refusal in
      search (arith, rules, row)),
  search rules,
)

pub invariant_of-self-2 : goal.invariant_of-self-2
invariant_of-self-2 c =
    let w = pair_of c.self.inside in
    let at = (goal.at.invariant_of-self-2 c).After-go_live_refusal in
    let goes = rw (← c.self.view_is) at c.requires in
    let two = live_goes w.protocol.state.mode goes in
    let some = some_committed w.protocol.state c.keep.ensures.record two (live_full w.protocol.state.mode goes) in
    let rows = passed _ _ _ (sym (table at) ∙ c.in_default.is) in
    let last = leb-false number_limit (w.protocol.state.generation + 1) rows.0 in
    let protocol = ap (λ (o : Outcome). o.1) (c.in_ok-reply.ensures.owed (brings_here at)) in
    let ports = c.in_ok-reply.ensures.owed_ports (brings_here at) in
    subst Holds (λ i. record w { protocol = record w.protocol { state = sym protocol i }; ports = sym ports i; nodes = sym c.go_live-2.ensures i })
    (gone_live_holds w c.self.invariant two some c.image_steps-steps.result last)

pub returns : goal.returns
returns c = (
  (let at = (goal.at.returns c).After-go_live_refusal in
      let row = table at in
      let done = c.in_ok-reply.ensures.owed (brings_here at) in
      search (arith, rules, row, done)),
  search rules,
  search rules,
  search rules,
)
