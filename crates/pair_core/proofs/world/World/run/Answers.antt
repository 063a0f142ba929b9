use Rattle.std.proofs.{Common.{rules, ◌≡◌, ◌+◌, ◌++◌, ◌∷◌, [], length, take, get_or, ◌∙◌, arith, ◌<◌, List, subst}, lemmas.List.{take_more, take_all}}
use Rattle.pair_record.specs.declared.event.{Event.Event, Event.TheVariants.Step}
use Rattle.pair_core.specs.{Along.Along, Answering.AnswersEvent, Drops.Drops, Replication.{Does, Leads}, Runs.Run, Service.{HasServed, Serves, moment}}
use Rattle.pair_core.specs.laws.{Along.along-more, Serves.Begins-trans}
use Rattle.pair_core.proofs.world.World.run.Goals.{After-loop-event}
use Rattle.pair_core.proofs.world.World.run.Goals as goal

pub loop-event-init : goal.loop-event-init
loop-event-init c = record {
  replies = search rules;
  drops = search rules;
  served = search rules;
  leads = search rules;
  start = search rules;
  grows = search rules;
  consistent = c.keep_consistent.ensures;
  counted = search rules;
  room = search rules;
}

pub loop-event-preserved : goal.loop-event-preserved
loop-event-preserved c =
    let items = rw c.unwrap.ensures at c.push.ensures.items in
    let len = rw c.unwrap.ensures at c.push.ensures.len in
    let cap = c.push.ensures.capacity in
    let v = c.loop-event.invariant in
    let done = c.apply-reply.ensures in
    let i = c.loop-event.event-index in
    let start = c.args.self.now.start in
    let events = c.args.events.now in
    let within : i < length events = omega arith in
    let more : take (i + 1) events ≡ take i events ++ get_or events i Step ∷ [] = take_more events i Step within in
    record {
      replies = rw (more, items) (along-more (AnswersEvent start) (take i events) _ _ _ _ (get_or events i Step) _
          v.replies (rw v.start at done.answers));
      drops = rw (more, items) (along-more (Drops start) (take i events) _ _ _ _ (get_or events i Step) _
          v.drops (rw v.start at done.drops));
      served = rw (more, items) (along-more (Serves start) (take i events) _ _ _ _ (get_or events i Step) _
          v.served (rw v.start at done.serves));
      leads = rw (more, items) (along-more Does (take i events) _ _ _ _ (get_or events i Step) _ v.leads (record {
        start = done.start;
        answers = done.answers;
        consistent = done.consistent;
        drops = done.drops;
        replicates = done.replicates;
      }));
      start = done.start ∙ v.start;
      grows = Begins-trans _ _ _ v.grows done.grows;
      consistent = done.consistent;
      counted = let k = v.counted in omega arith;
      room = let k = v.room in omega arith;
    }

-- at the end the events so far are all of them
all_done : (c : After-loop-event) → take c.loop-event.event-index c.args.events.now ≡ c.args.events.now
all_done c = take_all c.loop-event.event-index c.args.events.now c.loop-event-test.false

pub returns-clause-replies : goal.returns-clause-replies
returns-clause-replies c =
    let w = c.args.self.now in
    let l = c.loop-event in
    subst (λ (es : List Event). Run w.start w.protocol es l.replies.items l.self.protocol) (all_done (goal.at.returns-clause-replies c).After-loop-event)
    l.invariant.replies

pub returns-clause-drops : goal.returns-clause-drops
returns-clause-drops c =
    let w = c.args.self.now in
    let l = c.loop-event in
    subst (λ (es : List Event). Along (Drops w.start) w.protocol es l.replies.items l.self.protocol)
    (all_done (goal.at.returns-clause-drops c).After-loop-event) l.invariant.drops

pub returns-clause-served : goal.returns-clause-served
returns-clause-served c =
    let w = c.args.self.now in
    let l = c.loop-event in
    subst (λ (es : List Event). HasServed w.start (moment w) es l.replies.items (moment l.self))
    (all_done (goal.at.returns-clause-served c).After-loop-event) l.invariant.served

pub returns-clause-leads : goal.returns-clause-leads
returns-clause-leads c =
    let w = c.args.self.now in
    let l = c.loop-event in
    subst (λ (es : List Event). Leads w es l.replies.items l.self) (all_done (goal.at.returns-clause-leads c).After-loop-event) l.invariant.leads
