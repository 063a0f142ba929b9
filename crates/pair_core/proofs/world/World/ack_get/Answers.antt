use Rattle.std.proofs.Common.{rules}
use Rattle.std.proofs.{Common.{arith, ◌≡◌, ◌<◌, ◌∙◌, sym, ap, length, false, Some}, lemmas.List.length-append}
use Rattle.std.specs.Prelude.{slice_get}
use Rattle.pair_history.specs.Landings.{landings}
use Rattle.pair_record.specs.Protocol.{Outcome, first_refusal, or_else, refused, ack_done, ack_outcome, ack_refusals, acknowledge_refusals, let_go}
use Rattle.pair_record.specs.declared.event.Event.TheVariants.{AckGet}
use Rattle.pair_core.specs.{Answering.{AddsEntries}, Pair.{shown_state}}
use Rattle.pair_record.specs.Record.{ports_after_ack}
use Rattle.pair_core.specs.internal.WorldFields.{pair_of}
use Rattle.pair_history.specs.laws.Landings.{length-landings}
use Rattle.pair_core.specs.laws.{Events.moved_to, ClientEvents.ack_holds, Lines.below_at}
use Rattle.pair_core.specs.laws.Outcomes.{ByTable, refused_by_table, wanted_by_table}
use Rattle.pair_core.proofs.Calls.{on_err}
use Rattle.pair_record.specs.laws.Tables.{acknowledge_free, acknowledge_as}
use Rattle.pair_core.proofs.world.World.ack_get.Goals.{In-Some}
use Rattle.pair_core.proofs.world.World.ack_get.Goals as goal

-- what came is on the line, and where it is of this generation it names a checkpoint that was committed
there : (c : In-Some) → slice_get (pair_of c.self.inside).protocol.lines.back c.args.k ≡ Some c.in-Some.packet
there c = sym c.acknowledgement.ensures ∙ c.in-Some.is

below : (c : In-Some) → c.in-Some.packet.generation ≡ (pair_of c.self.inside).protocol.state.generation
    → c.in-Some.packet.number < (pair_of c.self.inside).protocol.state.window.to_commit
below c =
    let w = pair_of c.self.inside in
    below_at w.protocol.state.generation w.protocol.state.window.to_commit w.protocol.lines.back c.args.k (Some c.in-Some.packet)
    c.self.invariant.lines.back (sym (there c))

-- the record's table is the world's
table : (c : In-Some) → first_refusal (acknowledge_refusals false (pair_of c.self.inside).ports.boxes (pair_of c.self.inside).protocol.state c.in-Some.packet)
    ≡ first_refusal (ack_refusals (pair_of c.self.inside).ports.boxes (pair_of c.self.inside).protocol.state c.in-Some.packet)
table c = let w = pair_of c.self.inside in acknowledge_as w.ports.boxes w.protocol.state c.in-Some.packet (below c)

-- so what the protocol says of it
by_the_table : (c : In-Some) → ByTable (pair_of c.self.inside) (slice_get (pair_of c.self.inside).protocol.lines.back c.args.k) (AckGet c.args.k)
    (acknowledge_refusals false (pair_of c.self.inside).ports.boxes (pair_of c.self.inside).protocol.state c.in-Some.packet)
    (0 < length (let_go (pair_of c.self.inside).ports.boxes (pair_of c.self.inside).protocol.state c.in-Some.packet.number))
    (ack_done (pair_of c.self.inside).ports.boxes (pair_of c.self.inside).protocol.state c.in-Some.packet.number)
by_the_table c =
    let w = pair_of c.self.inside in
    let r = w.protocol.state in
    let b = w.ports.boxes in
    let p = c.in-Some.packet in
    let leaving = let_go b r p.number in
    record {
      sees =
          ap (λ o. or_else o (refused r) (ack_done b r p.number)) (table c)
          ∙ ap (λ bs. ack_outcome bs r (Some p)) c.self.invariant.accords.clients.boxes
          ∙ ap (ack_outcome (shown_state w).boxes r) (sym (there c));
      may = λ (some : 0 < length leaving).
          (let adds : AddsEntries r (ack_done b r p.number).1 =
          omega (arith, length-append r.journal.history (landings b leaving), length-landings b leaving, some) in adds);
    }

pub invariant_of-self : goal.invariant_of-self
invariant_of-self c =
    let w = pair_of c.self.inside in
    let p = c.in-Some.packet in
    let free = acknowledge_free false w.ports.boxes w.protocol.state p c.in-Ok.ensures.free in
    moved_to w c.acknowledge.new.self.protocol (ack_done w.ports.boxes w.protocol.state p.number).1 c.acknowledge.new.self.ports
    (ports_after_ack w.ports w.protocol.state p.number) (ap (λ (o : Outcome). o.1) c.in-Ok.ensures.done) c.in-Ok.ensures.ports
    (ack_holds w c.self.invariant c.keep.ensures.record c.keep.ensures.numbers c.keep.ensures.clients p.number free.1)

pub returns : goal.returns
returns c = (
  (let table = by_the_table (goal.at.returns c).In-Some in
      rw (← c.self.view_is) (refused_by_table table c.in-Err.why _ _ c.in-Err.ensures.why c.in_ok-why-in-Err.ensures.same
      c.in_ok-why-in-Err.ensures.other c.in-Err.ensures.refused.0)),
  search rules,
  search rules,
  search rules,
)

-- it adds an entry for each frame that leaves
pub returns-in_err-why-in-Err : goal.returns-in_err-why-in-Err
returns-in_err-why-in-Err c = (
  search rules,
  search rules,
  (let table = by_the_table (goal.at.returns-in_err-why-in-Err c).In-Some in
      rw (← c.self.view_is) (on_err _ _ (wanted_by_table table c.in-Err.why _ c.in-Err.ensures.why c.in_err-why-in-Err.ensures.memory))),
  search rules,
)
