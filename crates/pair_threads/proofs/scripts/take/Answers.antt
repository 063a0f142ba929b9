use Rattle.std.proofs.Common.{ap, arith, refl, sym, subst, Option}
use Rattle.pair_history.specs.Entries as entries
use Rattle.pair_record.specs.Record.{given}
use Rattle.pair_record.specs.declared.event.Reply.TheVariants as replies
use Rattle.pair_run.specs.declared.run_file.Action.TheVariants.{Take}
use Rattle.pair_threads.proofs.ToldLemmas.{called, uncalled}
use Rattle.pair_threads.specs.internal.Scripts.{Tells}
use Rattle.pair_threads.proofs.scripts.take.Goals as goal

pub returns-in-Ok-take_into : goal.returns-in-Ok-take_into
returns-in-Ok-take_into g c =
    let old = c.args.client.now in
    let call = c.in-Ok-take_into.ensures.done in
    let Told : Option entries.Frame → Type 0 = λ f. Tells g.P.Pair.start Take (replies.Took f) old c.take_into.new.self in
    subst Told (sym c.given.ensures) (record {
      number = call.number;
      may = tt;
      own = called g.P.Pair.start (entries.Took old.number (given c.in-Ok-take_into.is_some c.take_into.new.into)) old c.take_into.new.self call;
    })

pub returns-in-Err : goal.returns-in-Err
returns-in-Err g c =
    let client = c.args.client.now in
    record { number = refl; may = (1, omega arith, refl); own = uncalled g.P.Pair.start client client refl }

pub returns-in-Err-take_into : goal.returns-in-Err-take_into
returns-in-Err-take_into g c =
    let same = c.in-Err-take_into.ensures.refused.0 in
    record {
      number = ap (λ x. x.number) same;
      may = c.in-Err-take_into.ensures.why;
      own = uncalled g.P.Pair.start c.args.client.now c.take_into.new.self same;
    }
