-- what was done is what the line asks for
use Rattle.std.proofs.Common.{rules}
use Rattle.script_player.{specs.Meaning.Happens, proofs.MeaningLemmas.{answered, told-done}}
use Rattle.script_player.proofs.answers.happen.Goals as goal

pub returns : goal.returns
returns c = λ no_memory line a.
    told-done no_memory c.args.world.now c.apply-reply.new.self line c.apply-reply.result c.tell.result c.tell.new.text.items c.tell.ensures
    (λ printed told.
    let h : Happens no_memory c.args.world.now c.args.event printed c.apply-reply.new.self = search rules in
    answered line a h)
