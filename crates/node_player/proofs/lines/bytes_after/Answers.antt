use Rattle.std.proofs.Common.{◌∙◌, sym}
use Rattle.script_player.specs.laws.Options.{some_same}
use Rattle.node_player.{proofs.LineLemmas.{after-front, found-bytes, said-bytes}}
use Rattle.node_player.proofs.lines.bytes_after.Goals as goal

pub returns-in_default-clause-only : goal.returns-in_default-clause-only
returns-in_default-clause-only c = λ bytes h. cc (sym c.in_default.ensures ∙ after-front c.args.front.now c.args.text.now bytes h)

pub returns-clause-found : goal.returns-clause-found
returns-clause-found c =
    found-bytes c.args.front.now c.args.text.now c.in-Some.digits.now c.in-Some.ensures (λ v. v.items) c.read_bytes.result
    c.read_bytes.ensures.found

pub returns-clause-only : goal.returns-clause-only
returns-clause-only c = λ bytes h.
    let same = some_same (sym c.in-Some.ensures ∙ after-front c.args.front.now c.args.text.now bytes h) in
    c.read_bytes.ensures.only bytes (rw same h.2)

pub returns-clause-err : goal.returns-clause-err
returns-clause-err c = said-bytes c.args.front.now c.args.text.now c.in-Some.digits.now c.in-Some.ensures c.read_bytes.result
    c.read_bytes.ensures.err
