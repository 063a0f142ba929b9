use Rattle.std.proofs.Common.{◌≡◌, ◌++◌, ◌∷◌, [], true, subst, arith, length-append, append-nil}
use Rattle.pair_run.specs.RunFile.{AreActions, fields_of}
use Rattle.pair_run.proofs.ActionLemmas.{AreRead, at-field, fewer, fields_left, one-read, texts}
use Rattle.pair_run.proofs.actions.count_actions.Goals as goal

pub loop-left-preserved : goal.loop-left-preserved
loop-left-preserved c =
    let before = c.loop-left.invariant.1 in
    let field = c.first_field.result.0.now in
    let others = fields_left (texts c.first_field.result.1) in
    let split = at-field c.loop-left.left c.in-Some.rest c.in-Some.is field c.first_field.result.1 c.first_field.ensures.fields in
    let read = subst (AreRead (fields_of c.args.text.now) before.0) split before.2 in
    let is : c.is_action.result ≡ true = grind arith in
    let action = c.is_action.ensures.some is in
    let few = fewer c.loop-left.left c.in-Some.rest c.in-Some.is c.first_field.result.1 c.first_field.ensures.shorter in
    let count = c.loop-left.invariant.0 in (
      omega arith,
      (
        before.0 ++ action.0 ∷ [],
        omega (arith, length-append before.0 (action.0 ∷ []), before.1),
        one-read (fields_of c.args.text.now) before.0 field others action.0 read action.1,
      ),
    )

pub returns-clause-some : goal.returns-clause-some
returns-clause-some c =
    let before = c.loop-left.invariant.1 in
    let all = before.2.all [] (rw c.in_default.is tt) in
    (before.0, subst (AreActions (fields_of c.args.text.now)) (append-nil before.0) all, before.1)
