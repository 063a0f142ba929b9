use Rattle.std.proofs.Common.{◌≡◌, ◌++◌, ◌∷◌, [], map, sym, ap, ◌∙◌, subst}
use Rattle.std.proofs.lemmas.List.{map-append}
use Rattle.pair_run.specs.RunFile.{Action, IsAction, fields_of}
use Rattle.pair_run.specs.Views.{action_of}
use Rattle.pair_run.proofs.ActionLemmas.{Comes, at-field, fields_left, one-comes, texts}
use Rattle.pair_run.proofs.actions.read_actions.Goals as goal

pub loop-left-preserved-in_ok-push : goal.loop-left-preserved-in_ok-push
loop-left-preserved-in_ok-push c =
    let fields = fields_of c.args.text.now in
    let done = map action_of c.loop-left.actions.items in
    let field = c.first_field.result.0.now in
    let others = fields_left (texts c.first_field.result.1) in
    let split = at-field c.loop-left.left c.in-Some.rest c.in-Some.is field c.first_field.result.1 c.first_field.ensures.fields in
    let before = subst (Comes fields done) split c.loop-left.invariant in
    let action = action_of c.in-Some-2.action in
    let only : (said : Action) → IsAction field said → said ≡ action =
    λ said is. cc (rw c.in-Some-2.is at (c.in_ok-action.ensures said is)) in
    let pushed : map action_of c.push.new.list.items ≡ done ++ action ∷ [] =
    ap (map action_of) c.in_ok-push.ensures.items ∙ map-append action_of c.loop-left.actions.items (c.in-Some-2.action ∷ []) in
    subst (λ acts. Comes fields acts others) (sym pushed) (one-comes fields done field others action before only)
