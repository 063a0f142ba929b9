use Rattle.std.proofs.Common.{◌≡◌, true, sym, arith}
use Rattle.pair_run.proofs.ReadingLemmas.{not-added, one-added}
use Rattle.pair_run.proofs.reading.add_client.Goals as goal

pub returns-in_err-actions : goal.returns-in_err-actions
returns-in_err-actions c =
    let some = c.in-Some-count_actions.ensures.some in
    let is : c.is_free.result ≡ true = grind arith in
    not-added _ _ c.from_residual.result _ c.from_residual.ensures.0 (record { client = c.in-Some.client; actions = some.0 })
    (record { rest = c.in-Some.fields.now; head = sym c.in-Some.ensures; actions = some.1 }) (c.is_free.ensures.free is)

pub returns-in_err-push : goal.returns-in_err-push
returns-in_err-push c =
    let some = c.in-Some-count_actions.ensures.some in
    let is : c.is_free.result ≡ true = grind arith in
    not-added _ _ c.from_residual-in_err-push.result _ c.from_residual-in_err-push.ensures.0
    (record { client = c.in-Some.client; actions = some.0 })
    (record { rest = c.in-Some.fields.now; head = sym c.in-Some.ensures; actions = some.1 }) (c.is_free.ensures.free is)

pub returns : goal.returns
returns c =
    let some = c.in-Some-count_actions.ensures.some in
    let is : c.is_free.result ≡ true = grind arith in (
      record { client = c.in-Some.client; actions = some.0 },
      record { rest = c.in-Some.fields.now; head = sym c.in-Some.ensures; actions = some.1 },
      c.is_free.ensures.free is,
      one-added c.args.file.now c.push.new.list c.in-Some.client c.in_ok-actions.actions some.0
          (c.in_ok-actions.ensures some.0 some.1) c.in_ok-push.ensures.items,
    )
