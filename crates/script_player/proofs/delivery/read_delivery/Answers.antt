-- the client's number stands before the digits
use Rattle.std.proofs.Common.{◌∙◌, ℕ, List, refl, sym}
use Rattle.script_player.specs.Delivery.{IsDelivery}
use Rattle.script_player.proofs.DeliveryLemmas.{delivery-read, delivery-spelled, one-reading}
use Rattle.script_player.specs.laws.Options.{on-err, some_same}
use Rattle.script_player.proofs.delivery.read_delivery.Goals as goal

pub returns-in_default-clause-only : goal.returns-in_default-clause-only
returns-in_default-clause-only c = λ client bytes h.
    cc (rw c.in_default.is at c.read_head.ensures ∙ delivery-spelled c.args.text.now client bytes h)

pub returns-in_default-2-clause-only : goal.returns-in_default-2-clause-only
returns-in_default-2-clause-only c = λ client bytes h.
    let read = one-reading c.args.text.now client bytes _ _ (sym (rw c.in-Some.is at c.read_head.ensures)) h in
    cc (rw c.in_default-2.is at (c.in_ok-bytes.ensures.only bytes read.1))

pub returns-clause-found : goal.returns-clause-found
returns-clause-found c =
    delivery-read c.args.text.now _ _ c.in-Some-2.bytes.items (sym (rw c.in-Some.is at c.read_head.ensures))
    (rw c.in-Some-2.is at c.in_ok-bytes.ensures.found)

pub returns-clause-only : goal.returns-clause-only
returns-clause-only c = λ client bytes h.
    let read = one-reading c.args.text.now client bytes _ _ (sym (rw c.in-Some.is at c.read_head.ensures)) h in
    rw (read.0, some_same (rw c.in-Some-2.is at (c.in_ok-bytes.ensures.only bytes read.1))) refl

pub returns-in_err-bytes-clause-err : goal.returns-in_err-bytes-clause-err
returns-in_err-bytes-clause-err c =
    let hex = c.in_err-bytes.ensures.err in
    let said : (client : ℕ) × (bytes : List ℕ) × IsDelivery c.args.text.now client bytes =
    (_, hex.0, delivery-read c.args.text.now _ _ hex.0 (sym (rw c.in-Some.is at c.read_head.ensures)) hex.1) in
    on-err _ said
