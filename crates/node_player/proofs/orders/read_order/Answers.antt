use Rattle.std.proofs.Common.{◌∙◌}
use Rattle.node_player.proofs.OrderLemmas.{order-spelled, order_of-spelled}
use Rattle.node_player.proofs.orders.read_order.Goals as goal

pub returns-clause-found : goal.returns-clause-found
returns-clause-found c = order-spelled c.args.text.now c.first_form.result c.first_form.ensures

pub returns-clause-only : goal.returns-clause-only
returns-clause-only c order h = c.first_form.ensures ∙ order_of-spelled c.args.text.now order h
