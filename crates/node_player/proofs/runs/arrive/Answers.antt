use Rattle.std.proofs.Common.{refl, inl, inr}
use Rattle.node_player.proofs.runs.arrive.Goals as goal

pub returns-in-Ok : goal.returns-in-Ok
returns-in-Ok g c =
    let done = c.in-Ok.ensures in
    (_, c.tell.ensures, rw c.in-Primary.is (c.arrive.new.self, inl (done.free, (refl, done.done, done.flags)), refl))

pub returns-in-Err : goal.returns-in-Err
returns-in-Err g c =
    let refused = c.in-Err.ensures in
    (_, c.refuse-in-Err.ensures, rw c.in-Primary.is (c.arrive.new.self, inr (c.in-Err.why, refused.why, (refl, refused.err)), refl))
