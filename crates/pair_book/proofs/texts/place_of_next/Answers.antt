use Rattle.std.proofs.Common.{rules}
use Rattle.pair_book.proofs.NextTexts.{found-next}
use Rattle.pair_book.proofs.texts.place_of_next.Goals as goal

pub returns-then-is_after-clause-next : goal.returns-then-is_after-clause-next
returns-then-is_after-clause-next c =
    found-next c.args.given c.args.packets.now c.loop-place.place c.index-packets-place.result c.loop-place-test.true
    c.index-packets-place.is (search rules) c.loop-place.invariant
