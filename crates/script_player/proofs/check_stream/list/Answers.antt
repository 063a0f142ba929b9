-- each line is printed after those before it, and what is left still prints something where a write fails
use Rattle.std.proofs.{Common.{◌++◌, length, refl, ap, arith, ◌≡◌}, KnownBytes.Appends-trans}
use Rattle.std.proofs.lemmas.List.{nil_from_length}
use Rattle.checkpoint_stream.specs.Readings.{Reading, begun, is_closed}
use Rattle.script_player.specs.{Listing.IsListedTo, StreamMeaning.complete}
use Rattle.script_player.proofs.ListingLemmas.{follows-next, follows-last, follows-end, listed-cut}
use Rattle.script_player.proofs.ListingLemmas.{not-complete}
use Rattle.script_player.specs.laws.Options.{failed}
use Rattle.script_player.proofs.check_stream.list.Goals as goal

pub returns-in_err-left : goal.returns-in_err-left
returns-in_err-left g c =
    let start = begun c.args.shape 0 in
    let bytes = c.args.bytes.now in
    let o = g.O.Sink.written c.args.out.now in
    let o' = g.O.Sink.written c.print_next.new.out in
    let before = c.loop-rest.invariant.1 in
    let cut = c.in_err-left.ensures.printed in
    failed _ (λ r. IsListedTo g.O.Sink.no_memory start bytes r o o') c.from_residual.result c.from_residual.ensures.1
    (λ e is. listed-cut g.O.Sink.no_memory start bytes o (g.O.Sink.written c.loop-rest.out) o' c.loop-rest.reader c.loop-rest.rest.now before.0 before.2
    before.1 cut.0 cut.1 cut.2 cut.3 cut.4)

pub returns-in_default : goal.returns-in_default
returns-in_default g c =
    let before = c.loop-rest.invariant.1 in
    let last = c.in_ok-left.ensures.printed in
    let found = rw c.in_default.is at last.1 in (
      before.0 ++ last.0,
      found.end,
      follows-last g.O.Sink.no_memory (begun c.args.shape 0) c.args.bytes.now c.loop-rest.reader c.loop-rest.rest.now before.0 last.0 before.2 found,
      Appends-trans _ _ _ before.0 last.0 before.1 last.2,
      not-complete found.end found.more,
    )

pub loop-rest-preserved : goal.loop-rest-preserved
loop-rest-preserved g c =
    let before = c.loop-rest.invariant.1 in
    let next = c.in_ok-left.ensures.printed in
    let found = rw c.in-Some.is at next.1 in (
      ap (λ (x : Reading). is_closed x.place) found.goes_on,
      (
        before.0 ++ next.0,
        Appends-trans _ _ _ before.0 next.0 before.1 next.2,
        follows-next g.O.Sink.no_memory (begun c.args.shape 0) c.args.bytes.now c.loop-rest.reader _ c.loop-rest.rest.now c.in-Some.left.now before.0 next.0
            before.2 found,
      ),
    )

pub returns : goal.returns
returns g c =
    let before = c.loop-rest.invariant.1 in
    let none : length c.loop-rest.rest.now ≡ 0 = grind arith in (
      before.0,
      complete,
      follows-end g.O.Sink.no_memory (begun c.args.shape 0) c.args.bytes.now c.loop-rest.reader c.loop-rest.rest.now before.0 before.2
          (nil_from_length c.loop-rest.rest.now none),
      before.1,
      refl,
    )
