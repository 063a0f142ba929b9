use Rattle.std.proofs.{Common.{rules, ◌≡◌, false, ◌≤◌, ◌+◌, length, take, sym, ◌∙◌, ap, subst}, lemmas.List.length-take-le}
use Rattle.std.proofs.lemmas.List.{take-append-drop}
use Rattle.checkpoint_stream.specs.{Readings.{fed, taken}, Taken.{Takes, Extends, has_room}}
use Rattle.checkpoint_stream.specs.laws.Extending.{Extends-itself, fed-extends}
use Rattle.checkpoint_stream.proofs.Feeding.{Takes-more, count-inside, fed-done, taken-done}
use Rattle.checkpoint_stream.proofs.{RunLemmas.Extends-both, PlaceLemmas.room-before}
use Rattle.checkpoint_stream.proofs.parts.Parts.feed_on.Goals as goal

pub loop-at-init : goal.loop-at-init
loop-at-init c = record {
  inside = c.take_numbers-at.ensures.count;
  read = c.take_numbers-at.ensures.read;
  extends = subst (Extends c.args.self.now) c.take_numbers-at.ensures.read.reading
      (fed-extends c.args.self.now c.args.self.now _ (Extends-itself c.args.self.now));
}

pub loop-at-preserved : goal.loop-at-preserved
loop-at-preserved c =
    let taken : Takes c.args.self.now (take (c.loop-at.at + c.in_ok-at.field-0) c.args.piece.now) c.take.new.self
    = Takes-more c.args.self.now c.loop-at.self c.take.new.self c.loop-at.at c.in_ok-at.field-0 c.args.piece.now
    c.loop-at.invariant.read c.in_ok-at.ensures.read in
    let inside : c.loop-at.at + c.in_ok-at.field-0 ≤ length c.args.piece.now
    = count-inside c.loop-at.at c.in_ok-at.field-0 c.args.piece.now c.loop-at.invariant.inside c.in_ok-at.ensures.count.1 in
    let all = Takes-more c.args.self.now c.take.new.self c.take_blocks.new.self (c.loop-at.at + c.in_ok-at.field-0) c.in_ok-at-2.field-0
    c.args.piece.now taken c.in_ok-at-2.ensures.read in
    record {
      inside = count-inside (c.loop-at.at + c.in_ok-at.field-0) c.in_ok-at-2.field-0 c.args.piece.now inside c.in_ok-at-2.ensures.count;
      read = all;
      extends = subst (Extends c.args.self.now) all.reading
          (fed-extends c.args.self.now c.args.self.now _ (Extends-itself c.args.self.now));
    }

pub returns-in_err-at-2-clause-err : goal.returns-in_err-at-2-clause-err
returns-in_err-at-2-clause-err c =
    let before : Extends c.args.self.now c.take.new.self
    = subst (Extends c.args.self.now) c.in_ok-at.ensures.read.reading
    (fed-extends c.args.self.now c.loop-at.self _ c.loop-at.invariant.extends) in
    let extends : Extends c.args.self.now c.take_blocks.new.self
    = Extends-both c.args.self.now c.take.new.self c.take_blocks.new.self before c.in_err-at-2.ensures.err in
    search rules

pub returns-else-not-is_closed-clause-read : goal.returns-else-not-is_closed-clause-read
returns-else-not-is_closed-clause-read c =
    sym (fed-done c.args.self.now c.loop-at.self _ _ c.loop-at.invariant.read (sym c.is_closed.ensures ∙ c.if-not-is_closed.false))
    ∙ ap (fed c.args.self.now) (take-append-drop c.loop-at.at c.args.piece.now)

pub returns-else-not-is_closed-clause-count : goal.returns-else-not-is_closed-clause-count
returns-else-not-is_closed-clause-count c =
    sym (length-take-le c.loop-at.at c.args.piece.now c.loop-at.invariant.inside)
    ∙ sym (taken-done c.args.self.now c.loop-at.self _ _ c.loop-at.invariant.read (sym c.is_closed.ensures ∙ c.if-not-is_closed.false))
    ∙ ap (taken c.args.self.now) (take-append-drop c.loop-at.at c.args.piece.now)

pub returns-in_err-at-clause-no_room : goal.returns-in_err-at-clause-no_room
returns-in_err-at-clause-no_room c =
    let before : has_room c.args.self.now.place ≡ false
    = room-before c.args.self.now c.loop-at.self _ c.loop-at.invariant.read.reading c.in_err-at.ensures.no_room in
    search rules

pub returns-in_err-at-2-clause-no_room : goal.returns-in_err-at-2-clause-no_room
returns-in_err-at-2-clause-no_room c =
    let here : has_room c.loop-at.self.place ≡ false
    = room-before c.loop-at.self c.take.new.self _ c.in_ok-at.ensures.read.reading c.in_err-at-2.ensures.no_room in
    let before : has_room c.args.self.now.place ≡ false
    = room-before c.args.self.now c.loop-at.self _ c.loop-at.invariant.read.reading here in
    search rules
