use Rattle.std.proofs.Common.{rules, ◌≡◌, false, ◌≤◌, ◌+◌, ◌-◌, ℕ, List, [], length, take, drop, sym, ◌∙◌, ap, subst, arith, length-drop}
use Rattle.std.proofs.lemmas.List.{length-take-le}
use Rattle.checkpoint_stream.specs.{declared.place.Place.{Place, TheVariants.{Block, FrameBytes}}, Readings.{Reading, is_closed, width_at}}
use Rattle.checkpoint_stream.specs.{Readings.{judged, block_judged}, Taken.{Takes, Extends, has_room}}
use Rattle.checkpoint_stream.proofs.Feeding.{Takes-nothing, Takes-unit}
use Rattle.checkpoint_stream.specs.laws.Extending.{Extends-itself, fed-extends}
use Rattle.checkpoint_stream.proofs.RunLemmas.{judged-block}
use Rattle.checkpoint_stream.proofs.{RunLemmas.Takes-next, PlaceLemmas.{part-nothing, room-before}}
use Rattle.checkpoint_stream.proofs.parts.Parts.take_blocks.Goals as goal

not-bytes : {left page more other len : ℕ} → Block left page more ≡ FrameBytes other len → ⊥
not-bytes e = cc

pub loop-at-init : goal.loop-at-init
loop-at-init c = record { inside = omega arith; extends = Extends-itself c.args.self.now; read = Takes-nothing c.args.self.now }

pub loop-at-preserved : goal.loop-at-preserved
loop-at-preserved c =
    let m = c.loop-at.self in
    let at = c.loop-at.at in
    let unit : List ℕ = take 64 (drop at c.args.rest.now) in
    let inside : at + 64 ≤ length c.args.rest.now = omega arith in
    let long : length unit ≡ 64
    = length-take-le 64 (drop at c.args.rest.now) (omega (arith, inside, length-drop at c.args.rest.now)) in
    let count : at + 64 - at ≡ 64 = omega arith in
    let place : m.place ≡ Block c.in-Block.left c.in-Block.page c.in-Block.more = search rules in
    let inside_place : c.self.inside.place ≡ Block c.in-Block.left c.in-Block.page c.in-Block.more
    = ap (λ (r : Reading). r.place) c.self.view_is ∙ place in
    let part : c.self.inside.part.items ≡ []
    = part-nothing c.self.inside.place _ c.self.inside.part.items _ _ (λ left len e. not-bytes (sym inside_place ∙ e)) c.self.invariant.4 in
    let begun : m.partial ≡ [] = rw (← c.self.view_is, c.if-self-eq0.true) part in
    let is : c.take_block.new.self ≡ judged m unit
    = c.in_ok-take_block.ensures.ok
    ∙ ap (λ (n : ℕ). block_judged m c.in-Block.left c.in-Block.page c.in-Block.more (take n (drop at c.args.rest.now))) count
    ∙ sym (judged-block m unit c.in-Block.left c.in-Block.page c.in-Block.more place) in
    let taken : Takes m unit c.take_block.new.self
    = Takes-unit m c.take_block.new.self unit (ap is_closed place) begun (omega (arith, long))
    (long ∙ sym (ap (λ (p : Place). width_at p m.known) place)) is in
    record {
      inside = inside;
      extends = subst (Extends c.args.self.now) taken.reading (fed-extends c.args.self.now m unit c.loop-at.invariant.extends);
      read = Takes-next c.args.self.now m c.take_block.new.self at 64 c.args.rest.now c.loop-at.invariant.read taken;
    }

pub returns-in_err-take_block-clause-no_room : goal.returns-in_err-take_block-clause-no_room
returns-in_err-take_block-clause-no_room c =
    let place : c.loop-at.self.place ≡ Block c.in-Block.left c.in-Block.page c.in-Block.more = search rules in
    let before : has_room c.args.self.now.place ≡ false
    = room-before c.args.self.now c.loop-at.self _ c.loop-at.invariant.read.reading (ap has_room place) in
    search rules
