-- What a full checkpoint's text reads back as, and how long it is.
use Rattle.std.proofs.Common.{ap, [], ◌≤◌, ◌+◌, ℕ, length, sym, subst, arith}
use Rattle.std.proofs.lemmas.Result.{IfOk-weaker}
use Rattle.checkpoint_stream.specs.Bounds.{most_text}
use Rattle.epoch_snapshot.specs.Cuts.{used_sectors}
use Rattle.full_text.specs.Full.{IsFullText, IsMost, Searching, found_of, most, whole, zeros}
use Rattle.guest_rules.specs.Guest.{Guest, State, sector_count}
use Rattle.guest_rules.specs.declared.shapes.Shape.{Shape}
use Rattle.pair_core.specs.Nodes.{HasShape}
use Rattle.pair_core.specs.Texts.{IsText}
use Rattle.pair_core.specs.laws.Nodes.{delta-text}
use Rattle.pair_nodes.specs.Flagged.{Flagged}
use Rattle.pair_nodes.proofs.primary.PrimaryNode.full_text.Goals as goal

-- it is the text of a full checkpoint of this machine
abbrev IsOf : Shape → ℕ → Searching → State → Type 0
IsOf shape generation f m =
    (before : Guest) → HasShape shape m.guest → IsText shape generation 0 before m.guest [] (whole m.guest.ram (found_of m.guest.ram f))

is-of : (shape : Shape) (generation : ℕ) (f : Searching) (m : State) → IsFullText m generation (whole m.guest.ram (found_of m.guest.ram f)) → IsOf shape generation f m
is-of shape generation f m h before sized =
    delta-text (zeros m.guest.ram) (used_sectors m.guest.sectors (sector_count m.guest.sectors)) [] m generation 0 h.change shape
    (whole m.guest.ram (found_of m.guest.ram f)) before h.cut h.reads (h.image before) sized

short-of : (shape : Shape) (generation : ℕ) (f : Searching) (m : State) → IsFullText m generation (whole m.guest.ram (found_of m.guest.ram f)) → HasShape shape m.guest
    → length (whole m.guest.ram (found_of m.guest.ram f)) ≤ most_text shape
short-of shape generation f m h sized = omega (arith, h.short, h.cut.pages_size, h.cut.sectors_size, sized.ram, sized.sectors)

pub returns-clause-text : goal.returns-clause-text
returns-clause-text c =
    let shape = c.self.inside.shape in
    IfOk-weaker c.new.result _ _
    (λ f h. rw (← ap (λ (p : Flagged). p.primary) c.self.view_is)
    (subst (IsOf shape (c.self.inside.generation.number + 1) f) c.machine.ensures
    (subst (λ n. IsOf shape (n + 1) f c.machine.result.now) c.number-generation.ensures.number
    (is-of shape (c.number-generation.result + 1) f c.machine.result.now h)))) c.new.ensures.text

pub returns-clause-short : goal.returns-clause-short
returns-clause-short c =
    let shape = c.self.inside.shape in
    IfOk-weaker c.new.result _ _
    (λ f h. rw (← ap (λ (p : Flagged). p.primary) c.self.view_is)
    (subst (λ (m : State). length (whole m.guest.ram (found_of m.guest.ram f)) ≤ most_text shape) c.machine.ensures
    (short-of shape (c.number-generation.result + 1) f c.machine.result.now h
    (subst (λ (m : State). HasShape shape m.guest) (sym c.machine.ensures) c.self.invariant.sized)))) c.new.ensures.text

pub returns-clause-most : goal.returns-clause-most
returns-clause-most c =
    IfOk-weaker c.new.result _ _
    (λ f h. rw (← ap (λ (p : Flagged). p.primary) c.self.view_is)
    (subst (λ (m : State). IsMost (most f) (whole m.guest.ram (found_of m.guest.ram f)) m.guest.ram) c.machine.ensures h)) c.new.ensures.most
