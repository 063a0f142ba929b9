use Rattle.std.proofs.Common.{◌≡◌, ℕ, List, [], ◌∷◌, ◌++◌, length, sym, ap, ◌∙◌, subst, None}
use Rattle.std.specs.Prelude.{min}
use Rattle.pair_history.specs.Entries.{Entry}
use Rattle.pair_history.specs.Failures.{arrived_numbers}
use Rattle.growing_history.specs.Steps.{What, Step, step, steps_by}
use Rattle.growing_history.specs.Views.{Member, Keeper}
use Rattle.pair_book.specs.declared.prepared.Prepared.{Prepared}
use Rattle.pair_book.specs.declared.runner.Kind.{Kind}
use Rattle.pair_book.specs.{Books.BookState, Handing.{handing, handed_next, HandsNext}, Packets.TextsState}
use Rattle.pair_book.specs.internal.{Committed.KeepsCommitted, Texts.HasTexts, Tie.{IsTied, book_state}, Told.found}
use Rattle.pair_book.specs.Submitting.{submit_why, wanted_kind, ended, ended_as, epoch_told, texts_ended}
use Rattle.pair_book.proofs.{Calls.made, RunEnds.runs-submitted, SubmitLaws.{Submitted, only-arrivals, is-free, submitted}}
use Rattle.pair_book.proofs.book.Book.submit.Goals.{After-meet}
use Rattle.pair_book.proofs.book.Book.submit.Goals as goal

pub end_and_hand_out-requires-clause-only : goal.end_and_hand_out-requires-clause-only
end_and_hand_out-requires-clause-only g c =
    only-arrivals g.P.Pair.start c.self.inside.seats.steps c.self.inside.record.protocol c.self.inside.record.ports c.self.invariant.0

-- the book before
abbrev was : (g : _) → After-meet g → BookState
was g c = book_state c.self.inside.seats c.self.inside.record c.self.inside.texts

-- no row holds at it
free : (g : _) (c : After-meet g)
    → submit_why g.P.Pair.start (was g c) c.args.seat.now.number c.args.what.now c.args.epoch.steps c.args.frames.now ≡ None
free g c =
    subst (λ (x : BookState). submit_why g.P.Pair.start x c.args.seat.now.number c.args.what.now c.args.epoch.steps c.args.frames.now ≡ None)
    (sym c.self.view_is) (sym c.submit_refusal.ensures ∙ c.in_default.is)

-- what the record has then, by what its seat had seen
all : (g : _) (c : After-meet g)
    → Submitted g.P.Pair.start (was g c) c.args.seat.now.number c.args.what.now c.args.epoch.arrivals c.args.epoch.steps c.min.result
    c.args.frames.now c.end_and_hand_out.new.pair.protocol c.end_and_hand_out.new.pair.ports c.in_ok-next.next.items
all g c =
    let start = g.P.Pair.start in
    let b : BookState = was g c in
    let seat = c.args.seat.now in
    let pair = c.end_and_hand_out.new.pair in
    let ran = c.args.epoch.steps in
    let fs = c.args.frames.now in
    let law = c.live_members_miss_nothing.ensures in
    let before = c.meet.ensures.before in
    let own = c.meet.ensures.own in
    let legal = c.self.invariant.0.legal in
    let kind : c.kind_wanted-kind.result ≡ wanted_kind b = c.kind_wanted-kind.ensures ∙ ap wanted_kind (sym c.self.view_is) in
    let is : handing pair.protocol pair.ports c.in_ok-next.next.items ≡ handed_next (ended b c.min.result ran fs) =
    c.in_ok-next.ensures.done ∙ ap (λ (x : Kind). handed_next (ended_as x c.min.result ran fs b.protocol b.ports)) kind in
    let came : c.min.result ≡ min c.args.epoch.arrivals (length (arrived_numbers b.protocol.journal.running)) =
    c.min.ensures ∙ ap (min c.args.epoch.arrivals) c.handed.ensures in
    submitted start b c.self.invariant.0 c.self.invariant.1 c.self.invariant.2 c.keep.ensures.record c.keep.ensures.numbers
    seat c.args.what.now c.args.epoch.arrivals ran c.min.result fs c.requires.settled c.requires.prepared (free g c) before
    (law.handed start seat.steps b.steps seat.number before legal own)
    (law.epoch start seat.steps b.steps seat.number before legal own)
    came pair.protocol pair.ports c.in_ok-next.next.items is

-- the step that is made then is the last one by what stood before
steps-are : (g : _) (c : After-meet g) → c.meet.new.self.steps ≡ c.self.inside.seats.steps
steps-are g c = ap (λ (x : Keeper). x.steps) c.meet.ensures.keeper

number-is : (g : _) (c : After-meet g) → c.meet.new.member.number ≡ c.args.seat.now.number
number-is g c = ap (λ (m : Member). m.number) c.meet.ensures.member

count-is : (g : _) (c : After-meet g) → c.len-before.result ≡ length c.self.inside.record.protocol.journal.history
count-is g c = c.len-before.ensures ∙ ap (λ (es : List Entry). length es) c.history.ensures

abbrev told : (g : _) → After-meet g → ℕ → What
told g c before = found c.args.what.now c.end_and_hand_out.new.pair.protocol.journal before c.min.result c.args.epoch.steps

steps-made : (g : _) (c : After-meet g) → c.meet.new.self.steps ++ step c.meet.new.member.number (told g c c.len-before.result) ∷ []
    ≡ c.self.inside.seats.steps
    ++ step c.args.seat.now.number (told g c (length c.self.inside.record.protocol.journal.history)) ∷ []
steps-made g c = λ i. steps-are g c i ++ step (number-is g c i) (told g c (count-is g c i)) ∷ []

pub tell_ended-requires-clause-tied : goal.tell_ended-requires-clause-tied
tell_ended-requires-clause-tied g c =
    let at = (goal.at.tell_ended-requires-clause-tied g c).After-meet in
    let pair = c.end_and_hand_out.new.pair in
    subst (λ (l : List Step). IsTied g.P.Pair.start l pair.protocol pair.ports) (sym (steps-made g at)) (all g at).tied

pub tell_ended-requires-clause-committed : goal.tell_ended-requires-clause-committed
tell_ended-requires-clause-committed g c =
    let at = (goal.at.tell_ended-requires-clause-committed g c).After-meet in
    let pair = c.end_and_hand_out.new.pair in
    subst (λ (l : List Step). KeepsCommitted g.P.Pair.start l pair.protocol pair.ports) (sym (steps-made g at)) (all g at).committed

pub add_text-requires : goal.add_text-requires
add_text-requires g c = (all g (goal.at.add_text-requires g c).After-meet).few

-- what was made tells of the epoch
told-is : (g : _) (c : After-meet g)
    → told g c c.len-before.result ≡ epoch_told (was g c) c.args.epoch.arrivals c.args.epoch.steps c.args.what.now
told-is g c = ap (told g c) (count-is g c) ∙ (all g c).told-is

pub returns-clause-done : goal.returns-clause-done
returns-clause-done g c =
    let at = (goal.at.returns-clause-done g c).After-meet in
    let pair = c.end_and_hand_out.new.pair in
    subst
    (λ (x : BookState). HandsNext (ended x c.args.epoch.arrivals c.args.epoch.steps c.args.frames.now)
    (handing pair.protocol pair.ports c.in_ok-next.next.items))
    c.self.view_is (all g at).hands

pub returns-clause-step : goal.returns-clause-step
returns-clause-step g c =
    let at = (goal.at.returns-clause-step g c).After-meet in
    let seat = c.args.seat.now in
    let tells = λ (x : BookState). epoch_told x c.args.epoch.arrivals c.args.epoch.steps c.args.what.now in
    let what : What = tells (was g at) in
    let keeper : c.tell_ended.new.seats
    ≡ record c.self.inside.seats { steps = c.self.inside.seats.steps ++ step seat.number what ∷ [] } =
    c.tell_ended.ensures.seats
    ∙ (λ i. record { steps = steps-are g at i ++ step (number-is g at i) (told-is g at i) ∷ []; enrolled = (c.meet.ensures.keeper i).enrolled }) in
    let own : steps_by seat.number c.tell_ended.new.member.steps ≡ steps_by seat.number seat.steps ++ step seat.number what ∷ [] =
    subst
    (λ (x : Member × What). steps_by x.0.number c.tell_ended.new.member.steps ≡ steps_by x.0.number x.0.steps ++ step x.0.number x.1 ∷ [])
    (λ i. (c.meet.ensures.member i, told-is g at i)) c.tell_ended.ensures.own
    ∙ ap (λ (l : List Step). l ++ step seat.number what ∷ []) c.meet.ensures.own in
    made c.args.self.now c.self.inside.seats c.self.inside.record c.self.inside.texts seat c.tell_ended.new.member c.self.view_is
    c.tell_ended.new.seats c.end_and_hand_out.new.pair c.add_text.new.texts what (tells c.args.self.now) (ap tells c.self.view_is) keeper
    (c.tell_ended.ensures.member ∙ (λ i. record { number = number-is g at i; steps = c.tell_ended.new.seats.steps }))
    c.meet.ensures.before own

pub invariant_of-self-2 : goal.invariant_of-self-2
invariant_of-self-2 g c =
    let at = (goal.at.invariant_of-self-2 g c).After-meet in
    let grown = ap (λ (x : Keeper). x.steps) c.tell_ended.ensures.seats ∙ steps-made g at in
    let texts : c.add_text.new.texts ≡ texts_ended c.args.what.now c.self.inside.texts =
    c.add_text.ensures ∙ ap (λ (x : Prepared). texts_ended x c.self.inside.texts) c.in_ok-shared.ensures in (
      c.tell_ended.ensures.tied,
      c.tell_ended.ensures.committed,
      subst (λ (x : List Step × TextsState). HasTexts g.P.Pair.start x.0 c.end_and_hand_out.new.pair.protocol x.1.packets)
          (λ i. (sym grown i, sym texts i)) (all g at).texts,
    )

pub returns-clause-runs : goal.returns-clause-runs
returns-clause-runs g c =
    let at = (goal.at.returns-clause-runs g c).After-meet in
    let start = g.P.Pair.start in
    let b : BookState = was g at in
    let seat = c.args.seat.now in
    let pair = c.end_and_hand_out.new.pair in
    let law = c.live_members_miss_nothing.ensures in
    let before = c.meet.ensures.before in
    let own = c.meet.ensures.own in
    let legal = c.self.invariant.0.legal in
    let left = all g at in
    let what = epoch_told b c.args.epoch.arrivals c.args.epoch.steps c.args.what.now in
    let grown : c.tell_ended.new.seats.steps ≡ b.steps ++ step seat.number what ∷ [] =
    ap (λ (x : Keeper). x.steps) c.tell_ended.ensures.seats ∙ (λ i. steps-are g at i ++ step (number-is g at i) (told-is g at i) ∷ []) in
    let sees : c.tell_ended.new.member ≡ record { number = seat.number; steps = b.steps ++ step seat.number what ∷ [] } =
    c.tell_ended.ensures.member ∙ (λ i. record { number = number-is g at i; steps = grown i }) in
    runs-submitted start b c.self.invariant.0 seat c.tell_ended.new.member c.args.what.now
    (is-free start b seat.number c.args.what.now c.args.epoch.steps c.args.frames.now (free g at))
    c.args.epoch.arrivals c.args.epoch.steps c.args.frames.now before
    (law.handed start seat.steps b.steps seat.number before legal own)
    (law.frames start seat.steps b.steps seat.number before legal own)
    (law.epoch start seat.steps b.steps seat.number before legal own)
    pair.protocol pair.ports c.in_ok-next.next.items
    (subst (λ (w : What). IsTied start (b.steps ++ step seat.number w ∷ []) pair.protocol pair.ports) left.told-is left.tied)
    left.hands sees
