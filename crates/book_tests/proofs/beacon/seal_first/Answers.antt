use Rattle.std.proofs.Common.{ℕ, List, [], sym, ap, subst, ◌∙◌, ◌≡◌}
use Rattle.guest_rules.specs.Guest.{Guest, State, HasDeviceRecords, boot_guest}
use Rattle.guest_rules.specs.Runs.{after_steps, sent_in, marked_in}
use Rattle.pair_history.specs.{Entries.Frame, HistoryState.HistoryState}
use Rattle.pair_book.specs.Settled.{Runs, settled_runner}
use Rattle.book_tests.specs.Machines.{IsLike}
use Rattle.book_tests.proofs.beacon.seal_first.Goals as goal

pub seal-requires-clause-records : goal.seal-requires-clause-records
seal-requires-clause-records g c =
    let there : boot_guest 2 1 c.args.image.now ≡ g.P.Pair.start.guest =
    sym (ap (λ (h : HistoryState). h.guest) c.requires.start.1) in
    subst HasDeviceRecords there (c.kept_memory.ensures.boot 2 1 c.args.image.now)

pub seal-requires-clause-guest : goal.seal-requires-clause-guest
seal-requires-clause-guest g c =
    let there : boot_guest 2 1 c.args.image.now ≡ g.P.Pair.start.guest =
    sym (ap (λ (h : HistoryState). h.guest) c.requires.start.1) in
    ap (λ (m : State). m.guest) c.deref.ensures ∙ (c.in_ok-machine.ensures.guest ∙ ap (after_steps c.args.steps) there)

pub seal-requires-clause-outbox : goal.seal-requires-clause-outbox
seal-requires-clause-outbox g c =
    let there : boot_guest 2 1 c.args.image.now ≡ g.P.Pair.start.guest =
    sym (ap (λ (h : HistoryState). h.guest) c.requires.start.1) in
    ap (λ (m : State). m.outbox) c.deref.ensures ∙ (c.in_ok-machine.ensures.outbox ∙ ap (sent_in c.args.steps) there)

pub seal-requires-clause-dirty : goal.seal-requires-clause-dirty
seal-requires-clause-dirty g c =
    let there : boot_guest 2 1 c.args.image.now ≡ g.P.Pair.start.guest =
    sym (ap (λ (h : HistoryState). h.guest) c.requires.start.1) in
    ap (λ (m : State). m.dirty) c.deref.ensures ∙ (c.in_ok-machine.ensures.dirty ∙ ap (λ (h : Guest). marked_in c.args.steps h []) there)

pub seal-requires-clause-settled : goal.seal-requires-clause-settled
seal-requires-clause-settled g c =
    let there : boot_guest 2 1 c.args.image.now ≡ g.P.Pair.start.guest =
    sym (ap (λ (h : HistoryState). h.guest) c.requires.start.1) in
    ap (λ (m : State). m.settled) c.deref.ensures ∙ (c.in_ok-machine.ensures.settled ∙ ap (λ (h : Guest). h.ram) there)

pub returns-clause-runs : goal.returns-clause-runs
returns-clause-runs g c =
    let is : c.deref.result.now.guest ≡ c.of-machine.result = ap (λ (m : State). m.guest) c.deref.ensures ∙ sym c.of-machine.ensures in
    subst (λ (x : Guest). (held : List (ℕ × Frame)) × Runs g.P.Pair.start c.seal.new.runner (settled_runner x held)) is
    c.in_ok-checkpoint.ensures.runs

pub returns-clause-like : goal.returns-clause-like
returns-clause-like g c =
    let is : c.deref.result.now.guest ≡ c.of-machine.result = ap (λ (m : State). m.guest) c.deref.ensures ∙ sym c.of-machine.ensures in
    subst (λ (x : Guest). IsLike g.P.Pair.start x) is c.in_ok-checkpoint.ensures.like
