-- The pages between two that were written are as they were, and each that was is kept.
use Rattle.std.proofs.Common.{◌≡◌, ℕ, ◌+◌, ◌<◌, ◌≤◌, List, Option, None, refl, ap, ◌∙◌, subst, arith, ◌⊎◌, inl, inr}
use Rattle.std.proofs.lemmas.Bool.{cases_lt}
use Rattle.std.specs.Prelude.{slice_index_or}
use Rattle.guest_rules.specs.Guest.{State}
use Rattle.guest_rules.specs.Pages.{AreUnwritten}
use Rattle.full_text.specs.Full.{IsSameIn, kept_or}
use Rattle.full_text.proofs.records.keep_written.Goals as goal

unwritten : (m : State) (kept : List (Option (List ℕ))) (from end : ℕ) → AreUnwritten m.guest.ram m.settled m.written from end
    → (q : ℕ) → from ≤ q → q < end → IsSameIn m kept q
unwritten m kept from end none q first last = ap (λ (p : List ℕ). kept_or p (slice_index_or kept q None)) (none.same q first last)

next : (m : State) (kept : List (Option (List ℕ))) (page end : ℕ) → ((q : ℕ) → q < page → IsSameIn m kept q) → IsSameIn m kept page
    → AreUnwritten m.guest.ram m.settled m.written (page + 1) end → (q : ℕ) → q < end → IsSameIn m kept q
next m kept page end before here none q last = by_order (cases_lt q page)
  where
    behind : page ≤ q → (page < q) ⊎ (q ≤ page) → IsSameIn m kept q
    behind first (inl past) = unwritten m kept (page + 1) end none q (omega (arith, past)) last
    behind first (inr within) = let at : page ≡ q = omega (arith, first, within) in subst (IsSameIn m kept) at here

    by_order : (q < page) ⊎ (page ≤ q) → IsSameIn m kept q
    by_order (inl below) = before q below
    by_order (inr past) = behind past (cases_lt page q)

pub loop-page-init : goal.loop-page-init
loop-page-init c = record {
  within = c.next_dirty-page.ensures.last;
  settled = λ q. refl;
  same = λ q below. unwritten c.args.machine.now c.args.kept.now 0 c.next_dirty-page.result c.next_dirty-page.ensures.before q (omega arith) below;
  room = refl;
}

pub loop-page-preserved : goal.loop-page-preserved
loop-page-preserved c =
    let m = c.args.machine.now in
    let page = c.loop-page.page in
    record {
      within = c.next_dirty-page-in-loop-page.ensures.last;
      settled = λ q. c.keep_page.ensures.settled q ∙ c.loop-page.invariant.settled q;
      same = next m c.keep_page.new.kept page c.next_dirty-page-in-loop-page.result
          (λ q below. c.keep_page.ensures.others q (c.loop-page.invariant.same q below)) c.in_ok-keep_page.ensures.here c.next_dirty-page-in-loop-page.ensures.before;
      room = c.keep_page.ensures.room ∙ c.loop-page.invariant.room;
    }

pub returns-clause-same : goal.returns-clause-same
returns-clause-same c = λ q below. c.loop-page.invariant.same q (omega (arith, below, c.loop-page-test.false))
