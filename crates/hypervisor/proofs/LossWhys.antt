-- Which refusals the first row of a loss's table may be.
use Rattle.std.proofs.Common.{◌≡◌, ℕ, ◌≤◌, List, [], ◌∷◌, length, Bool, true, false, subst, refl, arith, Ok, Err, Result, Option, Some, None}
use Rattle.std.proofs.lemmas.Bool.Decides.{nat_tests}
use Rattle.std.specs.Prelude.{IfErr, not}
use Rattle.pair_history.specs.Entries.{Entry}
use Rattle.pair_history.specs.HistoryState.{HistoryState}
use Rattle.pair_record.specs.declared.event.Refusal.{Refusal}
use Rattle.pair_record.specs.declared.event.Refusal.TheVariants.{NoClient, Exhausted}
use Rattle.pair_record.specs.Protocol.{Row, first_refusal, exhausts, is_among}
use Rattle.pair_book.specs.declared.losses.Lost.{Lost}
use Rattle.pair_book.specs.Books.{BookState}
use Rattle.pair_book.specs.Calls.{is_word_full, entry_rows}
use Rattle.pair_book.specs.Losses.{loss_rows}
use Rattle.pair_book.specs.Losses.{IsWhyLoss}
use Rattle.hypervisor.specs.Refusals.{MayRefuseUnless, MayRefuseLoss, entry_refusals}
use Rattle.hypervisor.proofs.Whys.{entry-why}

of-some : (other out word : Bool) (e : Entry) (why : Refusal)
    → IsWhyLoss (Some e) (first_refusal ((other, NoClient) ∷ (out, Exhausted) ∷ (word, Exhausted) ∷ [])) why
    → MayRefuseUnless other NoClient entry_refusals why
of-some true out word e why is = is
of-some false true word e why is = entry-why true word why is
of-some false false true e why is = entry-why false true why is
of-some false false false e why is = entry-why false false why is

of-none : (other : Bool) (why : Refusal) → IsWhyLoss None (first_refusal ((other, NoClient) ∷ [])) why
    → MayRefuseUnless other NoClient entry_refusals why
of-none true why is = is
of-none false why is = absurd is

by-entry : (b : BookState) (c : ℕ) (entry : Option Entry) (why : Refusal) → IsWhyLoss entry (first_refusal (loss_rows b c entry)) why
    → MayRefuseUnless (not (is_among c (length b.ports.boxes))) NoClient entry_refusals why
by-entry b c None why is = of-none (not (is_among c (length b.ports.boxes))) why is
by-entry b c (Some e) why is =
    of-some (not (is_among c (length b.ports.boxes))) (exhausts b.protocol 1) (is_word_full b) e why is

pub loss-why : (start : HistoryState) (b : BookState) (c : ℕ) (entry : Option Entry) (r : Result Lost Refusal)
    → length b.ports.boxes ≡ length start.boxes → IfErr r (IsWhyLoss entry (first_refusal (loss_rows b c entry)))
    → IfErr r (MayRefuseLoss start c)
loss-why start b c entry (Ok l) count is = tt
loss-why start b c entry (Err why) count is =
    subst (λ (n : ℕ). MayRefuseUnless (not (is_among c n)) NoClient entry_refusals why) count (by-entry b c entry why is)

-- where no row holds the number is a client's
among : (c count : ℕ) (t : Bool) → is_among c count ≡ t → not t ≡ false → (1 ≤ c) × (c ≤ count)
among c count true is e = grind (arith, nat_tests)
among c count false is e = absurd (cc)

free-of : (other : Bool) (rows : List Row) → first_refusal ((other, NoClient) ∷ rows) ≡ None → other ≡ false
free-of true rows e = absurd (cc)
free-of false rows e = refl

pub is-client : (b : BookState) (c : ℕ) (entry : Option Entry) → first_refusal (loss_rows b c entry) ≡ None
    → (1 ≤ c) × (c ≤ length b.ports.boxes)
is-client b c None e =
    let count = length b.ports.boxes in
    among c count (is_among c count) refl (free-of (not (is_among c count)) [] e)
is-client b c (Some entry) e =
    let count = length b.ports.boxes in
    among c count (is_among c count) refl (free-of (not (is_among c count)) (entry_rows b) e)
