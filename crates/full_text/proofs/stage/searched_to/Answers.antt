-- The count stands behind the head, and what is made beyond it isn't too much.
use Rattle.std.proofs.Common.{ℕ, ◌≡◌, ◌≤◌, ◌<◌, ◌+◌, ap, ◌∙◌, arith, length, ◌⊎◌, inl, inr}
use Rattle.std.proofs.lemmas.Bool.{cases_lt}
use Rattle.full_text.specs.Full.{Making, Searching, most_record}
use Rattle.full_text.specs.Stages.{made}
use Rattle.full_text.proofs.SearchLemmas.{found-made}
use Rattle.full_text.proofs.stage.searched_to.Goals as goal

no-further : (head text all wanted : ℕ) → text ≡ head + 4 → head < wanted → (text < all → all < wanted + most_record) → all < wanted + most_record
no-further head text all wanted is short bound = by_order (cases_lt text all)
  where
    by_order : (text < all) ⊎ (all ≤ text) → all < wanted + most_record
    by_order (inl more) = bound more
    by_order (inr within) = omega (arith, within, is, short)

pub returns-clause-no_further : goal.returns-clause-no_further
returns-clause-no_further c = λ more.
    no-further (length c.args.search.head) (length c.finish.result.made) (length (made c.made_to.result)) (c.args.from + c.args.count)
    (ap (λ (f : Making). length f.made) (c.finish.ensures.text c.args.machine.now.settled c.look.ensures.fits) ∙ found-made c.args.machine.now.settled c.look.new.self
    ∙ ap (λ (s : Searching). length s.head + 4) c.look.ensures.rest)
    (omega (arith, c.ends_before.ensures.yes c.if-not-ends_before.false, ap (λ l. length l) c.head.ensures))
    c.made_to.ensures.no_further
