use Rattle.std.proofs.Common.{◌≡◌, ◌∙◌, true, false, sym, arith}
use Rattle.pair_run.proofs.ReadingLemmas.{has-line-read}
use Rattle.pair_run.proofs.reading.is_free.Goals as goal

pub returns-clause-free : goal.returns-clause-free
returns-clause-free c = λ yes.
    let none : c.has_line.result ≡ false = grind (arith, yes) in
    record {
      least = omega (arith, c.if-client-eq0.false);
      most = omega (arith, c.if-client-file.false);
      first = has-line-read c.args.client c.args.file.now.clients.items
          ∙ (rw c.as_slice.ensures.value at (sym c.has_line.ensures ∙ none));
    }

pub returns-clause-taken : goal.returns-clause-taken
returns-clause-taken c = λ no free.
    let some : c.has_line.result ≡ true = grind (arith, no) in
    cc (sym some ∙ (rw c.as_slice.ensures.value at c.has_line.ensures)
    ∙ sym (has-line-read c.args.client c.args.file.now.clients.items) ∙ free.first)
