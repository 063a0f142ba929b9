use Rattle.std.proofs.Common.{◌∙◌, refl, sym, ap}
use Rattle.script_player.specs.{Guests.named_guest, Boot.{BootLine, IsBoot}, internal.Head.head_view}
use Rattle.script_player.proofs.BootLemmas.{Found, head-again, head_of-spelled, head_of-read}
use Rattle.script_player.specs.laws.Options.{some_same, on-err}
use Rattle.script_player.proofs.boot.read_boot.Goals as goal

pub returns-in_default-clause-only : goal.returns-in_default-clause-only
returns-in_default-clause-only c line h = cc (c.in_default.ensures ∙ head_of-spelled c.args.text.now line h)

pub returns-in_default-2-clause-only : goal.returns-in_default-2-clause-only
returns-in_default-2-clause-only c line h =
    let again = head-again c.args.text.now (head_view c.in-Some.head) line c.in-Some.ensures h in
    cc (rw c.in_default-2.is at (c.in_ok-guest.ensures.only line.guest again.1))

pub returns-clause-found : goal.returns-clause-found
returns-clause-found c = head_of-read c.args.text.now (head_view c.in-Some.head) (named_guest c.in-Some-2.guest) (sym c.in-Some.ensures)
    (rw c.in-Some-2.is at c.in_ok-guest.ensures.found)

pub returns-clause-limits : goal.returns-clause-limits
returns-clause-limits c =
    let boot = head_of-read c.args.text.now (head_view c.in-Some.head) (named_guest c.in-Some-2.guest) (sym c.in-Some.ensures)
    (rw c.in-Some-2.is at c.in_ok-guest.ensures.found) in
    boot.limits

pub returns-clause-only : goal.returns-clause-only
returns-clause-only c line h =
    let again = head-again c.args.text.now (head_view c.in-Some.head) line c.in-Some.ensures h in
    let guest = some_same (rw c.in-Some-2.is at (c.in_ok-guest.ensures.only line.guest again.1)) in
    let p = ap (λ (f : Found). f.0) again.0 in
    let s = ap (λ (f : Found). f.1) again.0 in
    let n = ap (λ (f : Found). f.2) again.0 in
    rw (p, s, n, guest) refl

pub returns-in_err-guest-clause-err : goal.returns-in_err-guest-clause-err
returns-in_err-guest-clause-err c =
    let named = c.in_err-guest.ensures.err in
    let said : (line : BootLine) × IsBoot c.args.text.now line =
    (_, head_of-read c.args.text.now (head_view c.in-Some.head) named.0 (sym c.in-Some.ensures) named.1) in
    on-err c.from_residual.result said
