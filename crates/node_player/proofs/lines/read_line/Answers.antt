use Rattle.std.proofs.Common.{◌∙◌, sym, ap, inl, inr, codes, List, ℕ, Bor}
use Rattle.std.specs.Option.{option_map}
use Rattle.script_player.specs.laws.Options.{on-err}
use Rattle.node_player.specs.Lines.{Line, arrive, piece, boot, IsLine, WantsMemory}
use Rattle.node_player.proofs.LineLemmas.{arrive-only, piece-only, raw-only, boot-only, followed-read}
use Rattle.node_player.proofs.lines.read_line.Goals as goal

pub returns-in_err-bytes-clause-err : goal.returns-in_err-bytes-clause-err
returns-in_err-bytes-clause-err c =
    let said = c.in_err-bytes.ensures.err in
    let wants : (x : Line) × IsLine c.args.text.now x × WantsMemory x = (arrive said.0, said.1, tt) in
    on-err c.from_residual.result wants

pub returns-in_err-bytes-2-clause-err : goal.returns-in_err-bytes-2-clause-err
returns-in_err-bytes-2-clause-err c =
    let said = c.in_err-bytes-2.ensures.err in
    let wants : (x : Line) × IsLine c.args.text.now x × WantsMemory x = (piece said.0, inl said.1, tt) in
    on-err c.from_residual-in_err-bytes-2.result wants

pub returns-in_err-boot-clause-err : goal.returns-in_err-boot-clause-err
returns-in_err-boot-clause-err c =
    let said = c.in_err-boot.ensures.err in
    let wants : (x : Line) × IsLine c.args.text.now x × WantsMemory x = (boot said.0, said.1, tt) in
    on-err c.from_residual-in_err-boot.result wants

pub returns-in-Some-2-clause-only : goal.returns-in-Some-2-clause-only
returns-in-Some-2-clause-only c =
    arrive-only c.args.text.now (λ o h. cc (sym c.in_default.is ∙ c.read_order.ensures.only o h)) c.in-Some-2.bytes.items
    (rw c.in-Some-2.is at c.in_ok-bytes.ensures.found) (λ bytes h. rw c.in-Some-2.is at (c.in_ok-bytes.ensures.only bytes h))

pub returns-in-Some-3-clause-only : goal.returns-in-Some-3-clause-only
returns-in-Some-3-clause-only c =
    piece-only c.args.text.now (λ o h. cc (sym c.in_default.is ∙ c.read_order.ensures.only o h))
    (λ bytes h. cc (rw c.in_default-2.is at (c.in_ok-bytes.ensures.only bytes h))) c.in-Some-3.bytes.items
    (rw c.in-Some-3.is at c.in_ok-bytes-2.ensures.found) (λ bytes h. rw c.in-Some-3.is at (c.in_ok-bytes-2.ensures.only bytes h))

pub returns-in-Some-raw_bytes-clause-found : goal.returns-in-Some-raw_bytes-clause-found
returns-in-Some-raw_bytes-clause-found c =
    inr (followed-read (codes "rawpiece ") c.args.text.now c.in-Some-raw_bytes.bytes.now (sym c.in-Some-raw_bytes.ensures))

pub returns-in-Some-raw_bytes-clause-only : goal.returns-in-Some-raw_bytes-clause-only
returns-in-Some-raw_bytes-clause-only c =
    raw-only c.args.text.now (λ o h. cc (sym c.in_default.is ∙ c.read_order.ensures.only o h))
    (λ bytes h. cc (rw c.in_default-2.is at (c.in_ok-bytes.ensures.only bytes h)))
    (λ bytes h. cc (rw c.in_default-3.is at (c.in_ok-bytes-2.ensures.only bytes h))) c.in-Some-raw_bytes.bytes.now
    (sym c.in-Some-raw_bytes.ensures)

pub returns-in-None-clause-only : goal.returns-in-None-clause-only
returns-in-None-clause-only c =
    boot-only c.args.text.now (λ o h. cc (sym c.in_default.is ∙ c.read_order.ensures.only o h))
    (λ bytes h. cc (rw c.in_default-2.is at (c.in_ok-bytes.ensures.only bytes h)))
    (λ bytes h. cc (rw c.in_default-3.is at (c.in_ok-bytes-2.ensures.only bytes h)))
    (sym c.raw_bytes.ensures ∙ ap (option_map (λ (bytes : Bor (List ℕ)). bytes.now)) c.in_default-raw_bytes.is) _
    (λ line h. rw c.in-None.is at (c.in_ok-boot.ensures.only line h))
