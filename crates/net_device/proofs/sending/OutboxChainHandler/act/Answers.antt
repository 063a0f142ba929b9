use Rattle.std.proofs.Common.{◌≡◌, ℕ, ◌++◌, List, sym, ap, ◌∙◌, length}
use Rattle.virtqueue.specs.Parts.{readable_bytes}
use Rattle.virtqueue.specs.laws.Lengths.{length_readable}
use Rattle.net_device.proofs.Lengths.{frame_sent, frame_lost, kept_sent}
use Rattle.std.proofs.lemmas.List.{append-nil}
use Rattle.net_device.proofs.sending.OutboxChainHandler.act.Goals as goal

pub returns-then-has_frame-clause-kept : goal.returns-then-has_frame-clause-kept
returns-then-has_frame-clause-kept g c =
    let bytes : List ℕ = g.R.GuestRam.bytes c.args.ram.now in
    let packet : List ℕ = readable_bytes bytes c.args.chain.now.parts in
    let whole : c.readable_len-len.result ≡ length packet =
    c.readable_len-len.ensures ∙ sym (length_readable bytes c.args.chain.now.parts c.requires.inside) in
    let within = c.has_frame.ensures.some c.if-has_frame.true in
    c.push_readable.ensures
    ∙ (ap (λ fs. c.args.self.now ++ fs) (frame_sent packet c.readable_len-len.result whole within.0 within.1)
    ∙ sym (kept_sent bytes c.args.self.now c.args.chain.now (sym c.is_all_readable.ensures ∙ c.if-not-is_all_readable.false)))

pub returns-else-has_frame-clause-kept : goal.returns-else-has_frame-clause-kept
returns-else-has_frame-clause-kept g c =
    let bytes : List ℕ = g.R.GuestRam.bytes c.args.ram.now in
    let packet : List ℕ = readable_bytes bytes c.args.chain.now.parts in
    let whole : c.readable_len-len.result ≡ length packet =
    c.readable_len-len.ensures ∙ sym (length_readable bytes c.args.chain.now.parts c.requires.inside) in
    sym (append-nil c.args.self.now)
    ∙ (ap (λ fs. c.args.self.now ++ fs) (frame_lost packet c.readable_len-len.result whole (c.has_frame.ensures.none c.if-has_frame.false))
    ∙ sym (kept_sent bytes c.args.self.now c.args.chain.now (sym c.is_all_readable.ensures ∙ c.if-not-is_all_readable.false)))
