use Rattle.std.proofs.Common.{◌≡◌, ℕ, List, ◌++◌, [], ◌∷◌, ap, ◌∙◌, length, take, drop, replicate, get_or, sym}
use Rattle.std.proofs.lemmas.List.{length-replicate}
use Rattle.std.proofs.Math.Seq.{get_or-append_seam}
use Rattle.arrayvec.specs.ArrayVec.{ArrayVec}
use Rattle.virtqueue.specs.Parts.{readable_bytes}
use Rattle.net_device.proofs.Lengths.{last_written}
use Rattle.net_device.proofs.frames.Outbox.push_readable.Goals as goal

pub returns : goal.returns
returns g c =
    let before : List (ArrayVec ℕ) = c.self.inside.frames.items in
    let blank : ArrayVec ℕ = record { items = replicate c.args.len 0 } in
    let framed : ℕ → ArrayVec ℕ = λ n. record {
      items =
          take n (drop c.args.at (readable_bytes (g.R.GuestRam.bytes c.args.ram.now) c.args.chain.now.parts));
    } in
    let place : c.len-place.result ≡ length before = c.len-place.ensures.value ∙ ap length (sym c.self.view_is) in
    let d : ArrayVec ℕ = c.index_mut.result.now in
    let was : c.index_mut.result.now ≡ blank =
    c.index_mut.ensures.value
    ∙ (ap (λ (fs : List (ArrayVec ℕ)). get_or fs c.len-place.result d) c.push_blank.ensures.items
    ∙ (ap (λ (i : ℕ). get_or (before ++ blank ∷ []) i d) place ∙ get_or-append_seam before blank [] d)) in
    let size : length c.index_mut.result.now.items ≡ c.args.len = ap (λ (f : ArrayVec ℕ). length f.items) was
    ∙ length-replicate c.args.len 0 in
    last_written c.push_blank.new.frames.items before c.len-place.result blank c.gather_into.new.frame c.push_blank.ensures.items place
    ∙ ap (λ (f : ArrayVec ℕ). before ++ f ∷ []) (c.gather_into.ensures.value ∙ ap framed size)
    ∙ ap (λ (fs : List (ArrayVec ℕ)). fs ++ framed c.args.len ∷ []) c.self.view_is
