use Rattle.std.proofs.Common.{ℕ, List, take, ap, ◌∙◌}
use Rattle.std.proofs.lemmas.List.{take-replicate}
use Rattle.arrayvec.specs.ArrayVec.{ArrayVec}
use Rattle.net_device.proofs.frames.blank.Goals as goal

pub returns : goal.returns
returns c =
    let framed : List ℕ → ArrayVec ℕ = λ bytes. record { items = bytes } in
    ap framed (c.truncate.ensures.items ∙ (ap (take c.args.len) c.from-frame.ensures.0 ∙ take-replicate c.args.len 1514 0 c.requires))
