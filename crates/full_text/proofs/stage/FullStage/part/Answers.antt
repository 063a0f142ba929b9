-- What is made reaches so far.
use Rattle.std.proofs.Common.{◌≡◌, ◌+◌, ℕ, List, ap, ◌∙◌}
use Rattle.full_text.specs.Full.{part_of}
use Rattle.full_text.specs.Stages.{IsReadyTo, made, text_of}
use Rattle.full_text.specs.declared.stage.FullStage.{FullStage}
use Rattle.full_text.specs.declared.stage.FullStage.TheVariants.{Search, Text}
use Rattle.full_text.proofs.PartLemmas.{head-part, made-part}
use Rattle.full_text.proofs.stage.FullStage.part.Goals as goal

stage-part : (settled : List ℕ) (stage : FullStage) (from count : ℕ) → IsReadyTo (from + count) stage
    → part_of from count (made stage) ≡ part_of from count (text_of settled stage)
stage-part settled (Search s) from count ready = head-part settled s from count ready
stage-part settled (Text f) from count ready = made-part settled f from count ready

pub returns : goal.returns
returns c =
    λ settled. c.part_of.ensures ∙ ap (part_of c.args.from c.args.count) c.made.ensures
    ∙ stage-part settled c.args.self.now c.args.from c.args.count c.requires
