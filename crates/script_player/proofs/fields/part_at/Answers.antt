use Rattle.std.proofs.Common.{◌∙◌, sym}
use Rattle.script_player.proofs.FieldLemmas.{parted-none, parted-some}
use Rattle.script_player.proofs.fields.part_at.Goals as goal

pub returns-in_err-place : goal.returns-in_err-place
returns-in_err-place c =
    rw c.from_residual.ensures (sym (parted-none c.args.byte c.args.text.now (sym c.place_of.ensures ∙ c.in_err-place.was)))

pub returns : goal.returns
returns c = sym (parted-some c.args.byte c.args.text.now c.in_ok-place.place (sym c.place_of.ensures ∙ c.in_ok-place.was))
