use Rattle.std.proofs.Common.{refl, ◌∙◌}
use Rattle.script_player.specs.Boot.{boot_line}
use Rattle.node_player.proofs.RoleLemmas.{booted-so}
use Rattle.node_player.proofs.begins.boot_guest.Goals as goal

pub returns : goal.returns
returns c = booted-so c.boot.result (boot_line c.args.line.now) _ _ refl refl (c.as_slice.ensures.value ∙ c.in_ok-image.ensures.bytes)
    c.boot.ensures
