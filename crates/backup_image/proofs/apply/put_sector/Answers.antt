-- A sector has as many bytes as the one in whose place it is put.
use Rattle.std.proofs.Common.{◌≡◌, ◌*◌, length, ap, ◌∙◌, arith}
use Rattle.guest_rules.specs.Guest.{State}
use Rattle.epoch_snapshot.specs.laws.Bytes.{length-with_bytes}
use Rattle.backup_image.proofs.apply.put_sector.Goals as goal

pub returns-clause-size : goal.returns-clause-size
returns-clause-size c =
    let whole : length c.args.bytes.now ≡ 512 = c.told-bytes in
    ap (λ (m : State). length m.guest.sectors) c.put_sector.ensures
    ∙ length-with_bytes c.args.machine.now.guest.sectors c.args.bytes.now (512 * c.args.sector) (omega (arith, whole, c.requires))
