use Rattle.std.proofs.Common.{◌≡◌, ◌+◌, ◌/◌, ◌≤◌, ℕ, ap, ◌∙◌, sym, subst, arith, length}
use Rattle.block_device.{specs.{Contents.{Contents, capacity}, Dirty.Sectors}, proofs.DiskLemmas.disk_kept}
use Rattle.block_device.proofs.storage.Storage.put_sector.Goals as goal

pub invariant_of-self : goal.invariant_of-self
invariant_of-self c =
    let had : c.args.sector + 1 ≤ capacity c.args.self.now = omega (arith, c.requires) in
    let within : c.args.sector + 1 ≤ length c.self.inside.bytes.items / 512 =
    subst (λ (s : Contents). c.args.sector + 1 ≤ capacity s) (sym c.self.view_is) had in
    let same : length c.put.new.bytes.items / 512 ≡ length c.self.inside.bytes.items / 512 = ap (λ (n : ℕ). n / 512) c.put.ensures.size in
    let room : c.mark.new.self.room ≡ c.self.inside.dirty.room = ap (λ (s : Sectors). s.room) c.mark.ensures in (
      disk_kept c.self.inside.bytes.items c.put.new.bytes.items c.self.inside.dirty.list c.mark.new.self.list c.args.sector 1
          c.put.ensures.size (ap (λ (s : Sectors). s.list) c.mark.ensures) within c.self.invariant.0,
      room ∙ (c.self.invariant.1 ∙ sym same),
    )
