use Rattle.std.proofs.Common.{◌≡◌, ℕ, ◌+◌, ◌*◌, ◌/◌, ◌≤◌, List, ap, ◌∙◌, sym, subst, length, drop}
use Rattle.virtqueue.specs.{Memory.written, Parts.readable_bytes}
use Rattle.block_device.specs.{Dirty.{Sectors, with_written}, Contents.{Contents, capacity, contents_of, contents_with}}
use Rattle.block_device.proofs.DiskLemmas.{disk_kept}
use Rattle.block_device.proofs.storage.Storage.write.Goals as goal

pub invariant_of-self : goal.invariant_of-self
invariant_of-self g c =
    let within : c.args.sector + c.args.len / 512 ≤ length c.self.inside.bytes.items / 512 =
    subst (λ (s : Contents). c.args.sector + c.args.len / 512 ≤ capacity s) (sym c.self.view_is) c.start_of-start.ensures.within in
    let same : length c.gather_at.new.bytes.items / 512 ≡ length c.self.inside.bytes.items / 512 =
    ap (λ n. n / 512) c.gather_at.ensures.size in
    let room : c.mark.new.self.room ≡ c.self.inside.dirty.room = ap (λ (s : Sectors). s.room) c.mark.ensures in (
      disk_kept c.self.inside.bytes.items c.gather_at.new.bytes.items c.self.inside.dirty.list c.mark.new.self.list c.args.sector
          (c.args.len / 512) c.gather_at.ensures.size (ap (λ (s : Sectors). s.list) c.mark.ensures) within c.self.invariant.0,
      room ∙ (c.self.invariant.1 ∙ sym same),
    )

pub returns : goal.returns
returns g c =
    let new : List ℕ = drop c.args.at (readable_bytes (g.R.GuestRam.bytes c.args.ram.now) c.args.chain.now.parts) in
    let bytes : c.gather_at.new.bytes.items ≡ written c.self.inside.bytes.items (512 * c.args.sector) new =
    c.gather_at.ensures.items ∙ ap (λ n. written c.self.inside.bytes.items n new) c.start_of-start.ensures.start in
    let dirty : c.mark.new.self.list ≡ with_written c.self.inside.dirty.list c.args.sector (length new / 512) =
    ap (λ (s : Sectors). s.list) c.mark.ensures ∙ ap (λ n. with_written c.self.inside.dirty.list c.args.sector (n / 512))
    (sym c.gather_at.ensures.count) in
    ap (λ bs. contents_of bs c.mark.new.self.list) bytes
    ∙ (ap (λ ds. contents_of (written c.self.inside.bytes.items (512 * c.args.sector) new) ds) dirty
    ∙ ap (λ s. contents_with s c.args.sector new) c.self.view_is)
