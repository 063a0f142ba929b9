use Rattle.std.proofs.Common.{◌≡◌, IfOk, Ok, subst}
use Rattle.backup_image.specs.Images.{settled_machine}
use Rattle.guest_rules.specs.Guest.{boot_guest}
use Rattle.hypervisor.specs.Opening.{first_image}
use Rattle.hypervisor.proofs.OpeningLaws.{boots-unnamed}
use Rattle.hypervisor.proofs.boot.UnnamedPair.new.Goals as goal

pub invariant_of-result : goal.invariant_of-result
invariant_of-result c =
    let made = c.in_ok-book.ensures in
    let inner = subst (λ r. IfOk r (λ x. (c.boot_machine-machine.result ≡ Ok x.0) × (c.boot_image-image.result ≡ Ok x.1)))
    made.1 c.both.ensures in
    let guest = boot_guest c.args.shape.pages c.args.shape.sectors c.args.image.now in
    boots-unnamed c.args.shape c.args.image.now c.args.clients c.in_ok-book.book c.in_ok-book.machine c.in_ok-book.image
    (subst (λ r. IfOk r (λ b. b.clients ≡ c.args.clients)) made.0 c.new-book.ensures)
    (subst (λ r. IfOk r (λ m. m ≡ settled_machine c.args.shape guest)) inner.0 c.boot_machine-machine.ensures)
    (subst (λ r. IfOk r (λ i. i ≡ first_image c.args.shape guest)) inner.1 c.boot_image-image.ensures)
