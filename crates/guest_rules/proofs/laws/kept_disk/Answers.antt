use Rattle.guest_rules.specs.laws.Kept.{boot-sectors, next-sectors, next-disk_bytes}
use Rattle.guest_rules.proofs.laws.kept_disk.Goals as goal

pub returns : goal.returns
returns c = record {
  boot = λ pages sectors image. boot-sectors pages sectors image;
  step = λ g. next-sectors g;
  bytes = λ g. next-disk_bytes g;
}
