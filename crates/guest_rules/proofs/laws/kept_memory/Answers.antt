use Rattle.guest_rules.specs.laws.Kept.{boot-kept, next-kept, arrived-bytes, arrived-kept}
use Rattle.guest_rules.proofs.laws.kept_memory.Goals as goal

pub returns : goal.returns
returns c = record {
  boot = λ pages sectors image. boot-kept pages sectors image;
  bytes = λ g h. (next-kept g h).bytes;
  rules = λ g h. (next-kept g h).rules;
  bytes_at_arrival = λ g frame h. arrived-bytes g frame h;
  rules_at_arrival = λ g frame h. (arrived-kept g frame h).rules;
}
