use Rattle.virtio_mmio.proofs.Rules.{stored-rules}
use Rattle.virtio_mmio.proofs.laws.kept_records.Goals as goal

pub returns : goal.returns
returns c = λ k d offset width value s e h. stored-rules k d offset width value s e h
