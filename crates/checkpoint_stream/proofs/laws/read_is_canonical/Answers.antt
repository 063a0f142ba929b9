use Rattle.checkpoint_stream.proofs.{Canonical.canonical, Soundness.{fed-sound, begun-sound}}
use Rattle.checkpoint_stream.proofs.laws.read_is_canonical.Goals as goal

pub returns : goal.returns
returns c = λ shape offset bytes whole. (canonical _ (fed-sound _ bytes (begun-sound shape offset)) whole).1
