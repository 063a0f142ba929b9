use Rattle.std.proofs.Common.{ap}
use Rattle.paged_memory.{specs.Pages.Paged, proofs.BytesLemmas.number_at_byte}
use Rattle.paged_memory.proofs.memory.Memory.read_u8.Goals as goal

pub returns : goal.returns
returns c =
    number_at_byte c.args.self.now.bytes c.self.inside.bytes.items c.args.at c.index.result.now
    (ap (λ (p : Paged). p.bytes) c.self.view_is) c.requires c.index.ensures
