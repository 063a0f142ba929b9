use Rattle.std.proofs.Common.{ap}
use Rattle.paged_memory.{specs.Pages.Paged, proofs.BytesLemmas.number_at_rest}
use Rattle.paged_memory.proofs.memory.Memory.read_u64.Goals as goal

pub returns : goal.returns
returns c =
    number_at_rest c.args.self.now.bytes c.self.inside.bytes.items c.deref.result.now c.args.at 8 c.read_u64.result
    (ap (λ (p : Paged). p.bytes) c.self.view_is) c.deref.ensures.value c.read_u64.ensures
