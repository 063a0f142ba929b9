use Rattle.std.proofs.Common.{sym, subst}
use Rattle.checkpoint_stream.specs.ReadBack.{ReadsBack}
use Rattle.pair_book.proofs.packet.TextPacket.new.Goals as goal

pub invariant_of-result : goal.invariant_of-result
invariant_of-result c =
    let change = c.args.checkpoint.now in
    record {
      change = change;
      reads_back = subst (ReadsBack change) (sym c.shared.ensures) c.in_ok-text.ensures.read;
      of_version = c.requires;
      of_generation = sym c.generation.ensures.value;
      of_number = sym c.number.ensures.value;
    }
