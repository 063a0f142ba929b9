use Rattle.std.proofs.Common.{refl}
use Rattle.script_player.proofs.OpenLines.{still-lost}
use Rattle.script_player.proofs.session.OpenLine.add.Goals as goal

pub returns-in_default : goal.returns-in_default
returns-in_default c = record {
  held = λ text held. record {
    kept = still-lost c.args.self.now.fate text c.args.bytes.now c.args.self.now.bytes.items c.in_default.not-Kept held.kept;
    first = c.keep_first.ensures text held.first;
  };
  due = refl;
}
