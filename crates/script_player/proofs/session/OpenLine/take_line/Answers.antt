use Rattle.std.proofs.Common.{arith, sym, ◌∙◌, take, ◌++◌}
use Rattle.script_player.proofs.OpenLines.{taken-all, taken-line, taken-head}
use Rattle.script_player.proofs.session.OpenLine.take_line.Goals as goal

pub returns-in_default-clause-taken : goal.returns-in_default-clause-taken
returns-in_default-clause-taken g c = λ text held.
    taken-all g.P.LinePlayer.follow c.args.self.now c.add.new.self text c.args.bytes.now c.requires.open c.in_default.ensures c.add.ensures.due
    (c.add.ensures.held text held)

pub returns-then-self-eq0-clause-taken : goal.returns-then-self-eq0-clause-taken
returns-then-self-eq0-clause-taken g c = λ text held.
    let kept = c.add-2.ensures.held text held in
    let new = record c.add-2.new.self { due = c.following-self.result } in
    taken-line g.P.LinePlayer.follow c.args.self.now new text c.args.bytes.now c.requires.open c.in-Some.end c.in-Some.ensures
    (record { kept = kept.kept; first = kept.first }) (sym (c.following-self.ensures _ kept) ∙ c.if-self-eq0.true)

pub returns-clause-taken : goal.returns-clause-taken
returns-clause-taken g c = λ text held.
    let kept = c.add-2.ensures.held text held in
    taken-head g.P.LinePlayer.follow c.args.self.now c.add-3.new.self text c.args.bytes.now c.requires.open c.in-Some.end c.in-Some.ensures
    (c.add-3.ensures.held (text ++ take c.in-Some.end c.args.bytes.now) (record { kept = kept.kept; first = kept.first }))
    (c.add-3.ensures.due ∙ c.following-self.ensures _ kept) (omega arith)
