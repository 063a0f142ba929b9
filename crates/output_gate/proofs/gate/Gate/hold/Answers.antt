-- One epoch more behind those held, in the room that was reserved.
use Rattle.std.proofs.Common.{◌+◌, length, refl, arith}
use Rattle.output_gate.proofs.GateLemmas.{row_few, marks_few, more_is, more_fields}
use Rattle.output_gate.proofs.gate.Gate.hold.Goals as goal

pub put_copies-requires : goal.put_copies-requires
put_copies-requires c =
    let g = c.self.inside in
    omega (
      arith,
      g.frames.ok.0,
      row_few g c.args.self.now c.self.view_is c.self.invariant,
      c.self.invariant.frames,
      c.requires.few,
      c.requires.room,
    )

pub put_last-requires : goal.put_last-requires
put_last-requires c =
    let g = c.self.inside in
    omega (arith, g.marks.ok.0, marks_few g c.args.self.now c.self.view_is c.self.invariant, c.self.invariant.marks, c.requires.room)

pub invariant_of-self : goal.invariant_of-self
invariant_of-self c =
    more_fields c.self.inside c.args.self.now c.self.view_is c.self.invariant
    (record { frames = c.put_copies.new.held; marks = c.put_last.new.items; next = c.self.inside.next + length c.args.frames.now })
    (record { number = c.args.number; count = length c.args.frames.now }) c.args.frames.now c.put_copies.ensures.items
    c.put_last.ensures.items refl refl
    c.requires.room c.requires.above c.requires.few c.requires.frames c.requires.numbers c.put_last.ensures.room c.put_copies.ensures.room

pub returns : goal.returns
returns c =
    more_is c.self.inside c.args.self.now c.self.view_is c.self.invariant
    (record { frames = c.put_copies.new.held; marks = c.put_last.new.items; next = c.self.inside.next + length c.args.frames.now })
    (record { number = c.args.number; count = length c.args.frames.now }) c.args.frames.now c.put_copies.ensures.items
    c.put_last.ensures.items refl refl
