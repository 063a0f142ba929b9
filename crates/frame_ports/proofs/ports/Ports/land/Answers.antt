-- The client's number becomes that of the frame. The frame goes last in the box where it has room, and the other lists stay.
use Rattle.std.proofs.Common.{◌≡◌, ◌<◌, ◌-◌, ℕ, sym, ◌∙◌, ap, length, List, arith, ◌++◌, ◌∷◌, [], true, if◌then◌else◌, slice_set}
use Rattle.arrayvec.specs.ArrayVec.{ArrayVec}
use Rattle.circular_buffer.specs.Buffer.{buffer}
use Rattle.frame_ports.specs.Limits.{box_frames}
use Rattle.frame_ports.specs.Numbers.{is_new}
use Rattle.frame_ports.specs.Ports.{PortsState}
use Rattle.frame_ports.proofs.RaisedLemmas.{landed_fields, landed_state}
use Rattle.frame_ports.proofs.ports.Ports.land.Goals as goal
use Rattle.frame_ports.proofs.ports.Ports.land.Goals.{After-put_frame}

-- the frame is new
new : (c : After-put_frame) → is_new c.args.self.now c.args.client c.args.number ≡ true
new c = ap (λ (s : PortsState). is_new s c.args.client c.args.number) (sym c.self.view_is) ∙ sym c.raise.ensures.answer
    ∙ c.if-not-raise.false

raised : (c : After-put_frame) → c.raise.new.numbers.items ≡ slice_set c.self.inside.numbers.items (c.args.client - 1) c.args.number
raised c = c.raise.ensures.raised ∙ ap (λ b. if b then slice_set c.self.inside.numbers.items (c.args.client - 1) c.args.number
    else c.self.inside.numbers.items) c.if-not-raise.false

-- the box had room, and the frame is last in it
room : (c : After-put_frame) → length c.index_mut-landed.result.now.items < box_frames
room c = omega (arith, c.len.ensures.len, c.if-len-ge-BOX_FRAMES.false)

abbrev frame_of : List ℕ → ArrayVec ℕ
frame_of bytes = record { items = bytes }

put : (c : After-put_frame) → c.put_frame.new.ring
    ≡ buffer (c.index_mut-landed.result.now.items ++ frame_of c.args.frame.now ∷ []) c.index_mut-landed.result.now.capacity
put c = c.put_frame.ensures

pub invariant_of-self-2 : goal.invariant_of-self-2
invariant_of-self-2 c =
    let w = (goal.at.invariant_of-self-2 c).After-put_frame in
    landed_fields c.self.inside c.args.client c.args.number c.args.self.now c.self.view_is c.self.invariant c.requires.client (new w)
    c.raise.new.numbers (raised w) (frame_of c.args.frame.now) c.requires.frame c.index_mut-landed.result.now c.put_frame.new.ring
    c.index_mut-landed.ensures.value (room w) (put w)

pub returns-clause-ports : goal.returns-clause-ports
returns-clause-ports c =
    let w = (goal.at.returns-clause-ports c).After-put_frame in
    landed_state c.self.inside c.args.client c.args.number c.args.self.now c.self.view_is c.self.invariant c.requires.client (new w)
    c.raise.new.numbers (raised w) (frame_of c.args.frame.now) c.requires.frame c.index_mut-landed.result.now c.put_frame.new.ring
    c.index_mut-landed.ensures.value (room w) (put w)
