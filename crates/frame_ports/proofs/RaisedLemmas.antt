-- A frame that is new lands: the client's number is that of the frame, and the frame is last in the client's box.
use Rattle.std.proofs.Common.{
  ◌≡◌,
  ℕ,
  ◌-◌,
  ◌<◌,
  true,
  List,
  [],
  ◌∷◌,
  ◌++◌,
  length,
  slice_index_or,
  slice_set,
  sym,
  ◌∙◌,
  ap,
  arith,
  length-set,
}
use Rattle.std.proofs.lemmas.Bool.{lt-ltb}
use Rattle.arrayvec.specs.ArrayVec.{ArrayVec}
use Rattle.circular_buffer.specs.Buffer.{Buffer, buffer}
use Rattle.frame_ports.specs.Addresses.{IsFrame}
use Rattle.frame_ports.specs.Lands.{has_room}
use Rattle.frame_ports.specs.Limits.{box_frames}
use Rattle.frame_ports.specs.Numbers.{is_new, after_landing}
use Rattle.frame_ports.specs.Ports.{PortsState, IsClient, box_of}
use Rattle.frame_ports.specs.internal.Fields.{ports_state, AreFields}
use Rattle.frame_ports.specs.declared.ports.Ports.TheInside.{Inside}
use Rattle.frame_ports.proofs.LandLaws.{landed_at-room}
use Rattle.frame_ports.specs.laws.Numbers.{after_landing-new}
use Rattle.frame_ports.proofs.PortsLemmas.{
  box_changed,
  box_seen,
  box_put,
  box-push,
  numbers_put,
  fields-numbers_put,
  state-numbers_put,
}

module _ (p : Inside) (c n : ℕ) (s : PortsState) (seen : ports_state p ≡ s) (ok : AreFields p) (client : IsClient s c)
    (new : is_new s c n ≡ true) (ns : ArrayVec ℕ) (raised : ns.items ≡ slice_set p.numbers.items (c - 1) n)
    (f : ArrayVec ℕ) (frame : IsFrame f) (r r' : Buffer (ArrayVec ℕ)) (read : r ≡ slice_index_or p.boxes.items (c - 1) r)
    (room : length r.items < box_frames) (put : r' ≡ buffer (r.items ++ f ∷ []) r.capacity) where
  numbered : PortsState
  numbered = record s { numbers = ns.items }

  numbers_are : ns.items ≡ slice_set s.numbers (c - 1) n
  numbers_are = raised ∙ ap (λ (t : PortsState). slice_set t.numbers (c - 1) n) seen

  changed : AreFields (box_put (numbers_put p ns ok) c r')
      × (ports_state (box_put (numbers_put p ns ok) c r') ≡ record numbered { boxes = slice_set s.boxes (c - 1) (box_of s c ++ f ∷ []) })
  unfolding numbered
  changed =
      box_changed (numbers_put p ns ok) c numbered (state-numbers_put p ns ok s seen)
      (fields-numbers_put p ns ok (ap (λ (l : List ℕ). length l) raised ∙ length-set p.numbers.items (c - 1) n ∙ ok.state.numbered)) client
      (λ l. l ++ f ∷ []) r r' read put (box-push r.items f room frame)

  pub landed_fields : AreFields (box_put (numbers_put p ns ok) c r')
  landed_fields = changed.0

  pub landed_state : ports_state (box_put (numbers_put p ns ok) c r') ≡ after_landing s c n f
  unfolding numbered
  landed_state =
      let at = box_seen p c s seen ok client r read in
      let has : has_room s.boxes c ≡ true = lt-ltb (length (box_of s c)) box_frames
      (omega (arith, ap (λ (l : List (ArrayVec ℕ)). length l) at.0)) in
      changed.1
      ∙ ap (λ (l : List ℕ). let t : PortsState =
      record s { numbers = l; boxes = slice_set s.boxes (c - 1) (box_of s c ++ f ∷ []) } in t) numbers_are
      ∙ ap (λ (l : List (List (ArrayVec ℕ))). let t : PortsState =
      record s { numbers = slice_set s.numbers (c - 1) n; boxes = l } in t) (sym (landed_at-room s.boxes c f has))
      ∙ sym (after_landing-new s c n f new)
