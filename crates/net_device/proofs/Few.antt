-- A notify sends few frames, each of a frame's length.
use Rattle.std.proofs.Common.{
  ◌≡◌,
  ℕ,
  ◌+◌,
  ◌≤◌,
  ◌&&◌,
  nat_le,
  Bool,
  true,
  false,
  if◌then◌else◌,
  List,
  [],
  ◌∷◌,
  ◌++◌,
  length,
  drop,
  All,
  arith,
  refl,
  subst,
}
use Rattle.std.specs.Prelude.{Ok, Err}
use Rattle.std.proofs.lemmas.Bool.{leb-true}
use Rattle.std.proofs.lemmas.List.{length-append}
use Rattle.std.proofs.lemmas.List.Elements.{All-nil, All-cons, All-append}
use Rattle.arrayvec.specs.ArrayVec.{ArrayVec}
use Rattle.virtqueue.specs.declared.broken.Broken.TheVariants.{Direction}
use Rattle.virtqueue.specs.Chains.{Spelled}
use Rattle.virtqueue.specs.Parts.{all_readable, readable_bytes}
use Rattle.virtio_mmio.specs.declared.kinds.DeviceKind.TheVariants.{Network}
use Rattle.virtio_mmio.specs.declared.states.DeviceState.{DeviceState}
use Rattle.virtio_mmio.specs.ServingLoop.{Acted, standing}
use Rattle.virtio_mmio.proofs.Loop.{served_keeps}
use Rattle.net_device.specs.Frames.{IsFrame}
use Rattle.net_device.specs.Transmit.{frame_in, send, served}

-- frames of a frame's length, and room for so many more of 64
pub record IsFew (n : ℕ) (sent : List (ArrayVec ℕ)) : Type 0 where
  pub frames : All IsFrame sent
  pub room : length sent + n ≤ 64

few_more : (n : ℕ) (frames : List (ArrayVec ℕ)) (bytes : List ℕ) (a b : Bool) → nat_le 14 (length bytes) ≡ a →
    nat_le (length bytes) 1514 ≡ b → IsFew (n + 1) frames →
    IsFew n (frames ++ (if a && b then record { items = bytes } ∷ [] else []))
few_more n frames bytes true true e f h =
    let one : List (ArrayVec ℕ) = record { items = bytes } ∷ [] in
    record {
      frames = All-append IsFrame frames one h.frames
          (All-cons IsFrame (record { items = bytes }) [] (leb-true 14 (length bytes) e, leb-true (length bytes) 1514 f) (All-nil IsFrame));
      room = omega (arith, length-append frames one, h.room);
    }
few_more n frames bytes true false e f h =
    record { frames = All-append IsFrame frames [] h.frames (All-nil IsFrame); room = omega (arith, length-append frames [], h.room) }
few_more n frames bytes false b e f h =
    record { frames = All-append IsFrame frames [] h.frames (All-nil IsFrame); room = omega (arith, length-append frames [], h.room) }

few_acted : (n : ℕ) (ram : List ℕ) (frames : List (ArrayVec ℕ)) (c : Spelled) (a : Acted (List (ArrayVec ℕ))) (b : Bool) →
    (if b then Ok (record { ram = ram; kept = frames ++ frame_in (readable_bytes ram c.parts); len = 0 }) else Err Direction) ≡ Ok a →
    IsFew (n + 1) frames → IsFew n a.kept
few_acted n ram frames c a true e h =
    let packet : List ℕ = drop 12 (readable_bytes ram c.parts) in
    let is : frames ++ frame_in (readable_bytes ram c.parts) ≡ a.kept = cc in
    subst (IsFew n) is (few_more n frames packet (nat_le 14 (length packet)) (nat_le (length packet) 1514) refl refl h)
few_acted n ram frames c a false e h = cc

few_fewer : (n m : ℕ) (frames : List (ArrayVec ℕ)) → n ≤ m → IsFew m frames → IsFew n frames
few_fewer n m frames l h = record { frames = h.frames; room = omega (arith, h.room) }

pub few_served : (ram : List ℕ) (net : DeviceState) → IsFew 0 (served ram net).frames
unfolding served
few_served ram net =
    served_keeps Network 1 send (λ n s. IsFew n s.kept) (λ n m s l p. few_fewer n m s.kept l p) (λ n s p. p)
    (λ n s c a e p. few_acted n s.ram s.kept c a (all_readable c.parts) e p) (standing ram net [])
    (record { frames = All-nil IsFrame; room = omega arith })
