-- Which packets have a frame, by how many bytes they have; and the frame that is put into the last place.
use Rattle.std.proofs.Common.{
  ◌≡◌,
  ℕ,
  ◌-◌,
  ◌≤◌,
  Bool,
  true,
  false,
  ◌&&◌,
  nat_le,
  if◌then◌else◌,
  List,
  [],
  ◌∷◌,
  ◌++◌,
  length,
  take,
  drop,
  slice_set,
  refl,
  sym,
  ap,
  ◌∙◌,
  arith,
  length-drop,
}
use Rattle.std.specs.Prelude.{Ok, Err}
use Rattle.std.proofs.lemmas.List.{take_all}
use Rattle.std.proofs.lemmas.Bool.{leb-true, le-leb}
use Rattle.std.proofs.Math.Seq.{set-append_seam}
use Rattle.arrayvec.specs.ArrayVec.{ArrayVec}
use Rattle.virtqueue.specs.declared.broken.Broken.TheVariants.{Direction}
use Rattle.virtqueue.specs.Chains.{Spelled}
use Rattle.virtqueue.specs.Parts.{all_readable, readable_bytes}
use Rattle.virtio_mmio.specs.ServingLoop.{kept_after}
use Rattle.net_device.specs.Transmit.{frame_in, send}

-- ---- a packet's frame

sent_when : (a b : Bool) (frame : List (ArrayVec ℕ)) → a ≡ true → b ≡ true → frame ≡ (if a && b then frame else [])
sent_when a b frame e f = sym (ap (λ (x : Bool). if x && b then frame else []) e ∙ ap (λ (x : Bool). if x then frame else []) f)

pub frame_sent : (packet : List ℕ) (n : ℕ) → n ≡ length packet → 26 ≤ n → n ≤ 1526 → record { items = take (n - 12) (drop 12 packet) } ∷ []
    ≡ frame_in packet
frame_sent packet n e from to =
    let size : length (drop 12 packet) ≡ n - 12 = omega (arith, length-drop 12 packet) in
    let whole : take (n - 12) (drop 12 packet) ≡ drop 12 packet = take_all (n - 12) (drop 12 packet) (omega (arith, size)) in
    let long : nat_le 14 (length (drop 12 packet)) ≡ true = le-leb 14 (length (drop 12 packet)) (omega (arith, size)) in
    let short : nat_le (length (drop 12 packet)) 1514 ≡ true = le-leb (length (drop 12 packet)) 1514 (omega (arith, size)) in
    let framed : List ℕ → List (ArrayVec ℕ) = λ bytes. record { items = bytes } ∷ [] in
    ap framed whole ∙ sent_when _ _ (framed (drop 12 packet)) long short

lost_when : (a b : Bool) (frame : List (ArrayVec ℕ)) → (a ≡ true → b ≡ true → ⊥) → [] ≡ (if a && b then frame else [])
lost_when true true frame none = absurd (none refl refl)
lost_when true false frame none = refl
lost_when false b frame none = refl

pub frame_lost : (packet : List ℕ) (n : ℕ) → n ≡ length packet → (26 ≤ n → n ≤ 1526 → ⊥) → [] ≡ frame_in packet
frame_lost packet n e out =
    let size : length (drop 12 packet) ≡ n - 12 = omega (arith, length-drop 12 packet) in
    lost_when (nat_le 14 (length (drop 12 packet))) (nat_le (length (drop 12 packet)) 1514) (record { items = drop 12 packet } ∷ []) (λ a b.
    let long : 14 ≤ length (drop 12 packet) = leb-true 14 (length (drop 12 packet)) a in
    let short : length (drop 12 packet) ≤ 1514 = leb-true (length (drop 12 packet)) 1514 b in
    out (omega arith) (omega arith))

-- what is kept of a packet with readable buffers alone
pub kept_sent : (ram : List ℕ) (frames : List (ArrayVec ℕ)) (c : Spelled) → all_readable c.parts ≡ true →
    kept_after frames (send ram frames c) ≡ frames ++ frame_in (readable_bytes ram c.parts)
kept_sent ram frames c e =
    ap (λ (b : Bool). kept_after frames (if b then Ok
    (record { ram = ram; kept = frames ++ frame_in (readable_bytes ram c.parts); len = 0 }) else Err Direction)) e

-- ---- the last place

-- what was put last and then written over
pub last_written : (frames before : List (ArrayVec ℕ)) (place : ℕ) (blank frame : ArrayVec ℕ) →
    frames ≡ before ++ blank ∷ [] → place ≡ length before → slice_set frames place frame ≡ before ++ frame ∷ []
last_written frames before place blank frame e at =
    ap (λ (xs : List (ArrayVec ℕ)). slice_set xs place frame) e
    ∙ (ap (λ (i : ℕ). slice_set (before ++ blank ∷ []) i frame) at ∙ set-append_seam before blank [] frame)
