-- What was sent before a notify stands in front of what it sends.
use Rattle.std.proofs.Common.{
  ◌≡◌,
  ℕ,
  zero,
  suc,
  Bool,
  true,
  false,
  if◌then◌else◌,
  List,
  [],
  ◌++◌,
  refl,
  sym,
  ap,
  ◌∙◌,
  append_assoc,
  append-nil,
}
use Rattle.std.specs.Prelude.{Result, Ok, Err}
use Rattle.arrayvec.specs.ArrayVec.{ArrayVec}
use Rattle.virtqueue.specs.declared.broken.Broken.{Broken}
use Rattle.virtqueue.specs.declared.broken.Broken.TheVariants.{Direction}
use Rattle.virtqueue.specs.Areas.{available_of}
use Rattle.virtqueue.specs.Chains.{Spelled, chain_of, ◌>>=◌}
use Rattle.virtqueue.specs.Parts.{all_readable, readable_bytes}
use Rattle.virtio_mmio.specs.declared.kinds.DeviceKind.{DeviceKind}
use Rattle.virtio_mmio.specs.declared.kinds.DeviceKind.TheVariants.{Network}
use Rattle.virtio_mmio.specs.declared.states.DeviceState.{DeviceState}
use Rattle.virtio_mmio.specs.States.{queue_at}
use Rattle.virtio_mmio.specs.Serving.{can_serve}
use Rattle.virtio_mmio.specs.ServingLoop.{
  Acted,
  Served as LoopServed,
  standing,
  puts_used,
  one_served,
  or_breaks,
  chains_served,
  served as loop_served,
}
use Rattle.virtio_mmio.specs.Transport.{Device}
use Rattle.net_device.specs.declared.device.NetDevice.{NetDevice}
use Rattle.net_device.specs.Transmit.{frame_in, send, served}

abbrev Sending : Type 0
Sending = LoopServed (List (ArrayVec ℕ))

-- some frames stand in front of those that were sent
abbrev in_front : List (ArrayVec ℕ) → Sending → Sending
in_front front s = record { ram = s.ram; state = s.state; kept = front ++ s.kept }

abbrev both : (Sending → Sending) → Result Sending Broken → Result Sending Broken
both f (Ok t) = Ok (f t)
both f (Err b) = Err b

module _ (front : List (ArrayVec ℕ)) where
  packet_in_front : (s : Sending) (c : Spelled) (b : Bool) →
      ((if b then Ok (record { ram = s.ram; kept = (front ++ s.kept) ++ frame_in (readable_bytes s.ram c.parts); len = 0 })
      else Err Direction)
      >>= (λ (a : Acted (List (ArrayVec ℕ))). Ok (puts_used Network 1 (in_front front s) c.head a)))
      ≡ both (in_front front) ((if b then Ok (record { ram = s.ram; kept = s.kept ++ frame_in (readable_bytes s.ram c.parts); len = 0 })
      else Err Direction)
      >>= (λ (a : Acted (List (ArrayVec ℕ))). Ok (puts_used Network 1 s c.head a)))
  packet_in_front s c true =
      let after : List (ArrayVec ℕ) → Result Sending Broken =
      λ frames. Ok (puts_used Network 1 s c.head (record { ram = s.ram; kept = frames; len = 0 })) in
      ap after (append_assoc front s.kept (frame_in (readable_bytes s.ram c.parts)))
  packet_in_front s c false = refl

  chain_in_front : (s : Sending) (r : Result Spelled Broken) →
      (r >>= (λ c. send s.ram (front ++ s.kept) c >>= (λ a. Ok (puts_used Network 1 (in_front front s) c.head a))))
      ≡ both (in_front front) (r >>= (λ c. send s.ram s.kept c >>= (λ a. Ok (puts_used Network 1 s c.head a))))
  chain_in_front s (Ok c) = packet_in_front s c (all_readable c.parts)
  chain_in_front s (Err b) = refl

  one_in_front : (s : Sending) → one_served Network 1 send (in_front front s) ≡ both (in_front front) (one_served Network 1 send s)
  one_in_front s = chain_in_front s (chain_of (queue_at s.state 1) s.ram)

  rest_in_front : (rest : Sending → Sending) → ((t : Sending) → rest (in_front front t) ≡ in_front front (rest t)) →
      (s : Sending) (r : Result Sending Broken) →
      or_breaks rest (in_front front s) (both (in_front front) r) ≡ in_front front (or_breaks rest s r)
  rest_in_front rest h s (Ok t) = h t
  rest_in_front rest h s (Err b) = refl

  chains_in_front : (n : ℕ) (s : Sending) → chains_served Network 1 send n (in_front front s)
      ≡ in_front front (chains_served Network 1 send n s)
  unfolding chains_served
  chains_in_front zero s = refl
  chains_in_front (suc n) s =
      ap (or_breaks (chains_served Network 1 send n) (in_front front s)) (one_in_front s)
      ∙ rest_in_front (chains_served Network 1 send n) (chains_in_front n) s (one_served Network 1 send s)

  available_in_front : (s : Sending) (r : Result ℕ Broken) →
      or_breaks (λ n. chains_served Network 1 send n (in_front front s)) (in_front front s) r
      ≡ in_front front (or_breaks (λ n. chains_served Network 1 send n s) s r)
  available_in_front s (Ok n) = chains_in_front n s
  available_in_front s (Err b) = refl

  when_in_front : (b : Bool) (s t u : Sending) → u ≡ in_front front t →
      (if b then u else in_front front s) ≡ in_front front (if b then t else s)
  when_in_front true s t u e = e
  when_in_front false s t u e = refl

  served_in_front : (s : Sending) → loop_served Network 1 send (in_front front s) ≡ in_front front (loop_served Network 1 send s)
  unfolding loop_served
  served_in_front s =
      when_in_front (can_serve Network s.state 1) s
      (or_breaks (λ n. chains_served Network 1 send n s) s (available_of (queue_at s.state 1) s.ram))
      (or_breaks (λ n. chains_served Network 1 send n (in_front front s)) (in_front front s) (available_of (queue_at s.state 1) s.ram))
      (available_in_front s (available_of (queue_at s.state 1) s.ram))

-- what serving the transmit queue leaves, whatever was sent before
pub record IsServed (ram : List ℕ) (net : DeviceState) (out : List (ArrayVec ℕ)) (s : Sending) : Type 0 where
  pub memory : s.ram ≡ (served ram net).ram
  pub card : s.state ≡ (served ram net).net
  pub frames : s.kept ≡ out ++ (served ram net).frames

pub is_served : (k : DeviceKind) (ram : List ℕ) (net : DeviceState) (out : List (ArrayVec ℕ)) → k ≡ Network →
    IsServed ram net out (loop_served k 1 send (standing ram net out))
unfolding served
is_served k ram net out kind =
    let is : loop_served k 1 send (standing ram net out) ≡ in_front out (loop_served Network 1 send (standing ram net [])) =
    ap (λ (x : DeviceKind). loop_served x 1 send (standing ram net out)) kind
    ∙ (ap (λ (xs : List (ArrayVec ℕ)). loop_served Network 1 send (standing ram net xs)) (sym (append-nil out))
    ∙ served_in_front out (standing ram net [])) in
    record { memory = ap (λ (s : Sending). s.ram) is; card = ap (λ (s : Sending). s.state) is; frames = ap (λ (s : Sending). s.kept) is }

-- a card of these registers
abbrev pub with_record : Device → NetDevice
with_record t = record { transport = t }
