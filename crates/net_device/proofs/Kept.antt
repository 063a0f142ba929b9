-- What the card's sending and receiving keep: the rules of its record, and the number of the memory's bytes.
use Rattle.std.proofs.Common.{◌≡◌, ℕ, ◌++◌, nat_le, ◌==◌, Bool, true, false, if◌then◌else◌, List, [], length, refl, ap, ◌∙◌, sym, subst}
use Rattle.std.specs.Prelude.{Option, Some, None, Result, Ok, Err}
use Rattle.arrayvec.specs.ArrayVec.{ArrayVec}
use Rattle.virtqueue.specs.declared.broken.Broken.{Broken}
use Rattle.virtqueue.specs.declared.broken.Broken.TheVariants.{Direction}
use Rattle.virtqueue.specs.Areas.{available_of, AreasFit, IsSized}
use Rattle.virtqueue.specs.Chains.{Spelled, chain_of, next_chain_of, ◌>>=◌}
use Rattle.virtqueue.specs.Parts.{all_readable, readable_bytes, all_writable, writable_len, writable_places, put_at}
use Rattle.virtqueue.specs.laws.Lengths.{length_put_at, length_used_written, areas_available}
use Rattle.virtio_mmio.specs.declared.kinds.DeviceKind.TheVariants.{Network}
use Rattle.virtio_mmio.specs.declared.states.DeviceState.{DeviceState}
use Rattle.virtio_mmio.specs.States.{queue_at, IsDeviceRecord}
use Rattle.virtio_mmio.specs.Serving.{can_serve}
use Rattle.virtio_mmio.specs.ServingLoop.{Acted, standing}
use Rattle.virtio_mmio.proofs.Rules.{either, needing_reset_keeps}
use Rattle.virtio_mmio.proofs.Loop.{served_keeps_rules, use_keeps_rules}
use Rattle.virtio_mmio.proofs.Lengths.{served-length as loop-length, sized_in_service}
use Rattle.net_device.specs.Transmit.{frame_in, send, served}
use Rattle.net_device.specs.Receive.{Received, packet, put_next, received}

-- ---- a notify

pub served-rules : (ram : List ℕ) (net : DeviceState) → IsDeviceRecord Network net → IsDeviceRecord Network (served ram net).net
unfolding served
served-rules ram net h = served_keeps_rules Network 1 send (standing ram net []) h

-- sending writes nothing
sent-ram : (ram : List ℕ) (frames : List (ArrayVec ℕ)) (c : Spelled) (a : Acted (List (ArrayVec ℕ))) (b : Bool) →
    (if b then Ok (record { ram = ram; kept = frames ++ frame_in (readable_bytes ram c.parts); len = 0 }) else Err Direction) ≡ Ok a →
    a.ram ≡ ram
sent-ram ram frames c a true e = cc
sent-ram ram frames c a false e = cc

pub served-length : (ram : List ℕ) (net : DeviceState) → IsDeviceRecord Network net → length (served ram net).ram ≡ length ram
unfolding served
served-length ram net h =
    loop-length Network 1 send (λ bytes frames c a e. ap length (sent-ram bytes frames c a (all_readable c.parts) e))
    (standing ram net []) h

-- ---- a frame that arrives

next-rules : (ram : List ℕ) (net : DeviceState) (frame : ArrayVec ℕ) (r : Result (Option Spelled) Broken) → IsDeviceRecord Network net →
    IsDeviceRecord Network (put_next ram net frame r).net
next-rules ram net frame (Ok (Some c)) h =
    let meets : Received → Type 0 = λ x. IsDeviceRecord Network x.net in
    either meets (all_writable c.parts) _ _
    (λ e. either meets (nat_le (length (packet frame)) (writable_len c.parts)) _ _ (λ f. use_keeps_rules Network 0 net h) h)
    (needing_reset_keeps Network net h)
next-rules ram net frame (Ok None) h = h
next-rules ram net frame (Err b) h = needing_reset_keeps Network net h

pub received-rules : (ram : List ℕ) (net : DeviceState) (frame : ArrayVec ℕ) → IsDeviceRecord Network net →
    IsDeviceRecord Network (received ram net frame).net
unfolding received
received-rules ram net frame h =
    either (λ (x : Received). IsDeviceRecord Network x.net) (can_serve Network net 0) _ _
    (λ e. next-rules ram net frame (next_chain_of (queue_at net 0) ram) h) h

next-length : (ram : List ℕ) (net : DeviceState) (frame : ArrayVec ℕ) (r : Result (Option Spelled) Broken) →
    AreasFit (queue_at net 0) (length ram) → IsSized (queue_at net 0) →
    length (put_next ram net frame r).ram ≡ length ram
next-length ram net frame (Ok (Some c)) areas sized =
    let put : List ℕ = put_at ram (writable_places c.parts) (packet frame) in
    let same : length put ≡ length ram = length_put_at ram (writable_places c.parts) (packet frame) in
    let fit : AreasFit (queue_at net 0) (length put) = subst (AreasFit (queue_at net 0)) (sym same) areas in
    let keeps : Received → Type 0 = λ x. length x.ram ≡ length ram in
    either keeps (all_writable c.parts) _ _
    (λ e. either keeps (nat_le (length (packet frame)) (writable_len c.parts)) _ _
    (λ f. length_used_written (queue_at net 0) put c.head (length (packet frame)) fit sized ∙ same) refl) refl
next-length ram net frame (Ok None) areas sized = refl
next-length ram net frame (Err b) areas sized = refl

counted-length : (ram : List ℕ) (net : DeviceState) (frame : ArrayVec ℕ) (r : Result ℕ Broken) (f : ℕ → Result (Option Spelled) Broken) →
    available_of (queue_at net 0) ram ≡ r → IsSized (queue_at net 0) →
    length (put_next ram net frame (r >>= f)).ram ≡ length ram
counted-length ram net frame (Ok n) f e sized = next-length ram net frame (f n) (areas_available (queue_at net 0) ram n e) sized
counted-length ram net frame (Err b) f e sized = refl

pub received-length : (ram : List ℕ) (net : DeviceState) (frame : ArrayVec ℕ) → IsDeviceRecord Network net →
    length (received ram net frame).ram ≡ length ram
unfolding received next_chain_of
received-length ram net frame h =
    either (λ (x : Received). length x.ram ≡ length ram) (can_serve Network net 0) _ _ (λ e.
    counted-length ram net frame (available_of (queue_at net 0) ram)
    (λ n. if n == 0 then Ok None else chain_of (queue_at net 0) ram >>= (λ c. Ok (Some c))) refl
    (sized_in_service Network net 0 h e)) refl
