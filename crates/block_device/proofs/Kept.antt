-- What the disk's serving keeps: the number of the memory's bytes, the rules of the record, the number of the sectors, and that it is
-- a disk.
use Rattle.std.proofs.Common.{◌≡◌, ℕ, ◌-◌, ◌/◌, Bool, true, false, if◌then◌else◌, List, [], ◌∷◌, length, drop, ap, ◌∙◌}
use Rattle.std.specs.Prelude.{Ok, Err}
use Rattle.virtqueue.specs.{declared.broken.Broken.TheVariants.Short, Chains.Spelled, Parts.{readable_bytes, writable_places, put_at}}
use Rattle.virtqueue.specs.laws.Lengths.{length_put_at}
use Rattle.virtio_mmio.specs.{declared.{kinds.DeviceKind.TheVariants.Block, states.DeviceState.DeviceState}, States.IsDeviceRecord}
use Rattle.virtio_mmio.{specs.ServingLoop.{Acted, standing}, proofs.{Loop.served_keeps_rules, Lengths.served-length}}
use Rattle.block_device.specs.{Contents.{Contents, capacity, IsDisk}, Request.{Outcome, request_of, outcome, answered, chain_answered}}
use Rattle.block_device.{specs.{Request.{is_short, request_act}, Disk.disk_served}, proofs.Serving.{disk_size, disk_stays}}

-- an answer goes to places of the memory
answered-length : (ram places : List ℕ) (o : Outcome) → length (answered ram places o) ≡ length ram
answered-length ram places o =
    length_put_at (put_at ram places o.payload) (drop (length places - 1) places) (o.status ∷ []) ∙ length_put_at ram places o.payload

acted-length : (ram places : List ℕ) (o : Outcome) (a : Acted Contents) (b : Bool) →
    (if b then Err Short else Ok (chain_answered ram places o)) ≡ Ok a → length a.ram ≡ length ram
acted-length ram places o a true e = let none : ⊥ = cc in absurd none
acted-length ram places o a false e =
    let is : a.ram ≡ answered ram places o = cc in
    ap length is ∙ answered-length ram places o

act-length : (ram : List ℕ) (disk : Contents) (chain : Spelled) (a : Acted Contents) → request_act ram disk chain ≡ Ok a →
    length a.ram ≡ length ram
unfolding request_act
act-length ram disk chain a e =
    let readable : List ℕ = readable_bytes ram chain.parts in
    let places : List ℕ = writable_places chain.parts in
    acted-length ram places (outcome disk (request_of readable) (length places - 1)) a (is_short readable places) e

module _ (ram : List ℕ) (state : DeviceState) (c : Contents) where
  pub disk_served-length : IsDeviceRecord (Block (capacity c)) state → length (disk_served ram state c).ram ≡ length ram
  unfolding disk_served
  disk_served-length h = served-length (Block (capacity c)) 0 request_act act-length (standing ram state c) h

  pub disk_served-rules : IsDeviceRecord (Block (capacity c)) state → IsDeviceRecord (Block (capacity c)) (disk_served ram state c).state
  unfolding disk_served
  disk_served-rules h = served_keeps_rules (Block (capacity c)) 0 request_act (standing ram state c) h

  pub disk_served-capacity : capacity (disk_served ram state c).kept ≡ capacity c
  unfolding disk_served
  disk_served-capacity = ap (λ n. n / 512) (disk_size ram state c (Block (capacity c)))

  pub disk_served-disk : IsDisk c → IsDisk (disk_served ram state c).kept
  unfolding disk_served
  disk_served-disk is = disk_stays ram state c (Block (capacity c)) is
