-- How a device serves one of its queues: chain after chain, up to the first that is malformed.
use Rattle.std.specs.Prelude.{ℕ, zero, suc, if◌then◌else◌, List, Result, Ok, Err}
use Rattle.virtqueue.specs.declared.broken.Broken.{Broken}
use Rattle.virtqueue.specs.Areas.{available_of}
use Rattle.virtqueue.specs.Chains.{Spelled, chain_of, ◌>>=◌}
use Rattle.virtqueue.specs.Used.{used_written, queue_after_use}
use Rattle.virtio_mmio.specs.declared.kinds.DeviceKind.{DeviceKind}
use Rattle.virtio_mmio.specs.declared.states.DeviceState.{DeviceState}
use Rattle.virtio_mmio.specs.States.{queue_at}
use Rattle.virtio_mmio.specs.Serving.{can_serve, used_signalled, needing_reset, with_counters}

-- ---- what one chain does

-- what a device leaves when it has done what a chain asks: the bytes of RAM, what the device keeps beside its registers,
-- and how many bytes it wrote into the chain's buffers, from the first on (virtio 1.1, 2.6.8)
pub record Acted (A : Type 0) : Type 0 where
  pub ram : List ℕ
  pub kept : A
  pub len : ℕ

-- what a device does with a chain, by the bytes of RAM and what it keeps; or what is wrong with the chain
abbrev pub Act : Type 0 → Type 0
Act A = List ℕ → A → Spelled → Result (Acted A) Broken

-- ---- one chain after another

-- all that serving a queue changes: the bytes of RAM, the device record, and what the device keeps beside it
pub record Served (A : Type 0) : Type 0 where
  pub ram : List ℕ
  pub state : DeviceState
  pub kept : A

-- the same three, before it
abbrev pub standing : {A : Type 0} → List ℕ → DeviceState → A → Served A
standing ram state kept = record { ram = ram; state = state; kept = kept }

-- a malformation takes the device out of service; all else stays
abbrev pub breaks : {A : Type 0} → Served A → Served A
breaks s = record { ram = s.ram; state = needing_reset s.state; kept = s.kept }

-- the record after a chain of a queue was used: both counters are raised, and the driver is told
abbrev pub state_after_use : DeviceKind → ℕ → DeviceState → DeviceState
state_after_use k i d =
    let q = queue_after_use (queue_at d i) in
    used_signalled (with_counters k d i q.next_available q.next_used)

-- a chain that the device has acted on goes into the used ring
abbrev pub puts_used : {A : Type 0} → DeviceKind → ℕ → Served A → ℕ → Acted A → Served A
puts_used k i s head a = record {
  ram = used_written (queue_at s.state i) a.ram head a.len;
  state = state_after_use k i s.state;
  kept = a.kept;
}

-- the next chain: it is read whole, acted on, and then used; or the first malformation
abbrev pub one_served : {A : Type 0} → DeviceKind → ℕ → Act A → Served A → Result (Served A) Broken
one_served k i act s =
    chain_of (queue_at s.state i) s.ram >>= (λ chain.
    act s.ram s.kept chain >>= (λ done.
    Ok (puts_used k i s chain.head done)))

-- what goes on from a good answer; a malformation breaks the device instead, and what was done before it stays
abbrev pub or_breaks : {A B : Type 0} → (B → Served A) → Served A → Result B Broken → Served A
or_breaks goes_on s (Ok answer) = goes_on answer
or_breaks goes_on s (Err broken) = breaks s

-- so many chains in turn
unfoldable pub chains_served : {A : Type 0} → DeviceKind → ℕ → Act A → ℕ → Served A → Served A
chains_served k i act zero s = s
chains_served k i act (suc n) s = or_breaks (chains_served k i act n) s (one_served k i act s)

-- a queue in service: all chains that are available. The available idx is read once, before the first of them. A queue out of
-- service is left alone (virtio 1.1, 2.1.2 and 4.2.2)
unfoldable pub served : {A : Type 0} → DeviceKind → ℕ → Act A → Served A → Served A
served k i act s =
    if can_serve k s.state i
    then or_breaks (λ count. chains_served k i act count s) s (available_of (queue_at s.state i) s.ram)
    else s

-- ---- what a call answers and leaves; a malformation is answered, and nothing has changed

-- a handler's call, by its act: how many bytes it wrote, the bytes of RAM, and what the device keeps

abbrev pub len_answer : {A : Type 0} → Result (Acted A) Broken → Result ℕ Broken
len_answer (Ok a) = Ok a.len
len_answer (Err b) = Err b

abbrev pub ram_after : {A : Type 0} → List ℕ → Result (Acted A) Broken → List ℕ
ram_after ram (Ok a) = a.ram
ram_after ram (Err b) = ram

abbrev pub kept_after : {A : Type 0} → A → Result (Acted A) Broken → A
kept_after kept (Ok a) = a.kept
kept_after kept (Err b) = kept

-- the serving of one chain: that it was served, and all that it changes
abbrev pub done_answer : {A : Type 0} → Result (Served A) Broken → Result (Unit {0}) Broken
done_answer (Ok t) = Ok tt
done_answer (Err b) = Err b

abbrev pub left_after : {A : Type 0} → Served A → Result (Served A) Broken → Served A
left_after s (Ok t) = t
left_after s (Err b) = s
