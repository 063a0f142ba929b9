use Rattle.std.proofs.Common.{◌≡◌, ℕ, List, [], ◌∷◌, ◌+◌, ◌-◌, ◌≤◌, subst, ap, ◌∙◌, sym, arith, inl, inr, ◌<◌, ◌==◌, if◌then◌else◌, length}
use Rattle.std.{proofs.Common.drop, specs.Prelude.{Ok, Err}}
use Rattle.virtqueue.specs.{declared.broken.Broken.TheVariants.Short, Chains.Spelled, Parts.{readable_len, writable_len, readable_bytes}}
use Rattle.virtqueue.specs.Parts.{writable_places, put_at}
use Rattle.virtio_mmio.specs.ServingLoop.{len_answer, ram_after, kept_after}
use Rattle.block_device.specs.{Contents.Contents, Request.{Outcome, request_of, outcome, written_len, request_act}}
use Rattle.block_device.proofs.RequestLemmas.{left_by, act_short, act_done}
use Rattle.block_device.proofs.requests.StorageChainHandler.act.Goals as goal

-- a chain with too few bytes or places
too_few : (g : _) (c : goal.Joined-then-readable-lt-HEADER_BYTES g) →
    request_act (g.R.GuestRam.bytes c.args.ram.now) c.args.self.now c.args.chain.now ≡ Err Short
too_few g c =
    act_short (g.R.GuestRam.bytes c.args.ram.now) c.args.self.now c.args.chain.now c.requires.inside
    (elim c.then-readable-lt-HEADER_BYTES.either [
      | inl few ↦ inl (omega (arith, few, c.readable_len-readable.ensures))
      | inr none ↦ inr (omega (arith, none.1, c.writable_len-writable.ensures))
    ])

pub returns-then-readable-lt-HEADER_BYTES-clause-answer : goal.returns-then-readable-lt-HEADER_BYTES-clause-answer
returns-then-readable-lt-HEADER_BYTES-clause-answer g c = sym (ap len_answer (too_few g c))

pub returns-then-readable-lt-HEADER_BYTES-clause-memory : goal.returns-then-readable-lt-HEADER_BYTES-clause-memory
returns-then-readable-lt-HEADER_BYTES-clause-memory g c = sym (ap (ram_after (g.R.GuestRam.bytes c.args.ram.now)) (too_few g c))

pub returns-then-readable-lt-HEADER_BYTES-clause-kept : goal.returns-then-readable-lt-HEADER_BYTES-clause-kept
returns-then-readable-lt-HEADER_BYTES-clause-kept g c = sym (ap (kept_after c.args.self.now) (too_few g c))

-- a request that was carried out, by what each call gave
done : (ram between after : List ℕ) (disk disk' : Contents) (chain : Spelled) (room status len used : ℕ) →
    request_act ram disk chain ≡ Ok (left_by ram (writable_places chain.parts) room
    (outcome disk (request_of (readable_bytes ram chain.parts)) room)) →
    status ≡ (outcome disk (request_of (readable_bytes ram chain.parts)) room).status →
    len ≡ length (outcome disk (request_of (readable_bytes ram chain.parts)) room).payload →
    disk' ≡ (outcome disk (request_of (readable_bytes ram chain.parts)) room).disk →
    between ≡ put_at ram (writable_places chain.parts) (outcome disk (request_of (readable_bytes ram chain.parts)) room).payload →
    after ≡ put_at between (drop room (writable_places chain.parts)) (status ∷ []) →
    used ≡ (if len == room then room + 1 else len) →
    request_act ram disk chain ≡ Ok (record { ram = after; kept = disk'; len = used })
done ram between after disk disk' chain room status len used is is_status is_len is_disk is_between is_after is_used =
    let o : Outcome = outcome disk (request_of (readable_bytes ram chain.parts)) room in
    let places : List ℕ = writable_places chain.parts in
    let memory : after ≡ put_at (put_at ram places o.payload) (drop room places) (o.status ∷ []) =
    is_after ∙ (ap (λ bs. put_at bs (drop room places) (status ∷ [])) is_between
    ∙ ap (λ s. put_at (put_at ram places o.payload) (drop room places) (s ∷ [])) is_status) in
    let count : used ≡ written_len room o.payload = is_used ∙ ap (λ n. if n == room then room + 1 else n) is_len in
    is ∙ sym (ap (λ bs. Ok (record { ram = bs; kept = disk'; len = used })) memory
    ∙ (ap (λ d. Ok (record { ram = put_at (put_at ram places o.payload) (drop room places) (o.status ∷ []); kept = d; len = used })) is_disk
    ∙ ap (λ n. Ok (record { ram = put_at (put_at ram places o.payload) (drop room places) (o.status ∷ []); kept = o.disk; len = n }))
    count))

all_done : (g : _) (c : goal.After-used_len g) → request_act (g.R.GuestRam.bytes c.args.ram.now) c.args.self.now c.args.chain.now
    ≡ Ok (record { ram = g.R.GuestRam.bytes c.scatter.new.ram; kept = c.carry_out-done.new.self; len = c.used_len.result })
all_done g c =
    let ram : List ℕ = g.R.GuestRam.bytes c.args.ram.now in
    let chain : Spelled = c.args.chain.now in
    let n : ℕ = c.writable_len-writable.result in
    let long : 16 ≤ readable_len chain.parts = omega (arith, c.readable_len-readable.ensures) in
    let some : 0 < writable_len chain.parts = omega (arith, c.writable_len-writable.ensures) in
    let is : request_act ram c.args.self.now chain
    ≡ Ok (left_by ram (writable_places chain.parts) (n - 1)
    (outcome c.args.self.now (request_of (readable_bytes ram chain.parts)) (n - 1))) =
    subst (λ (k : ℕ). request_act ram c.args.self.now chain
    ≡ Ok (left_by ram (writable_places chain.parts) (k - 1)
    (outcome c.args.self.now (request_of (readable_bytes ram chain.parts)) (k - 1))))
    (sym c.writable_len-writable.ensures) (act_done ram c.args.self.now chain c.requires.inside long some) in
    done ram (g.R.GuestRam.bytes c.carry_out-done.new.ram) (g.R.GuestRam.bytes c.scatter.new.ram) c.args.self.now c.carry_out-done.new.self
    chain (n - 1)
    c.carry_out-done.result.status c.carry_out-done.result.len c.used_len.result is c.carry_out-done.ensures.status
    c.carry_out-done.ensures.len
    c.carry_out-done.ensures.disk c.carry_out-done.ensures.memory c.scatter.ensures.value c.used_len.ensures

pub returns-clause-answer : goal.returns-clause-answer
returns-clause-answer g c = sym (ap len_answer (all_done g c))

pub returns-clause-memory : goal.returns-clause-memory
returns-clause-memory g c = sym (ap (ram_after (g.R.GuestRam.bytes c.args.ram.now)) (all_done g c))

pub returns-clause-kept : goal.returns-clause-kept
returns-clause-kept g c = sym (ap (kept_after c.args.self.now) (all_done g c))
