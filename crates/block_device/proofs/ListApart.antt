-- The list of the written sectors plays no part in what serving leaves beside that list.
use Rattle.std.proofs.Common.{◌≡◌, ℕ, zero, suc, ◌-◌, Bool, true, false, ◌==◌, List, refl, ap, ◌∙◌, if◌then◌else◌, length}
use Rattle.std.specs.Prelude.{Result, Ok, Err}
use Rattle.virtqueue.specs.{declared.broken.Broken.{Broken, TheVariants.Short}, Areas.available_of, Chains.{Spelled, chain_of, ◌>>=◌}}
use Rattle.virtqueue.specs.Parts.{readable_bytes, writable_places}
use Rattle.virtio_mmio.specs.{declared.{kinds.DeviceKind.{DeviceKind, TheVariants.Block}, states.DeviceState.DeviceState}, States.queue_at}
use Rattle.virtio_mmio.specs.{Serving.can_serve, ServingLoop.{Acted, Served, standing, puts_used, or_breaks, chains_served, served}}
use Rattle.block_device.specs.{Contents.{Contents, capacity, in_capacity, contents_of, unlisted}, Request.{Outcome, Request, request_of}}
use Rattle.block_device.specs.{Request.{outcome, chain_answered, is_short, request_act}, Disk.disk_served}

-- ---- one request

-- what a request does, but for the list
abbrev bare_outcome : Outcome → Outcome
bare_outcome o = record { status = o.status; payload = o.payload; disk = unlisted o.disk }

abbrev bare_acted : Acted Contents → Acted Contents
bare_acted a = record { ram = a.ram; kept = unlisted a.kept; len = a.len }

abbrev bare : Result (Acted Contents) Broken → Result (Acted Contents) Broken
bare (Ok a) = Ok (bare_acted a)
bare (Err b) = Err b

either : {A B : Type 0} (f : A → B) (b : Bool) (x x' y y' : A) → f x ≡ f x' → f y ≡ f y' → f (if b then x else y) ≡ f (if b then x' else y')
either f true x x' y y' e g = e
either f false x x' y y' e g = g

outcome_apart : (bytes d e : List ℕ) (r : Request) (room : ℕ) → bare_outcome (outcome (contents_of bytes d) r room)
    ≡ bare_outcome (outcome (contents_of bytes e) r room)
outcome_apart bytes d e r room =
    either bare_outcome (r.kind == 0) _ _ _ _
    (either bare_outcome (in_capacity (contents_of bytes d) r.sector room) _ _ _ _ refl refl)
    (either bare_outcome (r.kind == 1) _ _ _ _
    (either bare_outcome (in_capacity (contents_of bytes d) r.sector (length r.payload)) _ _ _ _ refl refl)
    (either bare_outcome (r.kind == 4) _ _ _ _ refl refl))

act_apart : (ram bytes d e : List ℕ) (chain : Spelled) → bare (request_act ram (contents_of bytes d) chain)
    ≡ bare (request_act ram (contents_of bytes e) chain)
unfolding request_act
act_apart ram bytes d e chain =
    let readable : List ℕ = readable_bytes ram chain.parts in
    let places : List ℕ = writable_places chain.parts in
    let answer : Outcome → Result (Acted Contents) Broken = λ o. Ok (chain_answered ram places o) in
    either bare (is_short readable places) (Err Short) (Err Short)
    (answer (outcome (contents_of bytes d) (request_of readable) (length places - 1)))
    (answer (outcome (contents_of bytes e) (request_of readable) (length places - 1)))
    refl (ap answer (outcome_apart bytes d e (request_of readable) (length places - 1)))

-- ---- all of them

abbrev bare_served : Served Contents → Served Contents
bare_served s = standing s.ram s.state (unlisted s.kept)

abbrev listed : Served Contents → List ℕ → Served Contents
listed s d = standing s.ram s.state (contents_of s.kept.bytes d)

module _ (k : DeviceKind) (i : ℕ) where
  acted_apart : (rest : Served Contents → Served Contents) →
      ((s t : Served Contents) → bare_served s ≡ bare_served t → bare_served (rest s) ≡ bare_served (rest t)) →
      (s : Served Contents) (d : List ℕ) (head : ℕ) (x y : Result (Acted Contents) Broken) → bare x ≡ bare y →
      bare_served (or_breaks rest (listed s d) (x >>= (λ a. Ok (puts_used k i (listed s d) head a))))
      ≡ bare_served (or_breaks rest s (y >>= (λ a. Ok (puts_used k i s head a))))
  acted_apart rest h s d head (Ok a) (Ok b) e =
      let same : bare_acted a ≡ bare_acted b = cc in
      h (puts_used k i s head a) (puts_used k i s head b) (ap (puts_used k i s head) same)
  acted_apart rest h s d head (Ok a) (Err b) e = cc
  acted_apart rest h s d head (Err a) (Ok b) e = cc
  acted_apart rest h s d head (Err a) (Err b) e = refl

  chain_apart : (rest : Served Contents → Served Contents) →
      ((s t : Served Contents) → bare_served s ≡ bare_served t → bare_served (rest s) ≡ bare_served (rest t)) →
      (s : Served Contents) (d : List ℕ) (r : Result Spelled Broken) →
      bare_served (or_breaks rest (listed s d) (r >>=
      (λ c. request_act s.ram (contents_of s.kept.bytes d) c >>= (λ a. Ok (puts_used k i (listed s d) c.head a)))))
      ≡ bare_served (or_breaks rest s (r >>= (λ c. request_act s.ram s.kept c >>= (λ a. Ok (puts_used k i s c.head a)))))
  chain_apart rest h s d (Ok c) =
      acted_apart rest h s d c.head (request_act s.ram (contents_of s.kept.bytes d) c) (request_act s.ram s.kept c)
      (act_apart s.ram s.kept.bytes d s.kept.dirty c)
  chain_apart rest h s d (Err b) = refl

  chains_apart : (n : ℕ) (s t : Served Contents) → bare_served s ≡ bare_served t → bare_served (chains_served k i request_act n s)
      ≡ bare_served (chains_served k i request_act n t)
  unfolding chains_served
  chains_apart zero s t e = e
  chains_apart (suc n) s t e =
      let same : s ≡ listed t s.kept.dirty = ap (λ u. listed u s.kept.dirty) e in
      ap (λ u. bare_served (chains_served k i request_act (suc n) u)) same
      ∙ chain_apart (chains_served k i request_act n) (chains_apart n) t s.kept.dirty (chain_of (queue_at t.state i) t.ram)

  available_apart : (s : Served Contents) (d : List ℕ) (r : Result ℕ Broken) →
      bare_served (or_breaks (λ n. chains_served k i request_act n (listed s d)) (listed s d) r)
      ≡ bare_served (or_breaks (λ n. chains_served k i request_act n s) s r)
  available_apart s d (Ok n) = chains_apart n (listed s d) s refl
  available_apart s d (Err b) = refl

  served_apart : (s : Served Contents) (d : List ℕ) → bare_served (served k i request_act (listed s d))
      ≡ bare_served (served k i request_act s)
  unfolding served
  served_apart s d =
      either bare_served (can_serve k s.state i) _ _ _ _ (available_apart s d (available_of (queue_at s.state i) s.ram)) refl

-- the bytes of RAM, the registers and the sectors are as if the list had been another
module _ (ram : List ℕ) (state : DeviceState) (bytes one other : List ℕ) where
  apart : bare_served (disk_served ram state (contents_of bytes one)) ≡ bare_served (disk_served ram state (contents_of bytes other))
  unfolding disk_served
  apart = served_apart (Block (capacity (contents_of bytes one))) 0 (standing ram state (contents_of bytes other)) one

  pub memory_apart : (disk_served ram state (contents_of bytes one)).ram ≡ (disk_served ram state (contents_of bytes other)).ram
  memory_apart = ap (λ s. s.ram) apart

  pub state_apart : (disk_served ram state (contents_of bytes one)).state ≡ (disk_served ram state (contents_of bytes other)).state
  state_apart = ap (λ s. s.state) apart

  pub bytes_apart : (disk_served ram state (contents_of bytes one)).kept.bytes
      ≡ (disk_served ram state (contents_of bytes other)).kept.bytes
  bytes_apart = ap (λ s. s.kept.bytes) apart
