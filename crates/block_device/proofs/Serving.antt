-- However many requests are served, a disk stays one, of the same size.
use Rattle.std.proofs.Common.{◌≡◌, ℕ, zero, suc, ◌+◌, ◌-◌, ◌*◌, ◌/◌, ◌%◌, ◌≤◌, Bool, true, false, ◌&&◌, ◌==◌, List, [], refl, sym, ap}
use Rattle.std.proofs.{Common.{subst, ◌∙◌, if◌then◌else◌, length, nat_le, arith, ◌⊎◌, inl, inr}, lemmas.Bool.Decides.nat_tests}
use Rattle.std.specs.Prelude.{Result, Ok, Err}
use Rattle.virtqueue.specs.{declared.broken.Broken.{Broken, TheVariants.Short}, Memory.written, Areas.available_of, Chains.Spelled}
use Rattle.virtqueue.specs.{Chains.{chain_of, ◌>>=◌}, Parts.{readable_bytes, writable_places}}
use Rattle.virtqueue.specs.laws.Lengths.{length_written}
use Rattle.virtqueue.specs.laws.Parts.{bind_ok}
use Rattle.virtio_mmio.specs.{declared.{kinds.DeviceKind.DeviceKind, states.DeviceState.DeviceState}, States.queue_at, Serving.can_serve}
use Rattle.virtio_mmio.specs.ServingLoop.{Acted, Served, standing, puts_used, one_served, or_breaks, chains_served, served}
use Rattle.block_device.specs.{Dirty.with_written, Contents.{Contents, capacity, in_capacity, contents_with, bytes_at, IsDisk}}
use Rattle.block_device.specs.Request.{Outcome, Request, request_of, outcome, read_outcome, write_outcome, chain_answered, is_short}
use Rattle.block_device.{specs.Request.request_act, proofs.DiskLemmas.disk_kept}

-- ---- one request

tells : (a b c : ℕ) → (a == 0 && nat_le b c) ≡ true → (a ≡ 0) × (b ≤ c)
tells a b c h = (grind (arith, nat_tests), grind (arith, nat_tests))

pub whole_sectors : (disk : Contents) (sector n : ℕ) → in_capacity disk sector n ≡ true → 512 * (n / 512) ≡ n
whole_sectors disk sector n h =
    let both : (n % 512 ≡ 0) × (sector + n / 512 ≤ length disk.bytes / 512) =
    tells (n % 512) (sector + n / 512) (length disk.bytes / 512) h in
    let whole : n % 512 ≡ 0 = both.0 in
    omega arith

pub in_capacity_tells : (disk : Contents) (sector n : ℕ) → in_capacity disk sector n ≡ true → 512 * sector + n ≤ length disk.bytes
in_capacity_tells disk sector n h =
    let both : (n % 512 ≡ 0) × (sector + n / 512 ≤ length disk.bytes / 512) =
    tells (n % 512) (sector + n / 512) (length disk.bytes / 512) h in
    let whole : n % 512 ≡ 0 = both.0 in
    let within : sector + n / 512 ≤ length disk.bytes / 512 = both.1 in
    omega arith

pub by_test : {A : Type 0} (b : Bool) (x y : A) → ((b ≡ true) × ((if b then x else y) ≡ x)) ⊎ ((b ≡ false) × ((if b then x else y) ≡ y))
by_test true x y = inl (refl, refl)
by_test false x y = inr (refl, refl)

-- a write is done or fails
pub write_cases : (disk : Contents) (sector : ℕ) (new : List ℕ) →
    ((in_capacity disk sector (length new) ≡ true)
    × (write_outcome disk sector new ≡ record { status = 0; payload = []; disk = contents_with disk sector new }))
    ⊎ ((in_capacity disk sector (length new) ≡ false)
    × (write_outcome disk sector new ≡ record { status = 1; payload = []; disk = disk }))
write_cases disk sector new = by_test (in_capacity disk sector (length new)) _ _

write_size : (disk : Contents) (sector : ℕ) (payload : List ℕ) → length (write_outcome disk sector payload).disk.bytes ≡ length disk.bytes
write_size disk sector payload =
    elim (write_cases disk sector payload) [
      | inl w ↦ ap (λ (o : Outcome). length o.disk.bytes) w.1 ∙ length_written disk.bytes payload (512 * sector)
          (in_capacity_tells disk sector (length payload) w.0)
      | inr w ↦ ap (λ (o : Outcome). length o.disk.bytes) w.1
    ]

pub read_size : (disk : Contents) (sector room : ℕ) → (read_outcome disk sector room).disk ≡ disk
read_size disk sector room =
    elim (by_test {A = Outcome} (in_capacity disk sector room) (record { status = 0; payload = bytes_at disk sector room; disk = disk })
    (record { status = 1; payload = []; disk = disk })) [
      | inl w ↦ ap (λ (o : Outcome). o.disk) w.1
      | inr w ↦ ap (λ (o : Outcome). o.disk) w.1
    ]

-- what holds of each kind of request's outcome
by_types : (P : Outcome → Type 0) (a b d : Bool) (w x y z : Outcome) → P w → (b ≡ true → P x) → P y → P z →
    P (if a then w else (if b then x else (if d then y else z)))
by_types P true b d w x y z pw px py pz = pw
by_types P false true d w x y z pw px py pz = px refl
by_types P false false true w x y z pw px py pz = py
by_types P false false false w x y z pw px py pz = pz

pub by_kind : (P : Outcome → Type 0) (disk : Contents) (r : Request) (room : ℕ) → P (read_outcome disk r.sector room) →
    ((r.kind == 1) ≡ true → P (write_outcome disk r.sector r.payload)) → P (record { status = 0; payload = []; disk = disk }) →
    P (record { status = 2; payload = []; disk = disk }) → P (outcome disk r room)
by_kind P disk r room = by_types P (r.kind == 0) (r.kind == 1) (r.kind == 4) _ _ _ _

pub outcome_size : (disk : Contents) (r : Request) (room : ℕ) → length (outcome disk r room).disk.bytes ≡ length disk.bytes
outcome_size disk r room =
    by_kind (λ o. length o.disk.bytes ≡ length disk.bytes) disk r room
    (ap (λ (d : Contents). length d.bytes) (read_size disk r.sector room)) (λ is. write_size disk r.sector r.payload) refl refl

-- a disk stays one
outcome_disk : (disk : Contents) (r : Request) (room : ℕ) → IsDisk disk → IsDisk (outcome disk r room).disk
outcome_disk disk r room is =
    by_kind (λ o. IsDisk o.disk) disk r room (subst IsDisk (sym (read_size disk r.sector room)) is)
    (λ one. written_disk disk r.sector r.payload is) is is
  where
    written_disk : (disk : Contents) (sector : ℕ) (payload : List ℕ) → IsDisk disk → IsDisk (write_outcome disk sector payload).disk
    written_disk disk sector payload is =
        elim (write_cases disk sector payload) [
          | inl w ↦
              (let size = length_written disk.bytes payload (512 * sector) (in_capacity_tells disk sector (length payload) w.0) in
              let both = tells (length payload % 512) (sector + length payload / 512) (capacity disk) w.0 in
              let kept = disk_kept disk.bytes (written disk.bytes (512 * sector) payload) disk.dirty
              (with_written disk.dirty sector (length payload / 512)) sector (length payload / 512) size refl both.1 is in
              subst (λ (o : Outcome). IsDisk o.disk) (sym w.1) kept)
          | inr w ↦ subst (λ (o : Outcome). IsDisk o.disk) (sym w.1) is
        ]

-- ---- all of them: what each request keeps, serving keeps

module _ (P : Contents → Type 0) (keeps : (disk : Contents) (r : Request) (room : ℕ) → P disk → P (outcome disk r room).disk) where
  act_keeps : (ram : List ℕ) (disk : Contents) (chain : Spelled) (a : Acted Contents) → request_act ram disk chain ≡ Ok a →
      P disk → P a.kept
  unfolding request_act
  act_keeps ram disk chain a h p =
      let readable : List ℕ = readable_bytes ram chain.parts in
      let places : List ℕ = writable_places chain.parts in
      let o : Outcome = outcome disk (request_of readable) (length places - 1) in
      elim (by_test {A = Result (Acted Contents) Broken} (is_short readable places) (Err Short) (Ok (chain_answered ram places o))) [
        | inl w ↦ (let none : Err Short ≡ Ok a = sym w.1 ∙ h in let no : ⊥ = cc in absurd no)
        | inr w ↦ (let good : Result (Acted Contents) Broken = Ok (chain_answered ram places o) in
            let same : good ≡ Ok a = sym w.1 ∙ h in
            let is : chain_answered ram places o ≡ a = cc in
            subst (λ (x : Acted Contents). P x.kept) is (keeps disk (request_of readable) (length places - 1) p))
      ]

  module _ (k : DeviceKind) (i : ℕ) where
    one_keeps : (s t : Served Contents) → one_served k i request_act s ≡ Ok t → P s.kept → P t.kept
    one_keeps s t h p =
        let first = bind_ok (chain_of (queue_at s.state i) s.ram)
        (λ c. request_act s.ram s.kept c >>= (λ a. Ok (puts_used k i s c.head a))) t h in
        let chain : Spelled = first.0 in
        let second = bind_ok (request_act s.ram s.kept chain) (λ a. Ok (puts_used k i s chain.head a)) t first.2 in
        let a : Acted Contents = second.0 in
        let is : puts_used k i s chain.head a ≡ t = cc (second.2) in
        subst (λ (x : Served Contents). P x.kept) is (act_keeps s.ram s.kept chain a second.1 p)

    go_on : (rest : Served Contents → Served Contents) (s : Served Contents) (r : Result (Served Contents) Broken) →
        ((t : Served Contents) → r ≡ Ok t → P s.kept → P t.kept) → ((t : Served Contents) → P t.kept → P (rest t).kept) →
        P s.kept → P (or_breaks rest s r).kept
    go_on rest s (Ok t) here later p = later t (here t refl p)
    go_on rest s (Err b) here later p = p

    chains_keep : (n : ℕ) (s : Served Contents) → P s.kept → P (chains_served k i request_act n s).kept
    unfolding chains_served
    chains_keep zero s p = p
    chains_keep (suc n) s p = go_on (chains_served k i request_act n) s (one_served k i request_act s) (one_keeps s) (chains_keep n) p

    available_keep : (s : Served Contents) (r : Result ℕ Broken) → P s.kept →
        P (or_breaks (λ n. chains_served k i request_act n s) s r).kept
    available_keep s (Ok n) p = chains_keep n s p
    available_keep s (Err b) p = p

    pub served_keeps : (s : Served Contents) → P s.kept → P (served k i request_act s).kept
    unfolding served
    served_keeps s p =
        elim (by_test {A = Served Contents} (can_serve k s.state i)
        (or_breaks (λ n. chains_served k i request_act n s) s (available_of (queue_at s.state i) s.ram)) s) [
          | inl w ↦ subst (λ (x : Served Contents). P x.kept) (sym w.1) (available_keep s (available_of (queue_at s.state i) s.ram) p)
          | inr w ↦ subst (λ (x : Served Contents). P x.kept) (sym w.1) p
        ]

pub disk_size : (ram : List ℕ) (state : DeviceState) (c : Contents) (k : DeviceKind) →
    length (served k 0 request_act (standing ram state c)).kept.bytes ≡ length c.bytes
disk_size ram state c k =
    served_keeps (λ (d : Contents). length d.bytes ≡ length c.bytes) (λ disk r room p. outcome_size disk r room ∙ p) k 0
    (standing ram state c) refl

pub disk_stays : (ram : List ℕ) (state : DeviceState) (c : Contents) (k : DeviceKind) → IsDisk c →
    IsDisk (served k 0 request_act (standing ram state c)).kept
disk_stays ram state c k is = served_keeps IsDisk outcome_disk k 0 (standing ram state c) is
