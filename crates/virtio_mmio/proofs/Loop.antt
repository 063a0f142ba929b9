-- One chain after another.
use Rattle.std.proofs.Common.{
  ◌≡◌,
  ℕ,
  ◌+◌,
  ◌≤◌,
  zero,
  suc,
  Bool,
  true,
  false,
  if◌then◌else◌,
  nat_lt,
  List,
  length,
  refl,
  sym,
  ap,
  ◌∙◌,
  arith,
  add-one,
}
use Rattle.std.specs.Prelude.{Result, Ok, Err}
use Rattle.std.specs.Result.{is_err}
use Rattle.std.proofs.lemmas.Bool.{ltb-false}
use Rattle.virtqueue.specs.declared.broken.Broken.{Broken}
use Rattle.virtqueue.specs.declared.broken.Broken.TheVariants.{Misaligned, AreaOutside, TooMany}
use Rattle.virtqueue.specs.declared.rings.Queue.{Queue}
use Rattle.virtqueue.specs.Areas.{is_aligned, are_inside, waiting, available_of}
use Rattle.virtqueue.specs.Chains.{Spelled, chain_of, ◌>>=◌}
use Rattle.virtio_mmio.specs.declared.kinds.DeviceKind.{DeviceKind}
use Rattle.virtio_mmio.specs.declared.states.DeviceState.{DeviceState}
use Rattle.virtio_mmio.specs.States.{queue_at, IsDeviceRecord}
use Rattle.virtio_mmio.specs.Transport.{Device}
use Rattle.virtio_mmio.specs.Serving.{can_serve, with_counters}
use Rattle.virtio_mmio.specs.ServingLoop.{
  Act,
  Acted,
  Served,
  breaks,
  puts_used,
  state_after_use,
  one_served,
  or_breaks,
  chains_served,
  served,
  done_answer,
  left_after,
  standing,
}
use Rattle.virtio_mmio.proofs.Rules.{counters_keep, needing_reset_keeps, signalled_keeps}

-- no chain is left
pub none_left : {A : Type 0} (k : DeviceKind) (i : ℕ) (act : Act A) (n : ℕ) (s : Served A) → n ≡ 0 → chains_served k i act n s ≡ s
unfolding chains_served
none_left k i act n s e = ap (λ (m : ℕ). chains_served k i act m s) e

one_more : {A : Type 0} (k : DeviceKind) (i : ℕ) (act : Act A) (n m : ℕ) (s : Served A) → n ≡ m + 1 →
    chains_served k i act n s ≡ or_breaks (chains_served k i act m) s (one_served k i act s)
unfolding chains_served
one_more k i act n m s e = ap (λ (j : ℕ). chains_served k i act j s) (e ∙ add-one m)

goes_on : {A : Type 0} (rest : Served A → Served A) (s : Served A) (r : Result (Served A) Broken) (answer : Result (Unit {0}) Broken) →
    answer ≡ done_answer r → is_err answer ≡ false → rest (left_after s r) ≡ or_breaks rest s r
goes_on rest s (Ok t) answer e h = refl
goes_on rest s (Err b) answer e h = let none : true ≡ false = sym (ap is_err e) ∙ h in cc

ends : {A : Type 0} (rest : Served A → Served A) (s : Served A) (r : Result (Served A) Broken) (answer : Result (Unit {0}) Broken) →
    answer ≡ done_answer r → is_err answer ≡ true → breaks (left_after s r) ≡ or_breaks rest s r
ends rest s (Ok t) answer e h = let none : false ≡ true = sym (ap is_err e) ∙ h in cc
ends rest s (Err b) answer e h = refl

module _ {A : Type 0} (k : DeviceKind) (i : ℕ) (act : Act A) (n m : ℕ) (s : Served A) (answer : Result (Unit {0}) Broken) where
  -- a chain was served, and one less is left
  pub chain_served : n ≡ m + 1 → answer ≡ done_answer (one_served k i act s) → is_err answer ≡ false →
      chains_served k i act m (left_after s (one_served k i act s)) ≡ chains_served k i act n s
  chain_served e a h = goes_on (chains_served k i act m) s (one_served k i act s) answer a h ∙ sym (one_more k i act n m s e)

  -- a malformed chain ends it
  pub chain_broken : n ≡ m + 1 → answer ≡ done_answer (one_served k i act s) → is_err answer ≡ true →
      breaks (left_after s (one_served k i act s)) ≡ chains_served k i act n s
  chain_broken e a h = ends (chains_served k i act m) s (one_served k i act s) answer a h ∙ sym (one_more k i act n m s e)

same_standing : {A : Type 0} (t : Served A) (ram : List ℕ) (state : DeviceState) (kept : A) →
    ram ≡ t.ram → state ≡ t.state → kept ≡ t.kept → standing ram state kept ≡ t
same_standing t ram state kept e f h =
    ap (λ (r : List ℕ). standing r state kept) e ∙ (ap (λ (d : DeviceState). standing t.ram d kept) f ∙ ap (standing t.ram t.state) h)

-- one chain of several: what is left when it was served, and what stands at the end when it was malformed
module _ {A : Type 0} (k k0 : DeviceKind) (i : ℕ) (act : Act A) (n m : ℕ) (s whole : Served A) (answer : Result (Unit {0}) Broken)
    (ram : List ℕ) (state : DeviceState) (kept : A) (kind : k ≡ k0) (count : n ≡ m + 1) (told : answer ≡ done_answer (one_served k i act s))
    (memory : ram ≡ (left_after s (one_served k i act s)).ram) (record_after : state ≡ (left_after s (one_served k i act s)).state)
    (kept_is : kept ≡ (left_after s (one_served k i act s)).kept) (ahead : chains_served k0 i act n s ≡ whole) where
  here : standing ram state kept ≡ left_after s (one_served k i act s)
  here = same_standing (left_after s (one_served k i act s)) ram state kept memory record_after kept_is

  along : chains_served k i act n s ≡ whole
  along = ap (λ (x : DeviceKind). chains_served x i act n s) kind ∙ ahead

  pub step_served : is_err answer ≡ false → chains_served k0 i act m (standing ram state kept) ≡ whole
  step_served h =
      sym (ap (λ (x : DeviceKind). chains_served x i act m (standing ram state kept)) kind)
      ∙ (ap (chains_served k i act m) here ∙ (chain_served k i act n m s answer count told h ∙ along))

  pub step_broken : is_err answer ≡ true → breaks (standing ram state kept) ≡ whole
  step_broken h = ap breaks here ∙ (chain_broken k i act n m s answer count told h ∙ along)

-- all chains were served
pub all_served : {A : Type 0} (k0 : DeviceKind) (i : ℕ) (act : Act A) (n : ℕ) (s whole : Served A) → n ≡ 0 →
    chains_served k0 i act n s ≡ whole → s ≡ whole
all_served k0 i act n s whole e h = sym (none_left k0 i act n s e) ∙ h

pub same_device : (d : Device) (k : DeviceKind) (s : DeviceState) → d.kind ≡ k → d.state ≡ s → d ≡ record { kind = k; state = s }
same_device d k s e f = ap (λ (x : DeviceKind). device x d.state) e ∙ ap (device k) f
  where
    device : DeviceKind → DeviceState → Device
    device k s = record { kind = k; state = s }

-- ---- what each chain keeps, the serving keeps

few_waiting : (q : Queue) (bytes : List ℕ) (a b c : Bool) (n : ℕ) → nat_lt 64 (waiting q bytes) ≡ c →
    (if a then (if b then (if c then Err TooMany else Ok (waiting q bytes)) else Err AreaOutside) else Err Misaligned) ≡ Ok n → n ≤ 64
few_waiting q bytes true true true n e h = cc
few_waiting q bytes true true false n e h =
    let same : waiting q bytes ≡ n = cc in
    let most : waiting q bytes ≤ 64 = ltb-false 64 (waiting q bytes) e in
    omega arith
few_waiting q bytes true false c n e h = cc
few_waiting q bytes false b c n e h = cc

-- at most 64 chains are served
few_available : (q : Queue) (bytes : List ℕ) (n : ℕ) → available_of q bytes ≡ Ok n → n ≤ 64
unfolding available_of
few_available q bytes n h = few_waiting q bytes (is_aligned q) (are_inside q (length bytes)) (nat_lt 64 (waiting q bytes)) n refl h

-- P n s: so many chains may still be served from s
module _ {A : Type 0} (k : DeviceKind) (i : ℕ) (act : Act A) (P : ℕ → Served A → Type 0)
    (fewer : (n m : ℕ) (s : Served A) → n ≤ m → P m s → P n s)
    (broken : (n : ℕ) (s : Served A) → P n s → P n (breaks s))
    (used : (n : ℕ) (s : Served A) (c : Spelled) (a : Acted A) → act s.ram s.kept c ≡ Ok a → P (n + 1) s →
    P n (puts_used k i s c.head a)) where
  keeps_by_act : (n : ℕ) (rest : Served A → Served A) → ((t : Served A) → P n t → P 0 (rest t)) →
      (s : Served A) (c : Spelled) (r : Result (Acted A) Broken) →
      act s.ram s.kept c ≡ r → P (n + 1) s → P 0 (or_breaks rest s (r >>= (λ a. Ok (puts_used k i s c.head a))))
  keeps_by_act n rest h s c (Ok a) e p = h (puts_used k i s c.head a) (used n s c a e p)
  keeps_by_act n rest h s c (Err b) e p = fewer 0 (n + 1) (breaks s) (omega arith) (broken (n + 1) s p)

  keeps_by_chain : (n : ℕ) (rest : Served A → Served A) → ((t : Served A) → P n t → P 0 (rest t)) →
      (s : Served A) (r : Result Spelled Broken) →
      P (n + 1) s → P 0 (or_breaks rest s (r >>= (λ c. act s.ram s.kept c >>= (λ a. Ok (puts_used k i s c.head a)))))
  keeps_by_chain n rest h s (Ok c) p = keeps_by_act n rest h s c (act s.ram s.kept c) refl p
  keeps_by_chain n rest h s (Err b) p = fewer 0 (n + 1) (breaks s) (omega arith) (broken (n + 1) s p)

  pub chains_keep : (n : ℕ) (s : Served A) → P n s → P 0 (chains_served k i act n s)
  unfolding chains_served
  chains_keep zero s p = p
  chains_keep (suc n) s p = keeps_by_chain n (chains_served k i act n) (chains_keep n) s (chain_of (queue_at s.state i) s.ram)
      (fewer (n + 1) (suc n) s (omega arith) p)

  keeps_by_count : (s : Served A) (r : Result ℕ Broken) → available_of (queue_at s.state i) s.ram ≡ r → P 64 s →
      P 0 (or_breaks (λ n. chains_served k i act n s) s r)
  keeps_by_count s (Ok n) e p = chains_keep n s (fewer n 64 s (few_available (queue_at s.state i) s.ram n e) p)
  keeps_by_count s (Err b) e p = fewer 0 64 (breaks s) (omega arith) (broken 64 s p)

  keeps_when : (b : Bool) (s t : Served A) → P 64 s → P 0 t → P 0 (if b then t else s)
  keeps_when true s t p q = q
  keeps_when false s t p q = fewer 0 64 s (omega arith) p

  pub served_keeps : (s : Served A) → P 64 s → P 0 (served k i act s)
  unfolding served
  served_keeps s p =
      keeps_when (can_serve k s.state i) s (or_breaks (λ n. chains_served k i act n s) s (available_of (queue_at s.state i) s.ram)) p
      (keeps_by_count s (available_of (queue_at s.state i) s.ram) refl p)

-- the rules of a device record
pub use_keeps_rules : (k : DeviceKind) (i : ℕ) (d : DeviceState) → IsDeviceRecord k d → IsDeviceRecord k (state_after_use k i d)
use_keeps_rules k i d h = signalled_keeps k (with_counters k d i _ _) (counters_keep k d i _ _ h)

pub served_keeps_rules : {A : Type 0} (k : DeviceKind) (i : ℕ) (act : Act A) (s : Served A) → IsDeviceRecord k s.state →
    IsDeviceRecord k (served k i act s).state
served_keeps_rules k i act s h =
    served_keeps k i act (λ n t. IsDeviceRecord k t.state) (λ n m t l p. p) (λ n t p. needing_reset_keeps k t.state p)
    (λ n t c a e p. use_keeps_rules k i t.state p) s h
