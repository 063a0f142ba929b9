-- What a request does, by the lengths of its chain.
use Rattle.std.proofs.Common.{Bool, ◌≡◌, ℕ, ◌+◌, ◌-◌, ◌<◌, ◌≤◌, true, false, ◌||◌, ◌==◌, List, [], ◌∷◌, refl, ap, ◌∙◌, if◌then◌else◌}
use Rattle.std.{proofs.{Common.{length, drop, nat_lt, arith, length-drop, ◌⊎◌}, lemmas.Bool.Decides.nat_tests}, specs.Prelude.{Ok, Err}}
use Rattle.virtqueue.specs.{declared.{broken.Broken.TheVariants.Short, chains.Descriptor.Descriptor}, Chains.{Spelled, BuffersInside}}
use Rattle.virtqueue.specs.Parts.{readable_len, writable_len, readable_bytes, writable_places, put_at}
use Rattle.virtqueue.specs.laws.Lengths.{length_readable, length_places}
use Rattle.virtio_mmio.specs.ServingLoop.{Acted}
use Rattle.block_device.specs.{Contents.{Contents, in_capacity, contents_with}, Request.{Outcome, Request, request_of, outcome}}
use Rattle.block_device.specs.Request.{write_outcome, chain_answered, written_len, is_short, request_act}

-- the data of a request is all behind its header
module _ (disk : Contents) (sector len : ℕ) (bytes : List ℕ) (ds : List Descriptor) (inside : BuffersInside (length bytes) ds)
    (all : 16 + len ≡ readable_len ds) where
  count : length (drop 16 (readable_bytes bytes ds)) ≡ len
  count = omega (arith, length_readable bytes ds inside, length-drop 16 (readable_bytes bytes ds))

  tested : (test : Bool) → in_capacity disk sector len ≡ test → write_outcome disk sector (drop 16 (readable_bytes bytes ds))
      ≡ (if test then record { status = 0; payload = []; disk = contents_with disk sector (drop 16 (readable_bytes bytes ds)) } else record
      { status = 1; payload = []; disk = disk })
  tested test is =
      ap (λ b. if b then record { status = 0; payload = []; disk = contents_with disk sector (drop 16 (readable_bytes bytes ds)) }
      else record { status = 1; payload = []; disk = disk }) (ap (in_capacity disk sector) count ∙ is)

  -- a write of whole sectors of the disk, and any other
  pub write_done : in_capacity disk sector len ≡ true → write_outcome disk sector (drop 16 (readable_bytes bytes ds))
      ≡ record { status = 0; payload = []; disk = contents_with disk sector (drop 16 (readable_bytes bytes ds)) }
  write_done = tested true

  pub write_fails : in_capacity disk sector len ≡ false →
      write_outcome disk sector (drop 16 (readable_bytes bytes ds)) ≡ record { status = 1; payload = []; disk = disk }
  write_fails = tested false

-- what a chain of enough bytes and places leaves
abbrev pub left_by : List ℕ → List ℕ → ℕ → Outcome → Acted Contents
left_by ram places room o = record {
  ram = put_at (put_at ram places o.payload) (drop room places) (o.status ∷ []);
  kept = o.disk;
  len = written_len room o.payload;
}

module _ (ram : List ℕ) (disk : Contents) (chain : Spelled) (inside : BuffersInside (length ram) chain.parts) where
  short_test : is_short (readable_bytes ram chain.parts) (writable_places chain.parts)
      ≡ (nat_lt (readable_len chain.parts) 16 || writable_len chain.parts == 0)
  short_test =
      ap (λ n. nat_lt n 16 || length (writable_places chain.parts) == 0) (length_readable ram chain.parts inside)
      ∙ ap (λ n. nat_lt (readable_len chain.parts) 16 || n == 0) (length_places chain.parts)

  pub act_short : (readable_len chain.parts < 16) ⊎ (writable_len chain.parts ≡ 0) → request_act ram disk chain ≡ Err Short
  unfolding request_act
  act_short few =
      let places : List ℕ = writable_places chain.parts in
      let readable : List ℕ = readable_bytes ram chain.parts in
      let test : (nat_lt (readable_len chain.parts) 16 || writable_len chain.parts == 0) ≡ true = grind (arith, nat_tests) in
      ap (λ b. if b then Err Short else Ok (chain_answered ram places (outcome disk (request_of readable) (length places - 1))))
      (short_test ∙ test)

  pub act_done : 16 ≤ readable_len chain.parts → 0 < writable_len chain.parts →
      request_act ram disk chain ≡ Ok (left_by ram (writable_places chain.parts) (writable_len chain.parts - 1)
      (outcome disk (request_of (readable_bytes ram chain.parts)) (writable_len chain.parts - 1)))
  unfolding request_act
  act_done long some =
      let places : List ℕ = writable_places chain.parts in
      let readable : List ℕ = readable_bytes ram chain.parts in
      let test : (nat_lt (readable_len chain.parts) 16 || writable_len chain.parts == 0) ≡ false = grind (arith, nat_tests) in
      ap (λ b. if b then Err Short else Ok (chain_answered ram places (outcome disk (request_of readable) (length places - 1))))
      (short_test ∙ test)
      ∙ ap (λ n. Ok (left_by ram places (n - 1) (outcome disk (request_of readable) (n - 1)))) (length_places chain.parts)

-- a request of another type reads nothing
pub other_kind : (disk : Contents) (r : Request) (room : ℕ) → (r.kind ≡ 0 → ⊥) → (r.kind ≡ 1 → ⊥) → (r.kind ≡ 4 → ⊥) →
    (outcome disk r room).payload ≡ []
other_kind disk r room not_0 not_1 not_4 =
    let a : (r.kind == 0) ≡ false = grind (arith, nat_tests) in
    let b : (r.kind == 1) ≡ false = grind (arith, nat_tests) in
    let d : (r.kind == 4) ≡ false = grind (arith, nat_tests) in
    rw (a, b, d) refl
