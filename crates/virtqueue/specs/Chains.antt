use Rattle.std.specs.Prelude.{
  ℕ,
  zero,
  suc,
  ◌+◌,
  ◌*◌,
  ◌%◌,
  Bool,
  false,
  not,
  ◌==◌,
  ◌&&◌,
  ◌||◌,
  if◌then◌else◌,
  nat_lt,
  List,
  [],
  ◌∷◌,
  length,
  bit_and,
  Option,
  None,
  Some,
  Result,
  Ok,
  Err,
  IsTrue,
}
use Rattle.arrayvec.specs.ArrayVec.{ArrayVec}
use Rattle.virtqueue.specs.declared.rings.Queue.{Queue}
use Rattle.virtqueue.specs.declared.chains.Descriptor.{Descriptor}
use Rattle.virtqueue.specs.declared.chains.Entry.{Entry}
use Rattle.virtqueue.specs.declared.broken.Broken.{Broken}
use Rattle.virtqueue.specs.declared.broken.Broken.TheVariants.{BadIndex, Indirect, Outside, Order, Loop}
use Rattle.virtqueue.specs.Memory.{le16, le32, le64, is_inside, place_of}
use Rattle.virtqueue.specs.Areas.{available_of}

-- what callers see of a chain: the index of its first descriptor, and its descriptors in order
pub record Spelled : Type 0 where
  pub head : ℕ
  pub parts : List Descriptor

-- ---- one descriptor

-- the descriptor of an index in the table that begins at a place (virtio 1.1, 2.6.5): 16 bytes each, le64 addr,
-- le32 len, le16 flags, le16 next
abbrev pub entry_at : List ℕ → ℕ → ℕ → Entry
entry_at bytes table i = record {
  address = le64 bytes (table + 16 * i);
  len = le32 bytes (table + 16 * i + 8);
  flags = le16 bytes (table + 16 * i + 12);
  next = le16 bytes (table + 16 * i + 14);
}

-- the flags NEXT 1, WRITE 2 and INDIRECT 4; other bits aren't looked at
abbrev pub goes_on : Entry → Bool
goes_on e = bit_and e.flags 1 == 1

abbrev pub is_writable : Entry → Bool
is_writable e = bit_and e.flags 2 == 2

abbrev pub is_indirect : Entry → Bool
is_indirect e = bit_and e.flags 4 == 4

abbrev pub descriptor_of : Entry → Descriptor
descriptor_of e = record { address = e.address; len = e.len; writable = is_writable e }

-- a buffer of length 0 has no bytes, and its address isn't looked at
abbrev pub buffer_inside : ℕ → ℕ → ℕ → Bool
buffer_inside size address len = len == 0 || is_inside size address len

-- ---- a chain

-- the descriptor of an index, or the first thing that is wrong with it; `after` says that a writable one came before
abbrev pub sound_entry : Queue → List ℕ → Bool → ℕ → Result Entry Broken
sound_entry q bytes after i =
    let e = entry_at bytes (place_of q.desc) i in
    if nat_lt i q.num then
    (if is_indirect e then Err Indirect
    else (if buffer_inside (length bytes) e.address e.len then
    (if after && not (is_writable e) then Err Order else Ok e)
    else Err Outside))
    else Err BadIndex

infixl 10 ◌>>=◌
abbrev pub ◌>>=◌ : {A B : Type 0} → Result A Broken → (A → Result B Broken) → Result B Broken
(Ok x) >>= f = f x
(Err b) >>= f = Err b

-- the descriptors that the table spells from an index on, as NEXT links them, of which there may be `left`;
-- one more is a loop
abbrev pub spelled_from : Queue → List ℕ → ℕ → Bool → ℕ → Result (List Descriptor) Broken
spelled_from q bytes zero after i = sound_entry q bytes after i >>= (λ e. Err Loop)
spelled_from q bytes (suc left) after i =
    sound_entry q bytes after i >>= (λ e.
    if goes_on e then spelled_from q bytes left (after || is_writable e) e.next >>= (λ rest. Ok (descriptor_of e ∷ rest))
    else Ok (descriptor_of e ∷ []))

-- the head in the next entry of the available ring, behind le16 flags and le16 idx (virtio 1.1, 2.6.6)
abbrev pub head_of : Queue → List ℕ → ℕ
head_of q bytes = le16 bytes (place_of q.driver + 4 + 2 * (q.next_available % q.num))

-- the chain that the bytes spell from the next ring entry, or the first malformation
unfoldable pub chain_of : Queue → List ℕ → Result Spelled Broken
chain_of q bytes =
    spelled_from q bytes q.num false (head_of q bytes) >>= (λ parts. Ok (record { head = head_of q bytes; parts = parts }))

-- the next chain, none if no chain is available
unfoldable pub next_chain_of : Queue → List ℕ → Result (Option Spelled) Broken
next_chain_of q bytes =
    available_of q bytes >>= (λ n. if n == 0 then Ok None else chain_of q bytes >>= (λ c. Ok (Some c)))

-- ---- what is known of a chain

-- each buffer lies in RAM of this many bytes
abbrev pub BuffersInside : ℕ → List Descriptor → Type 0
BuffersInside size [] = Unit {0}
BuffersInside size (d ∷ ds) = IsTrue (buffer_inside size d.address d.len) × BuffersInside size ds

-- what a call that answers descriptors found, as a list
abbrev pub items_of : Result (ArrayVec Descriptor) Broken → Result (List Descriptor) Broken
items_of (Ok v) = Ok v.items
items_of (Err b) = Err b
