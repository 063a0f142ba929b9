-- What one request does to the bytes of RAM and to the disk (virtio 1.1, 5.2.6).
use Rattle.std.specs.Prelude.{ℕ, ◌+◌, ◌-◌, Bool, ◌==◌, ◌||◌, if◌then◌else◌, nat_lt, List, [], ◌∷◌, length, drop, Ok, Err}
use Rattle.virtqueue.specs.declared.broken.Broken.TheVariants.{Short}
use Rattle.virtqueue.specs.Memory.{le32, le64}
use Rattle.virtqueue.specs.Parts.{readable_bytes, writable_places, put_at}
use Rattle.virtio_mmio.specs.ServingLoop.{Acted, Act}
use Rattle.block_device.specs.Contents.{Contents, in_capacity, bytes_at, contents_with}

-- ---- what a request asks: le32 type, le32 reserved, which is not looked at, le64 sector, and the data to be written

pub record Request : Type 0 where
  pub kind : ℕ
  pub sector : ℕ
  pub payload : List ℕ

abbrev pub request_of : List ℕ → Request
request_of readable = record { kind = le32 readable 0; sector = le64 readable 8; payload = drop 16 readable }

-- ---- what it does to the disk

-- the status byte: VIRTIO_BLK_S_OK 0, VIRTIO_BLK_S_IOERR 1, VIRTIO_BLK_S_UNSUPP 2; the data that was read; the disk afterwards
pub record Outcome : Type 0 where
  pub status : ℕ
  pub payload : List ℕ
  pub disk : Contents

-- VIRTIO_BLK_T_IN 0: the room for data is filled from the disk. Reading past the end, or a part of a sector, fails
abbrev pub read_outcome : Contents → ℕ → ℕ → Outcome
read_outcome disk sector room =
    if in_capacity disk sector room
    then record { status = 0; payload = bytes_at disk sector room; disk = disk }
    else record { status = 1; payload = []; disk = disk }

-- VIRTIO_BLK_T_OUT 1: the data goes to the disk. Writing past the end, or a part of a sector, fails and writes nothing
abbrev pub write_outcome : Contents → ℕ → List ℕ → Outcome
write_outcome disk sector payload =
    if in_capacity disk sector (length payload)
    then record { status = 0; payload = []; disk = contents_with disk sector payload }
    else record { status = 1; payload = []; disk = disk }

-- VIRTIO_BLK_T_FLUSH 4 has nothing to do, since all that was written stands on the disk; other types are not supported
abbrev pub outcome : Contents → Request → ℕ → Outcome
outcome disk r room =
    if r.kind == 0 then read_outcome disk r.sector room
    else (if r.kind == 1 then write_outcome disk r.sector r.payload
    else (if r.kind == 4 then record { status = 0; payload = []; disk = disk }
    else record { status = 2; payload = []; disk = disk }))

-- ---- what it does to the places of the chain that the device may write

-- the data goes to the first places, and then the status byte to the last: where places are one, what comes later stands
abbrev pub answered : List ℕ → List ℕ → Outcome → List ℕ
answered ram places o = put_at (put_at ram places o.payload) (drop (length places - 1) places) (o.status ∷ [])

-- how many bytes were written from the first place on without a gap: the status byte too, where the data fills all the others
abbrev pub written_len : ℕ → List ℕ → ℕ
written_len room payload = if length payload == room then room + 1 else length payload

-- ---- one chain

-- a request has 16 readable bytes at least, and a place for its status byte
abbrev pub is_short : List ℕ → List ℕ → Bool
is_short readable places = nat_lt (length readable) 16 || length places == 0

abbrev pub chain_answered : List ℕ → List ℕ → Outcome → Acted Contents
chain_answered ram places o = record {
  ram = answered ram places o;
  kept = o.disk;
  len = written_len (length places - 1) o.payload;
}

unfoldable pub request_act : Act Contents
request_act ram disk chain =
    let readable = readable_bytes ram chain.parts in
    let places = writable_places chain.parts in
    if is_short readable places then Err Short
    else Ok (chain_answered ram places (outcome disk (request_of readable) (length places - 1)))
