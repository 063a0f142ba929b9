use Rattle.std.specs.Prelude.{ℕ, ◌+◌, ◌*◌, ◌%◌, ◌^◌, List}
use Rattle.std.specs.Int.{to_le_bytes, w16, w32}
use Rattle.virtqueue.specs.declared.rings.Queue.{Queue}
use Rattle.virtqueue.specs.Memory.{place_of, written}

-- the bytes after a chain was put into the used ring (virtio 1.1, 2.6.8: le16 flags, le16 idx, then the entries,
-- each le32 id and le32 len): the entry first, then flags 0, then the idx raised by 1 modulo 2 ^ 16
unfoldable pub used_written : Queue → List ℕ → ℕ → ℕ → List ℕ
used_written q bytes head len =
    let ring = place_of q.device in
    let slot = ring + 4 + 8 * (q.next_used % q.num) in
    let with_id = written bytes slot (to_le_bytes w32 head) in
    let with_len = written with_id (slot + 4) (to_le_bytes w32 len) in
    let with_flags = written with_len ring (to_le_bytes w16 0) in
    written with_flags (ring + 2) (to_le_bytes w16 ((q.next_used + 1) % 2 ^ 16))

-- both counters after that: the chain is taken and used
abbrev pub queue_after_use : Queue → Queue
queue_after_use q = record q {
  next_available = (q.next_available + 1) % 2 ^ 16;
  next_used = (q.next_used + 1) % 2 ^ 16;
}
