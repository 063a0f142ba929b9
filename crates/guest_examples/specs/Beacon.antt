-- A worked guest, the beacon, by guest_kit's words: it sets up the network card's transmit queue with one descriptor, and notifies it in
-- step 22.
use Rattle.std.specs.Prelude.{ℕ, List, ◌++◌, replicate}
use Rattle.std.specs.List.{flat_map}
use Rattle.byteorder.specs.Endian.{little_bytes}
use Rattle.arrayvec.specs.ArrayVec.{ArrayVec}
use Rattle.guest_kit.specs.Beacon.{beacon_words, beacon_frame as frame_bytes}

-- to 02:00:00:00:01:01, from 02:00:00:00:00:01, of type 88b5
abbrev pub beacon_frame : ArrayVec ℕ
beacon_frame = record { items = frame_bytes }

-- the words; from 0x1000 on one descriptor, of a buffer at 0x80001100, with this length and these flags; at 0x1040 the
-- available ring with this idx; at 0x1080 the used ring; at 0x1100 a header of 12 bytes and the frame; all else 0
unfoldable pub beacon_with : ℕ → ℕ → ℕ → List ℕ
beacon_with len flags idx =
    flat_map (little_bytes 4) beacon_words ++ (replicate 4004 0
    ++ (little_bytes 8 0x80001100 ++ (little_bytes 4 len ++ (little_bytes 2 flags ++ (replicate 50 0
    ++ (little_bytes 2 0 ++ (little_bytes 2 idx ++ (replicate 188 0
    ++ (replicate 12 0 ++ frame_bytes)))))))))

-- the beacon itself: a buffer of 26 bytes, in one chain
abbrev pub beacon : List ℕ
beacon = beacon_with 26 0 1
