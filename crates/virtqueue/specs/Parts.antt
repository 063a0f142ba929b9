use Rattle.std.specs.Prelude.{ℕ, Bool, not, if◌then◌else◌, List, [], ◌∷◌, ◌++◌, take, drop, slice_set, sum, map, filter}
use Rattle.std.specs.List.{range_with_len, list_all}
use Rattle.virtqueue.specs.declared.chains.Descriptor.{Descriptor}
use Rattle.virtqueue.specs.Memory.{place_of}

-- how many bytes a chain's readable, and its writable, buffers have
abbrev pub readable_len : List Descriptor → ℕ
readable_len ds = sum (map (λ d. d.len) (filter (λ d. not d.writable) ds))

abbrev pub writable_len : List Descriptor → ℕ
writable_len ds = sum (map (λ d. d.len) (filter (λ d. d.writable) ds))

-- each buffer is readable, or each is writable; an empty one counts too
abbrev pub all_readable : List Descriptor → Bool
all_readable ds = list_all (λ d. not d.writable) ds

abbrev pub all_writable : List Descriptor → Bool
all_writable ds = list_all (λ d. d.writable) ds

-- the bytes of one buffer
abbrev pub bytes_of : List ℕ → Descriptor → List ℕ
bytes_of bytes d = take d.len (drop (place_of d.address) bytes)

-- the bytes of the readable buffers, joined in order
abbrev pub readable_bytes : List ℕ → List Descriptor → List ℕ
readable_bytes bytes [] = []
readable_bytes bytes (d ∷ ds) = (if d.writable then [] else bytes_of bytes d) ++ readable_bytes bytes ds

-- the places in RAM of the writable buffers' bytes, joined in order
abbrev pub writable_places : List Descriptor → List ℕ
writable_places [] = []
writable_places (d ∷ ds) = (if d.writable then range_with_len (place_of d.address) d.len else []) ++ writable_places ds

-- the bytes after values were put at places one after another: where two places are one, the later value stands
abbrev pub put_at : List ℕ → List ℕ → List ℕ → List ℕ
put_at bytes [] values = bytes
put_at bytes (p ∷ ps) [] = bytes
put_at bytes (p ∷ ps) (v ∷ vs) = put_at (slice_set bytes p v) ps vs
