-- What stands where bytes were written, and what stands elsewhere.
use Rattle.std.proofs.Common.{◌≡◌, ℕ, ◌+◌, ◌-◌, ◌*◌, ◌/◌, ◌%◌, ◌≤◌, ◌<◌, true, false, ◌&&◌, ◌==◌, ◌++◌, ◌⊎◌, inl, inr, List, [], refl, sym}
use Rattle.std.proofs.Common.{ap, ◌∙◌, if◌then◌else◌, length, take, drop, nat_le, arith, append_assoc, length-append, length-take-le}
use Rattle.std.proofs.{Common.{length-drop, slice_range}, lemmas.{Bool.Decides.nat_tests, List.{take_at, drop_at, drop-append-le}}}
use Rattle.std.proofs.{lemmas.List.{take-append-le, drop-drop, take-take, drop-take}, Math.Seq.drop-append-add}
use Rattle.virtqueue.specs.Memory.{written}
use Rattle.virtqueue.specs.laws.Lengths.{length_written}
use Rattle.block_device.specs.{Contents.{Contents, sector_at, in_capacity, contents_with, bytes_at}, Request.{Outcome, Request, outcome}}
use Rattle.block_device.specs.Request.{read_outcome, write_outcome}
use Rattle.block_device.proofs.Serving.{in_capacity_tells, whole_sectors, read_size, write_cases, by_kind}

-- the written bytes stand where they were written
read_written : (bytes new : List ℕ) (place : ℕ) → place + length new ≤ length bytes →
    slice_range (written bytes place new) place (place + length new) ≡ new
read_written bytes new place l =
    let rest : List ℕ = drop (place + length new) bytes in
    let front : length (take place bytes) ≡ place = length-take-le place bytes (omega arith) in
    let count : length new ≡ place + length new - place = omega arith in
    ap (take (place + length new - place)) (ap (drop place) (append_assoc (take place bytes) new rest)
    ∙ drop_at (take place bytes) (new ++ rest) place front)
    ∙ take_at new rest (place + length new - place) count

-- bytes before them, and behind them, stay
read_before : (bytes new : List ℕ) (place from len : ℕ) → place ≤ length bytes → from + len ≤ place →
    take len (drop from (written bytes place new)) ≡ take len (drop from bytes)
read_before bytes new place from len l before =
    let rest : List ℕ = drop (place + length new) bytes in
    let front : length (take place bytes) ≡ place = length-take-le place bytes l in
    let all : from + (place - from) ≡ place = omega arith in
    let inner : drop from (take place bytes) ≡ take (place - from) (drop from bytes) =
    ap (λ n. drop from (take n bytes)) (sym all) ∙ drop-take from (place - from) bytes in
    let long : len ≤ length (drop from (take place bytes)) = omega (arith, front, length-drop from (take place bytes)) in
    ap (λ xs. take len (drop from xs)) (append_assoc (take place bytes) new rest)
    ∙ (ap (take len) (drop-append-le from (take place bytes) (new ++ rest) (omega (arith, front)))
    ∙ (take-append-le len (drop from (take place bytes)) (new ++ rest) long
    ∙ (ap (take len) inner ∙ take-take len (place - from) (drop from bytes) (omega arith))))

read_behind : (bytes new : List ℕ) (place from : ℕ) → place ≤ length bytes → place + length new ≤ from →
    drop from (written bytes place new) ≡ drop from bytes
read_behind bytes new place from l behind =
    let front : List ℕ = take place bytes ++ new in
    let rest : List ℕ = drop (place + length new) bytes in
    let front_len : length front ≡ place + length new = omega (arith, length-append (take place bytes) new, length-take-le place bytes l) in
    let far : from ≡ length front + (from - (place + length new)) = omega (arith, front_len) in
    let all : place + length new + (from - (place + length new)) ≡ from = omega arith in
    ap (λ n. drop n (front ++ rest)) far ∙ (drop-append-add front rest (from - (place + length new))
    ∙ (drop-drop (from - (place + length new)) (place + length new) bytes ∙ ap (λ n. drop n bytes) all))

pub other_sector : (disk : Contents) (sector i : ℕ) (new : List ℕ) → in_capacity disk sector (length new) ≡ true →
    (i < sector) ⊎ (sector + length new / 512 ≤ i) → sector_at (contents_with disk sector new) i ≡ sector_at disk i
other_sector disk sector i new fits (inl before) =
    let within = in_capacity_tells disk sector (length new) fits in
    let a : 512 * i + (512 * i + 512 - 512 * i) ≤ 512 * sector = omega arith in
    read_before disk.bytes new (512 * sector) (512 * i) (512 * i + 512 - 512 * i) (omega arith) a
other_sector disk sector i new fits (inr behind) =
    let within = in_capacity_tells disk sector (length new) fits in
    let whole = whole_sectors disk sector (length new) fits in
    ap (take (512 * i + 512 - 512 * i)) (read_behind disk.bytes new (512 * sector) (512 * i) (omega arith) (omega arith))

-- ---- reading back

of_write : (disk : Contents) (w : Request) (room : ℕ) → w.kind ≡ 1 → outcome disk w room ≡ write_outcome disk w.sector w.payload
of_write disk w room is =
    let a : (w.kind == 0) ≡ false = grind (arith, nat_tests) in
    let b : (w.kind == 1) ≡ true = grind (arith, nat_tests) in
    rw (a, b) refl

of_read : (disk : Contents) (r : Request) (room : ℕ) → r.kind ≡ 0 → outcome disk r room ≡ read_outcome disk r.sector room
of_read disk r room is =
    let a : (r.kind == 0) ≡ true = grind (arith, nat_tests) in
    rw a refl

read_after : (disk : Contents) (sector : ℕ) (new : List ℕ) → in_capacity disk sector (length new) ≡ true →
    read_outcome (contents_with disk sector new) sector (length new)
    ≡ record { status = 0; payload = new; disk = contents_with disk sector new }
read_after disk sector new fits =
    let after : Contents = contents_with disk sector new in
    let within : 512 * sector + length new ≤ length disk.bytes = in_capacity_tells disk sector (length new) fits in
    let size : length after.bytes ≡ length disk.bytes = length_written disk.bytes new (512 * sector) within in
    let still : in_capacity after sector (length new) ≡ true =
    ap (λ n. length new % 512 == 0 && nat_le (sector + length new / 512) (n / 512)) size ∙ fits in
    ap (λ b. if b then record { status = 0; payload = bytes_at after sector (length new); disk = after } else record
    { status = 1; payload = []; disk = after }) still
    ∙ ap (λ xs. record { status = 0; payload = xs; disk = after }) (read_written disk.bytes new (512 * sector) within)

pub good_write : (disk : Contents) (sector : ℕ) (new : List ℕ) → (write_outcome disk sector new).status ≡ 0 →
    (in_capacity disk sector (length new) ≡ true) × ((write_outcome disk sector new).disk ≡ contents_with disk sector new)
good_write disk sector new good =
    elim (write_cases disk sector new) [
      | inl w ↦ (w.0, ap (λ (o : Outcome). o.disk) w.1)
      | inr w ↦ (let one : 1 ≡ 0 = sym (ap (λ (o : Outcome). o.status) w.1) ∙ good in absurd (omega (arith, one)))
    ]

pub reads_back : (disk : Contents) (w r : Request) (room : ℕ) → w.kind ≡ 1 → (outcome disk w room).status ≡ 0 → r.kind ≡ 0 →
    r.sector ≡ w.sector →
    outcome (outcome disk w room).disk r (length w.payload) ≡ record { status = 0; payload = w.payload; disk = (outcome disk w room).disk }
reads_back disk w r room writes good reads same =
    let is = of_write disk w room writes in
    let parts = good_write disk w.sector w.payload (sym (ap (λ (o : Outcome). o.status) is) ∙ good) in
    let after : (outcome disk w room).disk ≡ contents_with disk w.sector w.payload = ap (λ (o : Outcome). o.disk) is ∙ parts.1 in
    of_read (outcome disk w room).disk r (length w.payload) reads
    ∙ (ap (λ s. read_outcome (outcome disk w room).disk s (length w.payload)) same
    ∙ (ap (λ (d : Contents). read_outcome d w.sector (length w.payload)) after
    ∙ (read_after disk w.sector w.payload parts.0
    ∙ ap (λ (d : Contents). record { status = 0; payload = w.payload; disk = d }) (sym after))))

-- ---- requests that change nothing

abbrev Refused : Contents → Outcome → Type 0
Refused disk o = (o.status ≡ 0 → ⊥) → o.disk ≡ disk

refused_write : (disk : Contents) (sector : ℕ) (new : List ℕ) → Refused disk (write_outcome disk sector new)
refused_write disk sector new bad =
    elim (write_cases disk sector new) [
      | inl w ↦ absurd (bad (ap (λ (o : Outcome). o.status) w.1))
      | inr w ↦ ap (λ (o : Outcome). o.disk) w.1
    ]

pub refused_changes_nothing : (disk : Contents) (r : Request) (room : ℕ) → Refused disk (outcome disk r room)
refused_changes_nothing disk r room =
    by_kind (Refused disk) disk r room (λ bad. read_size disk r.sector room) (λ is. refused_write disk r.sector r.payload) (λ bad. refl)
    (λ bad. refl)

pub others_change_nothing : (disk : Contents) (r : Request) (room : ℕ) → (r.kind ≡ 1 → ⊥) → (outcome disk r room).disk ≡ disk
others_change_nothing disk r room other =
    let no : (r.kind == 1) ≡ false = grind (arith, nat_tests) in
    by_kind (λ (o : Outcome). o.disk ≡ disk) disk r room (read_size disk r.sector room)
    (λ is. let never : true ≡ false = sym is ∙ no in let none : ⊥ = cc in absurd none) refl refl
