use Rattle.std.proofs.Common.{
  ◌≡◌,
  ℕ,
  ◌+◌,
  ◌-◌,
  ◌≤◌,
  ◌<◌,
  ◌++◌,
  [],
  List,
  min,
  sym,
  refl,
  ◌∙◌,
  ap,
  subst,
  arith,
  false,
  length,
  length-take,
  length-drop,
  take,
  drop,
  IsTrue,
  get_or,
}
use borrow.Rule.Slice.PartMut.{put_mid, same_len_mid}
use Rattle.std.proofs.lemmas.List.{length-take-le, drop_all}
use Rattle.virtqueue.specs.declared.chains.Descriptor.{Descriptor}
use Rattle.virtqueue.specs.Chains.{buffer_inside, BuffersInside}
use Rattle.virtqueue.specs.Parts.{readable_bytes, bytes_of, readable_len}
use Rattle.virtqueue.proofs.Gathered.{inside_at, step_before, step_in, read_more, read_all}
use Rattle.virtqueue.specs.laws.Lengths.{length_bytes_of, length_readable}
use Rattle.virtqueue.proofs.rings.Queue.gather.Goals as goal

pub loop-part-preserved-then-skip-len : goal.loop-part-preserved-then-skip-len
loop-part-preserved-then-skip-len g c =
    let bytes : List ℕ = g.R.GuestRam.bytes c.args.ram.now in
    let parts : List Descriptor = c.parts-parts.result.now in
    let k : ℕ = c.loop-part.part-index in
    let past : Descriptor = record { address = 0; len = 0; writable = false } in
    let all : BuffersInside (length bytes) parts = subst (BuffersInside (length bytes)) (sym c.parts-parts.ensures.value)
    c.requires.inside in
    let here : k < length parts = c.loop-part-test.true in
    let before : (get_or parts k past).len ≤ c.loop-part.skip = omega arith in
    let step = step_before bytes parts k past here c.loop-part.skip c.if-part.false
    (inside_at (length bytes) parts k past all here) before in
    record {
      within = c.loop-part.invariant.within;
      same = rw c.from-len.ensures (ap (λ xs. take c.loop-part.done c.loop-part.into ++ take (length c.loop-part.into - c.loop-part.done)
          xs) step ∙ c.loop-part.invariant.same);
    }

pub read_buffer-requires-clause-inside : goal.read_buffer-requires-clause-inside
read_buffer-requires-clause-inside g c =
    let bytes : List ℕ = g.R.GuestRam.bytes c.args.ram.now in
    let parts : List Descriptor = c.parts-parts.result.now in
    let all : BuffersInside (length bytes) parts = subst (BuffersInside (length bytes)) (sym c.parts-parts.ensures.value)
    c.requires.inside in
    inside_at (length bytes) parts c.loop-part.part-index (record { address = 0; len = 0; writable = false }) all c.loop-part-test.true

pub loop-part-preserved : goal.loop-part-preserved
loop-part-preserved g c =
    let bytes : List ℕ = g.R.GuestRam.bytes c.args.ram.now in
    let parts : List Descriptor = c.parts-parts.result.now in
    let k : ℕ = c.loop-part.part-index in
    let past : Descriptor = record { address = 0; len = 0; writable = false } in
    let done : ℕ = c.loop-part.done in
    let count : ℕ = c.min-count.result in
    let into : List ℕ = c.loop-part.into in
    let chunk : List ℕ = c.read_buffer.new.into in
    let whole : List ℕ = put_mid done (done + count - done) into chunk in
    let all : BuffersInside (length bytes) parts = subst (BuffersInside (length bytes)) (sym c.parts-parts.ensures.value)
    c.requires.inside in
    let here : k < length parts = c.loop-part-test.true in
    let inside : IsTrue (buffer_inside (length bytes) (get_or parts k past).address (get_or parts k past).len) =
    inside_at (length bytes) parts k past all here in
    let within : done ≤ length into = c.loop-part.invariant.within in
    let middle : length (take (done + count - done) (drop done into)) ≡ count =
    omega (arith, length-take (done + count - done) (drop done into), length-drop done into) in
    let read : chunk ≡ take count (drop c.loop-part.skip (bytes_of bytes (get_or parts k past))) = rw (← middle) c.read_buffer.ensures in
    let inbuffer : c.loop-part.skip < (get_or parts k past).len = omega arith in
    let least : count ≡ min ((get_or parts k past).len - c.loop-part.skip) (length into - done) =
    rw (← c.from-len.ensures) c.min-count.ensures in
    let buffer : List ℕ = bytes_of bytes (get_or parts k past) in
    let whole_buffer : length buffer ≡ (get_or parts k past).len = length_bytes_of bytes (get_or parts k past) inside in
    let size : length chunk ≡ count =
    ap length read ∙ length-take-le count (drop c.loop-part.skip buffer)
    (omega (arith, length-drop c.loop-part.skip buffer, whole_buffer, least)) in
    let same_len : length whole ≡ length into = same_len_mid done (done + count - done) into chunk (size ∙ sym middle) in
    let tail : List ℕ = drop (done + count - done) (drop done into) in
    let rest : List ℕ = take (length into - (done + count)) (readable_bytes bytes (drop (k + 1) parts)) in
    let left : length into - (done + count) ≡ length into - done - count = omega arith in
    let step = step_in bytes parts k past here c.loop-part.skip (length into - done) count c.if-part.false inside inbuffer least in
    let along : chunk ++ rest ≡ take (length into - done) (drop c.loop-part.skip (readable_bytes bytes (drop k parts))) =
    ap (λ xs. xs ++ rest) read ∙ (ap (λ n. take count (drop c.loop-part.skip buffer) ++ take n (readable_bytes bytes (drop (k + 1) parts)))
    left ∙ step) in
    record {
      within = omega (arith, same_len, least);
      same = rw same_len
          (read_more into chunk tail whole rest done count size within refl
          ∙ (ap (λ xs. take done into ++ xs) along ∙ c.loop-part.invariant.same));
    }

pub returns : goal.returns
returns g c =
    let bytes : List ℕ = g.R.GuestRam.bytes c.args.ram.now in
    let parts : List Descriptor = c.parts-parts.result.now in
    let all : BuffersInside (length bytes) parts = subst (BuffersInside (length bytes)) (sym c.parts-parts.ensures.value)
    c.requires.inside in
    let value : c.parts-parts.result.now ≡ c.args.chain.now.parts = c.parts-parts.ensures.value in
    let into : List ℕ = c.loop-part.into in
    let fits : c.args.at + length c.args.into.now ≤ readable_len parts = rw value c.requires.fits in
    let joined : List ℕ = readable_bytes bytes parts in
    let joined_len : length joined ≡ readable_len parts = length_readable bytes parts all in
    let same_len : length into ≡ length c.args.into.now = c.loop-part.auto.into in
    let wanted : List ℕ = take (length into) (drop c.args.at joined) in
    let size : length wanted ≡ length into = length-take-le (length into) (drop c.args.at joined)
    (omega (arith, length-drop c.args.at joined, joined_len)) in
    let ended : drop c.loop-part.part-index parts ≡ [] = drop_all c.loop-part.part-index parts c.loop-part-test.false in
    let all_read : take c.loop-part.done into ++ take (length into - c.loop-part.done) (drop c.loop-part.skip []) ≡ wanted =
    ap (λ ds. take c.loop-part.done into ++ take (length into - c.loop-part.done) (drop c.loop-part.skip (readable_bytes bytes ds)))
    (sym ended) ∙ c.loop-part.invariant.same in
    rw (← value, ← same_len) (read_all into wanted c.loop-part.done c.loop-part.skip c.loop-part.invariant.within size all_read)
