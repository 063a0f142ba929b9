use Rattle.std.proofs.Common.{
  ◌≡◌,
  ℕ,
  ◌+◌,
  ◌-◌,
  ◌≤◌,
  ◌<◌,
  List,
  min,
  sym,
  ◌∙◌,
  ap,
  subst,
  arith,
  false,
  length,
  length-drop,
  take,
  drop,
  IsTrue,
  get_or,
}
use Rattle.std.proofs.lemmas.List.{drop-drop}
use Rattle.virtqueue.specs.declared.chains.Descriptor.{Descriptor}
use Rattle.virtqueue.specs.Memory.{place_of, written}
use Rattle.virtqueue.specs.Chains.{buffer_inside, BuffersInside}
use Rattle.virtqueue.specs.Parts.{writable_places, put_at}
use Rattle.virtqueue.proofs.Gathered.{inside_at}
use Rattle.virtqueue.proofs.Scattered.{pass_before, pass_in}
use Rattle.virtqueue.proofs.rings.Queue.scatter.Goals as goal

pub loop-part-preserved-then-skip-len : goal.loop-part-preserved-then-skip-len
loop-part-preserved-then-skip-len g c =
    let bytes : List ℕ = g.R.GuestRam.bytes c.loop-part.ram in
    let parts : List Descriptor = c.parts-parts.result.now in
    let k : ℕ = c.loop-part.part-index in
    let past : Descriptor = record { address = 0; len = 0; writable = false } in
    let before : (get_or parts k past).len ≤ c.loop-part.skip = omega arith in
    let step = pass_before parts k past c.loop-part-test.true c.loop-part.skip c.if-not-part.false before in
    record {
      within = c.loop-part.invariant.within;
      size = c.loop-part.invariant.size;
      fixed = c.loop-part.invariant.fixed;
      same = rw c.from-len.ensures (ap (λ ps. put_at bytes ps (drop c.loop-part.done c.args.from.now)) step ∙ c.loop-part.invariant.same);
    }

pub write_buffer-requires-clause-inside : goal.write_buffer-requires-clause-inside
write_buffer-requires-clause-inside g c =
    let size : ℕ = length (g.R.GuestRam.bytes c.args.ram.now) in
    let parts : List Descriptor = c.parts-parts.result.now in
    let all : BuffersInside size parts = subst (BuffersInside size) (sym c.parts-parts.ensures.value) c.requires.inside in
    rw c.loop-part.invariant.size (inside_at size parts c.loop-part.part-index (record { address = 0; len = 0; writable = false }) all
    c.loop-part-test.true)

pub loop-part-preserved : goal.loop-part-preserved
loop-part-preserved g c =
    let bytes : List ℕ = g.R.GuestRam.bytes c.loop-part.ram in
    let size : ℕ = length (g.R.GuestRam.bytes c.args.ram.now) in
    let parts : List Descriptor = c.parts-parts.result.now in
    let k : ℕ = c.loop-part.part-index in
    let past : Descriptor = record { address = 0; len = 0; writable = false } in
    let part : Descriptor = get_or parts k past in
    let done : ℕ = c.loop-part.done in
    let count : ℕ = c.min-count.result in
    let from : List ℕ = c.args.from.now in
    let all : BuffersInside size parts = subst (BuffersInside size) (sym c.parts-parts.ensures.value) c.requires.inside in
    let inside_first : IsTrue (buffer_inside size part.address part.len) = inside_at size parts k past all c.loop-part-test.true in
    let inside : IsTrue (buffer_inside (length bytes) part.address part.len) =
    subst (λ (n : ℕ). IsTrue (buffer_inside n part.address part.len)) (sym c.loop-part.invariant.size) inside_first in
    let in_buffer : c.loop-part.skip < part.len = omega arith in
    let least : count ≡ min (part.len - c.loop-part.skip) (length from - done) = rw (← c.from-len.ensures) c.min-count.ensures in
    let least_left : count ≡ min (part.len - c.loop-part.skip) (length (drop done from)) = rw (length-drop done from) least in
    let step = pass_in parts k past c.loop-part-test.true bytes (drop done from) c.loop-part.skip count c.if-not-part.false inside in_buffer
    least_left in
    let place : ℕ = place_of part.address + c.loop-part.skip in
    let rest : List ℕ = writable_places (drop (k + 1) parts) in
    let piece : done + count - done ≡ count = omega arith in
    let put : g.R.GuestRam.bytes c.write_buffer.new.ram ≡ written bytes place (take count (drop done from)) =
    c.write_buffer.ensures.value ∙ ap (λ n. written bytes place (take n (drop done from))) piece in
    record {
      within = omega (arith, least);
      size = c.write_buffer.ensures.size ∙ c.loop-part.invariant.size;
      fixed = c.write_buffer.ensures.fixed ∙ c.loop-part.invariant.fixed;
      same =
          ap (λ bs. put_at bs rest (drop (done + count) from)) put
          ∙ (ap (λ vs. put_at (written bytes place (take count (drop done from))) rest vs) (sym (drop-drop count done from))
          ∙ (step ∙ c.loop-part.invariant.same));
    }
