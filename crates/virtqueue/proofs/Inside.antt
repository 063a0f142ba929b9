use Rattle.std.proofs.Common.{
  ◌≡◌,
  ℕ,
  zero,
  suc,
  Bool,
  true,
  false,
  List,
  [],
  ◌∷◌,
  refl,
  subst,
  ◌||◌,
  ◌&&◌,
  not,
  if◌then◌else◌,
  ◌⊎◌,
  inl,
  inr,
  length,
  nat_lt,
  IsTrue,
}
use Rattle.std.specs.Prelude.{Result, Ok, Err}
use Rattle.virtqueue.specs.declared.rings.Queue.{Queue}
use Rattle.virtqueue.specs.declared.chains.Entry.{Entry}
use Rattle.virtqueue.specs.declared.chains.Descriptor.{Descriptor}
use Rattle.virtqueue.specs.declared.broken.Broken.{Broken}
use Rattle.virtqueue.specs.declared.broken.Broken.TheVariants.{BadIndex, Indirect, Outside, Order, Loop}
use Rattle.virtqueue.specs.Memory.{place_of}
use Rattle.virtqueue.specs.Chains.{
  ◌>>=◌,
  entry_at,
  sound_entry,
  spelled_from,
  goes_on,
  is_writable,
  is_indirect,
  buffer_inside,
  descriptor_of,
  BuffersInside,
}
use Rattle.virtqueue.specs.laws.Parts.{bind_ok}

chosen : {A : Type 0} (b : Bool) (x y z : A) → (if b then x else y) ≡ z → ((b ≡ true) × (x ≡ z)) ⊎ ((b ≡ false) × (y ≡ z))
chosen true x y z h = inl (refl, h)
chosen false x y z h = inr (refl, h)

-- a sound descriptor is the table's, and its buffer is inside
passed : (below indirect inside order : Bool) (e0 e : Entry) →
    (if below then (if indirect then Err Indirect else (if inside then (if order then Err Order else Ok e0) else Err Outside)) else Err
    BadIndex) ≡ Ok e →
    (inside ≡ true) × (e0 ≡ e)
passed true false true false e0 e h = (refl, cc)
passed true false true true e0 e h = let none : ⊥ = cc in absurd none
passed true false false order e0 e h = let none : ⊥ = cc in absurd none
passed true true inside order e0 e h = let none : ⊥ = cc in absurd none
passed false indirect inside order e0 e h = let none : ⊥ = cc in absurd none

sound_inside : (q : Queue) (bytes : List ℕ) (after : Bool) (i : ℕ) (e : Entry) → sound_entry q bytes after i ≡ Ok e →
    IsTrue (buffer_inside (length bytes) e.address e.len)
sound_inside q bytes after i e h =
    let e0 : Entry = entry_at bytes (place_of q.desc) i in
    let p : (buffer_inside (length bytes) e0.address e0.len ≡ true) × (e0 ≡ e) =
    passed (nat_lt i q.num) (is_indirect e0) (buffer_inside (length bytes) e0.address e0.len) (after && not (is_writable e0)) e0 e h in
    subst (λ (x : Entry). IsTrue (buffer_inside (length bytes) x.address x.len)) p.1 p.0

-- each buffer of a chain is inside
pub spelled_inside : (q : Queue) (bytes : List ℕ) (left : ℕ) (after : Bool) (i : ℕ) (ds : List Descriptor) →
    spelled_from q bytes left after i ≡ Ok ds → BuffersInside (length bytes) ds
spelled_inside q bytes zero after i ds h =
    let p = bind_ok (sound_entry q bytes after i) (λ e. Err Loop) ds h in
    let none : ⊥ = cc (p.2) in absurd none
spelled_inside q bytes (suc left) after i ds h =
    let next : Entry → Result (List Descriptor) Broken = λ e.
    if goes_on e then spelled_from q bytes left (after || is_writable e) e.next >>= (λ rest. Ok (descriptor_of e ∷ rest)) else Ok
    (descriptor_of e ∷ []) in
    let p = bind_ok (sound_entry q bytes after i) next ds h in
    let e : Entry = p.0 in
    let first = sound_inside q bytes after i e p.1 in
    elim (chosen (goes_on e) (spelled_from q bytes left (after || is_writable e) e.next >>= (λ rest. Ok (descriptor_of e ∷ rest)))
    (Ok (descriptor_of e ∷ [])) (Ok ds) p.2) [
      | inl w ↦
          (let r = bind_ok (spelled_from q bytes left (after || is_writable e) e.next) (λ rest. Ok (descriptor_of e ∷ rest)) ds w.1 in
          let whole : descriptor_of e ∷ r.0 ≡ ds = cc (r.2) in
          subst (BuffersInside (length bytes)) whole (first, spelled_inside q bytes left (after || is_writable e) e.next r.0 r.1))
      | inr w ↦
          (let whole : descriptor_of e ∷ [] ≡ ds = cc (w.1) in
          subst (BuffersInside (length bytes)) whole (first, tt))
    ]
