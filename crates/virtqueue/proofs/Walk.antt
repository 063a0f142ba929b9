use Rattle.std.proofs.Common.{
  ◌≡◌,
  ℕ,
  zero,
  suc,
  Bool,
  true,
  false,
  List,
  arith,
  bit_and,
  [],
  ◌∷◌,
  ◌++◌,
  refl,
  sym,
  ap,
  ◌∙◌,
  ◌||◌,
  append_assoc,
  if◌then◌else◌,
}
use Rattle.std.specs.Prelude.{Result, Ok, Err}
use Rattle.virtqueue.specs.declared.rings.Queue.{Queue}
use Rattle.virtqueue.specs.declared.chains.Entry.{Entry}
use Rattle.virtqueue.specs.declared.chains.Descriptor.{Descriptor}
use Rattle.virtqueue.specs.declared.broken.Broken.{Broken}
use Rattle.virtqueue.specs.declared.broken.Broken.TheVariants.{Loop}
use Rattle.virtqueue.specs.Chains.{◌>>=◌, sound_entry, spelled_from, goes_on, is_writable, descriptor_of}

-- what stands in front of the rest of a chain
abbrev pub behind : List Descriptor → Result (List Descriptor) Broken → Result (List Descriptor) Broken
behind front rest = rest >>= (λ ds. Ok (front ++ ds))

after_entry : (q : Queue) → List ℕ → ℕ → Bool → Entry → Result (List Descriptor) Broken
after_entry q bytes left after e =
    if goes_on e then spelled_from q bytes left (after || is_writable e) e.next >>= (λ rest. Ok (descriptor_of e ∷ rest))
    else Ok (descriptor_of e ∷ [])

unrolled : (q : Queue) (bytes : List ℕ) (left : ℕ) (after : Bool) (i : ℕ) (e : Entry) →
    sound_entry q bytes after i ≡ Ok e → spelled_from q bytes (suc left) after i ≡ after_entry q bytes left after e
unfolding after_entry
unrolled q bytes left after i e h = ap (λ r. r >>= after_entry q bytes left after) h

after_more : (q : Queue) (bytes : List ℕ) (left : ℕ) (after : Bool) (e : Entry) → goes_on e ≡ true →
    after_entry q bytes left after e ≡ spelled_from q bytes left (after || is_writable e) e.next >>= (λ rest. Ok (descriptor_of e ∷ rest))
unfolding after_entry
after_more q bytes left after e more =
    ap (λ b. if b then spelled_from q bytes left (after || is_writable e) e.next >>= (λ rest. Ok (descriptor_of e ∷ rest)) else Ok
    (descriptor_of e ∷ [])) more

after_last : (q : Queue) (bytes : List ℕ) (left : ℕ) (after : Bool) (e : Entry) → goes_on e ≡ false →
    after_entry q bytes left after e ≡ Ok (descriptor_of e ∷ [])
unfolding after_entry
after_last q bytes left after e last =
    ap (λ b. if b then spelled_from q bytes left (after || is_writable e) e.next >>= (λ rest. Ok (descriptor_of e ∷ rest)) else Ok
    (descriptor_of e ∷ [])) last

behind_cons : (front : List Descriptor) (d : Descriptor) (rest : Result (List Descriptor) Broken) →
    behind front (rest >>= (λ ds. Ok (d ∷ ds))) ≡ behind (front ++ d ∷ []) rest
behind_cons front d (Ok ds) = ap Ok (sym (append_assoc front (d ∷ []) ds))
behind_cons front d (Err b) = refl

module _ (q : Queue) (bytes : List ℕ) (front : List Descriptor) (after : Bool) (i : ℕ) where
  -- a sound descriptor that goes on is put behind the front
  pub walk_goes_on : (m left : ℕ) (e : Entry) → m ≡ suc left → Ok e ≡ sound_entry q bytes after i → goes_on e ≡ true →
      behind (front ++ descriptor_of e ∷ []) (spelled_from q bytes left (after || is_writable e) e.next)
      ≡ behind front (spelled_from q bytes m after i)
  walk_goes_on m left e count h more =
      sym (ap (λ k. behind front (spelled_from q bytes k after i)) count
      ∙ (ap (behind front) (unrolled q bytes left after i e (sym h) ∙ after_more q bytes left after e more)
      ∙ behind_cons front (descriptor_of e) (spelled_from q bytes left (after || is_writable e) e.next)))

  -- a sound descriptor that doesn't go on is the last
  pub walk_ends : (m left : ℕ) (e : Entry) → m ≡ suc left → Ok e ≡ sound_entry q bytes after i → goes_on e ≡ false →
      Ok (front ++ descriptor_of e ∷ []) ≡ behind front (spelled_from q bytes m after i)
  walk_ends m left e count h more =
      sym (ap (λ k. behind front (spelled_from q bytes k after i)) count
      ∙ ap (behind front) (unrolled q bytes left after i e (sym h) ∙ after_last q bytes left after e more))

  -- the first malformation is the answer
  pub walk_breaks : (m : ℕ) (b : Broken) → Err b ≡ sound_entry q bytes after i → Err b ≡ behind front (spelled_from q bytes m after i)
  unfolding after_entry
  walk_breaks zero b h = ap (λ r. behind front (r >>= (λ e. Err Loop))) h
  walk_breaks (suc left) b h = ap (λ r. behind front (r >>= after_entry q bytes left after)) h

  -- one descriptor more than there may be is a loop
  pub walk_loops : (m : ℕ) (e : Entry) → m ≡ zero → Ok e ≡ sound_entry q bytes after i →
      Err Loop ≡ behind front (spelled_from q bytes m after i)
  walk_loops m e count h =
      ap (λ r. behind front (r >>= (λ d. Err Loop))) h ∙ sym (ap (λ k. behind front (spelled_from q bytes k after i)) count)

pub goes_on_true : (e : Entry) → bit_and e.flags 1 ≡ 1 → goes_on e ≡ true
goes_on_true e h = grind arith

pub goes_on_false : (e : Entry) → (bit_and e.flags 1 ≡ 1 → ⊥) → goes_on e ≡ false
goes_on_false e h = grind arith
