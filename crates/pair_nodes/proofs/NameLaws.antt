-- Each text that was sent has a name of its own, and while its checkpoint is pending it is the one that the primary keeps.
use Rattle.std.proofs.Common.{◌≡◌, ℕ, ◌+◌, ◌-◌, ◌≤◌, List, [], ◌∷◌, ◌++◌, drop, refl, sym, ap, ◌∙◌, subst, arith, Some}
use Rattle.std.specs.Prelude.{slice_get}
use Rattle.epoch_snapshot.specs.Checkpoints.{Change}
use Rattle.guest_rules.specs.declared.shapes.Shape.{Shape}
use Rattle.pair_record.specs.declared.event.Packet.{Packet}
use Rattle.pair_core.specs.Lines.{packet}
use Rattle.pair_nodes.specs.Matching.{HaveNames, IsNumbered}
use Rattle.pair_nodes.specs.Names.{name_of}
use Rattle.pair_nodes.proofs.{Places.{place-stays, place-split, place-dropped}, Series.numbered-reads}

module _ (shape : Shape) where
  pub name-is : (g n : ℕ) (t : List ℕ) → IsNumbered shape g n t → name_of shape t ≡ packet g n
  name-is g n t x =
      let e = numbered-reads shape g n t x in
      let generation = ap (λ (c : Change). c.generation) e ∙ x.of_generation in
      let number = ap (λ (c : Change). c.number) e ∙ x.of_number in
      λ i. packet (generation i) (number i)

  -- so a text has one
  pub one-generation : (g n h m : ℕ) (t : List ℕ) → IsNumbered shape g n t → IsNumbered shape h m t → g ≡ h
  one-generation g n h m t x y = ap (λ (p : Packet). p.generation) (sym (name-is g n t x) ∙ name-is h m t y)

  pub one-number : (g n h m : ℕ) (t : List ℕ) → IsNumbered shape g n t → IsNumbered shape h m t → n ≡ m
  one-number g n h m t x y = ap (λ (p : Packet). p.number) (sym (name-is g n t x) ∙ name-is h m t y)

module _ (shape : Shape) (g first : ℕ) (kept texts : List (List ℕ)) (h : HaveNames shape g first kept texts) where
  -- one more is kept
  pub names-kept : (text : List ℕ) → HaveNames shape g first (kept ++ text ∷ []) texts
  names-kept text = record {
    held = λ k n t is x low. place-stays kept (text ∷ []) (n - first) t (h.held k n t is x low);
    one = h.one;
  }

  -- the first ones are let go of
  pub names-gone : (gone : ℕ) → HaveNames shape g (first + gone) (drop gone kept) texts
  names-gone gone = record {
    held = λ k n t is x low.
        let there : gone + (n - (first + gone)) ≡ n - first = omega arith in
        place-dropped gone kept (n - (first + gone)) ∙ ap (slice_get kept) there ∙ h.held k n t is x (omega arith);
    one = h.one;
  }

  -- others are kept, of which none was sent
  pub names-new : (g' first' : ℕ) (kept' : List (List ℕ))
      → ((k n : ℕ) (t : List ℕ) → slice_get texts k ≡ Some t → IsNumbered shape g' n t → first' ≤ n → ⊥)
      → HaveNames shape g' first' kept' texts
  names-new g' first' kept' none = record { held = λ k n t is x low. absurd (none k n t is x low); one = h.one }

  -- a kept one is sent
  module _ (known : (k : ℕ) (t : List ℕ) → slice_get texts k ≡ Some t → (g' : ℕ) × (n : ℕ) × IsNumbered shape g' n t)
      (place : ℕ) (new : List ℕ) (there : slice_get kept place ≡ Some new) (is_new : IsNumbered shape g (first + place) new) where
    same-text : (a b : List ℕ) → Some a ≡ Some b → a ≡ b
    same-text a b e = cc

    -- one of its name that was sent is it
    old-is-new : (k : ℕ) (a : List ℕ) → slice_get texts k ≡ Some a → name_of shape a ≡ name_of shape new → a ≡ new
    old-is-new k a is e =
        let x = known k a is in
        let name = sym (name-is shape x.0 x.1 a x.2) ∙ e ∙ name-is shape g (first + place) new is_new in
        let generation = ap (λ (p : Packet). p.generation) name in
        let number = ap (λ (p : Packet). p.number) name in
        let named : IsNumbered shape g (first + place) a =
        subst (λ m. IsNumbered shape g m a) number (subst (λ d. IsNumbered shape d x.1 a) generation x.2) in
        let at : (first + place) - first ≡ place = omega arith in
        same-text a new (sym (h.held k (first + place) a is named (omega arith)) ∙ ap (slice_get kept) at ∙ there)

    one-of : (a b : List ℕ) (j k : ℕ) → slice_get (texts ++ new ∷ []) j ≡ Some a → slice_get (texts ++ new ∷ []) k ≡ Some b
        → name_of shape a ≡ name_of shape b → a ≡ b
    one-of a b j k at_a at_b =
        place-split texts new j a (λ x. name_of shape x ≡ name_of shape b → x ≡ b)
        (λ i old. place-split texts new k b (λ y. name_of shape a ≡ name_of shape y → a ≡ y)
        (λ l older e. h.one a b (i, old) (l, older) e)
        (λ e. old-is-new i a old e) at_b)
        (place-split texts new k b (λ y. name_of shape new ≡ name_of shape y → new ≡ y)
        (λ l older e. sym (old-is-new l b older (sym e)))
        (λ e. refl) at_b) at_a

    pub names-sent : HaveNames shape g first kept (texts ++ new ∷ [])
    names-sent = record {
      held = λ k n t is.
          place-split texts new k t (λ u. IsNumbered shape g n u → first ≤ n → slice_get kept (n - first) ≡ Some u)
          (λ j old x low. h.held j n t old x low)
          (λ x low.
          let number = one-number shape g n g (first + place) new x is_new in
          let at : n - first ≡ place = omega arith in
          ap (slice_get kept) at ∙ there) is;
      one = λ a b at_a at_b e. one-of a b at_a.0 at_b.0 at_a.1 at_b.1 e;
    }
