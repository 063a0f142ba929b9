-- What comes of a text, in whatever pieces, is the beginning of it; and where it is whole it reads as the text does.
use Rattle.std.proofs.Common.{◌≡◌, ℕ, List, [], ◌++◌, refl, sym, ap, ◌∙◌, inl, inr, ⊎_elim, true}
use Rattle.std.specs.Prelude.{◌⊎◌}
use Rattle.guest_rules.specs.declared.shapes.Shape.{Shape}
use Rattle.checkpoint_stream.specs.{Sound.change_in, declared.place.Place.{TheVariants.Whole}}
use Rattle.checkpoint_stream.specs.Readings.{Reading, begun, fed, is_closed}
use Rattle.checkpoint_stream.specs.laws.Feeding.{fed-append, fed-closed}
use Rattle.pair_core.specs.Nodes.{read_as}
use Rattle.pair_nodes.specs.Runs.{Begin}
use Rattle.pair_nodes.proofs.Places.{place-stays}

pub fed-none : (r : Reading) → fed r [] ≡ r
unfolding fed
fed-none r = refl

pub still-coming : (came : List ℕ) (texts more : List (List ℕ)) → (came ≡ []) ⊎ Begin came texts → (came ≡ []) ⊎ Begin came (texts ++ more)
still-coming came texts more c = ⊎_elim
    (λ (e : came ≡ []). inl e)
    (λ (b : Begin came texts). inr (b.0, b.1, (b.2.0, place-stays texts more b.2.0 b.0 b.2.1), b.3))
    c

-- what stands whole after the first bytes of a text is the text's checkpoint
pub whole-reads : (shape : Shape) (came : List ℕ) (texts : List (List ℕ)) (b : Begin came texts)
    → (fed (begun shape 0) came).place ≡ Whole → change_in (fed (begun shape 0) came) ≡ read_as shape b.0
whole-reads shape came texts b whole =
    let r = fed (begun shape 0) came in
    let closed : is_closed r.place ≡ true = ap is_closed whole in
    sym (ap (λ t. change_in (fed (begun shape 0) t)) b.3 ∙ ap change_in (fed-append (begun shape 0) came b.1 ∙ fed-closed r b.1 closed))

not-whole : (shape : Shape) → (begun shape 0).place ≡ Whole → ⊥
not-whole shape e = cc

-- so something has come of one
pub some-came : (shape : Shape) (came : List ℕ) (texts : List (List ℕ)) → (came ≡ []) ⊎ Begin came texts
    → (fed (begun shape 0) came).place ≡ Whole → Begin came texts
some-came shape came texts c whole = ⊎_elim
    (λ (e : came ≡ []).
    let none = ap (λ (r : Reading). r.place) (sym (fed-none (begun shape 0)) ∙ ap (fed (begun shape 0)) (sym e)) in
    absurd (not-whole shape (none ∙ whole)))
    (λ (b : Begin came texts). b)
    c
