-- What came since a checkpoint was begun, and that a whole one is what its own text reads as.
use Rattle.std.proofs.Common.{◌≡◌, ℕ, ◌<◌, List, [], ◌∷◌, ◌++◌, Bool, true, false, refl, sym, ap, ◌∙◌, take}
use Rattle.std.proofs.lemmas.List.Elements.{All-nil, All-append}
use Rattle.std.specs.Prelude.{All}
use Rattle.guest_rules.specs.declared.shapes.Shape.{Shape}
use Rattle.epoch_snapshot.specs.Checkpoints.{Change}
use Rattle.checkpoint_stream.specs.laws.Feeding.{fed-append, fed-closed, taken-closed, taken-byte}
use Rattle.checkpoint_stream.specs.declared.place.Place.TheVariants.{Whole}
use Rattle.checkpoint_stream.specs.Readings.{Reading, begun, fed_byte, fed, taken, is_closed}
use Rattle.checkpoint_stream.specs.{Sound.change_in, Text.text}
use Rattle.pair_book.specs.Commits.{WasRead}
use Rattle.hypervisor.specs.Backups.{ReadsOn}
use Rattle.hypervisor.proofs.ReadShapes.{fed_shape, change_shape}

abbrev IsByte : ℕ → Type 0
IsByte b = b < 256

-- what is taken of bytes is all that counts of them
fed-taken : (r : Reading) (xs : List ℕ) → fed r (take (taken r xs) xs) ≡ fed r xs
unfolding fed taken
fed-taken r [] = refl
fed-taken r (x ∷ xs) = by_test (is_closed r.place) refl (fed-taken (fed_byte r x) xs)
  where
    by_test : (t : Bool) → is_closed r.place ≡ t → fed (fed_byte r x) (take (taken (fed_byte r x) xs) xs) ≡ fed (fed_byte r x) xs
        → fed r (take (taken r (x ∷ xs)) (x ∷ xs)) ≡ fed r (x ∷ xs)
    by_test true closed rest = rw (taken-closed r (x ∷ xs) closed) (sym (fed-closed r (x ∷ xs) closed))
    by_test false going rest = rw (taken-byte r x xs going) rest

-- nothing came yet
pub nothing-came : (shape : Shape) (offset : ℕ) → ReadsOn (begun shape offset)
unfolding fed
nothing-came shape offset = record { offset = offset; came = []; bytes = All-nil IsByte; is = refl }

pub more-came : (r now : Reading) (piece : List ℕ) → All (λ b. b < 256) piece → ReadsOn r → now ≡ fed r piece → ReadsOn now
more-came r now piece bytes on is = record {
  offset = on.offset;
  came = on.came ++ piece;
  bytes = All-append IsByte on.came piece on.bytes bytes;
  is =
      let shape : now.shape ≡ r.shape = ap (λ (x : Reading). x.shape) is ∙ fed_shape r piece in
      is
      ∙ ap (λ (x : Reading). fed x piece) on.is
      ∙ sym (fed-append (begun r.shape on.offset) on.came piece)
      ∙ ap (λ (s : Shape). fed (begun s on.offset) (on.came ++ piece)) (sym shape);
}

-- what is read whole is the text of what it gives
abbrev pub TextLaw : Type 0
TextLaw = (shape : Shape) (offset : ℕ) (bytes : List ℕ) → All (λ b. b < 256) bytes → (fed (begun shape offset) bytes).place ≡ Whole
    → take (taken (begun shape offset) bytes) bytes ≡ text (change_in (fed (begun shape offset) bytes))

pub whole-was-read : (r : Reading) (c : Change) → TextLaw → ReadsOn r → r.place ≡ Whole → c ≡ change_in r → WasRead c
whole-was-read r c law on whole is =
    let start = begun r.shape on.offset in
    let there : (fed start on.came).place ≡ Whole = ap (λ (x : Reading). x.place) (sym on.is) ∙ whole in
    let shape : c.shape ≡ r.shape = ap (λ (d : Change). d.shape) is ∙ change_shape r in
    let bytes : text c ≡ take (taken start on.came) on.came =
    ap text (is ∙ ap change_in on.is) ∙ sym (law r.shape on.offset on.came on.bytes there) in (
      on.offset,
      ap (λ (s : Shape). change_in (fed (begun s on.offset) (text c))) shape
          ∙ ap (λ (xs : List ℕ). change_in (fed start xs)) bytes
          ∙ ap change_in (fed-taken start on.came ∙ sym on.is)
          ∙ sym is,
    )
