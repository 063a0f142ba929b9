-- What follows from each text's being read whole: at its last byte, as one checkpoint, and as no other's beginning.
use Rattle.std.proofs.{lemmas.List.nil_from_length, Common.{◌≡◌, ◌≢◌, ℕ, suc, ◌+◌, ◌≤◌, List, [], ◌∷◌, ◌++◌, length, Bool, true, false}}
use Rattle.std.proofs.Common.{refl, sym, ◌∙◌, ap, subst, arith, length-append, if◌then◌else◌}
use Rattle.guest_rules.specs.declared.shapes.Shape.{Shape}
use Rattle.epoch_snapshot.specs.Checkpoints.{Change, IsCanonical}
use Rattle.checkpoint_stream.specs.{declared.place.Place.TheVariants.{Whole, Failed}, Readings.{Reading, begun, is_closed, fed_byte, fed}}
use Rattle.checkpoint_stream.specs.Readings.{taken}
use Rattle.checkpoint_stream.specs.Sound.{change_in}
use Rattle.checkpoint_stream.specs.Taken.{Takes}
use Rattle.checkpoint_stream.specs.Text.{text}
use Rattle.checkpoint_stream.specs.Widths.{HasWidths}
use Rattle.checkpoint_stream.specs.laws.Feeding.{fed-append}
use Rattle.checkpoint_stream.specs.laws.Feeding.{fed-closed, taken-closed}
use Rattle.checkpoint_stream.proofs.Feeding.{fed-done, taken-done}
use Rattle.checkpoint_stream.proofs.TextRead.{whole, text-taken, whole-change}

-- no more is taken than what closed the reading
taken-front : (r : Reading) (xs ys : List ℕ) → is_closed (fed r xs).place ≡ true → taken r (xs ++ ys) ≤ length xs
unfolding taken fed
taken-front r [] ys closed = omega (arith, taken-closed r ys closed)
taken-front r (x ∷ xs) ys closed =
    elim (is_closed r.place) as (λ (c : Bool). (if c then 0 else 1 + taken (fed_byte r x) (xs ++ ys)) ≤ suc (length xs)) [
      | true ↦ omega arith
      | false ↦ omega (arith, taken-front (fed_byte r x) xs ys closed)
    ]

pub every-byte : (c : Change) (offset : ℕ) (front rest : List ℕ) → IsCanonical c → HasWidths c → text c ≡ front ++ rest →
    is_closed (fed (begun c.shape offset) front).place ≡ true → rest ≡ []
every-byte c offset front rest h w spelled closed =
    let t : (p : ℕ) × Takes (begun c.shape offset) (text c) (whole c p) = text-taken c offset h w in
    let all : taken (begun c.shape offset) (front ++ rest) ≡ length (front ++ rest)
    = subst (λ (l : List ℕ). taken (begun c.shape offset) l ≡ length l) spelled (t.1.count) in
    nil_from_length rest (omega (arith, all, taken-front (begun c.shape offset) front rest closed, length-append front rest))

place-fed : (c : Change) (offset : ℕ) → IsCanonical c → HasWidths c → (fed (begun c.shape offset) (text c)).place ≡ Whole
place-fed c offset h w = ap (λ (r : Reading). r.place) ((text-taken c offset h w).1.reading)

pub never-a-text : (c : Change) (offset at : ℕ) (bytes more : List ℕ) → IsCanonical c → HasWidths c →
    (fed (begun c.shape offset) bytes).place ≡ Failed at → text c ≢ bytes ++ more
never-a-text c offset at bytes more h w fails = λ (spelled : text c ≡ bytes ++ more).
    let r : Reading = fed (begun c.shape offset) bytes in
    let closed : is_closed r.place ≡ true = ap is_closed fails in
    let stays : fed (begun c.shape offset) (text c) ≡ r
    = ap (fed (begun c.shape offset)) spelled ∙ fed-append (begun c.shape offset) bytes more ∙ fed-closed r more closed in
    let both : Failed at ≡ Whole = sym fails ∙ sym (ap (λ (s : Reading). s.place) stays) ∙ place-fed c offset h w in
    cc

pub no-beginning : (c d : Change) (more : List ℕ) → IsCanonical c → HasWidths c → IsCanonical d → HasWidths d →
    c.shape ≡ d.shape → text c ++ more ≡ text d → (c ≡ d) × (more ≡ [])
no-beginning c d more h w k v shape same =
    let t : (p : ℕ) × Takes (begun c.shape 0) (text c) (whole c p) = text-taken c 0 h w in
    let u : (p : ℕ) × Takes (begun d.shape 0) (text d) (whole d p) = text-taken d 0 k v in
    let read : fed (begun c.shape 0) (text c ++ more) ≡ whole c t.0 = fed-done _ _ (text c) more t.1 refl in
    let count : taken (begun c.shape 0) (text c ++ more) ≡ length (text c) = taken-done _ _ (text c) more t.1 refl in
    let other : fed (begun c.shape 0) (text d) ≡ whole d u.0
    = subst (λ (s : Shape). fed (begun s 0) (text d) ≡ whole d u.0) (sym shape) (u.1.reading) in
    let other_count : taken (begun c.shape 0) (text d) ≡ length (text d)
    = subst (λ (s : Shape). taken (begun s 0) (text d) ≡ length (text d)) (sym shape) (u.1.count) in
    let together : whole c t.0 ≡ whole d u.0 = sym read ∙ ap (fed (begun c.shape 0)) same ∙ other in
    let counts : length (text c) ≡ length (text c ++ more)
    = sym count ∙ ap (taken (begun c.shape 0)) same ∙ other_count ∙ ap length (sym same) in (
      sym (whole-change c t.0 h w) ∙ ap change_in together ∙ whole-change d u.0 k v,
      nil_from_length more (omega (arith, counts, length-append (text c) more)),
    )
