-- Units that lead from one reading to another, wherever in the stream.
use Rattle.std.proofs.Common.{◌≡◌, ℕ, ◌+◌, ◌%◌, ◌<◌, ◌^◌, List, [], ◌∷◌, ◌++◌, length, Bool, true, false, refl, sym, ◌∙◌, ap, subst}
use Rattle.guest_rules.specs.declared.shapes.Shape.{Shape}
use Rattle.checkpoint_stream.specs.{declared.place.Place.Place, Readings.{Reading, is_closed, width_of, judged, moved_if}}
use Rattle.checkpoint_stream.specs.{declared.rules.Width.TheVariants.Four, HeadTable.{bytes_of, number_spelled}}
use Rattle.checkpoint_stream.specs.{Units.{judged_all, AreUnits}}
use Rattle.checkpoint_stream.proofs.Numbers.{number-back, length-bytes_of, some-bytes}

-- a reading at the start of a unit, at this offset
abbrev pub at : Reading → ℕ → Reading
at r o = record r { offset = o; partial = [] }

-- a reading of numbers of the head, before the records
abbrev pub standing : Shape → Place → ℕ → List ℕ → ℕ → Reading
standing shape place known head before = record {
  shape = shape;
  offset = 0;
  place = place;
  known = known;
  head = head;
  before = before;
  pages = [];
  blocks = [];
  sectors = [];
  frames = [];
  partial = [];
}

-- from the one reading, at whatever offset, these are units, and with them it is the other, at some offset
pub record Leads (from : Reading) (units : List (List ℕ)) (to : Reading) : Type 0 where
  pub are : (o : ℕ) → AreUnits (at from o) units
  pub lead : (o : ℕ) → (p : ℕ) × (judged_all (at from o) units ≡ at to p)

judged_all-append : (r : Reading) (us vs : List (List ℕ)) → judged_all r (us ++ vs) ≡ judged_all (judged_all r us) vs
judged_all-append r [] vs = refl
judged_all-append r (u ∷ us) vs = judged_all-append (judged r u) us vs

AreUnits-append : (r : Reading) (us vs : List (List ℕ)) → AreUnits r us → AreUnits (judged_all r us) vs → AreUnits r (us ++ vs)
AreUnits-append r [] vs a b = b
AreUnits-append r (u ∷ us) vs a b = (a.0, a.1, a.2, a.3, AreUnits-append (judged r u) us vs a.4 b)

pub Leads-append : (from mid to : Reading) (us vs : List (List ℕ)) → Leads from us mid → Leads mid vs to → Leads from (us ++ vs) to
Leads-append from mid to us vs front back = record {
  are = λ o. AreUnits-append (at from o) us vs (front.are o)
      (subst (λ (r : Reading). AreUnits r vs) (sym ((front.lead o).1)) (back.are ((front.lead o).0)));
  lead = λ o. (
    (back.lead ((front.lead o).0)).0,
    judged_all-append (at from o) us vs
        ∙ ap (λ (r : Reading). judged_all r vs) ((front.lead o).1) ∙ (back.lead ((front.lead o).0)).1,
  );
}

pub Leads-unit : (from to : Reading) (unit : List ℕ) → is_closed from.place ≡ false → 0 < length unit → length unit ≡ width_of from →
    ((o : ℕ) → (p : ℕ) × (judged (at from o) unit ≡ at to p)) → Leads from (unit ∷ []) to
Leads-unit from to unit going some wide judges = record {
  are = λ o. (going, refl, some, wide, tt);
  lead = judges;
}

pub Leads-none : (from : Reading) → Leads from [] from
Leads-none from = record { are = λ o. tt; lead = λ o. (o, refl) }

-- a count, an index or a length that keeps its rule
pub Leads-number : (r : Reading) (n : ℕ) (rule : ℕ → Bool) (next : ℕ → Place) → is_closed r.place ≡ false → width_of r ≡ 4 →
    ((o : ℕ) → judged (at r o) (bytes_of Four n)
    ≡ moved_if (rule (number_spelled Four (bytes_of Four n))) (at r o) (next (number_spelled Four (bytes_of Four n)))) →
    n < 2 ^ 32 → rule n ≡ true → Leads r (bytes_of Four n ∷ []) (record r { place = next n })
unfolding moved_if
Leads-number r n rule next going wide judges small keeps =
    Leads-unit r (record r { place = next n }) (bytes_of Four n) going (some-bytes Four n) (length-bytes_of Four n ∙ sym wide)
    (λ o. (
      (o + 4) % 2 ^ 64,
      judges o ∙ ap (λ (m : ℕ). moved_if (rule m) (at r o) (next m)) (number-back Four n small)
          ∙ ap (λ (b : Bool). moved_if b (at r o) (next n)) keeps,
    ))
