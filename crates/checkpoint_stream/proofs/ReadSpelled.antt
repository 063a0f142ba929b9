-- What is read whole is the text of what it gives.
use Rattle.std.proofs.Common.{◌≡◌, ℕ, ◌+◌, ◌<◌, ◌==◌, List, [], ◌∷◌, ◌++◌, length, take, Bool, true, false, All, refl, sym, ◌∙◌, ap}
use Rattle.std.proofs.Common.{subst, append_assoc, if◌then◌else◌, length-append}
use Rattle.std.proofs.{Math.Seq.drop-length, lemmas.{List.Elements.{All-head, All-tail, All-push, All-nil}}}
use Rattle.guest_rules.specs.declared.shapes.Shape.{Shape}
use Rattle.checkpoint_stream.specs.declared.place.Place.{Place, TheVariants.Whole}
use Rattle.checkpoint_stream.specs.{HeadTable.head_table, Readings.{Reading, begun, is_closed, width_of, judged, fed_byte, fed, taken}}
use Rattle.checkpoint_stream.specs.Sound.{IsSound, HasRecords, StandsAt, change_in}
use Rattle.checkpoint_stream.specs.Text.{head_numbers, joined, number_units, page_units, sector_units, units_of_frames, units, text}
use Rattle.checkpoint_stream.specs.{HeadTable.bytes_of, Taken.Extends}
use Rattle.checkpoint_stream.specs.{laws.{Feeding.{fed-closed, taken-byte, taken-closed}, Extending.{Extends-itself, fed-extends}}}
use Rattle.checkpoint_stream.specs.declared.rules.Width.TheVariants.{Four}
use Rattle.checkpoint_stream.proofs.{Begun.judged-begun, Numbers.{IsByte, eq-true}, Soundness.{fed_byte-sound, fed-sound, begun-sound}}
use Rattle.checkpoint_stream.proofs.{HeadBack.head-kept}
use Rattle.checkpoint_stream.proofs.ToCome.{to_come, LeftAt, IsFirst, Left, left_of, ending, after_head, judged_at-first}

-- bytes of the unit that has begun, and none where nothing more is taken
record HasBegun (r : Reading) : Type 0 where
  bytes : All IsByte r.partial
  closed : is_closed r.place ≡ true → r.partial ≡ []

still-begun : (r : Reading) (b : ℕ) → HasBegun r → b < 256 → is_closed r.place ≡ false → HasBegun (fed_byte r b)
unfolding fed_byte
still-begun r b h small going =
    rw going (elim (length r.partial + 1 == width_of r) as (λ (full : Bool).
    HasBegun (if full then judged r (r.partial ++ b ∷ []) else record r { partial = r.partial ++ b ∷ [] })) [
      | true ↦ record {
        bytes = subst (All IsByte) (sym (judged-begun r (r.partial ++ b ∷ []) going)) (All-nil IsByte);
        closed = λ _. judged-begun r (r.partial ++ b ∷ []) going;
      }
      | false ↦ record { bytes = All-push IsByte r.partial b h.bytes small; closed = λ (e : is_closed r.place ≡ true). cc }
    ])

-- these bytes are what came from a reading on, up to the whole one
record IsRest (r f : Reading) (bytes : List ℕ) : Type 0 where
  left : LeftAt r.place (left_of r f)
  spells : r.partial ++ bytes ≡ joined (to_come r.place (left_of r f))

whole-rest : (r : Reading) → HasBegun r → r.place ≡ Whole → IsRest r r []
unfolding joined
whole-rest r h e = record {
  left = subst (λ (p : Place). LeftAt p (left_of r r)) (sym e) (drop-length r.pages, drop-length r.sectors, drop-length r.frames);
  spells = ap (λ (l : List ℕ). l ++ []) (h.closed (ap is_closed e)) ∙ ap (λ (p : Place). joined (to_come p (left_of r r))) (sym e);
}

byte-rest : (r f : Reading) (b : ℕ) (rest : List ℕ) → IsSound r → HasBegun r → b < 256 → is_closed r.place ≡ false →
    Extends r f → Extends (fed_byte r b) f → IsRest (fed_byte r b) f rest → IsRest r f (b ∷ rest)
unfolding fed_byte judged joined
byte-rest r f b rest sound started small going from extends h =
    elim (length r.partial + 1 == width_of r) as (λ (full : Bool). (length r.partial + 1 == width_of r) ≡ full →
    Extends (if full then judged r (r.partial ++ b ∷ []) else record r { partial = r.partial ++ b ∷ [] }) f →
    IsRest (if full then judged r (r.partial ++ b ∷ []) else record r { partial = r.partial ++ b ∷ [] }) f rest → IsRest r f (b ∷ rest)) [
      | true ↦ λ full extends h.
          let unit : List ℕ = r.partial ++ b ∷ [] in
          let first : IsFirst r.place r (judged r unit) f unit
          = judged_at-first r.place r f unit going sound.head sound.place (All-push IsByte r.partial b started.bytes small)
          (length-append r.partial (b ∷ []) ∙ eq-true _ _ full) from.head extends h.left in
          record {
            left = first.left;
            spells = sym (append_assoc r.partial (b ∷ []) rest) ∙ ap (λ (l : List ℕ). unit ++ l)
                (ap (λ (l : List ℕ). l ++ rest) (sym (judged-begun r unit going)) ∙ h.spells) ∙ sym (ap joined first.units);
          }
      | false ↦ λ full extends h. record {
        left = h.left;
        spells = sym (append_assoc r.partial (b ∷ []) rest) ∙ h.spells;
      }
    ] refl (rw going at extends) (rw going at h)

fed-rest : (r : Reading) (bytes : List ℕ) → IsSound r → HasBegun r → All IsByte bytes → (fed r bytes).place ≡ Whole →
    IsRest r (fed r bytes) (take (taken r bytes) bytes)
unfolding fed taken
fed-rest r [] sound begun all e = whole-rest r begun e
fed-rest r (b ∷ bs) sound begun all e =
    elim (is_closed r.place) as (λ (c : Bool). is_closed r.place ≡ c → IsRest r (fed r (b ∷ bs)) (take (taken r (b ∷ bs)) (b ∷ bs))) [
      | true ↦ λ (closed : is_closed r.place ≡ true).
          let same : fed r (b ∷ bs) ≡ r = fed-closed r (b ∷ bs) closed in
          subst (λ (n : ℕ). IsRest r (fed r (b ∷ bs)) (take n (b ∷ bs))) (sym (taken-closed r (b ∷ bs) closed))
          (subst (λ (s : Reading). IsRest r s []) (sym same) (whole-rest r begun (sym (ap (λ (s : Reading). s.place) same) ∙ e)))
      | false ↦ λ (going : is_closed r.place ≡ false).
          let small : b < 256 = All-head IsByte b bs all in
          subst (λ (n : ℕ). IsRest r (fed (fed_byte r b) bs) (take n (b ∷ bs))) (sym (taken-byte r b bs going))
          (byte-rest r (fed (fed_byte r b) bs) b (take (taken (fed_byte r b) bs) bs) sound begun small going
          (fed-extends r r (b ∷ bs) (Extends-itself r)) (fed-extends (fed_byte r b) (fed_byte r b) bs (Extends-itself (fed_byte r b)))
          (fed-rest (fed_byte r b) bs (fed_byte-sound r b sound) (still-begun r b begun small going) (All-tail IsByte b bs all) e))
    ] refl

-- what follows the sector records, by the first number
ending-units : (l : Left) (new : Bool) → ending new l ≡ units_of_frames (if new then 2 else 1) l.frames
ending-units l true = refl
ending-units l false = refl

pub read-is-text : (shape : Shape) (offset : ℕ) (bytes : List ℕ) → All IsByte bytes → (fed (begun shape offset) bytes).place ≡ Whole →
    take (taken (begun shape offset) bytes) bytes ≡ text (change_in (fed (begun shape offset) bytes))
unfolding text units change_in
read-is-text shape offset bytes all e =
    let r : Reading = begun shape offset in
    let f : Reading = fed r bytes in
    let l : Left = left_of r f in
    let h : IsRest r f (take (taken r bytes) bytes)
    = fed-rest r bytes (begun-sound shape offset) (record { bytes = All-nil IsByte; closed = λ (e : false ≡ true). cc }) all e in
    let sound : IsSound f = fed-sound r bytes (begun-sound shape offset) in
    let records : HasRecords f f.shape.pages 0 f.shape.sectors = subst (λ (p : Place). StandsAt p f) e sound.place in
    h.spells
    ∙ ap (λ (ns : List ℕ). joined (number_units head_table ns ++ after_head l)) (sym (head-kept f sound.head records.known h.left))
    ∙ ap (λ (us : List (List ℕ)). joined (number_units head_table (head_numbers (change_in f))
    ++ ((bytes_of Four (length f.pages) ∷ page_units f.pages f.blocks)
    ++ ((bytes_of Four (length f.sectors) ∷ sector_units f.sectors) ++ us)))) (ending-units l l.new)
