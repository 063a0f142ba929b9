-- The table of refusals of new backups.
use Rattle.std.proofs.Common.{◌≡◌, ◌+◌, ◌<◌, List, [], ◌∷◌, length, Bool, true, false, refl, ap, Option, Some, None}
use Rattle.std.specs.Prelude.{nat_le}
use Rattle.frame_ports.specs.Limits.{number_limit}
use Rattle.failover.specs.declared.change.Change.TheVariants as changes
use Rattle.pair_record.specs.Modes.{change_refusal}
use Rattle.pair_record.specs.declared.event.Refusal.{Refusal}
use Rattle.pair_record.specs.declared.event.Refusal.TheVariants.{Exhausted}
use Rattle.pair_record.specs.Protocol.{Row, first_refusal, protect_refusals}
use Rattle.std.proofs.lemmas.Bool.{leb-false}
use Rattle.pair_book.specs.Books.{BookState}
use Rattle.pair_book.specs.Calls.{is_word_full}
use Rattle.pair_book.specs.Failures.{first_of, protect_why}
use Rattle.pair_book.proofs.Words.{word_room}

-- where nothing refuses, neither the mode does nor a row
none-of : (by_mode : Option Refusal) (rows : List Row) → first_of by_mode rows ≡ None → (by_mode ≡ None) × (first_refusal rows ≡ None)
none-of None rows e = (refl, e)
none-of (Some why) rows e = absurd (cc)

two : (a b : Bool) (x y : Refusal) → first_refusal ((a, x) ∷ (b, y) ∷ []) ≡ None → (a ≡ false) × (b ≡ false)
two true b x y e = absurd (cc)
two false true x y e = absurd (cc)
two false false x y e = (refl, refl)

one-row : (a : Bool) (x : Refusal) → a ≡ false → first_refusal ((a, x) ∷ []) ≡ None
one-row a x e = ap (λ (t : Bool). first_refusal ((t, x) ∷ [])) e

-- a new backup may come
pub protect_may : (b : BookState) → protect_why b ≡ None
    → (change_refusal changes.Protect b.protocol.mode ≡ None)
    × (first_refusal (protect_refusals b.protocol) ≡ None)
    × (b.protocol.generation + 1 < number_limit)
    × (length b.steps < number_limit)
protect_may b e =
    let parts = none-of (change_refusal changes.Protect b.protocol.mode)
    ((nat_le number_limit (b.protocol.generation + 1), Exhausted) ∷ (is_word_full b, Exhausted) ∷ []) e in
    let rows = two _ _ Exhausted Exhausted parts.1 in (
      parts.0,
      one-row _ Exhausted rows.0,
      leb-false number_limit (b.protocol.generation + 1) rows.0,
      word_room b rows.1,
    )
