-- What is asked for is what no submit refuses for being a checkpoint, or none, or for its numbers.
use Rattle.std.proofs.Common.{◌≡◌, ℕ, zero, suc, Bool, true, false, [], ◌∷◌, refl, None}
use Rattle.std.proofs.lemmas.Bool.{eq-eqb}
use Rattle.std.specs.Prelude.{not, ◌==◌, ◌&&◌}
use Rattle.failover.specs.declared.mode.Mode.{Mode}
use Rattle.failover.specs.declared.mode.Mode.TheVariants.{Paired, Filling, Alone, Stopped}
use Rattle.pair_record.specs.declared.event.Refusal.TheVariants.{NotPaired, AlreadyPaired, Stale}
use Rattle.pair_record.specs.Modes.{is_alone}
use Rattle.pair_record.specs.Protocol.{Record, first_refusal}
use Rattle.pair_book.specs.declared.prepared.Prepared.{Prepared}
use Rattle.pair_book.specs.declared.prepared.Prepared.TheVariants as prepared
use Rattle.pair_book.specs.Packets.{PacketState}
use Rattle.pair_book.specs.Running.{kind_wanted, number_wanted}
use Rattle.pair_book.specs.Submitting.{prepared_rows}
use Rattle.hypervisor.specs.Preparing.{IsAs}

-- nothing is wanted of a lone node alone
lone : (m : Mode) (n g k : ℕ) → IsAs (kind_wanted m n) g k prepared.Nothing → is_alone m ≡ true
lone Paired n g k h = absurd h
lone Filling zero g k h = absurd h
lone Filling (suc n) g k h = absurd h
lone Alone n g k h = refl
lone Stopped n g k h = absurd h

paired : (m : Mode) (n g : ℕ) (p : PacketState) → IsAs (kind_wanted m n) g (number_wanted (kind_wanted m n) n) (prepared.Checkpoint p)
    → (is_alone m ≡ false) × (p.generation ≡ g) × (p.number ≡ n)
paired Paired n g p h = (refl, h.0, h.1)
paired Filling zero g p h = (refl, h.0, h.1)
paired Filling (suc n) g p h = (refl, h.0, h.1)
paired Alone n g p h = absurd (cc)
paired Stopped n g p h = (refl, h.0, h.1)

none-free : (alone : Bool) → alone ≡ true
    → first_refusal ((alone && false, NotPaired) ∷ (not alone && not false, AlreadyPaired) ∷ (false, Stale) ∷ []) ≡ None
none-free true e = refl
none-free false e = absurd (cc)

some-free : (alone own next : Bool) → alone ≡ false → own ≡ true → next ≡ true
    → first_refusal ((alone && true, NotPaired) ∷ (not alone && not true, AlreadyPaired) ∷ (not (own && next), Stale) ∷ []) ≡ None
some-free false true true a b c = refl
some-free true own next a b c = absurd (cc)
some-free false false next a b c = absurd (cc)
some-free false true false a b c = absurd (cc)

pub asked_free : (r : Record) (what : Prepared)
    → IsAs (kind_wanted r.mode r.window.to_cut) r.generation (number_wanted (kind_wanted r.mode r.window.to_cut) r.window.to_cut) what
    → first_refusal (prepared_rows r what) ≡ None
asked_free r prepared.Nothing h = none-free (is_alone r.mode) (lone r.mode r.window.to_cut r.generation _ h)
asked_free r (prepared.Checkpoint p) h =
    let is = paired r.mode r.window.to_cut r.generation p h in
    some-free (is_alone r.mode) (p.generation == r.generation) (p.number == r.window.to_cut) is.0
    (eq-eqb p.generation r.generation is.1) (eq-eqb p.number r.window.to_cut is.2)
