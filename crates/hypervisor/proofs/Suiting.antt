-- What was made for what is wanted is of the machine as it is.
use Rattle.std.proofs.Common.{◌≡◌, ℕ, zero, suc, Bool, true, false, ◌&&◌, sym, subst, refl}
use Rattle.guest_rules.specs.Guest.{State}
use Rattle.pair_book.specs.Packets.{PacketState}
use Rattle.pair_book.specs.declared.prepared.Prepared.{Prepared}
use Rattle.pair_book.specs.declared.prepared.Prepared.TheVariants as prepared
use Rattle.pair_book.specs.declared.runner.Kind.{Kind}
use Rattle.pair_book.specs.declared.runner.Kind.TheVariants.{Nothing, Delta, Full}
use Rattle.hypervisor.specs.Preparing.{CarriesDelta, CarriesFull, Carries, Suits, is_possible, IsMadeIf, IsMadeFor}

full-suits : (m : State) (g : ℕ) (p : PacketState) → CarriesFull m g p → Carries m p.number p
full-suits m g p h =
    subst (λ (n : ℕ). Carries m n p) (sym h.of_number) (subst (λ (k : ℕ). CarriesFull m k p) (sym h.of_generation) h)

delta-suits : (m : State) (g n : ℕ) (p : PacketState) → is_possible n ≡ true → CarriesDelta m g n p → Carries m p.number p
delta-suits m g zero p some h = absurd (no-zero some)
  where
    no-zero : is_possible zero ≡ true → ⊥
    no-zero e = cc
delta-suits m g (suc n) p some h =
    subst (λ (k : ℕ). Carries m k p) (sym h.of_number) (subst (λ (k : ℕ). CarriesDelta m k (suc n) p) (sym h.of_generation) h)

delta-made : (b : Bool) (m : State) (g n : ℕ) (what : Prepared) → (b ≡ true → is_possible n ≡ true)
    → IsMadeIf b (CarriesDelta m g n) what → Suits m what
delta-made true m g n (prepared.Checkpoint p) some h = delta-suits m g n p (some refl) h
delta-made true m g n prepared.Nothing some h = absurd h
delta-made false m g n (prepared.Checkpoint p) some h = absurd h
delta-made false m g n prepared.Nothing some h = tt

full-made : (b : Bool) (m : State) (g : ℕ) (what : Prepared) → IsMadeIf b (CarriesFull m g) what → Suits m what
full-made true m g (prepared.Checkpoint p) h = full-suits m g p h
full-made true m g prepared.Nothing h = absurd h
full-made false m g (prepared.Checkpoint p) h = absurd h
full-made false m g prepared.Nothing h = tt

second : (a b : Bool) → (a && b) ≡ true → b ≡ true
second true b e = e
second false b e = cc

pub made_suits : (kind : Kind) (g n : ℕ) (m : State) (what : Prepared) → IsMadeFor kind g n m what → Suits m what
made_suits Nothing g n m what h = subst (λ (w : Prepared). Suits m w) (sym h) tt
made_suits Delta g n m what h =
    delta-made (is_possible g && is_possible n) m g n what (second (is_possible g) (is_possible n)) h
made_suits Full g n m what h = full-made (is_possible g) m g what h
