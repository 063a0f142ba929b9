-- Which packet is given next, as the loop finds it.
use Rattle.std.proofs.Common.{◌≡◌, ℕ, zero, suc, ◌+◌, ◌<◌, List, [], ◌∷◌, length, drop, get_or, refl, sym, ap, ◌∙◌, arith}
use Rattle.std.proofs.{Common.{Bool, true, cond, Option, Some, None}, lemmas.List.drop_more}
use Rattle.std.proofs.{Common.false, lemmas.List.nil_from_length}
use Rattle.std.specs.Prelude.{◌↔◌, slice_get, is_some, IfSome}
use Rattle.growing_history.specs.Steps.{Step}
use Rattle.pair_book.specs.Packets.{PacketState}
use Rattle.pair_book.specs.Texts.{WasSealed, ArePending, is_after, first_packet_after, or_first}

-- the one at a place where there is one
pub stands-at : (ps : List PacketState) (i : ℕ) (p : PacketState) → i < length ps → p ≡ get_or ps i p → slice_get ps i ≡ Some p
stands-at [] i p l is = absurd (omega (arith, l))
stands-at (q ∷ ps) zero p l is = ap (λ (x : PacketState). Some x) (sym is)
stands-at (q ∷ ps) (suc i) p l is = stands-at ps i p (omega (arith, l)) is

module _ (given : Option ℕ) (ps : List PacketState) (i : ℕ) (p : PacketState) (low : i < length ps) (is : p ≡ get_or ps i p) where
  from-here : first_packet_after given (drop i ps) ≡ cond (is_after given p.number) (Some p) (first_packet_after given (drop (i + 1) ps))
  from-here =
      ap (first_packet_after given) (drop_more ps i p low)
      ∙ ap (λ (q : PacketState). cond (is_after given q.number) (Some q) (first_packet_after given (drop (i + 1) ps))) (sym is)

  pub found-next : is_after given p.number ≡ true → first_packet_after given (drop i ps) ≡ first_packet_after given ps
      → slice_get ps i ≡ or_first (first_packet_after given ps) ps
  found-next after same =
      let first : first_packet_after given ps ≡ Some p =
      sym same ∙ from-here ∙ ap (λ (t : Bool). cond t (Some p) (first_packet_after given (drop (i + 1) ps))) after in
      stands-at ps i p low is ∙ sym (ap (λ (o : Option PacketState). or_first o ps) first)

-- IT IS ONE OF THE PENDING ONES

module _ (xs : List Step) (g : ℕ) where
  abbrev IsGood : PacketState → Type 0
  IsGood p = (p.generation ≡ g) × WasSealed xs p

  good-of : (t : Bool) (p : PacketState) (o : Option PacketState) → IsGood p → IfSome o IsGood → IfSome (cond t (Some p) o) IsGood
  good-of true p o good rest = good
  good-of false p o good rest = rest

  after-good : (given : Option ℕ) (n : ℕ) (ps : List PacketState) → ArePending xs g n ps → IfSome (first_packet_after given ps) IsGood
  after-good given n [] h = tt
  after-good given n (p ∷ ps) h =
      good-of (is_after given p.number) p (first_packet_after given ps) (h.0, h.2) (after-good given (n + 1) ps h.3)

  or-good : (o : Option PacketState) (n : ℕ) (ps : List PacketState) → ArePending xs g n ps → IfSome o IsGood
      → IfSome (or_first o ps) IsGood
  or-good (Some p) n ps h good = good
  or-good None n [] h good = tt
  or-good None n (p ∷ ps) h good = (h.0, h.2)

  pub next-is-pending : (given : Option ℕ) (n : ℕ) (ps : List PacketState) → ArePending xs g n ps
      → IfSome (or_first (first_packet_after given ps) ps) IsGood
  next-is-pending given n ps h = or-good (first_packet_after given ps) n ps h (after-good given n ps h)

-- where there is one
some-first : (o : Option PacketState) (p : PacketState) (ps : List PacketState) → is_some (or_first o (p ∷ ps)) ≡ true
some-first (Some q) p ps = refl
some-first None p ps = refl

pub next-is-none : {X : Type 0} (given : Option ℕ) (ps : List PacketState) (pending : List X) → length ps ≡ length pending
    → (is_some (or_first (first_packet_after given ps) ps) ≡ false) ↔ (pending ≡ [])
next-is-none given [] pending same = (λ e. nil_from_length pending (sym same), λ e. refl)
next-is-none given (p ∷ ps) pending same = (
  λ e. absurd (cc (e, some-first (first_packet_after given (p ∷ ps)) p ps)),
  λ e. absurd (let none = ap (λ l. length l) e in omega (arith, none, same)),
)
