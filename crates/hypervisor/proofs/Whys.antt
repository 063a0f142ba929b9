-- Which refusals the first row of a client's or of the sender's table may be.
use Rattle.std.proofs.Common.{◌≡◌, ℕ, suc, List, [], ◌∷◌, length, Bool, true, false, refl, sym, arith, Ok, Err, Result}
use Rattle.std.proofs.Common.{None, inl, inr, ◌≤◌}
use Rattle.std.proofs.lemmas.Bool.{leb-true}
use Rattle.std.specs.Prelude.{IfErr, OnOk, nat_le, nat_lt, not, ◌&&◌, ◌==◌, ◌⊎◌}
use Rattle.frame_ports.specs.Limits.{inbox_frames, number_limit}
use Rattle.frame_ports.specs.Ports.{inbox_of}
use Rattle.std.specs.List.{Contains}
use Rattle.memory_wanted.specs.Wanted.{wanted}
use Rattle.failover.specs.declared.mode.Mode.{Mode}
use Rattle.failover.specs.declared.mode.Mode.TheVariants as modes
use Rattle.pair_record.specs.declared.event.Refusal.{Refusal}
use Rattle.pair_record.specs.declared.event.Refusal.TheVariants.{Full, BadFrame, Stopped, NotPaired, Stale, Gap, NoMemory, Exhausted}
use Rattle.pair_record.specs.Modes.{primary_refusal}
use Rattle.pair_record.specs.Protocol.{Row, first_refusal, is_bad_length, exhausts}
use Rattle.pair_book.specs.Books.{BookState}
use Rattle.pair_book.specs.Calls.{IsWhy, entry_rows, deliver_rows, is_word_full}
use Rattle.pair_book.specs.Calls.{IsWhyDelivery}
use Rattle.pair_book.specs.declared.failures.Ack.{Ack}
use Rattle.pair_book.specs.Failures.{first_of, ack_why, leaving_at}
use Rattle.pair_book.specs.Texts.{next_why}
use Rattle.hypervisor.specs.Refusals.{delivery_refusals, entry_refusals, next_refusals, ack_refusals, MayRefuseUnless, MayRefuseDelivery}

pub first : {X : Type 0} (x y : X) (xs : List X) → x ≡ y → Contains (y ∷ xs) x
first x y xs e = (0, omega arith, sym e)

pub later : {X : Type 0} (x y : X) (xs : List X) → Contains xs x → Contains (y ∷ xs) x
later x y xs h = (suc h.0, omega (arith, h.1), h.2)

-- A CLIENT'S

pub entry-why : (out word : Bool) (why : Refusal) → IsWhy (first_refusal ((out, Exhausted) ∷ (word, Exhausted) ∷ [])) why
    → Contains entry_refusals why
entry-why true word why e = first why Exhausted (NoMemory wanted ∷ []) e
entry-why false true why e = first why Exhausted (NoMemory wanted ∷ []) e
entry-why false false why e = later why Exhausted (NoMemory wanted ∷ []) (first why (NoMemory wanted) [] e)

pub take-why : (b : BookState) (r : Result Bool Refusal) → IfErr r (IsWhy (first_refusal (entry_rows b)))
    → IfErr r (Contains entry_refusals)
take-why b (Ok f) e = tt
take-why b (Err why) e = entry-why (exhausts b.protocol 1) (is_word_full b) why e

-- the rows of a delivery, as tests
abbrev rows : Bool → Bool → Bool → Bool → Bool → List Row
rows bad out word full last =
    (bad, BadFrame) ∷ (out, Exhausted) ∷ (word, Exhausted) ∷ (full, Full) ∷ (last, Exhausted) ∷ []

is_exhausted : (why : Refusal) → why ≡ Exhausted → Contains delivery_refusals why
is_exhausted why e = later why Full (Exhausted ∷ NoMemory wanted ∷ []) (first why Exhausted (NoMemory wanted ∷ []) e)

is_wanted : (why : Refusal) → why ≡ NoMemory wanted → Contains delivery_refusals why
is_wanted why e =
    later why Full (Exhausted ∷ NoMemory wanted ∷ []) (later why Exhausted (NoMemory wanted ∷ []) (first why (NoMemory wanted) [] e))

full-or-wanted : (why : Refusal) → (why ≡ Full) ⊎ (why ≡ NoMemory wanted) → Contains delivery_refusals why
full-or-wanted why (inl e) = first why Full (Exhausted ∷ NoMemory wanted ∷ []) e
full-or-wanted why (inr e) = is_wanted why e

delivery-why : (bad out word full last : Bool) (why : Refusal) → IsWhyDelivery (first_refusal (rows bad out word full last)) why
    → MayRefuseUnless bad BadFrame delivery_refusals why
delivery-why true out word full last why e = e
delivery-why false true word full last why e = is_exhausted why e
delivery-why false false true full last why e = is_exhausted why e
delivery-why false false false true last why e = full-or-wanted why e
delivery-why false false false false true why e = is_exhausted why e
delivery-why false false false false false why e = is_wanted why e

-- the row of a full inbox is the only one that is so refused
is-full : (bad out word full last : Bool) → IsWhyDelivery (first_refusal (rows bad out word full last)) Full → full ≡ true
is-full true out word full last e = absurd (cc)
is-full false true word full last e = absurd (cc)
is-full false false true full last e = absurd (cc)
is-full false false false true last e = refl
is-full false false false false true e = absurd (cc)
is-full false false false false false e = absurd (cc)

good : (bad out word full last : Bool) → first_refusal (rows bad out word full last) ≡ None → bad ≡ false
good true out word full last e = absurd (cc)
good false out word full last e = refl

module _ (b : BookState) (c : ℕ) (bytes : List ℕ) where
  abbrev is_bad : Bool
  is_bad = is_bad_length (length bytes)

  abbrev no_room : Bool
  no_room = exhausts b.protocol 1

  abbrev is_full : Bool
  is_full = nat_le inbox_frames (length (inbox_of b.ports c))

  abbrev no_number : Bool
  no_number = nat_le number_limit b.ports.next

  pub deliver-why : (r : Result ℕ Refusal) → IfErr r (λ why. IsWhyDelivery (first_refusal (deliver_rows b c bytes)) why)
      → IfErr r (MayRefuseDelivery bytes)
  deliver-why (Ok n) e = tt
  deliver-why (Err why) e = delivery-why is_bad no_room (is_word_full b) is_full no_number why e

  pub deliver-full : IsWhyDelivery (first_refusal (deliver_rows b c bytes)) Full → inbox_frames ≤ length (inbox_of b.ports c)
  deliver-full e =
      leb-true inbox_frames (length (inbox_of b.ports c)) (is-full is_bad no_room (is_word_full b) is_full no_number e)

  pub deliver-good : (r : Result ℕ Refusal) → OnOk r (first_refusal (deliver_rows b c bytes) ≡ None) → OnOk r (is_bad ≡ false)
  deliver-good (Ok n) e = good is_bad no_room (is_word_full b) is_full no_number e
  deliver-good (Err why) e = tt

-- THE SENDER'S

next-by-mode : (mode : Mode) (why : Refusal) → IsWhy (primary_refusal mode) why → Contains next_refusals why
next-by-mode modes.Paired why e =
    later why Stopped (NotPaired ∷ NoMemory wanted ∷ []) (later why NotPaired (NoMemory wanted ∷ []) (first why (NoMemory wanted) [] e))
next-by-mode modes.Filling why e =
    later why Stopped (NotPaired ∷ NoMemory wanted ∷ []) (later why NotPaired (NoMemory wanted ∷ []) (first why (NoMemory wanted) [] e))
next-by-mode modes.Alone why e = later why Stopped (NotPaired ∷ NoMemory wanted ∷ []) (first why NotPaired (NoMemory wanted ∷ []) e)
next-by-mode modes.Stopped why e = first why Stopped (NotPaired ∷ NoMemory wanted ∷ []) e

pub next-why : {T : Type 0} (b : BookState) (r : Result T Refusal) → IfErr r (IsWhy (next_why b)) → IfErr r (Contains next_refusals)
next-why b (Ok p) e = tt
next-why b (Err why) e = next-by-mode b.protocol.mode why e

-- the rows of an acknowledgement, as tests
abbrev acks : Bool → Bool → Bool → Bool → List Row
acks stale gap out word = (stale, Stale) ∷ (gap, Gap) ∷ (out, Exhausted) ∷ (word, Exhausted) ∷ []

-- of what comes after the first two
after-two : (why : Refusal) → Contains (Stale ∷ Gap ∷ Exhausted ∷ NoMemory wanted ∷ []) why → Contains ack_refusals why
after-two why h =
    later why Stopped (NotPaired ∷ Stale ∷ Gap ∷ Exhausted ∷ NoMemory wanted ∷ [])
    (later why NotPaired (Stale ∷ Gap ∷ Exhausted ∷ NoMemory wanted ∷ []) h)

ack-by-rows : (stale gap out word : Bool) (why : Refusal) → IsWhy (first_refusal (acks stale gap out word)) why
    → Contains ack_refusals why
ack-by-rows true gap out word why e = after-two why (first why Stale (Gap ∷ Exhausted ∷ NoMemory wanted ∷ []) e)
ack-by-rows false true out word why e =
    after-two why (later why Stale (Gap ∷ Exhausted ∷ NoMemory wanted ∷ []) (first why Gap (Exhausted ∷ NoMemory wanted ∷ []) e))
ack-by-rows false false true word why e = after-two why (later why Stale (Gap ∷ Exhausted ∷ NoMemory wanted ∷ [])
    (later why Gap (Exhausted ∷ NoMemory wanted ∷ []) (first why Exhausted (NoMemory wanted ∷ []) e)))
ack-by-rows false false false true why e = after-two why (later why Stale (Gap ∷ Exhausted ∷ NoMemory wanted ∷ [])
    (later why Gap (Exhausted ∷ NoMemory wanted ∷ []) (first why Exhausted (NoMemory wanted ∷ []) e)))
ack-by-rows false false false false why e = after-two why (later why Stale (Gap ∷ Exhausted ∷ NoMemory wanted ∷ [])
    (later why Gap (Exhausted ∷ NoMemory wanted ∷ [])
    (later why Exhausted (NoMemory wanted ∷ []) (first why (NoMemory wanted) [] e))))

ack-by-mode : (mode : Mode) (stale gap out word : Bool) (why : Refusal)
    → IsWhy (first_of (primary_refusal mode) (acks stale gap out word)) why → Contains ack_refusals why
ack-by-mode modes.Paired stale gap out word why e = ack-by-rows stale gap out word why e
ack-by-mode modes.Filling stale gap out word why e = ack-by-rows stale gap out word why e
ack-by-mode modes.Alone stale gap out word why e =
    later why Stopped (NotPaired ∷ Stale ∷ Gap ∷ Exhausted ∷ NoMemory wanted ∷ [])
    (first why NotPaired (Stale ∷ Gap ∷ Exhausted ∷ NoMemory wanted ∷ []) e)
ack-by-mode modes.Stopped stale gap out word why e = first why Stopped (NotPaired ∷ Stale ∷ Gap ∷ Exhausted ∷ NoMemory wanted ∷ []) e

pub ack-refused : {T : Type 0} (b : BookState) (ack : Ack) (r : Result T Refusal) → IfErr r (IsWhy (ack_why b ack))
    → IfErr r (Contains ack_refusals)
ack-refused b ack (Ok t) e = tt
ack-refused b ack (Err why) e =
    ack-by-mode b.protocol.mode (not (ack.generation == b.protocol.generation)) (nat_le b.protocol.window.to_commit ack.number)
    (exhausts b.protocol (leaving_at b ack.number)) (nat_lt 0 (leaving_at b ack.number) && is_word_full b) why e
