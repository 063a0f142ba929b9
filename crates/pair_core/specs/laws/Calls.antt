-- What clients and their lines ask for is answered in its own ways only.
use Rattle.std.proofs.Common.{arith, ◌≡◌, ℕ, zero, suc, ◌<◌, ◌≤◌, ◌⊎◌, List, [], ◌∷◌, length, refl, ap, inl, inr, Bool, true, false}
use Rattle.std.proofs.{Common.{Bor, Option, None, Some}, lemmas.Bool.Decides.nat_tests}
use Rattle.std.specs.Prelude.{◌^◌, ◌||◌, ◌&&◌, nat_le, nat_lt, not, slice_get, option_map}
use Rattle.guest_rules.specs.Guest.{Guest}
use Rattle.frame_ports.specs.{Lands.list_of}
use Rattle.pair_history.specs.{Entries.{Frame, Entry}, HistoryState.{HistoryState, inbox_of}}
use Rattle.memory_wanted.specs.Wanted.{wanted}
use Rattle.pair_record.specs.declared.event.Event.{Event}
use Rattle.pair_record.specs.declared.event.Event.TheVariants.{Deliver, Take, LoseIn, LoseOut}
use Rattle.pair_record.specs.declared.event.Refusal.TheVariants.{Full, BadFrame, NoClient, NoMemory, Exhausted}
use Rattle.pair_record.specs.declared.event.Reply.{Reply}
use Rattle.pair_core.specs.{Answering.{AnswersIn, MayWantMemory}, Calls.{Moment, AnswersCall, AnswersTake, AnswersDelivery, AnswersLoss}}
use Rattle.pair_record.specs.Protocol.{Record, Outcome, unless, or_else, first_refusal, exhausts, is_among, is_bad_length}
use Rattle.pair_record.specs.Protocol.{Row, shown_at, live_at, take_done, deliver_done, delivery_refused, lost_in, lost_out, on_loss}
use Rattle.pair_record.specs.Protocol.{loss_done, outcome}
use Rattle.pair_core.specs.Lines.{Lines, got}
use Rattle.pair_record.specs.declared.event.Reply.TheVariants as replies

-- what the tests say

is_client : (c n : ℕ) → is_among c n ≡ true → (1 ≤ c) × (c ≤ n)
is_client c n e = by_test (nat_le 1 c) refl e
  where
    by_test : (t : Bool) → nat_le 1 c ≡ t → (t && nat_le c n) ≡ true → (1 ≤ c) × (c ≤ n)
    by_test true p e = (grind (arith, nat_tests), grind (arith, nat_tests))
    by_test false p e = absurd (cc)

is_nobody : (c n : ℕ) → is_among c n ≡ false → (c < 1) ⊎ (n < c)
is_nobody c n e = by_test (nat_le 1 c) refl e
  where
    by_test : (t : Bool) → nat_le 1 c ≡ t → (t && nat_le c n) ≡ false → (c < 1) ⊎ (n < c)
    by_test true p e = inr (grind (arith, nat_tests))
    by_test false p e = inl (grind (arith, nat_tests))

is_frame : (n : ℕ) → is_bad_length n ≡ false → (14 ≤ n) × (n ≤ 1514)
is_frame n e = by_test (nat_lt n 14) refl e
  where
    by_test : (t : Bool) → nat_lt n 14 ≡ t → (t || nat_lt 1514 n) ≡ false → (14 ≤ n) × (n ≤ 1514)
    by_test true p e = absurd (cc)
    by_test false p e = (grind (arith, nat_tests), grind (arith, nat_tests))

is_none : (n : ℕ) → is_bad_length n ≡ true → (n < 14) ⊎ (1514 < n)
is_none n e = by_test (nat_lt n 14) refl e
  where
    by_test : (t : Bool) → nat_lt n 14 ≡ t → (t || nat_lt 1514 n) ≡ true → (n < 14) ⊎ (1514 < n)
    by_test true p e = inl (grind (arith, nat_tests))
    by_test false p e = inr (grind (arith, nat_tests))

from : (a b : ℕ) → nat_le a b ≡ true → a ≤ b
from a b e = grind (arith, nat_tests)

below : (a b : ℕ) → nat_le a b ≡ false → b < a
below a b e = grind (arith, nat_tests)

none_there : {A B : Type 0} (f : A → B) (xs : List A) (place : ℕ) → option_map f (slice_get xs place) ≡ None → length xs ≤ place
none_there f [] place e = omega arith
none_there f (x ∷ xs) zero e = absurd (cc)
none_there f (x ∷ xs) (suc place) e = let l = none_there f xs place e in omega arith

some_there : {A B : Type 0} (f : A → B) (xs : List A) (place : ℕ) (y : B) → option_map f (slice_get xs place) ≡ Some y
    → place < length xs
some_there f [] place y e = absurd (cc)
some_there f (x ∷ xs) zero y e = omega arith
some_there f (x ∷ xs) (suc place) y e = let l = some_there f xs place y e in omega arith

module _ (start : HistoryState) (r : Record) (g : Guest) where
  abbrev m : Moment
  m = record { history = r.journal.history; sealed = r.journal.sealed; running = r.journal.running; guest = g }

  abbrev clients : ℕ
  clients = length (shown_at start r).boxes

  -- the protocol leads to that outcome, and the reply is its own, or tells of want of memory
  abbrev Ways : Outcome → Reply → Type 0
  Ways o reply = (reply ≡ o.0) ⊎ (MayWantMemory r o × (reply ≡ replies.Refused (NoMemory wanted)))

  take_ways : (c : ℕ) (reply : Reply) → Ways (outcome start r None (Take c)) reply → AnswersTake start m c reply
  take_ways c reply k = by_tests (is_among c clients) (exhausts r 1) refl refl k
    where
      by_tests : (t u : Bool) → is_among c clients ≡ t → exhausts r 1 ≡ u
          → Ways (unless r ((not t, NoClient) ∷ (u, Exhausted) ∷ []) (take_done (shown_at start r).boxes r c)) reply
          → AnswersTake start m c reply
      by_tests false u p q (inl e) = rw e (is_nobody c clients p)
      by_tests false u p q (inr e) = absurd (cc)
      by_tests true true p q (inl e) = rw e (is_client c clients p, from _ _ q)
      by_tests true true p q (inr e) = absurd (cc)
      by_tests true false p q (inl e) = rw e (is_client c clients p, below _ _ q)
      by_tests true false p q (inr e) = rw e.1 (is_client c clients p, below _ _ q)

  -- a loss of the frame at that place of so many, where there is one
  module _ (c frames place : ℕ) (there : Option Entry) (reply : Reply)
      (none : there ≡ None → frames ≤ place) (some : (e : Entry) → there ≡ Some e → place < frames) where
    loss_ways : Ways (on_loss clients r c there) reply → AnswersLoss start m c frames place reply
    loss_ways k = by_frame there refl k
      where
        by_none : (t : Bool) → is_among c clients ≡ t → there ≡ None → Ways (unless r ((not t, NoClient) ∷ []) (replies.Empty, r)) reply
            → AnswersLoss start m c frames place reply
        by_none false p is (inl e) = rw e (is_nobody c clients p)
        by_none true p is (inl e) = rw e (is_client c clients p, none is)
        by_none false p is (inr e) = absurd (cc)
        by_none true p is (inr e) = absurd e.0

        by_tests : (x : Entry) (t u : Bool) → is_among c clients ≡ t → there ≡ Some x → exhausts r 1 ≡ u
            → Ways (unless r ((not t, NoClient) ∷ (u, Exhausted) ∷ []) (loss_done r x)) reply → AnswersLoss start m c frames place reply
        by_tests x false u p is q (inl e) = rw e (is_nobody c clients p)
        by_tests x false u p is q (inr e) = absurd (cc)
        by_tests x true true p is q (inl e) = rw e (is_client c clients p, from _ _ q, some x is)
        by_tests x true true p is q (inr e) = absurd (cc)
        by_tests x true false p is q (inl e) = rw e (is_client c clients p, below _ _ q, some x is)
        by_tests x true false p is q (inr e) = rw e.1 (is_client c clients p, below _ _ q, some x is)

        by_frame : (o : Option Entry) → there ≡ o → Ways (on_loss clients r c o) reply → AnswersLoss start m c frames place reply
        by_frame None is k = by_none (is_among c clients) refl is k
        by_frame (Some x) is k = by_tests x (is_among c clients) (exhausts r 1) refl is refl k

  module _ (c : ℕ) (bytes : Bor (List ℕ)) (reply : Reply) where
    abbrev f : Frame
    f = record { items = bytes.now }

    abbrev waits : ℕ
    waits = length (inbox_of c (live_at start r).waiting)

    abbrev number : ℕ
    number = (shown_at start r).number

    abbrev rows : Bool → Bool → Bool → Bool → Bool → List Row
    rows t u v w x = (not t, NoClient) ∷ (u, BadFrame) ∷ (v, Exhausted) ∷ (w, Full) ∷ (x, Exhausted) ∷ []

    delivery_ways : Ways (outcome start r None (Deliver c bytes)) reply → AnswersDelivery start m c bytes.now reply
    delivery_ways k =
        by_tests (is_among c clients) (is_bad_length (length bytes.now)) (exhausts r 1) (nat_le 64 waits) (nat_le (2 ^ 62) number)
        refl refl refl refl refl k
      where
        by_tests : (t u v w x : Bool) → is_among c clients ≡ t → is_bad_length (length bytes.now) ≡ u → exhausts r 1 ≡ v
            → nat_le 64 waits ≡ w → nat_le (2 ^ 62) number ≡ x
            → Ways (or_else (first_refusal (rows t u v w x)) (delivery_refused r c f) (deliver_done r c f number)) reply
            → AnswersDelivery start m c bytes.now reply
        by_tests false u v w x p q a b d (inl e) = rw e (is_nobody c clients p)
        by_tests false u v w x p q a b d (inr e) = absurd (cc)
        by_tests true true v w x p q a b d (inl e) = rw e (is_client c clients p, is_none _ q)
        by_tests true true v w x p q a b d (inr e) = absurd (cc)
        by_tests true false true w x p q a b d (inl e) = rw e ((is_client c clients p, is_frame _ q), inl (from _ _ a))
        by_tests true false true w x p q a b d (inr e) = absurd (cc)
        by_tests true false false true x p q a b d (inl e) =
            rw e ((is_client c clients p, is_frame _ q), below _ _ a, from _ _ b)
        by_tests true false false true x p q a b d (inr e) =
            rw e.1 ((is_client c clients p, is_frame _ q), below _ _ a, inl (from _ _ b))
        by_tests true false false false true p q a b d (inl e) =
            rw e ((is_client c clients p, is_frame _ q), inr (below _ _ b, from _ _ d))
        by_tests true false false false true p q a b d (inr e) = absurd (cc)
        by_tests true false false false false p q a b d (inl e) =
            rw e ((is_client c clients p, is_frame _ q), below _ _ a, below _ _ b, below _ _ d)
        by_tests true false false false false p q a b d (inr e) =
            rw e.1 ((is_client c clients p, is_frame _ q), below _ _ a, inr (below _ _ d))

  by_ways : (l : Lines) (event : Event) (reply : Reply) → Ways (outcome start r (got l event) event) reply → AnswersCall start m event reply
  by_ways l (Deliver c bytes) reply k = delivery_ways c bytes reply k
  by_ways l (Take c) reply k = take_ways c reply k
  by_ways l (LoseIn c place) reply k =
      let inbox = inbox_of c (live_at start r).waiting in
      loss_ways c (length inbox) place (lost_in inbox place) reply (none_there _ inbox place) (λ e. some_there _ inbox place e) k
  by_ways l (LoseOut c place) reply k =
      let box = list_of (shown_at start r).boxes c in
      loss_ways c (length box) place (lost_out c box place) reply (none_there _ box place) (λ e. some_there _ box place e) k
  by_ways l other reply k = tt

  pub answers_call : (l : Lines) (event : Event) (reply : Reply) (new : Record) → AnswersIn start r (got l event) event reply new
      → AnswersCall start m event reply
  answers_call l event reply new (inl e) = by_ways l event reply (inl (ap (λ (o : Outcome). o.0) e))
  answers_call l event reply new (inr e) = by_ways l event reply (inr (e.0, e.1))
