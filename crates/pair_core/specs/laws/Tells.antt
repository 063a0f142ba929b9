-- What the entries that an event adds tell of clients' calls.
use Rattle.std.proofs.Common.{rules, arith, ◌≡◌, ℕ, List, [], ◌∷◌, ◌++◌, refl, subst, append_assoc, Bool, true, false, cond}
use Rattle.std.proofs.lemmas.List.Elements.{All-nil, All-cons, All-head, All-tail, All-append}
use Rattle.std.specs.Prelude.{All, map, get_or}
use Rattle.guest_rules.specs.Step.{sent}
use Rattle.frame_ports.specs.{Lands.{has_room, landed_at}, Limits.box_frames}
use Rattle.pair_history.specs.Entries.{Frame, Entry, Ran, Arrive, DropIn, Land, DropOut}
use Rattle.pair_history.specs.Failures.{arrived_numbers, drops_of_taken_in, rising}
use Rattle.pair_history.specs.{HistoryState.HistoryState, Landings.landings, laws.Leaving.TakesNone}
use Rattle.pair_record.specs.{declared.event.Event.Event, declared.event.Event.TheVariants.Deliver, declared.event.Refusal.Refusal}
use Rattle.pair_record.specs.{declared.event.Refusal.TheVariants.Full, Journal.{Journal, joined, first_of, kept_entries}, Modes.is_alone}
use Rattle.pair_record.specs.Protocol.{Record, live_at, shown_at, outbox_of, step_entries, all_held, let_go, live_entries}
use Rattle.pair_core.specs.Pair.{is_of_guest}
use Rattle.pair_core.specs.Service.{is_call, Tells}
use Rattle.pair_core.specs.Lines.{Lines}
use Rattle.pair_core.specs.laws.Ends.{Ends, ChangesNothing, at_once}
use Rattle.pair_record.specs.declared.event.Reply.TheVariants as replies

-- ENTRIES THAT TELL OF NO CALL

abbrev Quiet : Entry → Type 0
Quiet e = is_call e ≡ false

abbrev pub OfGuest : Entry → Type 0
OfGuest e = is_of_guest e ≡ true

none : All Quiet []
none = All-nil Quiet

-- what the guest did
guest-quiet : (e : Entry) → OfGuest e → Quiet e
guest-quiet Ran p = refl
guest-quiet (Arrive n) p = refl
guest-quiet other p = absurd (cc)

-- it takes no frame off those that are on their way
pub takes-none : (e : Entry) → OfGuest e → TakesNone e
takes-none Ran p c s = refl
takes-none (Arrive n) p c s = refl
takes-none other p c s = absurd (cc)

all_guest-quiet : (es : List Entry) → All OfGuest es → All Quiet es
all_guest-quiet es p k d within = guest-quiet (get_or es k d) (p k d within)

-- what lands or finds its client's box full, and where the backup goes live what is dropped before that
module _ (P : Entry → Type 0) (ins : (n : ℕ) → P (DropIn n)) (lands : (c : ℕ) → P (Land c)) (outs : (c place : ℕ) → P (DropOut c place)) where
  all_in : (ns : List ℕ) → All P (map DropIn ns)
  all_in [] = All-nil P
  all_in (n ∷ ns) = All-cons P (DropIn n) (map DropIn ns) (ins n) (all_in ns)

  all_land : (boxes : List (List Frame)) (ps : List (ℕ × Frame)) → All P (landings boxes ps)
  all_land boxes [] = All-nil P
  all_land boxes (p ∷ ps) =
      let room = has_room boxes p.0 in
      let rest = landed_at boxes p.0 p.1 in
      All-cons P (cond room (Land p.0) (DropOut p.0 box_frames)) (landings rest ps) (by_room room) (all_land rest ps)
    where
      by_room : (t : Bool) → P (cond t (Land p.0) (DropOut p.0 box_frames))
      by_room true = lands p.0
      by_room false = outs p.0 box_frames

  pub live_all : (boxes : List (List Frame)) (out : List (ℕ × Frame)) (j : Journal) → All P (live_entries boxes out j)
  live_all boxes out j =
      All-append P (drops_of_taken_in (kept_entries j)) (landings boxes out) (all_in (rising (arrived_numbers (kept_entries j))))
      (all_land boxes out)

landings-quiet : (boxes : List (List Frame)) (ps : List (ℕ × Frame)) → All Quiet (landings boxes ps)
landings-quiet = all_land Quiet (λ n. refl) (λ c. refl) (λ c place. refl)

All-front : (P : Entry → Type 0) (es fs : List Entry) → All P (es ++ fs) → All P es
All-front P [] fs p = All-nil P
All-front P (e ∷ es) fs p = All-cons P e es (All-head P e (es ++ fs) p) (All-front P es fs (All-tail P e (es ++ fs) p))

-- the oldest sealed epoch is the front of what is kept
pub first_of-guest : (ess : List (List Entry)) (running : List Entry) → All OfGuest (joined ess ++ running) → All OfGuest (first_of ess)
first_of-guest [] running p = All-nil OfGuest
first_of-guest (es ∷ ess) running p =
    All-front OfGuest es (joined ess ++ running) (subst (All OfGuest) (append_assoc es (joined ess) running) p)

-- EACH EVENT adds entries that tell of its reply.

module _ (start : HistoryState) (r : Record) (kept : All OfGuest (kept_entries r.journal)) where
  abbrev boxes : List (List Frame)
  boxes = (shown_at start r).boxes

  refused-tells : (event : Event) (why : Refusal) → ChangesNothing event why → Tells event (replies.Refused why) []
  refused-tells (Deliver c bytes) Full plain = absurd plain
  refused-tells (Deliver c bytes) other plain = refl
  refused-tells other why plain = none

  pub tells_all : (l : Lines) → Ends start r l (λ event es o. Tells event o.0 es)
  tells_all l = record {
    refuses = refused-tells;
    step = by_mode;
    cut = none;
    send = none;
    lost = λ k. (none, none);
    again = λ k. none;
    commit = λ k goes. let first = first_of r.journal.sealed in
        all_guest-quiet first (first_of-guest r.journal.sealed r.journal.running kept);
    acknowledge = λ k p is same. landings-quiet boxes (let_go boxes r p.number);
    empty = λ c place. (none, none, none);
    admit = by_arrival;
    full = λ c bytes. refl;
    deliver = λ c bytes. refl;
    take = λ c. refl;
    lose_in = λ c place x is. All-cons Quiet (DropIn x.0) [] refl none;
    lose_out = λ c place f is. All-cons Quiet (DropOut c place) [] refl none;
    fail_primary = λ goes. none;
    fail_backup =
        let held = all_held boxes (outbox_of start r) r in
        All-append Quiet (kept_entries r.journal) (landings boxes held) (all_guest-quiet (kept_entries r.journal) kept)
        (landings-quiet boxes held);
    go_live = live_all Quiet (λ n. refl) (λ c. refl) (λ c place. refl) boxes (shown_at start r).out r.journal;
    protect = none;
  }
    where
      by_mode : (alone : Bool) → is_alone r.mode ≡ alone
          → All Quiet (at_once alone (step_entries true boxes (sent (live_at start r).guest)))
      by_mode false is = none
      by_mode true is = search (arith, rules, All-cons, landings-quiet)

      by_arrival : (c n : ℕ) (alone : Bool) → is_alone r.mode ≡ alone → All Quiet (at_once alone (Arrive n ∷ []))
      by_arrival c n false is = none
      by_arrival c n true is = All-cons Quiet (Arrive n) [] refl none
