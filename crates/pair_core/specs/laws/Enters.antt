-- What the guest did enters the history when it is committed, and nothing else of the guest does.
use Rattle.std.proofs.Common.{◌≡◌, ℕ, List, [], ◌∷◌, ◌++◌, refl, ap, ◌∙◌, Bool, true, false, cond, inl, inr}
use Rattle.std.proofs.{lemmas.List.append-nil, lemmas.List.Elements.{All-nil, All-cons, All-head, All-tail, filter-append}}
use Rattle.std.specs.{Prelude.All}
use Rattle.guest_rules.specs.Step.{next, sent}
use Rattle.frame_ports.specs.{Lands.{has_room, landed_at}, Limits.box_frames}
use Rattle.pair_history.specs.{Entries.{Frame, Entry, Ran, Arrive, Land, DropOut}, HistoryState.HistoryState, Landings.landings}
use Rattle.pair_record.specs.{declared.event.Event.Event, declared.event.Event.TheVariants.{Step, Admit}}
use Rattle.pair_record.specs.declared.event.Refusal.{Refusal}
use Rattle.pair_record.specs.{Journal.{first_of, kept_entries, with_moves}, Modes.is_alone}
use Rattle.pair_record.specs.Protocol.{Record, live_at, shown_at, outbox_of, step_entries, all_held, let_go, live_entries}
use Rattle.pair_core.specs.Pair.{is_of_guest}
use Rattle.guest_rules.specs.Guest.{Guest}
use Rattle.pair_core.specs.{Calls.Moment, Service.{Enters, guest_entries}}
use Rattle.pair_core.specs.Lines.{Lines}
use Rattle.pair_core.specs.laws.{Ends.{Ends, at_once}, Tells.{OfGuest, first_of-guest, live_all}}
use Rattle.pair_record.specs.declared.event.Reply.TheVariants as replies

abbrev NotOfGuest : Entry → Type 0
NotOfGuest e = is_of_guest e ≡ false

-- all of them, or none

guest-all : (es : List Entry) → All OfGuest es → guest_entries es ≡ es
guest-all [] p = refl
guest-all (e ∷ es) p =
    (λ i. cond (All-head OfGuest e es p i) (e ∷ guest_entries es) (guest_entries es))
    ∙ ap (λ t. e ∷ t) (guest-all es (All-tail OfGuest e es p))

guest-none : (es : List Entry) → All NotOfGuest es → guest_entries es ≡ []
guest-none [] p = refl
guest-none (e ∷ es) p =
    (λ i. cond (All-head NotOfGuest e es p i) (e ∷ guest_entries es) (guest_entries es))
    ∙ guest-none es (All-tail NotOfGuest e es p)

landings-none : (boxes : List (List Frame)) (ps : List (ℕ × Frame)) → All NotOfGuest (landings boxes ps)
landings-none boxes [] = All-nil NotOfGuest
landings-none boxes (p ∷ ps) =
    let room = has_room boxes p.0 in
    let rest = landed_at boxes p.0 p.1 in
    All-cons NotOfGuest (cond room (Land p.0) (DropOut p.0 box_frames)) (landings rest ps) (by_room room) (landings-none rest ps)
  where
    by_room : (t : Bool) → NotOfGuest (cond t (Land p.0) (DropOut p.0 box_frames))
    by_room true = refl
    by_room false = refl

landed-none : (boxes : List (List Frame)) (ps : List (ℕ × Frame)) → guest_entries (landings boxes ps) ≡ []
landed-none boxes ps = guest-none (landings boxes ps) (landings-none boxes ps)

module _ (start : HistoryState) (r : Record) (g g' : Guest) (kept : All OfGuest (kept_entries r.journal))
    (lone : is_alone r.mode ≡ true → kept_entries r.journal ≡ []) where
  abbrev boxes : List (List Frame)
  boxes = (shown_at start r).boxes

  abbrev ahead : List Entry
  ahead = kept_entries r.journal

  -- a moment, as a record says it
  abbrev then : Guest → Record → Moment
  then guest r = record { history = r.journal.history; sealed = r.journal.sealed; running = r.journal.running; guest = guest }

  abbrev old : Moment
  old = then g r

  refused-enters : (event : Event) (why : Refusal) → Enters event (replies.Refused why) old [] (then g' r)
  refused-enters Step why = (refl, (refl, refl))
  refused-enters other why = (refl, (refl, refl))

  pub enters_all : (l : Lines) → Ends start r l (λ event es o. Enters event o.0 old (guest_entries es) (then g' o.1))
  enters_all l = record {
    refuses = λ event why plain. refused-enters event why;
    step = step-enters;
    cut = (refl, (refl, refl));
    send = (refl, (refl, refl));
    lost = λ k. ((refl, (refl, refl)), (refl, (refl, refl)));
    again = λ k. (refl, (refl, refl));
    commit = λ k goes.
        (guest-all (first_of r.journal.sealed) (first_of-guest r.journal.sealed r.journal.running kept), (refl, refl));
    acknowledge = λ k p is same. (landed-none boxes (let_go boxes r p.number), (refl, refl));
    empty = λ c place. ((refl, (refl, refl)), (refl, (refl, refl)), (refl, (refl, refl)));
    admit = admit-enters;
    full = λ c bytes. (refl, (refl, refl));
    deliver = λ c bytes. (refl, (refl, refl));
    take = λ c. (refl, (refl, refl));
    lose_in = λ c place x is. (refl, (refl, refl));
    lose_out = λ c place f is. (refl, (refl, refl));
    fail_primary = λ goes. (refl, (refl, refl));
    fail_backup =
        let held = all_held boxes (outbox_of start r) r in (
          filter-append is_of_guest ahead (landings boxes held)
              ∙ (λ i. guest-all ahead kept i ++ landed-none boxes held i)
              ∙ append-nil ahead,
          (refl, refl),
        );
    go_live = (
      guest-none (live_entries boxes (shown_at start r).out r.journal)
          (live_all NotOfGuest (λ n. refl) (λ c. refl) (λ c place. refl) boxes (shown_at start r).out r.journal),
      (refl, refl),
    );
    protect = (refl, (refl, refl));
  }
    where
      step-enters : (alone : Bool) → is_alone r.mode ≡ alone
          → Enters Step (replies.Steps (next (live_at start r).guest).steps) old
          (guest_entries (at_once alone (step_entries true boxes (sent (live_at start r).guest))))
          (then g' (record r {
            journal = with_moves (is_alone r.mode) r.journal
                (step_entries (is_alone r.mode) boxes (sent (live_at start r).guest));
          }))
      step-enters false is = rw is (inl (refl, (refl, refl)))
      step-enters true is = rw is (inr (lone is, ap (λ t. Ran ∷ t) (landed-none boxes _), lone is))

      admit-enters : (c n : ℕ) (alone : Bool) → is_alone r.mode ≡ alone
          → Enters (Admit c) (replies.Admitted n) old (guest_entries (at_once alone (Arrive n ∷ [])))
          (then g' (record r { journal = with_moves (is_alone r.mode) r.journal (Arrive n ∷ []) }))
      admit-enters c n false is = rw is (inl (refl, (refl, refl)))
      admit-enters c n true is = rw is (inr (lone is, refl, lone is))
