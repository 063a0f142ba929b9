-- What whole runs are to the clients, from what each of their events is.
use Rattle.std.proofs.Common.{◌≡◌, ℕ, suc, List, [], ◌∷◌, ◌++◌, ap, ◌∙◌, subst, append_assoc, Option}
use Rattle.std.proofs.lemmas.List.{append-nil}
use Rattle.std.specs.Prelude.{drop}
use Rattle.pair_history.specs.{Entries.{Frame, Entry, Delivered, Refused, Took}, HistoryState.{HistoryState, at, Legal}}
use Rattle.pair_record.specs.{declared.event.Event.Event, declared.event.Event.TheVariants.{Deliver, Take, GoLive}}
use Rattle.pair_core.specs.Calls.{Moment, ahead_of}
use Rattle.pair_record.specs.{declared.event.Refusal.TheVariants.Full, declared.event.Reply.Reply}
use Rattle.pair_core.specs.Service.{Serves, HasServed, LetsIn, HasEntered, IsDelivery, Point, IsTold, IsResumed}
use Rattle.pair_core.specs.laws.{Along.along-tells, Serves.served_grows}
use Rattle.pair_history.specs.laws.Histories.{legal-second}
use Rattle.pair_record.specs.declared.event.Reply.TheVariants as replies

-- what enters it along a run is what each event lets in
pub has_entered : (start : HistoryState) (old new : Moment) (events : List Event) (answers : List Reply)
    → HasServed start old events answers new → HasEntered old events answers new
has_entered start old new events answers run =
    along-tells (Serves start) LetsIn
    (λ event reply m n one. record { added = one.added; grows = one.grows; enters = one.enters }) events answers old new run

module _ (start : HistoryState) (old new : Moment) (events : List Event) (answers : List Reply) where
  -- the entry that tells of a call stands where the call was made, in a state that allows it
  told : (k : ℕ) (event : Event) (reply : Reply) (x : Entry) → (p : Point start old events answers new k event reply)
      → p.here.added ≡ x ∷ [] → IsTold start p.before p.done new x
  told k event reply x p e =
      let es = p.before.history in
      let ahead = ahead_of p.done in
      let grows : p.done.history ≡ es ++ x ∷ [] = p.here.grows ∙ ap (λ t. es ++ t) e in
      let legal : Legal start (es ++ x ∷ ahead) =
      subst (Legal start) (ap (λ t. t ++ ahead) grows ∙ append_assoc es (x ∷ []) ahead) p.here.legal in
      record {
        told = grows;
        allowed = (legal-second start es (x ∷ ahead) legal).0;
        stays = served_grows start p.done new (drop (suc k) events) (drop (suc k) answers) p.from;
      }

  pub told_take : (k c : ℕ) (frame : Option Frame) → (p : Point start old events answers new k (Take c) (replies.Took frame))
      → IsTold start p.before p.done new (Took c frame)
  told_take k c frame p = told k (Take c) (replies.Took frame) (Took c frame) p p.here.tells

  pub told_deliver : (k c n : ℕ) (bytes : List ℕ) (event : Event) → IsDelivery c bytes event
      → (p : Point start old events answers new k event (replies.Delivered n))
      → IsTold start p.before p.done new (Delivered c (record { items = bytes }) n)
  told_deliver k c n bytes (Deliver client frame) is p =
      told k (Deliver client frame) (replies.Delivered n) (Delivered c (record { items = bytes }) n) p
      (p.here.tells ∙ (λ i. Delivered (is.0 i) (record { items = is.1 i }) n ∷ []))
  told_deliver k c n bytes other is p = absurd is

  pub told_full : (k c : ℕ) (bytes : List ℕ) (event : Event) → IsDelivery c bytes event
      → (p : Point start old events answers new k event (replies.Refused Full))
      → IsTold start p.before p.done new (Refused c (record { items = bytes }))
  told_full k c bytes (Deliver client frame) is p =
      told k (Deliver client frame) (replies.Refused Full) (Refused c (record { items = bytes })) p
      (p.here.tells ∙ (λ i. Refused (is.0 i) (record { items = is.1 i }) ∷ []))
  told_full k c bytes other is p = absurd is

  pub told_resume : (k generation steps : ℕ) → (p : Point start old events answers new k GoLive (replies.Live generation steps))
      → IsResumed start p.done new steps
  told_resume k generation steps p = record {
    guest =
        p.here.guest ∙ ap (λ (t : List Entry). (at start (p.done.history ++ t)).guest) p.here.resumes.0
        ∙ ap (λ (t : List Entry). (at start t).guest) (append-nil p.done.history);
    steps = p.here.resumes.1;
    stays = served_grows start p.done new (drop (suc k) events) (drop (suc k) answers) p.from;
  }
