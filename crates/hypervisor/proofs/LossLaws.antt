-- What a loss makes of what the line's seat has seen.
use Rattle.std.proofs.Common.{◌≡◌, ℕ, ◌≤◌, List, [], ◌∷◌, ◌++◌, length, refl, sym, ap, ◌∙◌, subst, Ok, Err, Result, Option, Some, None}
use Rattle.std.specs.Prelude.{IfOk, OnOk, IfErr, slice_get, option_map}
use Rattle.frame_ports.specs.Lands.{list_of}
use Rattle.frame_ports.specs.Ports as ports
use Rattle.frame_ports.specs.Ports.{PortsState}
use Rattle.pair_history.specs.Entries.{Entry, Frame, DropIn, DropOut}
use Rattle.pair_history.specs.HistoryState.{HistoryState}
use Rattle.pair_record.specs.declared.event.Refusal.{Refusal}
use Rattle.pair_record.specs.Protocol.{first_refusal, lost_in, lost_out}
use Rattle.growing_history.specs.Steps.{Added, Step}
use Rattle.growing_history.specs.LogState.{LegalSteps, line_seat, state_at}
use Rattle.growing_history.specs.Views.{Member}
use Rattle.pair_book.specs.declared.losses.Lost.{Lost}
use Rattle.pair_book.specs.declared.losses.Lost.TheVariants.{Dropped, Empty}
use Rattle.pair_book.specs.Books.{BookState, inbox_at, box_at}
use Rattle.pair_book.specs.Calls.{Makes, Shows, IsAsBefore}
use Rattle.pair_book.specs.Losses.{AfterLoss, loss_rows}
use Rattle.hypervisor.specs.Seats.{MakesStep, Looks}
use Rattle.hypervisor.specs.Losses.{Drops, AfterLossIn, AfterLossOut}
use Rattle.hypervisor.proofs.{LossWhys.is-client, Steps.{makes-at, looks-at}}

is-drop-in : (o : Option (ℕ × Frame)) (e : Entry) → option_map (λ (x : ℕ × Frame). DropIn x.0) o ≡ Some e
    → (n : ℕ) × (f : Frame) × (e ≡ DropIn n) × (o ≡ Some (n, f))
is-drop-in None e is = absurd (cc)
is-drop-in (Some x) e is = (x.0, x.1, cc, refl)

none-there : {A : Type 0} (f : A → Entry) (o : Option A) → option_map f o ≡ None → o ≡ None
none-there f None is = refl
none-there f (Some x) is = absurd (cc)

is-drop-out : (c place : ℕ) (o : Option Frame) (e : Entry) → option_map (λ (f : Frame). DropOut c place) o ≡ Some e
    → (f : Frame) × (e ≡ DropOut c place) × (o ≡ Some f)
is-drop-out c place None e is = absurd (cc)
is-drop-out c place (Some f) e is = (f, cc, refl)

-- what the book says of a client's inbox and of its box
abbrev pub IsInbox : HistoryState → BookState → ℕ → Type 0
IsInbox start b c = ports.inbox_of b.ports c ≡ inbox_at (state_at start b.steps) c

abbrev pub AreBoxes : HistoryState → BookState → Type 0
AreBoxes start b = (state_at start b.steps).marked ≡ 0 → b.ports.boxes ≡ (state_at start b.steps).history.boxes

module _ (start : HistoryState) (b b' : BookState) (seat seat' : Member) (line : seat.number ≡ line_seat)
    (legal : LegalSteps start seat'.steps) (after : PortsState) where
  dropped : (e e' : Entry) → e' ≡ e → Makes (Added (e' ∷ [])) b b' seat seat'
      → (drops : Drops start e seat.steps seat'.steps) × (seat.steps ++ drops.seen.0 ≡ b.steps)
  dropped e e' is m =
      subst
      (λ (x : ℕ × Entry). (made : MakesStep start x.0 (Added (x.1 ∷ [])) seat.steps seat'.steps) × (seat.steps ++ made.seen.0 ≡ b.steps))
      (λ i. (line i, is i)) (makes-at start (Added (e' ∷ [])) b b' seat seat' m legal)

  looked : Shows b seat seat' → Looks start line_seat seat.steps seat'.steps
  looked m =
      subst (λ (n : ℕ). Looks start n seat.steps seat'.steps) line (looks-at start b seat seat' m legal)

  pub lost-in : (c place : ℕ) (r : Result Lost Refusal)
      → ((d : ℕ) → 1 ≤ d → d ≤ length b.ports.boxes → IsInbox start b d)
      → OnOk r (first_refusal (loss_rows b c (lost_in (ports.inbox_of b.ports c) place)) ≡ None)
      → IfOk r (λ loss. AfterLoss (lost_in (ports.inbox_of b.ports c) place) after loss b b' seat seat')
      → IfOk r (λ loss. AfterLossIn start c place loss seat.steps seat'.steps)
  lost-in c place (Ok Dropped) law free h =
      let range = is-client b c (lost_in (ports.inbox_of b.ports c) place) free in
      let inbox = law c range.0 range.1 in
      let n = is-drop-in (slice_get (ports.inbox_of b.ports c) place) h.0 h.1 in
      let made = dropped (DropIn n.0) h.0 n.2 h.2 in (
        n.0,
        n.1,
        made.0,
        subst (λ (xs : List Step). slice_get (inbox_at (state_at start xs) c) place ≡ Some (n.0, n.1)) (sym made.1)
            (ap (λ (box : List (ℕ × Frame)). slice_get box place) (sym inbox) ∙ n.3),
      )
  lost-in c place (Ok Empty) law free h =
      let range = is-client b c (lost_in (ports.inbox_of b.ports c) place) free in
      let inbox = law c range.0 range.1 in (
        looked h.2,
        subst (λ (xs : List Step). slice_get (inbox_at (state_at start xs) c) place ≡ None)
            (sym (ap (λ (s : Member). s.steps) h.2.sees))
            (ap (λ (box : List (ℕ × Frame)). slice_get box place) (sym inbox)
            ∙ none-there (λ (x : ℕ × Frame). DropIn x.0) (slice_get (ports.inbox_of b.ports c) place) h.0),
      )
  lost-in c place (Err why) law free h = tt

  pub lost-out : (c place : ℕ) (r : Result Lost Refusal) → AreBoxes start b
      → IfOk r (λ loss. AfterLoss (lost_out c (ports.box_of b.ports c) place) after loss b b' seat seat')
      → IfOk r (λ loss. AfterLossOut start c place loss seat.steps seat'.steps)
  lost-out c place (Ok Dropped) boxes h =
      let there = is-drop-out c place (slice_get (ports.box_of b.ports c) place) h.0 h.1 in
      let made = dropped (DropOut c place) h.0 there.1 h.2 in (
        made.0,
        subst
            (λ (xs : List Step). (state_at start xs).marked ≡ 0
            → (f : Frame) × (slice_get (box_at (state_at start xs) c) place ≡ Some f)) (sym made.1)
            (λ none. (there.0, ap (λ (bs : List (List Frame)). slice_get (list_of bs c) place) (sym (boxes none)) ∙ there.2)),
      )
  lost-out c place (Ok Empty) boxes h = (
    looked h.2,
    subst
        (λ (xs : List Step). (state_at start xs).marked ≡ 0 → slice_get (box_at (state_at start xs) c) place ≡ None)
        (sym (ap (λ (s : Member). s.steps) h.2.sees))
        (λ none.
        ap (λ (bs : List (List Frame)). slice_get (list_of bs c) place) (sym (boxes none))
        ∙ none-there (λ (f : Frame). DropOut c place) (slice_get (ports.box_of b.ports c) place) h.0),
  )
  lost-out c place (Err why) boxes h = tt

pub not-lost : (b b' : BookState) (seat seat' : Member) (r : Result Lost Refusal) → IfErr r (λ _. IsAsBefore b b' seat seat')
    → IfErr r (λ _. seat' ≡ seat)
not-lost b b' seat seat' (Ok l) h = tt
not-lost b b' seat seat' (Err why) h = h.1
