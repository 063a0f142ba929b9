-- What a client's call makes of what the client has seen. The laws of growing_history come as premises, since its functions promise them.
use Rattle.std.proofs.Common.{◌≡◌, ℕ, ◌≤◌, List, [], ◌∷◌, ◌++◌, length, refl, sym, ap, ◌∙◌, subst, arith, Ok, Err, Result, Bool}
use Rattle.std.specs.Prelude.{IfOk, IfErr}
use Rattle.frame_ports.specs.Limits.{inbox_frames}
use Rattle.frame_ports.specs.Ports as ports
use Rattle.pair_history.specs.Entries.{Entry, Frame, Delivered, Refused, Took}
use Rattle.pair_history.specs.HistoryState.{HistoryState}
use Rattle.pair_record.specs.declared.event.Refusal.{Refusal}
use Rattle.pair_record.specs.declared.event.Refusal.TheVariants.{Full, BadFrame, NoClient, Stopped, Behind, NotPaired, AlreadyPaired}
use Rattle.pair_record.specs.declared.event.Refusal.TheVariants.{NoImage, Stale, Gap, NoMemory, CutNeeded, Exhausted, OldVersion}
use Rattle.growing_history.specs.Entries.{own_entries, IsCall}
use Rattle.growing_history.specs.Steps.{Added, Step, step, Begins, steps_by}
use Rattle.growing_history.specs.LogState.{LegalSteps, state_at, history_of, client_seat}
use Rattle.growing_history.specs.Views.{Member}
use Rattle.pair_book.specs.Books.{BookState, inbox_at}
use Rattle.pair_record.specs.Protocol.{first_refusal}
use Rattle.pair_record.specs.Record.{given}
use Rattle.pair_book.specs.Calls.{IsClientSeat, client_of, Makes, Shows, IsAsBefore, deliver_rows}
use Rattle.pair_book.specs.Calls.{IsWhyDelivery}
use Rattle.pair_book.specs.Calls.{AfterRefusedDelivery}
use Rattle.hypervisor.specs.Seats.{MakesStep}
use Rattle.hypervisor.specs.Clients.{client_state, Calls, RefusesDelivery, Learns}
use Rattle.hypervisor.specs.Looking.{SeesAll}
use Rattle.hypervisor.proofs.{Steps.makes-at, Whys.deliver-full}

-- a client's call is a point of one history
abbrev pub CallLaw : Type 0
CallLaw = (h : HistoryState) (c : ℕ) (old log : List Step) (es : List Entry) → 1 ≤ c → Begins old log
    → LegalSteps h (log ++ step (client_seat c) (Added es) ∷ [])
    → steps_by (client_seat c) (log ++ step (client_seat c) (Added es) ∷ []) ≡ steps_by (client_seat c) old ++ step (client_seat c)
    (Added es) ∷ []
    → IsCall h c old (log ++ step (client_seat c) (Added es) ∷ []) es

-- and what it sees without a call leaves its own entries
abbrev pub LookLaw : Type 0
LookLaw = (h : HistoryState) (c : ℕ) (old now : List Step) → 1 ≤ c → Begins old now → LegalSteps h now
    → steps_by (client_seat c) now ≡ steps_by (client_seat c) old
    → own_entries c (history_of h now) ≡ own_entries c (history_of h old)

seat-of : (start : HistoryState) (n : ℕ) → IsClientSeat start n → client_seat (client_of n) ≡ n
seat-of start n is = let low : 4 ≤ n = is.0 in omega arith

pub from-one : (start : HistoryState) (n : ℕ) → IsClientSeat start n → 1 ≤ client_of n
from-one start n is = let low : 4 ≤ n = is.0 in omega arith

called : (start : HistoryState) (c : ℕ) (old new : List Step) (e : Entry) → 1 ≤ c
    → MakesStep start (client_seat c) (Added (e ∷ [])) old new → CallLaw → IsCall start c old new (e ∷ [])
called start c old new e low m law =
    let is = m.seen.1 in
    subst (λ (ys : List Step). IsCall start c old ys (e ∷ [])) (sym is)
    (law start c old (old ++ m.seen.0) (e ∷ []) low (m.seen.0, refl)
    (subst (λ (ys : List Step). LegalSteps start ys) is m.legal)
    (ap (λ (ys : List Step). steps_by (client_seat c) ys) (sym is) ∙ m.own))

module _ (start : HistoryState) (b b' : BookState) (seat seat' : Member) (is : IsClientSeat start seat.number)
    (legal : LegalSteps start seat'.steps) (law : CallLaw) where
  told-at : (e : Entry) → Makes (Added (e ∷ [])) b b' seat seat'
      → (calls : Calls start e (client_state seat) (client_state seat')) × (seat.steps ++ calls.step.seen.0 ≡ b.steps)
  told-at e m =
      let c = client_of seat.number in
      let at = subst
      (λ (n : ℕ). (made : MakesStep start n (Added (e ∷ [])) seat.steps seat'.steps) × (seat.steps ++ made.seen.0 ≡ b.steps))
      (sym (seat-of start seat.number is)) (makes-at start (Added (e ∷ [])) b b' seat seat' m legal) in (
        record {
          number = ap (λ (s : Member). client_of s.number) m.sees;
          step = at.0;
          entry = called start c seat.steps seat'.steps e (from-one start seat.number is) at.0 law;
        },
        at.1,
      )

  told : (e : Entry) → Makes (Added (e ∷ [])) b b' seat seat' → Calls start e (client_state seat) (client_state seat')
  told e m = (told-at e m).0

  pub delivered : (bytes : List ℕ) (r : Result ℕ Refusal)
      → IfOk r (λ n. Makes (Added (Delivered (client_of seat.number) (record { items = bytes }) n ∷ [])) b b' seat seat')
      → IfOk r (λ n. Calls start (Delivered (client_of seat.number) (record { items = bytes }) n) (client_state seat)
      (client_state seat'))
  delivered bytes (Ok n) m = told (Delivered (client_of seat.number) (record { items = bytes }) n) m
  delivered bytes (Err e) m = tt

  pub took : (frame : Frame) (r : Result Bool Refusal)
      → IfOk r (λ is_some. Makes (Added (Took (client_of seat.number) (given is_some frame) ∷ [])) b b' seat seat')
      → IfOk r (λ is_some. Calls start (Took (client_of seat.number) (given is_some frame)) (client_state seat) (client_state seat'))
  took frame (Ok is_some) m = told (Took (client_of seat.number) (given is_some frame)) m
  took frame (Err e) m = tt

  same : IsAsBefore b b' seat seat' → client_state seat' ≡ client_state seat
  same a = ap client_state a.1

  -- where its inbox holds that many frames, it does so where the steps lead to
  refused-so : (f : Frame) (why : Refusal) → (why ≡ Full → inbox_frames ≤ length (inbox_at (state_at start b.steps) (client_of seat.number)))
      → AfterRefusedDelivery (client_of seat.number) f why b b' seat seat'
      → RefusesDelivery start f why (client_state seat) (client_state seat')
  refused-so f Full many a =
      let at = told-at (Refused (client_of seat.number) f) a.0 in (
        at.0,
        subst (λ (xs : List Step). inbox_frames ≤ length (inbox_at (state_at start xs) (client_of seat.number))) (sym at.1) (many refl),
      )
  refused-so f BadFrame many a = same a
  refused-so f NoClient many a = same a
  refused-so f Stopped many a = same a
  refused-so f Behind many a = same a
  refused-so f NotPaired many a = same a
  refused-so f AlreadyPaired many a = same a
  refused-so f NoImage many a = same a
  refused-so f Stale many a = same a
  refused-so f Gap many a = same a
  refused-so f (NoMemory m) many a = same a
  refused-so f CutNeeded many a = same a
  refused-so f Exhausted many a = same a
  refused-so f OldVersion many a = same a

  pub not-delivered : (bytes : List ℕ) (r : Result ℕ Refusal) → length b.ports.boxes ≡ length start.boxes
      → ((d : ℕ) → 1 ≤ d → d ≤ length b.ports.boxes → ports.inbox_of b.ports d ≡ inbox_at (state_at start b.steps) d)
      → IfErr r (λ why. IsWhyDelivery (first_refusal (deliver_rows b (client_of seat.number) bytes)) why)
      → IfErr r (λ why. AfterRefusedDelivery (client_of seat.number) (record { items = bytes }) why b b' seat seat')
      → IfErr r (λ why. RefusesDelivery start (record { items = bytes }) why (client_state seat) (client_state seat'))
  not-delivered bytes (Ok n) count inboxes row a = tt
  not-delivered bytes (Err why) count inboxes row a =
      let c = client_of seat.number in
      let low = from-one start seat.number is in
      let high : c ≤ length b.ports.boxes = let most = is.1 in omega (arith, most, count) in
      let full : why ≡ Full → inbox_frames ≤ length (inbox_at (state_at start b.steps) c) = λ e.
      subst (λ (xs : List (ℕ × Frame)). inbox_frames ≤ length xs) (inboxes c low high)
      (deliver-full b c bytes (subst (λ (r : Refusal). IsWhyDelivery (first_refusal (deliver_rows b c bytes)) r) e row)) in
      refused-so (record { items = bytes }) why full a

  pub not-taken : (frame frame' : Frame) (r : Result Bool Refusal)
      → IfErr r (λ _. IsAsBefore b b' seat seat' × (frame' ≡ frame))
      → IfErr r (λ _. (client_state seat' ≡ client_state seat) × (frame' ≡ frame))
  not-taken frame frame' (Ok is_some) a = tt
  not-taken frame frame' (Err why) a = (same a.0, a.1)

pub learned : (start : HistoryState) (seat seat' : Member) (told : List Step) → IsClientSeat start seat.number
    → seat'.number ≡ seat.number → Begins seat.steps seat'.steps → Begins told seat'.steps
    → steps_by seat.number seat'.steps ≡ steps_by seat.number seat.steps → LegalSteps start seat'.steps → LookLaw
    → Learns start told (client_state seat) (client_state seat')
learned start seat seat' told is number seen heard own legal law =
    let c = client_of seat.number in
    let kept : steps_by (client_seat c) seat'.steps ≡ steps_by (client_seat c) seat.steps =
    subst (λ (n : ℕ). steps_by n seat'.steps ≡ steps_by n seat.steps) (sym (seat-of start seat.number is)) own in
    record {
      number = ap client_of number;
      legal = legal;
      seen = seen;
      told = heard;
      own = ap (λ (n : ℕ). own_entries (client_of n) (history_of start seat'.steps)) number
          ∙ law start c seat.steps seat'.steps (from-one start seat.number is) seen legal kept;
    }

pub seen-all : (start : HistoryState) (b : BookState) (seat seat' : Member) → IsClientSeat start seat.number → Shows b seat seat'
    → LegalSteps start b.steps → LookLaw → SeesAll start b.steps (client_state seat) (client_state seat')
seen-all start b seat seat' is shows legal law =
    let c = client_of seat.number in
    let kept : steps_by (client_seat c) b.steps ≡ steps_by (client_seat c) seat.steps =
    subst (λ (n : ℕ). steps_by n b.steps ≡ steps_by n seat.steps) (sym (seat-of start seat.number is)) shows.own in
    record {
      number = ap (λ (s : Member). client_of s.number) shows.sees;
      sees = ap (λ (s : Member). s.steps) shows.sees;
      begins = shows.saw;
      own = law start c seat.steps b.steps (from-one start seat.number is) shows.saw legal kept;
    }
