-- A runner runs on once its epoch has ended.
use Rattle.std.proofs.Common.{◌≡◌, ◌≢◌, ℕ, zero, suc, ◌+◌, ◌<◌, ◌≤◌, List, [], ◌∷◌, ◌++◌, length, map, take, drop, get_or, refl, sym, ap}
use Rattle.std.proofs.Common.{◌∙◌, subst, arith, Some}
use Rattle.std.proofs.lemmas.List.{append-nil, map-append, take-append-drop}
use Rattle.std.proofs.lemmas.List.Elements.{All-nil, All-cons, All-head, All-tail, All-append, All-take}
use Rattle.std.specs.Prelude.{All, slice_get}
use Rattle.frame_ports.specs.{Addresses.targets_of, Lands.list_of, Ports.PortsState}
use Rattle.guest_rules.specs.Guest.{Guest}
use Rattle.pair_history.specs.Entries.{Frame, Entry, Arrive}
use Rattle.pair_history.specs.HistoryState.{HistoryState, Waiting, inbox_of, frame_numbered, without_number, at, sent_along}
use Rattle.pair_history.specs.Failures.{arrived_numbers}
use Rattle.pair_history.specs.Order.{AreGuests}
use Rattle.pair_history.specs.Reached.{AreRising}
use Rattle.pair_history.specs.Waits.{without_numbers, AllWait}
use Rattle.frame_ports.specs.laws.Lands.{length-lands}
use Rattle.pair_history.specs.laws.Waiting.{AreRising-without, found-without, gone, leaves-at}
use Rattle.pair_history.specs.laws.Waits.{at-waits, waits-guests, rising-without_numbers, AllWait-second, without_numbers-append}
use Rattle.pair_history.specs.laws.Waits.{arrived_numbers-append, arrived_numbers-arrivals}
use Rattle.pair_record.specs.EpochActs.{guest_epoch, behind}
use Rattle.pair_record.specs.Protocol.{Record}
use Rattle.pair_record.specs.Accords.{AreInboxes}
use Rattle.growing_history.specs.Steps.{Step, step, Begins}
use Rattle.growing_history.specs.LogState.{LogState, state_at, sealed_state, entries_of, after_step, IsEpoch, IsAlone}
use Rattle.growing_history.specs.Views.{Member}
use Rattle.growing_history.specs.laws.Logs.{state-snoc}
use Rattle.growing_history.specs.laws.Sealed.{are-sealed}
use Rattle.growing_history.specs.Waiting.{taken}
use Rattle.pair_book.specs.Books.{BookState}
use Rattle.pair_book.specs.declared.prepared.Prepared.{Prepared}
use Rattle.pair_book.specs.declared.prepared.Prepared.TheVariants as prepared
use Rattle.pair_book.specs.declared.runner.Kind.{Kind}
use Rattle.pair_book.specs.declared.runner.Kind.TheVariants.{Nothing, Delta, Full}
use Rattle.pair_book.specs.Handing.{Handing, handing, firsts, arrivals_of, HandsBehind, HandsNext}
use Rattle.pair_book.specs.Settled.{epoch_of, runner_outside, settled_runner, numbers_of, Follows, Runs, RunsOn}
use Rattle.pair_book.specs.Submitting.{protocol_ended, ports_ended, ended, wanted_kind, told_as, epoch_told}
use Rattle.pair_book.specs.internal.{Tie.IsTied, Waits.{waits_at_last}}
use Rattle.pair_book.specs.laws.EpochWords.{epoch-is, behind-arrivals, own-arrived, own-guests}
use Rattle.pair_book.proofs.MadeLaws.{Alike, sealed-alike, lone-alike, none-before}
use Rattle.pair_book.proofs.RunLaws.{runs-on}
use Rattle.pair_book.proofs.SubmitLaws.{Suits, Free, alone-mode}
use Rattle.pair_book.proofs.{Ties.tied-guests, Waits.at-last}

-- WHAT WAITS once others have left

-- that frame waits under that number
abbrev WaitsAs : List Waiting → ℕ × Frame → Type 0
WaitsAs ws p = frame_numbered p.0 ws ≡ Some p.1

module _ (first end : ℕ) where
  -- what waits then waited before, as the same frame: no two have one number
  waited : (m : ℕ) (f : Frame) (ns : List ℕ) (ws : List Waiting) → AreRising first end ws
      → frame_numbered m (without_numbers ns ws) ≡ Some f → frame_numbered m ws ≡ Some f
  waited m f [] ws r e = e
  waited m f (n ∷ ns) ws r e =
      let now = without_number n ws in
      let here = waited m f ns now (AreRising-without n first end ws r) e in
      let missing = gone n first end ws r in
      let differ : m ≢ n = λ (same : m ≡ n). absurd (cc (missing, here, ap (λ (k : ℕ). frame_numbered k now) same)) in
      sym (found-without m n ws differ) ∙ here

  -- so those of these numbers that wait one after another, once others have left, are those that waited before
  module _ (ns : List ℕ) (ws : List Waiting) (rises : AreRising first end ws) where
    abbrev left : List Waiting
    left = without_numbers ns ws

    still-wait : (others : List ℕ) (ps : List (ℕ × Frame)) → All (WaitsAs ws) ps
        → AllWait (numbers_of ps) (without_numbers others left) → All (WaitsAs left) ps
    still-wait others [] all w = All-nil (WaitsAs left)
    still-wait others (p ∷ ps) all w =
        let here = waited p.0 w.0.0 others left (rising-without_numbers first end ns ws rises) w.0.1 in
        let before = waited p.0 w.0.0 ns ws rises here in
        All-cons (WaitsAs left) p ps (here ∙ sym before ∙ All-head (WaitsAs ws) p ps all)
        (still-wait (others ++ p.0 ∷ []) ps (All-tail (WaitsAs ws) p ps all)
        (subst (AllWait (numbers_of ps)) (sym (without_numbers-append others (p.0 ∷ []) left)) w.1))

  -- each frame of an inbox waits
  module _ (ws : List Waiting) (rises : AreRising first end ws) where
    get-some : {A : Type 0} (xs : List A) (k : ℕ) (d : A) → k < length xs → slice_get xs k ≡ Some (get_or xs k d)
    get-some [] k d low = absurd (omega (arith, low))
    get-some (x ∷ xs) zero d low = refl
    get-some (x ∷ xs) (suc k) d low = get-some xs k d (omega (arith, low))

    inbox-waits : (c : ℕ) → All (WaitsAs ws) (inbox_of c ws)
    inbox-waits c = λ k d low.
        let p = get_or (inbox_of c ws) k d in
        (leaves-at c k p.0 p.1 first end ws rises (get-some (inbox_of c ws) k d low)).0

    firsts-wait : (m c count : ℕ) (inboxes : List (List (ℕ × Frame))) → AreInboxes count inboxes ws → 1 ≤ c → c + m ≤ count + 1
        → All (WaitsAs ws) (firsts m c inboxes)
    firsts-wait zero c count inboxes are low high = All-nil (WaitsAs ws)
    firsts-wait (suc m) c count inboxes are low high =
        let here = are c low (omega (arith, high)) in
        All-append (WaitsAs ws) (take 4 (list_of inboxes c)) (firsts m (c + 1) inboxes)
        (All-take (WaitsAs ws) 4 (list_of inboxes c) (subst (All (WaitsAs ws)) (sym here) (inbox-waits c)))
        (firsts-wait m (c + 1) count inboxes are (omega arith) (omega (arith, high)))

-- WHAT IS HANDED OUT NEXT, where nothing was yet

module _ (h : Handing) (now : Record) (q : PortsState) (xs : List (ℕ × Frame)) (none : h.frames ≡ []) where
  -- what runs has grown by its arrivals
  running-next : HandsNext h (handing now q xs) → now.journal.running ≡ h.protocol.journal.running ++ arrivals_of xs
  running-next hands = by_list h.protocol.journal.running hands
    where
      by_list : (es : List Entry) → HandsBehind es h (handing now q xs)
          → now.journal.running ≡ h.protocol.journal.running ++ arrivals_of xs
      by_list [] out =
          let fours = firsts (length h.ports.boxes) 1 h.ports.inboxes in
          let all : xs ≡ fours = out.out.frames ∙ ap (λ l. l ++ fours) none in
          ap (λ (r : Record). r.journal.running) out.out.protocol ∙ ap (λ l. h.protocol.journal.running ++ arrivals_of l) (sym all)
      by_list (e ∷ es) same =
          let all : xs ≡ [] = ap (λ (x : Handing). x.frames) same ∙ none in
          ap (λ (x : Handing). x.protocol.journal.running) same
          ∙ sym (append-nil h.protocol.journal.running)
          ∙ ap (λ l. h.protocol.journal.running ++ arrivals_of l) (sym all)

  -- and each of its frames waits, if what waits is what the inboxes hold where nothing still runs
  next-waits : (ws : List Waiting) → HandsNext h (handing now q xs)
      → (h.protocol.journal.running ≡ [] → All (WaitsAs ws) (firsts (length h.ports.boxes) 1 h.ports.inboxes)) → All (WaitsAs ws) xs
  next-waits ws hands four = by_list h.protocol.journal.running refl hands
    where
      by_list : (es : List Entry) → h.protocol.journal.running ≡ es → HandsBehind es h (handing now q xs) → All (WaitsAs ws) xs
      by_list [] e out =
          let fours = firsts (length h.ports.boxes) 1 h.ports.inboxes in
          subst (All (WaitsAs ws)) (sym (out.out.frames ∙ ap (λ l. l ++ fours) none)) (four e)
      by_list (e ∷ es) is same =
          subst (All (WaitsAs ws)) (sym (ap (λ (x : Handing). x.frames) same ∙ none)) (All-nil (WaitsAs ws))

ended-running : (kind : Kind) (arrivals ran : ℕ) (fs : List Frame) (r : Record) (p : PortsState)
    → (protocol_ended kind arrivals ran fs r p).journal.running ≡ behind arrivals r.journal.running
ended-running Nothing arrivals ran fs r p = refl
ended-running Delta arrivals ran fs r p = refl
ended-running Full arrivals ran fs r p = refl

ended-ports : (kind : Kind) (fs : List Frame) (r : Record) (p : PortsState)
    → ((ports_ended kind fs r p).inboxes ≡ p.inboxes) × (length (ports_ended kind fs r p).boxes ≡ length p.boxes)
ended-ports Nothing fs r p = (refl, length-lands p.boxes (targets_of (length p.boxes) fs))
ended-ports Delta fs r p = (refl, refl)
ended-ports Full fs r p = (refl, length-lands p.boxes (targets_of (length p.boxes) fs))

-- THE EPOCH HAS ENDED, of a runner that has seen all
module _ (start : HistoryState) (b : BookState) (t : IsTied start b.steps b.protocol b.ports) (by : ℕ) (what : Prepared)
    (free : Free start b by what) (arrivals ran : ℕ) (fs : List Frame) (now : Record) (q : PortsState) (xs : List (ℕ × Frame))
    (log : List Step) (grown : log ≡ b.steps ++ step by (epoch_told b arrivals ran what) ∷ []) (tied : IsTied start log now q)
    (hands : HandsNext (ended b arrivals ran fs) (handing now q xs)) (held : List (ℕ × Frame)) (guest settled : Guest)
    (was : Runs start (record { number = by; steps = b.steps }) (runner_outside arrivals ran held guest fs settled)) where
  abbrev s : LogState
  s = state_at start b.steps

  abbrev r : Record
  r = b.protocol

  abbrev epoch : List Entry
  epoch = guest_epoch arrivals ran r.journal.running

  abbrev own : List Entry
  own = epoch_of s.handed arrivals ran

  abbrev u : LogState
  u = after_step s (epoch_told b arrivals ran what)

  live : s.runner ≡ by
  live = sym free.live

  there : state_at start log ≡ u
  there = ap (state_at start) grown ∙ state-snoc start b.steps (step by (epoch_told b arrivals ran what))

  same : epoch ≡ own
  same = epoch-is s.handed arrivals ran r.journal.running t.running

  -- the sealed state is the one after the epoch
  alike : Alike (sealed_state u) (at (sealed_state s) epoch)
  alike = by_what what free.suit
    where
      by_what : (x : Prepared) → Suits r x → Alike (sealed_state (after_step s (told_as x epoch))) (at (sealed_state s) epoch)
      by_what prepared.Nothing suit =
          lone-alike s epoch
          ((are-sealed start b.steps t.legal).alone (subst IsAlone (sym (alone-mode r.mode suit) ∙ t.mode) tt))
      by_what (prepared.Checkpoint c) suit =
          sealed-alike s c.generation c.number epoch c.text (none-before start b.steps t.legal c.number (suit.2 ∙ t.next))

  stays : (u.runner ≡ s.runner) × (u.marked ≡ s.marked)
  stays = by_what what
    where
      by_what : (x : Prepared) → ((after_step s (told_as x epoch)).runner ≡ s.runner) × ((after_step s (told_as x epoch)).marked ≡ s.marked)
      by_what prepared.Nothing = (refl, refl)
      by_what (prepared.Checkpoint c) = (refl, refl)

  -- what is handed out then is what it holds, and then what it is handed
  ended-runs : (ended b arrivals ran fs).protocol.journal.running ≡ map Arrive (numbers_of held)
  ended-runs =
      ended-running (wanted_kind b) arrivals ran fs r b.ports
      ∙ ap (behind arrivals) t.running
      ∙ behind-arrivals arrivals s.handed
      ∙ ap (map Arrive) (sym (was.holds live))

  handed-now : (state_at start log).handed ≡ numbers_of (held ++ xs)
  handed-now =
      let all = (state_at start log).handed in
      let both : map Arrive all ≡ map Arrive (numbers_of (held ++ xs)) =
      sym tied.running
      ∙ running-next (ended b arrivals ran fs) now q xs refl hands
      ∙ ap (λ l. l ++ arrivals_of xs) ended-runs
      ∙ sym (map-append Arrive (numbers_of held) (numbers_of xs))
      ∙ ap (map Arrive) (sym (map-append (λ (x : ℕ × Frame). x.0) held xs)) in
      sym (arrived_numbers-arrivals all) ∙ ap arrived_numbers both ∙ arrived_numbers-arrivals (numbers_of (held ++ xs))

  -- WHAT WAITS at the sealed state: before the epoch, and after it
  abbrev sealed : List Entry
  sealed = entries_of s.sealed

  abbrev ws : List Waiting
  ws = (sealed_state s).waiting

  abbrev came : List ℕ
  came = take arrivals s.handed

  abbrev later : List Waiting
  later = without_numbers came ws

  guests : AreGuests sealed
  guests = tied-guests start b.steps r b.ports t

  ws-are : ws ≡ without_numbers (arrived_numbers sealed) s.history.waiting
  ws-are = at-waits s.history sealed ∙ waits-guests s.history.waiting sealed guests

  taken-are : taken s ≡ arrived_numbers sealed ++ s.handed
  taken-are =
      arrived_numbers-append sealed (map Arrive s.handed)
      ∙ ap (λ (l : List ℕ). arrived_numbers sealed ++ l) (arrived_numbers-arrivals s.handed)

  rises : AreRising 1 b.ports.next ws
  rises =
      subst (AreRising 1 b.ports.next) (sym ws-are)
      (rising-without_numbers 1 b.ports.next (arrived_numbers sealed) s.history.waiting t.waits.rising)

  all-wait : AllWait s.handed ws
  all-wait =
      subst (AllWait s.handed) (sym ws-are)
      (AllWait-second (arrived_numbers sealed) s.handed s.history.waiting
      (subst (λ (l : List ℕ). AllWait l s.history.waiting) taken-are t.waits.there))

  rest-waits : AllWait (numbers_of held) later
  rest-waits =
      subst (λ (l : List ℕ). AllWait l later) (sym (was.holds live))
      (AllWait-second came (drop arrivals s.handed) ws
      (subst (λ (l : List ℕ). AllWait l ws) (sym (take-append-drop arrivals s.handed)) all-wait))

  waits-then : (sealed_state u).waiting ≡ later
  waits-then =
      alike.1
      ∙ ap (λ (es : List Entry). (at (sealed_state s) es).waiting) same
      ∙ at-waits (sealed_state s) own
      ∙ waits-guests ws own (own-guests s.handed arrivals ran)
      ∙ ap (λ (l : List ℕ). without_numbers l ws) (own-arrived s.handed arrivals ran)

  -- where nothing still runs, it is what waits at last
  last-waits : map Arrive (numbers_of held) ≡ [] → waits_at_last s ≡ later
  last-waits none =
      let empty : drop arrivals s.handed ≡ [] =
      sym (was.holds live) ∙ sym (arrived_numbers-arrivals (numbers_of held)) ∙ ap arrived_numbers none in
      let all : s.handed ≡ came =
      sym (take-append-drop arrivals s.handed) ∙ ap (λ l. came ++ l) empty ∙ append-nil came in
      at-last s guests
      ∙ ap (λ (l : List ℕ). without_numbers l s.history.waiting) taken-are
      ∙ without_numbers-append (arrived_numbers sealed) s.handed s.history.waiting
      ∙ ap (without_numbers s.handed) (sym ws-are)
      ∙ ap (λ (l : List ℕ). without_numbers l ws) all

  new-wait : All (WaitsAs later) xs
  new-wait =
      let h = ended b arrivals ran fs in
      let ports = ended-ports (wanted_kind b) fs r b.ports in
      next-waits h now q xs refl later hands
      (λ none.
      let are : AreInboxes (length b.ports.boxes) b.ports.inboxes later =
      subst (AreInboxes (length b.ports.boxes) b.ports.inboxes) (last-waits (sym ended-runs ∙ none)) t.waits.inboxes in
      subst (λ (y : ℕ × List (List (ℕ × Frame))). All (WaitsAs later) (firsts y.0 1 y.1)) (λ i. (sym ports.1 i, sym ports.0 i))
      (firsts-wait 1 b.ports.next later (rising-without_numbers 1 b.ports.next came ws rises) (length b.ports.boxes) 1
      (length b.ports.boxes) b.ports.inboxes are (omega arith) (omega arith)))

  follows : s.marked ≡ 0 → Follows u (settled_runner guest (held ++ xs))
  follows none =
      let f = was.follows live none in
      let here : guest ≡ (sealed_state u).guest =
      f.guest ∙ ap (λ (es : List Entry). (at (sealed_state s) es).guest) (sym same) ∙ sym alike.0 in
      record {
        held =
            subst (λ (l : List Waiting). All (WaitsAs l) (held ++ xs)) (sym waits-then)
            (All-append (WaitsAs later) held xs (still-wait 1 b.ports.next came ws rises [] held f.held rest-waits) new-wait);
        settled = here;
        guest = here;
        outbox = refl;
      }

  pub runs-then : Runs start (record { number = by; steps = log }) (settled_runner guest (held ++ xs))
  runs-then = record {
    born = let is = ap (λ (v : LogState). v.runner) there in omega (arith, is, stays.0, live);
    came = λ alive. omega arith;
    holds = λ alive. sym handed-now;
    follows = λ alive none.
        let is = ap (λ (v : LogState). v.marked) there in
        subst (λ (v : LogState). Follows v (settled_runner guest (held ++ xs))) (sym there) (follows (omega (arith, is, stays.1, none)));
  }

-- WHERE ITS SEAT LOOKS FIRST
module _ (start : HistoryState) (b : BookState) (t : IsTied start b.steps b.protocol b.ports) (seat seat' : Member) (what : Prepared)
    (free : Free start b seat.number what) (arrivals ran : ℕ) (fs : List Frame) (begins : Begins seat.steps b.steps)
    (handed-law : (state_at start seat.steps).runner ≡ seat.number → (state_at start b.steps).runner ≡ seat.number
    → (state_at start b.steps).handed ≡ (state_at start seat.steps).handed)
    (frames-law : (state_at start seat.steps).runner ≡ seat.number → (state_at start b.steps).runner ≡ seat.number
    → (state_at start b.steps).marked ≡ 0 → (before later : List ℕ) (m : ℕ) (f : Frame)
    → (state_at start seat.steps).handed ≡ before ++ m ∷ later
    → frame_numbered m (sealed_state (state_at start seat.steps)).waiting ≡ Some f
    → frame_numbered m (sealed_state (state_at start b.steps)).waiting ≡ Some f)
    (epoch-law : (state_at start seat.steps).runner ≡ seat.number → (state_at start b.steps).runner ≡ seat.number
    → (state_at start b.steps).marked ≡ 0 → (epoch : List Entry) → IsEpoch (state_at start seat.steps) epoch
    → ((at (sealed_state (state_at start b.steps)) epoch).guest ≡ (at (sealed_state (state_at start seat.steps)) epoch).guest)
    × (sent_along (sealed_state (state_at start b.steps)) epoch ≡ sent_along (sealed_state (state_at start seat.steps)) epoch))
    (now : Record) (q : PortsState) (xs : List (ℕ × Frame))
    (tied : IsTied start (b.steps ++ step seat.number (epoch_told b arrivals ran what) ∷ []) now q)
    (hands : HandsNext (ended b arrivals ran fs) (handing now q xs))
    (sees : seat' ≡ record { number = seat.number; steps = b.steps ++ step seat.number (epoch_told b arrivals ran what) ∷ [] }) where
  pub runs-submitted : RunsOn start seat seat' arrivals ran fs xs
  runs-submitted = λ held guest settled runs.
      subst (λ (m : Member). Runs start m (settled_runner guest (held ++ xs))) (sym sees)
      (runs-then start b t seat.number what free arrivals ran fs now q xs
      (b.steps ++ step seat.number (epoch_told b arrivals ran what) ∷ []) refl tied hands held guest settled
      (runs-on start seat b.steps (runner_outside arrivals ran held guest fs settled) begins t.legal runs handed-law frames-law epoch-law))
