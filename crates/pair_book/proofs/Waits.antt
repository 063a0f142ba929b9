-- What each call does to what waits.
use Rattle.std.proofs.Common.{◌≡◌, ℕ, zero, suc, ◌+◌, ◌-◌, ◌≤◌, Bool, cond, List, [], ◌∷◌, ◌++◌, length, remove}
use Rattle.std.proofs.Common.{take, drop, map, refl, sym, ap, ◌∙◌, subst, append_assoc, arith, Some}
use Rattle.std.proofs.{lemmas.Bool.eq-eqb, lemmas.List.{append-nil, length-set, map-append}}
use Rattle.std.specs.Prelude.{slice_get}
use Rattle.frame_ports.specs.{Lands.{list_of, with_list}, Ports.{PortsState, after_delivery}}
use Rattle.pair_history.specs.Entries.{Frame, Arrive, Delivered, DropIn}
use Rattle.pair_history.specs.Failures.{arrived_numbers}
use Rattle.pair_history.specs.HistoryState.{HistoryState, Waiting, inbox_of, frame_numbered, without_number}
use Rattle.pair_history.specs.Order.{AreGuests}
use Rattle.pair_history.specs.Reached.{AreRising}
use Rattle.pair_history.specs.Waits.{without_numbers, AllWait}
use Rattle.pair_history.specs.laws.Waiting.{inbox_of-append, AreRising-push, AreRising-without, StandsAt, Leaves, leaves-at}
use Rattle.pair_history.specs.laws.Waits.{at-waits, waits-guests, AllWait-more, LeavesFirst, leaves-first, rising-without_numbers}
use Rattle.pair_history.specs.laws.Waits.{AllWait-append, without_numbers-append, arrived_numbers-append, arrived_numbers-arrivals}
use Rattle.pair_record.specs.Record.{ports_after_lose_in}
use Rattle.pair_record.specs.Accords.{AreInboxes}
use Rattle.pair_record.specs.laws.Accords.{AreInboxes-with}
use Rattle.std.proofs.lemmas.Bool.{ne_eqb}
use Rattle.growing_history.specs.Steps.{Added}
use Rattle.growing_history.specs.LogState.{LogState, entries_of, under_way, after_step, first_frames, hands_out}
use Rattle.growing_history.specs.Waiting.{StillWait, taken}
use Rattle.growing_history.specs.laws.Waiting.{way-guests}
use Rattle.growing_history.specs.laws.Arrivals.{firsts-wait, firsts-leave}
use Rattle.pair_book.specs.{Handing.firsts, internal.Waits.{AreWaiting, waits_at_last}}

-- where nothing was delivered, dropped by the line or handed out
pub still-waiting : (s t : LogState) (p q : PortsState) → AreWaiting s p → StillWait s t → q.next ≡ p.next → q.inboxes ≡ p.inboxes
    → length q.boxes ≡ length p.boxes → AreWaiting t q
still-waiting s t p q w still next inboxes boxes = record {
  number = next ∙ w.number ∙ sym still.number;
  rising = still.rising 1 q.next (subst (λ n. AreRising 1 n s.history.waiting) (sym next) w.rising);
  count = ap length inboxes ∙ w.count ∙ sym boxes;
  there = still.there w.there;
  inboxes =
      subst (λ (x : ℕ × List (List (ℕ × Frame)) × List Waiting). AreInboxes x.0 x.1 x.2)
      (λ i. (sym boxes i, sym inboxes i, sym still.after i)) w.inboxes;
}

-- what waits at last is what waits without what is under way
pub at-last : (s : LogState) → AreGuests (entries_of s.sealed) → waits_at_last s ≡ without_numbers (taken s) s.history.waiting
at-last s g = at-waits s.history (under_way s) ∙ waits-guests s.history.waiting (under_way s) (way-guests s g)

module _ (s : LogState) (p : PortsState) (w : AreWaiting s p) (guests : AreGuests (entries_of s.sealed)) (c : ℕ) (low : 1 ≤ c)
    (high : c ≤ length p.boxes) where
  abbrev ws : List Waiting
  ws = waits_at_last s

  mine : list_of p.inboxes c ≡ inbox_of c ws
  mine = w.inboxes c low high

  -- A DELIVERY: the frame waits after the others
  module _ (bytes : List ℕ) where
    abbrev f : Frame
    f = record { items = bytes }

    abbrev x : Waiting
    x = record { number = p.next; client = c; frame = f }

    abbrev delivered : LogState
    delivered = after_step s (Added (Delivered c f p.next ∷ []))

    last-delivered : ws ++ x ∷ [] ≡ waits_at_last delivered
    last-delivered =
        ap (λ (l : List Waiting). l ++ x ∷ []) (at-last s guests)
        ∙ sym (AllWait-more (taken s) s.history.waiting (x ∷ []) w.there).1
        ∙ sym (at-last delivered guests)

    pub delivered-waiting : AreWaiting delivered (after_delivery p c bytes)
    delivered-waiting =
        let longer = list_of p.inboxes c ++ (p.next, f) ∷ [] in
        record {
          number = ap (λ k. k + 1) w.number;
          rising = AreRising-push 1 p.next s.history.waiting x w.rising refl;
          count = length-set p.inboxes (c - 1) longer ∙ w.count;
          there = (AllWait-more (taken s) s.history.waiting (x ∷ []) w.there).0;
          inboxes =
              subst (AreInboxes (length p.boxes) (with_list p.inboxes c longer)) last-delivered
              (AreInboxes-with (length p.boxes) c p.inboxes longer ws (ws ++ x ∷ []) low high w.count w.inboxes
              (ap (λ t. t ++ (p.next, f) ∷ []) mine
              ∙ ap (λ (t : Bool). inbox_of c ws ++ cond t ((p.next, f) ∷ []) []) (sym (eq-eqb c c refl))
              ∙ sym (inbox_of-append c ws (x ∷ [])))
              (λ d other.
              sym (append-nil (inbox_of d ws))
              ∙ ap (λ (t : Bool). inbox_of d ws ++ cond t ((p.next, f) ∷ []) []) (sym (ne_eqb c d (λ (e : c ≡ d). other (sym e))))
              ∙ sym (inbox_of-append d ws (x ∷ []))));
        }

  -- A LOSS out of an inbox: the frame is missing
  module _ (place n : ℕ) (f : Frame) (there : slice_get (list_of p.inboxes c) place ≡ Some (n, f)) where
    abbrev lost : LogState
    lost = after_step s (Added (DropIn n ∷ []))

    stands : StandsAt c place n f ws
    stands = ap (λ t. slice_get t place) (sym mine) ∙ there

    rises : AreRising 1 p.next ws
    rises = subst (AreRising 1 p.next) (sym (at-last s guests)) (rising-without_numbers 1 p.next (taken s) s.history.waiting w.rising)

    leaves : Leaves c place n f ws
    leaves = leaves-at c place n f 1 p.next ws rises stands

    before : LeavesFirst n (taken s) s.history.waiting
    before =
        leaves-first n f 1 p.next (taken s) s.history.waiting w.rising w.there
        (subst (λ (l : List Waiting). frame_numbered n l ≡ Some f) (at-last s guests) leaves.0)

    last-lost : without_number n ws ≡ waits_at_last lost
    last-lost = ap (without_number n) (at-last s guests) ∙ sym before.2 ∙ sym (at-last lost guests)

    pub lost-waiting : AreWaiting lost (ports_after_lose_in p c place)
    lost-waiting =
        let fewer = remove (list_of p.inboxes c) place in
        let same = eq-eqb c c refl in
        record {
          number = w.number;
          rising = AreRising-without n 1 p.next s.history.waiting w.rising;
          count = length-set p.inboxes (c - 1) fewer ∙ w.count;
          there = before.1;
          inboxes =
              subst (AreInboxes (length p.boxes) (with_list p.inboxes c fewer)) last-lost
              (AreInboxes-with (length p.boxes) c p.inboxes fewer ws (without_number n ws) low high w.count w.inboxes
              (ap (λ t. remove t place) mine
              ∙ sym (leaves.1 c ∙ ap (λ t. cond t (remove (inbox_of c ws) place) (inbox_of c ws)) same))
              (λ d other. sym (leaves.1 d ∙ ap (λ t. cond t (remove (inbox_of c ws) place) (inbox_of d ws)) (ne_eqb d c other))));
        }

-- THE NUMBERS OF THE FIRST FOUR of each inbox are those of the first four that wait for each client
pub firsts-are : (m c count : ℕ) (inboxes : List (List (ℕ × Frame))) (ws : List Waiting) → AreInboxes count inboxes ws → 1 ≤ c
    → c + m ≤ count + 1 → map (λ (x : ℕ × Frame). x.0) (firsts m c inboxes) ≡ first_frames m c ws
firsts-are zero c count inboxes ws are low high = refl
firsts-are (suc m) c count inboxes ws are low high =
    let here = are c low (omega (arith, high)) in
    let rest = firsts-are m (c + 1) count inboxes ws are (omega arith) (omega (arith, high)) in
    map-append (λ (x : ℕ × Frame). x.0) (take 4 (list_of inboxes c)) (firsts m (c + 1) inboxes)
    ∙ (λ i. map (λ (x : ℕ × Frame). x.0) (take 4 (here i)) ++ rest i)

-- so where nothing that was handed out is left: what is handed out next are the numbers of the first four of each inbox
pub hands_out-are : (s : LogState) (p : PortsState) (h : HistoryState) → AreWaiting s p → h.waiting ≡ waits_at_last s
    → length h.boxes ≡ length p.boxes → hands_out [] h ≡ map (λ (x : ℕ × Frame). x.0) (firsts (length p.boxes) 1 p.inboxes)
hands_out-are s p h w waits boxes =
    (λ i. first_frames (boxes i) 1 (waits i))
    ∙ sym (firsts-are (length p.boxes) 1 (length p.boxes) p.inboxes (waits_at_last s) w.inboxes (omega arith) (omega arith))

-- FRAMES ARE HANDED OUT: the first four of each inbox, which leave it
module _ (s : LogState) (p q : PortsState) (w : AreWaiting s p) (guests : AreGuests (entries_of s.sealed))
    (next : q.next ≡ p.next) (boxes : length q.boxes ≡ length p.boxes) (long : length q.inboxes ≡ length p.inboxes)
    (lose : (c : ℕ) → 1 ≤ c → c ≤ length p.boxes → list_of q.inboxes c ≡ drop 4 (list_of p.inboxes c)) where
  abbrev m : ℕ
  m = length p.boxes

  abbrev ns : List ℕ
  ns = first_frames m 1 (waits_at_last s)

  abbrev given : LogState
  given = record s { handed = s.handed ++ ns }

  given-taken : taken given ≡ taken s ++ ns
  given-taken =
      let es = entries_of s.sealed in
      arrived_numbers-append es (map Arrive (s.handed ++ ns))
      ∙ ap (λ (l : List ℕ). arrived_numbers es ++ l) (arrived_numbers-arrivals (s.handed ++ ns))
      ∙ sym (append_assoc (arrived_numbers es) s.handed ns)
      ∙ ap (λ (l : List ℕ). (arrived_numbers es ++ l) ++ ns) (sym (arrived_numbers-arrivals s.handed))
      ∙ ap (λ (l : List ℕ). l ++ ns) (sym (arrived_numbers-append es (map Arrive s.handed)))

  last-rises : AreRising 1 p.next (waits_at_last s)
  last-rises = subst (AreRising 1 p.next) (sym (at-last s guests)) (rising-without_numbers 1 p.next (taken s) s.history.waiting w.rising)

  given-last : waits_at_last given ≡ without_numbers ns (waits_at_last s)
  given-last =
      at-last given guests
      ∙ ap (λ (l : List ℕ). without_numbers l s.history.waiting) given-taken
      ∙ without_numbers-append (taken s) ns s.history.waiting
      ∙ ap (without_numbers ns) (sym (at-last s guests))

  pub given-waiting : AreWaiting given q
  given-waiting = record {
    number = next ∙ w.number;
    rising = subst (λ n. AreRising 1 n s.history.waiting) (sym next) w.rising;
    count = long ∙ w.count ∙ sym boxes;
    there =
        subst (λ l. AllWait l s.history.waiting) (sym given-taken)
        (AllWait-append (taken s) ns s.history.waiting w.there
        (subst (AllWait ns) (at-last s guests) (firsts-wait 1 p.next m (waits_at_last s) last-rises)));
    inboxes = λ c low high.
        let within : c ≤ m = omega (arith, high, boxes) in
        lose c low within
        ∙ ap (drop 4) (w.inboxes c low within)
        ∙ sym (firsts-leave 1 p.next m (waits_at_last s) last-rises c low within)
        ∙ ap (inbox_of c) (sym given-last);
  }
