-- What is handed out once an epoch ended: the record accords, and what waits is what waits then.
use Rattle.std.proofs.Common.{◌≡◌, ℕ, zero, suc, ◌+◌, ◌≤◌, List, [], ◌∷◌, ◌++◌, length, map, take, drop, refl, sym, ap, ◌∙◌, subst, arith}
use Rattle.std.proofs.lemmas.List.{append-nil, take-append-drop}
use Rattle.std.specs.Prelude.{slice_get}
use Rattle.frame_ports.specs.{Lands.list_of, Ports.PortsState}
use Rattle.pair_history.specs.Entries.{Frame, Entry, Arrive}
use Rattle.pair_history.specs.HistoryState.{HistoryState, at}
use Rattle.pair_history.specs.Order.{AreGuests}
use Rattle.pair_record.specs.Protocol.{Record}
use Rattle.pair_record.specs.Accords.{Accords}
use Rattle.pair_record.specs.laws.Accords.{arrival_accords}
use Rattle.growing_history.specs.LogState.{LogState, entries_of, under_way, first_frames, hands_out}
use Rattle.pair_book.specs.Handing.{Handing, handing, handed_one, handed_all, handed_out, handed_behind, handed_next, HandsOutFirsts}
use Rattle.pair_book.specs.Handing.{HandsBehind, firsts}
use Rattle.pair_book.specs.internal.Waits.{AreWaiting, waits_at_last}
use Rattle.pair_book.proofs.{HandingLaws.{hands-all, hands-firsts, rest-of}, Waits.{given-waiting, firsts-are}}

module _ (start : HistoryState) where
  -- each arrival accords
  all-accord : (c : ℕ) (xs later : List (ℕ × Frame)) (h : Handing) → Accords start h.protocol h.ports → 1 ≤ c → c ≤ length h.ports.boxes
      → length h.ports.inboxes ≡ length h.ports.boxes → list_of h.ports.inboxes c ≡ xs ++ later
      → Accords start (handed_all c xs h).protocol (handed_all c xs h).ports
  all-accord c [] later h a low high same is = a
  all-accord c (x ∷ xs) later h a low high same is =
      let long = (hands-all c (x ∷ []) h).count in
      all-accord c xs later (handed_one c x h)
      (arrival_accords start h.protocol h.ports a c x.0 x.1 low high (ap (λ l. slice_get l 0) is)).1
      low high (long ∙ same) (rest-of h.ports c low (omega (arith, high, same)) ∙ ap (drop 1) is)

  out-accord : (m c : ℕ) (h : Handing) → Accords start h.protocol h.ports → 1 ≤ c → c + m ≤ length h.ports.boxes + 1
      → length h.ports.inboxes ≡ length h.ports.boxes → Accords start (handed_out m c h).protocol (handed_out m c h).ports
  out-accord zero c h a low high same = a
  out-accord (suc m) c h a low high same =
      let inbox = list_of h.ports.inboxes c in
      let one = hands-all c (take 4 inbox) h in
      let boxes = ap length one.boxes in
      out-accord m (c + 1) (handed_all c (take 4 inbox) h)
      (all-accord c (take 4 inbox) (drop 4 inbox) h a low (omega (arith, high)) same (sym (take-append-drop 4 inbox)))
      (omega arith) (omega (arith, high, boxes)) (one.count ∙ same ∙ sym boxes)

  behind-accord : (es : List Entry) (h : Handing) → Accords start h.protocol h.ports → length h.ports.inboxes ≡ length h.ports.boxes
      → Accords start (handed_behind es h).protocol (handed_behind es h).ports
  behind-accord [] h a same = out-accord (length h.ports.boxes) 1 h a (omega arith) (omega arith) same
  behind-accord (e ∷ es) h a same = a

-- what public clauses say
pub hands-behind : (es : List Entry) (h : Handing) → length h.ports.inboxes ≡ length h.ports.boxes → HandsBehind es h (handed_behind es h)
hands-behind [] h same = hands-firsts (length h.ports.boxes) 1 h (omega arith) (omega (arith, same))
hands-behind (e ∷ es) h same = refl

-- another epoch runs
abbrev pub running_as : List Entry → Record → Record
running_as es r = record r { journal = record r.journal { running = es } }

-- What is so once it was handed out what comes next, where m is the state before.
pub record Hands (start : HistoryState) (m : LogState) (h : HistoryState) (r now : Record) (p q : PortsState) : Type 0 where
  pub waits : AreWaiting (record m { handed = hands_out m.handed h }) q
  pub protocol : now ≡ running_as (map Arrive (hands_out m.handed h)) r
  pub boxes : length q.boxes ≡ length p.boxes
  pub accords : Accords start r p → Accords start (running_as (map Arrive (hands_out m.handed h)) r) q

module _ (start : HistoryState) (m : LogState) (h : HistoryState) (r now : Record) (p q : PortsState) (xs : List (ℕ × Frame))
    (w : AreWaiting m p) (guests : AreGuests (entries_of m.sealed)) (runs : r.journal.running ≡ map Arrive m.handed)
    (there : h ≡ at m.history (entries_of m.sealed)) (clients : length h.boxes ≡ length p.boxes)
    (is : handing now q xs ≡ handed_next (handing r p [])) where
  abbrev before : Handing
  before = handing r p []

  accords-so : Accords start r p → Accords start now q
  accords-so a =
      subst (λ (x : Handing). Accords start x.protocol x.ports) (sym is) (behind-accord start r.journal.running before a w.count)

  abbrev n : ℕ
  n = length p.boxes

  none-more : (k : ℕ) (ks : List ℕ) → m.handed ≡ k ∷ ks → Hands start m h r now p q
  none-more k ks e =
      let still : r.journal.running ≡ Arrive k ∷ map Arrive ks = runs ∙ ap (map Arrive) e in
      let same : handing now q xs ≡ before = is ∙ ap (λ l. handed_behind l before) still in
      let record-is : now ≡ r = ap (λ (x : Handing). x.protocol) same in
      let ports : q ≡ p = ap (λ (x : Handing). x.ports) same in
      let held : hands_out m.handed h ≡ m.handed = ap (λ l. hands_out l h) e ∙ sym e in
      let protocol = record-is ∙ ap (λ es. running_as es r) (runs ∙ ap (map Arrive) (sym held)) in
      record {
        waits = subst (λ (x : List ℕ × PortsState). AreWaiting (record m { handed = x.0 }) x.1) (λ i. (sym held i, sym ports i)) w;
        protocol = protocol;
        boxes = ap (λ (x : PortsState). length x.boxes) ports;
        accords = λ a. subst (λ (y : Record). Accords start y q) protocol (accords-so a);
      }

  first-four : m.handed ≡ [] → Hands start m h r now p q
  first-four e =
      let still : r.journal.running ≡ [] = runs ∙ ap (map Arrive) e in
      let whole : handing now q xs ≡ handed_out n 1 before = is ∙ ap (λ l. handed_behind l before) still in
      let out : HandsOutFirsts n 1 before (handing now q xs) =
      subst (HandsOutFirsts n 1 before) (sym whole) (hands-firsts n 1 before (omega arith) (omega (arith, w.count))) in
      let fours = firsts n 1 p.inboxes in
      let way : under_way m ≡ entries_of m.sealed =
      ap (λ l. entries_of m.sealed ++ map Arrive l) e ∙ append-nil (entries_of m.sealed) in
      let waiting : h.waiting ≡ waits_at_last m =
      ap (λ (x : HistoryState). x.waiting) there ∙ ap (λ (l : List Entry). (at m.history l).waiting) (sym way) in
      let given : hands_out m.handed h ≡ first_frames n 1 (waits_at_last m) =
      ap (λ l. hands_out l h) e ∙ (λ i. first_frames (clients i) 1 (waiting i)) in
      let numbers : map (λ (x : ℕ × Frame). x.0) fours ≡ first_frames n 1 (waits_at_last m) =
      firsts-are n 1 n p.inboxes (waits_at_last m) w.inboxes (omega arith) (omega arith) in
      let all : m.handed ++ first_frames n 1 (waits_at_last m) ≡ hands_out m.handed h =
      ap (λ l. l ++ first_frames n 1 (waits_at_last m)) e ∙ sym given in
      let runs-now = ap (λ l. l ++ map Arrive (map (λ (x : ℕ × Frame). x.0) fours)) still ∙ ap (map Arrive) (numbers ∙ sym given) in
      let protocol = out.out.protocol ∙ ap (λ es. running_as es r) runs-now in
      record {
        waits =
            subst (λ (l : List ℕ). AreWaiting (record m { handed = l }) q) all
            (given-waiting m p q w guests out.out.next (ap length out.out.boxes) out.out.count
            (λ c low high. out.lose c low (omega (arith, high))));
        protocol = protocol;
        boxes = ap length out.out.boxes;
        accords = λ a. subst (λ (y : Record). Accords start y q) protocol (accords-so a);
      }

  pub hands : Hands start m h r now p q
  hands = by-handed m.handed refl
    where
      by-handed : (ns : List ℕ) → m.handed ≡ ns → Hands start m h r now p q
      by-handed [] e = first-four e
      by-handed (k ∷ ks) e = none-more k ks e
