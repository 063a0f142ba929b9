-- What handing out keeps of what the backup has committed.
use Rattle.std.proofs.Common.{◌≡◌, List, [], ◌∷◌, length, refl, ap, arith}
use Rattle.output_gate.specs.laws.Ports.{risen-same}
use Rattle.pair_history.specs.Entries.{Entry}
use Rattle.pair_history.specs.HistoryState.{HistoryState}
use Rattle.growing_history.specs.Steps.{Step}
use Rattle.pair_book.specs.Handing.{Handing, handed_behind, firsts, with_arrivals}
use Rattle.pair_book.specs.Standing.{commits_of}
use Rattle.pair_book.specs.internal.Committed.{KeepsCommitted}
use Rattle.pair_book.proofs.{CommittedLaws.owed_on, CommittedTies.keeps-as, HandingLaws.hands-firsts}

module _ (start : HistoryState) (steps : List Step) (h : Handing) (same : length h.ports.inboxes ≡ length h.ports.boxes) where
  pub behind-keeps : (es : List Entry) → KeepsCommitted start steps h.protocol h.ports
      → KeepsCommitted start steps (handed_behind es h).protocol (handed_behind es h).ports
  behind-keeps [] c =
      let now = handed_behind [] h in
      let out = (hands-firsts (length h.ports.boxes) 1 h (omega arith) (omega (arith, same))).out in
      let to = with_arrivals (firsts (length h.ports.boxes) 1 h.ports.inboxes) h.protocol in
      let risen = risen-same h.ports now.ports (ap length out.boxes) out.numbers in
      keeps-as out.protocol refl (record {
        none = c.none;
        owed = λ m a d. owed_on h.protocol h.ports (commits_of start steps) (c.owed m a d) to now.ports refl refl risen;
        made = c.made;
      })
  behind-keeps (e ∷ es) c = c
