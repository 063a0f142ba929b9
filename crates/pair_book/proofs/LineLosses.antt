-- What a loss of the line leaves, whichever list the frame lay in.
use Rattle.std.proofs.Common.{◌≡◌, ℕ, List, [], ◌∷◌, ◌++◌, length, drop, refl, sym, ap, subst, Bool, true, false, Option, Some, None}
use Rattle.frame_ports.specs.{Lands.list_of, Limits.box_frames, Ports.PortsState}
use Rattle.pair_history.specs.Entries.{Frame, Entry, DropIn, DropOut}
use Rattle.pair_history.specs.HistoryState.{HistoryState}
use Rattle.std.specs.Prelude.{option_map, ◌≤◌}
use Rattle.pair_record.specs.Protocol.{Record, first_refusal, loss_refusals, loss_reply, loss_of, loss_done, lost_in, lost_out}
use Rattle.pair_record.specs.Record.{RecordState, ports_after_lose_in, ports_after_lose_out, ports_if_lost}
use Rattle.growing_history.specs.Steps.{Step, step, Added, Begins, steps_by}
use Rattle.growing_history.specs.LogState.{line_seat}
use Rattle.growing_history.specs.Views.{Member, Keeper}
use Rattle.pair_book.specs.{Books.BookState, Losses.AfterLoss, Packets.TextsState}
use Rattle.pair_book.specs.declared.losses.Lost.TheVariants.{Dropped, Empty}
use Rattle.pair_book.specs.internal.{Committed.KeepsCommitted, Texts.HasTexts, Tie.{IsTied, book_state}}
use Rattle.pair_book.proofs.{Calls.{made, shown}, CommittedTies.{lost-in-keeps, lost-out-keeps}, TextLaws.texts-added, Ties.gained}
use Rattle.pair_book.proofs.LossTies.{lost_waiting, lost_landed, lost_none, ports_there, ports_else, lost-in-tied, lost-out-tied}

-- A frame was there: its loss is told by this entry, and once it is told the record is the one that the steps lead to.
pub record Drops (start : HistoryState) (steps : List Step) (r now : RecordState) (lost : Option Entry) (ports_then : PortsState) : Type 0 where
  pub entry : Entry
  pub there : lost ≡ Some entry
  pub is : now.protocol ≡ (loss_done r.protocol entry).1
  pub ports : now.ports ≡ ports_then
  pub tied : IsTied start (steps ++ step line_seat (Added (entry ∷ [])) ∷ []) now.protocol now.ports
  pub committed : KeepsCommitted start (steps ++ step line_seat (Added (entry ∷ [])) ∷ []) now.protocol now.ports

module _ (start : HistoryState) (steps : List Step) (r now : RecordState) (tied : IsTied start steps r.protocol r.ports)
    (keeps : KeepsCommitted start steps r.protocol r.ports) (word_full : Bool) (c place : ℕ) (is_there : Bool) (there : is_there ≡ true) where
  -- from an inbox
  pub drops-in : first_refusal (loss_refusals word_full (length r.ports.boxes) r.protocol c (lost_in (list_of r.ports.inboxes c) place)) ≡ None
      → (loss_reply is_there, now.protocol) ≡ loss_of r.protocol (lost_in (list_of r.ports.inboxes c) place)
      → now.ports ≡ ports_if_lost is_there (ports_after_lose_in r.ports c place) r.ports
      → Drops start steps r now (lost_in (list_of r.ports.inboxes c) place) (ports_after_lose_in r.ports c place)
  drops-in free done left =
      let lost =
      lost_waiting word_full r.protocol now.protocol (length r.ports.boxes) c place is_there (list_of r.ports.inboxes c) there free done in
      let ports = ports_there is_there now.ports (ports_after_lose_in r.ports c place) r.ports there left in
      record {
        entry = DropIn lost.0;
        there = ap (option_map (λ (x : ℕ × Frame). DropIn x.0)) lost.2;
        is = lost.3;
        ports = ports;
        tied = lost-in-tied tied c place lost.4 lost.5 lost.0 lost.1 lost.2 lost.3 ports;
        committed = lost-in-keeps keeps line_seat c place lost.0 lost.3 ports;
      }

  -- from a box
  pub drops-out : first_refusal (loss_refusals word_full (length r.ports.boxes) r.protocol c (lost_out c (list_of r.ports.boxes c) place)) ≡ None
      → (loss_reply is_there, now.protocol) ≡ loss_of r.protocol (lost_out c (list_of r.ports.boxes c) place)
      → now.ports ≡ ports_if_lost is_there (ports_after_lose_out r.ports c place) r.ports
      → length (list_of r.ports.boxes c) ≤ box_frames
      → Drops start steps r now (lost_out c (list_of r.ports.boxes c) place) (ports_after_lose_out r.ports c place)
  drops-out free done left few =
      let lost =
      lost_landed word_full r.protocol now.protocol (length r.ports.boxes) c place is_there (list_of r.ports.boxes c) there free done in
      let ports = ports_there is_there now.ports (ports_after_lose_out r.ports c place) r.ports there left in
      record {
        entry = DropOut c place;
        there = lost.0;
        is = lost.2;
        ports = ports;
        tied = lost-out-tied tied c place lost.3 lost.4 lost.1 few lost.2 ports;
        committed = lost-out-keeps keeps line_seat c place lost.2 ports;
      }

module _ (start : HistoryState) (seats : Keeper) (r now : RecordState) (texts : TextsState) (line : Member) (number : line.number ≡ line_seat)
    (lost : PortsState → Option Entry) (ports_then : PortsState → PortsState) where
  -- WHERE ONE WAS THERE
  module _ (d : Drops start seats.steps r now (lost r.ports) (ports_then r.ports)) (n : ℕ) (count : n ≡ length r.protocol.journal.history) where
    told : step line_seat (Added (d.entry ∷ [])) ≡ step line.number (Added (drop n now.protocol.journal.history))
    told =
        let is = gained n now.protocol.journal.history r.protocol now.protocol (d.entry ∷ []) count refl d.is in
        λ i. step (sym number i) (Added (sym is i))

    pub told-tied : IsTied start (seats.steps ++ step line.number (Added (drop n now.protocol.journal.history)) ∷ []) now.protocol now.ports
    told-tied = subst (λ (x : Step). IsTied start (seats.steps ++ x ∷ []) now.protocol now.ports) told d.tied

    pub told-committed :
        KeepsCommitted start (seats.steps ++ step line.number (Added (drop n now.protocol.journal.history)) ∷ []) now.protocol now.ports
    told-committed = subst (λ (x : Step). KeepsCommitted start (seats.steps ++ x ∷ []) now.protocol now.ports) told d.committed

    pub told-texts : HasTexts start seats.steps r.protocol texts.packets → (seats' : Keeper)
        → seats' ≡ record seats { steps = seats.steps ++ step line.number (Added (drop n now.protocol.journal.history)) ∷ [] }
        → HasTexts start seats'.steps now.protocol texts.packets
    told-texts had seats' keeper =
        texts-added had line.number (drop n now.protocol.journal.history) (ap (λ (k : Keeper). k.steps) keeper)
        (ap (λ (y : Record). y.generation) d.is) (ap (λ (y : Record). y.window) d.is)

    pub dropped : (old : BookState) → book_state seats r texts ≡ old → (seats' : Keeper) (seat seat' : Member) → line ≡ seat
        → seats' ≡ record seats { steps = seats.steps ++ step line.number (Added (drop n now.protocol.journal.history)) ∷ [] }
        → seat' ≡ record { number = line.number; steps = seats'.steps }
        → Begins line.steps seats.steps
        → steps_by line.number seat'.steps
        ≡ steps_by line.number line.steps ++ step line.number (Added (drop n now.protocol.journal.history)) ∷ []
        → AfterLoss (lost old.ports) (ports_then old.ports) Dropped old (book_state seats' now texts) seat seat'
    dropped old view seats' seat seat' same keeper member before own =
        let b : BookState = book_state seats r texts in
        let is = gained n now.protocol.journal.history r.protocol now.protocol (d.entry ∷ []) count refl d.is in
        let makes =
        made b seats r texts line seat' refl seats' now texts (Added (drop n now.protocol.journal.history)) (Added (d.entry ∷ []))
        (ap Added is) keeper member before own in
        subst (λ (x : BookState × Member). AfterLoss (lost x.0.ports) (ports_then x.0.ports) Dropped x.0 (book_state seats' now texts) x.1 seat')
        (λ i. (view i, same i)) (d.entry, d.there, makes, d.is, d.ports)

  -- WHERE NONE WAS
  module _ (is_there : Bool) (none : is_there ≡ false) (done : (loss_reply is_there, now.protocol) ≡ loss_of r.protocol (lost r.ports))
      (left : now.ports ≡ ports_if_lost is_there (ports_then r.ports) r.ports) (seats' : Keeper) (keeper : seats' ≡ seats) where
    protocol-is : now.protocol ≡ r.protocol
    protocol-is = (lost_none r.protocol now.protocol is_there (lost r.ports) none done).1

    ports-are : now.ports ≡ r.ports
    ports-are = ports_else is_there now.ports (ports_then r.ports) r.ports none left

    pub kept : IsTied start seats.steps r.protocol r.ports × KeepsCommitted start seats.steps r.protocol r.ports
        × HasTexts start seats.steps r.protocol texts.packets
        → IsTied start seats'.steps now.protocol now.ports × KeepsCommitted start seats'.steps now.protocol now.ports
        × HasTexts start seats'.steps now.protocol texts.packets
    kept had =
        subst
        (λ (x : List Step × Record × PortsState).
        IsTied start x.0 x.1 x.2 × KeepsCommitted start x.0 x.1 x.2 × HasTexts start x.0 x.1 texts.packets)
        (λ i. ((sym keeper i).steps, sym protocol-is i, sym ports-are i)) had

    pub empty : (old : BookState) → book_state seats r texts ≡ old → (seat seat' : Member) → line ≡ seat
        → seat' ≡ record { number = line.number; steps = seats.steps } → Begins line.steps seats.steps
        → steps_by line.number seats.steps ≡ steps_by line.number line.steps
        → AfterLoss (lost old.ports) (ports_then old.ports) Empty old (book_state seats' now texts) seat seat'
    empty old view seat seat' same member before own =
        let b : BookState = book_state seats r texts in
        let is_none = (lost_none r.protocol now.protocol is_there (lost r.ports) none done).0 in
        let as-before : book_state seats' now texts ≡ b =
        λ i. record {
          steps = (keeper i).steps;
          enrolled = (keeper i).enrolled;
          protocol = protocol-is i;
          ports = ports-are i;
          texts = texts;
        } in
        subst (λ (x : BookState × Member). AfterLoss (lost x.0.ports) (ports_then x.0.ports) Empty x.0 (book_state seats' now texts) x.1 seat')
        (λ i. (view i, same i)) (is_none, as-before, shown b seats r texts line seat' refl member before own)
