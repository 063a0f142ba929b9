-- What the protocol answers to a loss that is asked for.
use Rattle.std.proofs.Common.{◌≡◌, ℕ, List, ◌∷◌, length, refl, ap, ◌∙◌, Bool, true, false, Option, None, Some}
use Rattle.std.specs.Prelude.{not, IsSome}
use Rattle.frame_ports.specs.Lands.{list_of}
use Rattle.pair_history.specs.{Entries.{Frame, Entry}, HistoryState.inbox_of}
use Rattle.pair_record.specs.declared.event.Event.TheVariants.{LoseIn, LoseOut}
use Rattle.pair_record.specs.declared.event.Refusal.TheVariants.{NoClient}
use Rattle.pair_record.specs.Protocol.{Outcome, lost_in, lost_out, on_lose_in, on_lose_out, sight, allowed, unless}
use Rattle.pair_record.specs.Protocol.{is_among, entry_refusals, loss_refusals, loss_of}
use Rattle.pair_record.specs.ClientActs.{if_there}
use Rattle.pair_core.specs.{Answering.MayWantMemory, Invariant.Holds, Pair.{Pair, live_state}}
use Rattle.pair_record.specs.laws.Tables.{client_range}
use Rattle.pair_core.specs.laws.Outcomes.{ByTable, seen, inbox_is}

-- what it looks at

module _ (w : Pair) (h : Holds w) where
  lose_in_sees_the_pair : (c place : ℕ) → on_lose_in (seen w) w.protocol.state c place ≡ allowed w.start w.protocol.state None (LoseIn c place)
  lose_in_sees_the_pair c place =
      by_test (not (is_among c (length w.ports.boxes))) refl
      ∙ ap (λ (b : List (List Frame)). on_lose_in (record (sight w.start w.protocol.state) { boxes = b }) w.protocol.state c place)
      h.accords.clients.boxes
    where
      at_rows : Bool → List (ℕ × Frame) → Outcome
      at_rows t inbox =
          unless w.protocol.state ((t, NoClient) ∷ if_there (lost_in inbox place) (entry_refusals false w.protocol.state))
          (loss_of w.protocol.state (lost_in inbox place))

      by_test : (t : Bool) → not (is_among c (length w.ports.boxes)) ≡ t
          → at_rows t (list_of w.ports.inboxes c) ≡ at_rows t (inbox_of c (live_state w).waiting)
      by_test true e = refl
      by_test false e =
          let range = client_range c (length w.ports.boxes) e in
          ap (at_rows false) (inbox_is w h c range.0 range.1)

  lose_out_sees_the_pair : (c place : ℕ) → on_lose_out (seen w) w.protocol.state c place ≡ allowed w.start w.protocol.state None (LoseOut c place)
  lose_out_sees_the_pair c place =
      ap (λ (b : List (List Frame)). on_lose_out (record (sight w.start w.protocol.state) { boxes = b }) w.protocol.state c place)
      h.accords.clients.boxes

  may : (o : Option Entry) → IsSome o → MayWantMemory w.protocol.state (loss_of w.protocol.state o)
  may None there = absurd (cc)
  may (Some e) there = tt

  -- by the table
  module _ (c place : ℕ) where
    abbrev lost-in : Option Entry
    lost-in = lost_in (list_of w.ports.inboxes c) place

    abbrev lost-out : Option Entry
    lost-out = lost_out c (list_of w.ports.boxes c) place

    pub lose_in_by_table : ByTable w None (LoseIn c place) (loss_refusals false (length w.ports.boxes) w.protocol.state c lost-in)
        (IsSome lost-in) (loss_of w.protocol.state lost-in)
    lose_in_by_table = record { sees = lose_in_sees_the_pair c place; may = may lost-in }

    pub lose_out_by_table : ByTable w None (LoseOut c place) (loss_refusals false (length w.ports.boxes) w.protocol.state c lost-out)
        (IsSome lost-out) (loss_of w.protocol.state lost-out)
    lose_out_by_table = record { sees = lose_out_sees_the_pair c place; may = may lost-out }
