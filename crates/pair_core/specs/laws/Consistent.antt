-- What is kept true from event to event gives what contracts say: of the record its laws do.
use Rattle.std.proofs.Common.{rules, arith, ◌≡◌, ℕ, ◌+◌, ◌≤◌, true, false, List, [], ◌∷◌, ◌++◌, length, refl, sym, ap, ◌∙◌}
use Rattle.std.proofs.Common.{subst, inl, inr}
use Rattle.std.proofs.{Common.append_assoc, lemmas.Bool.cases_lt, lemmas.List.length-map, lemmas.List.Elements.{All-nil, All-cons}}
use Rattle.std.specs.Prelude.{map, All}
use Rattle.failover.specs.declared.mode.{Mode.Mode, Mode.TheVariants.{Filling, Alone}}
use Rattle.guest_rules.specs.{declared.shapes.Shape.Shape, Guest.Guest}
use Rattle.frame_ports.specs.Addresses.{targets_of}
use Rattle.output_gate.specs.Epochs.{frames_of}
use Rattle.pair_history.specs.{Entries.{Frame, Entry, Ran, Arrive}, HistoryState.{HistoryState, at}}
use Rattle.pair_history.specs.Moves.{Move, Steps, Arrives, entries_of, guest_along, frames_along, AllCan}
use Rattle.pair_history.specs.laws.Moves.{moved, at-moves, sent_along-moves, Legal-moves, AllCan-front, AllCan-back}
use Rattle.pair_record.specs.Accords.{all_moves, Accords}
use Rattle.pair_core.specs.Invariant.{first_moves, AreSealed, IsBacked, Holds, KeepsNothing}
use Rattle.pair_record.specs.{Journal.{joined, first_of, kept_entries}, Modes.is_alone}
use Rattle.pair_core.specs.Pair.{Pair, shown_state, live_state, HasBackup, ImageFollows, RunsAlone, InMode, IsConsistent}
use Rattle.pair_record.specs.Protocol.{outbox_of}
use Rattle.pair_record.specs.Record.{IsRecord, AreNumbered, SuitsMode}
use Rattle.pair_core.specs.Texts.{IsText, AreTexts}
use Rattle.pair_record.specs.Accords.{kept_now, left_now, sealed_now}
use Rattle.pair_record.specs.laws.Accords.{live_guest, live_waiting as waits, sent_is, all_owed, kept_is}
use Rattle.pair_record.specs.laws.Accords.{sealed_state}
use Rattle.pair_core.specs.Kept.{kept_targets}
use Rattle.pair_core.specs.laws.{OnTheirWay.on_its_way, Tells.OfGuest}

-- the texts of epochs of moves are those of their entries
texts_are : (shape : Shape) (generation n : ℕ) (s : HistoryState) (mss : List (List Move)) (rest : List Move) (texts : List (List ℕ))
    → AllCan s.waiting (all_moves mss ++ rest) → AreSealed shape generation n s.guest mss texts
    → AreTexts shape generation n s (map entries_of mss) texts
texts_are shape generation n s [] rest [] can h = tt
texts_are shape generation n s [] rest (t ∷ texts) can h = absurd h
texts_are shape generation n s (ms ∷ mss) rest [] can h = absurd h
texts_are shape generation n s (ms ∷ mss) rest (t ∷ texts) can h =
    let apart : AllCan s.waiting (ms ++ (all_moves mss ++ rest)) = subst (AllCan s.waiting) (append_assoc ms (all_moves mss) rest) can in
    let first : AllCan s.waiting ms = AllCan-front s.waiting ms (all_moves mss ++ rest) apart in
    let is : moved s ms ≡ at s (entries_of ms) = sym (at-moves s ms first) in (
      subst (λ (fs : List Frame). IsText shape generation n s.guest (at s (entries_of ms)).guest fs t) (sym (sent_along-moves s ms first))
          (subst (λ (to : HistoryState). IsText shape generation n s.guest to.guest (frames_along s.guest ms) t) is h.0),
      rw (← is) (texts_are shape generation (n + 1) (moved s ms) mss rest texts (AllCan-back s.waiting ms (all_moves mss ++ rest) apart)
          h.1),
    )

-- the guest does all moves
pub of_guest : (ms : List Move) → All OfGuest (entries_of ms)
of_guest [] = All-nil OfGuest
of_guest (Steps ∷ ms) = All-cons OfGuest Ran (entries_of ms) refl (of_guest ms)
of_guest (Arrives n f ∷ ms) = All-cons OfGuest (Arrive n) (entries_of ms) refl (of_guest ms)

-- where a node is alone
pub lone : (mode : Mode) (w : Pair) → is_alone mode ≡ true → InMode mode w → RunsAlone w
lone Alone w e m = m
lone other w e m = absurd (cc)

-- where there is a text, there are moves
some_moves : (shape : Shape) (generation n : ℕ) (g : Guest) (mss : List (List Move)) (texts : List (List ℕ)) (text : List ℕ)
    (later : List (List ℕ)) → texts ≡ text ∷ later → AreSealed shape generation n g mss texts → 1 ≤ length mss
some_moves shape generation n g [] [] text later e s = absurd (cc)
some_moves shape generation n g [] (t ∷ ts) text later e s = absurd s
some_moves shape generation n g (ms ∷ mss) texts text later e s = omega arith

module _ (w : Pair) (h : Holds w) where
  abbrev a : Accords w.start w.protocol.state w.ports
  a = h.accords

  pub live_is : (live_state w).guest ≡ w.nodes.live.guest
  live_is = live_guest w.start w.protocol.state w.ports a ∙ sym h.nodes.live

  pub live_waiting : (live_state w).waiting ≡ left_now w.start w.protocol.state w.ports a
  live_waiting = waits w.start w.protocol.state w.ports a

  kept_entries_are : kept_entries w.protocol.state.journal ≡ entries_of (kept_now w.start w.protocol.state w.ports a)
  kept_entries_are = kept_is w.start w.protocol.state w.ports a

  cut_state_is : at w.start (w.protocol.state.journal.history ++ joined w.protocol.state.journal.sealed)
      ≡ moved (shown_state w) (sealed_now w.start w.protocol.state w.ports a)
  cut_state_is = sealed_state w.start w.protocol.state w.ports a

  pub outbox_is : outbox_of w.start w.protocol.state ≡ w.nodes.live.outbox
  outbox_is = sent_is w.start w.protocol.state w.ports a ∙ sym h.nodes.outbox

  pub owed_is : targets_of (length w.ports.boxes) (frames_of w.protocol.state.pending ++ w.nodes.live.outbox) ≡ (live_state w).out
  owed_is =
      ap (λ (fs : List Frame). targets_of (length w.ports.boxes) (frames_of w.protocol.state.pending ++ fs)) (sym outbox_is)
      ∙ all_owed w.start w.protocol.state w.ports a

  -- the guest at the end of the oldest sealed epoch
  first_guest : (at (shown_state w) (first_of w.protocol.state.journal.sealed)).guest
      ≡ guest_along (shown_state w).guest (first_moves h.accords.journal.sealed_moves)
  first_guest =
      ap (λ ess. (at (shown_state w) (first_of ess)).guest) h.accords.journal.sealed_are
      ∙ by_moves h.accords.journal.sealed_moves h.accords.journal.can
    where
      by_moves : (mss : List (List Move)) → AllCan (shown_state w).waiting (all_moves mss ++ h.accords.journal.running_moves)
          → (at (shown_state w) (first_of (map entries_of mss))).guest ≡ guest_along (shown_state w).guest (first_moves mss)
      by_moves [] can = refl
      by_moves (ms ∷ mss) can = search (arith, rules, AllCan-front, append_assoc, at-moves)

  abbrev Backed : Type 0
  Backed = IsBacked w.protocol.state.generation w.protocol.state.window.to_commit (shown_state w).guest h.accords.journal.sealed_moves w.nodes

  has_backup : Backed → HasBackup w
  has_backup b = search (arith, rules, cut_state_is, texts_are)

  follows : Backed → 1 ≤ w.protocol.state.window.to_commit → ImageFollows w
  follows b some = let f = b.follows some in record { image = f.image; stands_at = f.stands_at }

  pub keeps_nothing : IsRecord w.protocol.state → is_alone w.protocol.state.mode ≡ true → KeepsNothing w.protocol.state
  keeps_nothing k alone = ((k.alone alone).0, h.still alone, (k.alone alone).1)

  pub alone_is : KeepsNothing w.protocol.state → RunsAlone w
  alone_is k = search (arith, rules, outbox_is)

  pub in_mode : IsRecord w.protocol.state → InMode w.protocol.state.mode w
  in_mode k = by_mode w.protocol.state.mode h.nodes.backed k.suits (keeps_nothing k)
    where
      by_mode : (mode : Mode) → (is_alone mode ≡ false → Backed) → SuitsMode mode w.protocol.state.window
          → (is_alone mode ≡ true → KeepsNothing w.protocol.state) → InMode mode w
      by_mode Filling b s l = (has_backup (b refl), rw first_guest ((b refl).fills s))
      by_mode Alone b s l = alone_is (l refl)
      by_mode other b s l = (has_backup (b refl), follows (b refl) s)

  pub consistent : IsRecord w.protocol.state → AreNumbered w.protocol.state w.ports → IsConsistent w
  consistent k numbered =
      let way : is_alone w.protocol.state.mode ≡ false → (shown_state w).out ≡ kept_targets w.ports w.nodes.image =
      λ two. on_its_way w.start w.protocol.state w.ports w.nodes.image h.accords.owed numbered (h.kept two) in
      search (arith, rules, Legal-moves, in_mode, kept_entries_are, live_is, live_waiting, of_guest, outbox_is, owed_is, way)

  -- a backup's first checkpoint was cut
  pub some_cut : IsRecord w.protocol.state → is_alone w.protocol.state.mode ≡ false → 1 ≤ w.protocol.state.window.to_cut
  some_cut k two =
      let r = w.protocol.state in
      let b = h.nodes.backed two in
      let mss = h.accords.journal.sealed_moves in
      let sealed = ap (λ (ess : List (List Entry)). length ess) h.accords.journal.sealed_are ∙ length-map mss entries_of in
      let counted = k.sealed in
      elim (cases_lt 0 r.window.to_commit) [
        | inl some ↦ omega arith
        | inr none ↦
            let f = b.fills (omega arith) in
            let n = some_moves w.nodes.image.shape r.generation r.window.to_commit (shown_state w).guest mss w.nodes.sealed f.text f.later
            f.sealed
            b.sealed in
            omega arith
      ]
