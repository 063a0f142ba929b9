-- Where a node goes on alone: all that is kept goes to the history, and all that is on its way lands. So does what each of its steps sends.
use Rattle.std.proofs.Common.{◌≡◌, ℕ, ◌+◌, List, [], ◌∷◌, ◌++◌, length, refl, sym, ap}
use Rattle.std.proofs.Common.{◌∙◌, subst, append_assoc, Bool, true, false, Some, arith}
use Rattle.std.specs.Prelude.{slice_get, ◌≤◌}
use Rattle.frame_ports.specs.{Addresses.targets_of, Lands.list_of}
use Rattle.failover.specs.declared.mode.Mode.{Mode}
use Rattle.output_gate.specs.Epochs.{frames_of}
use Rattle.pair_history.specs.{Entries.{Frame, Entry, Arrive}, Landings.landings}
use Rattle.pair_record.specs.{declared.window.Window.Window, Modes.is_alone}
use Rattle.pair_record.specs.Journal.{joined, all_committed, with_history, with_running, with_moves}
use Rattle.pair_record.specs.Protocol.{all_held, admit_done}
use Rattle.pair_record.specs.Record.{IsRecord, first_held, ports_landed, ports_after_all, ports_after_admit}
use Rattle.pair_record.specs.laws.{Accords.sent_is, Numbers.first_lone, Alone.{all_landed_accords, landed_state, landed_is}, Modes.clash}
use Rattle.pair_core.specs.Invariant.{AreNodes, Holds, KeepsNothing, HoldsAmid}
use Rattle.pair_core.specs.{Nodes.{Node, Nodes, HasShape, with_arrival}, Pair.Pair}
use Rattle.pair_core.specs.laws.{Consistent.{alone_is, keeps_nothing}, Events.{admit_stands, two_hold}, Lines.named-more}

-- what leaves the gate and the outbox
abbrev pub held : Pair → List (ℕ × Frame)
held w = all_held w.ports.boxes w.nodes.live.outbox w.protocol.state

module _ (w : Pair) (h : HoldsAmid w) (mode : Mode) (lone : is_alone mode ≡ true) (window : Window) (x : Nodes)
    (live : x.live ≡ record w.nodes.live { outbox = [] }) (shape : x.image.shape ≡ w.nodes.image.shape)
    (cut : w.protocol.state.window.to_cut ≤ window.to_cut) (commit : w.protocol.state.window.to_commit ≤ window.to_commit) where
  -- the pair once all that was kept stands in the history, and all that was held has landed
  abbrev pub all_landed : Pair
  all_landed = record w {
    protocol = record w.protocol {
      state = record w.protocol.state {
        mode = mode;
        journal = with_history (all_committed w.protocol.state.journal) (landings w.ports.boxes (held w));
        window = window;
        pending = [];
        next_frame = w.protocol.state.next_frame + length w.nodes.live.outbox;
      };
    };
    ports = ports_after_all w.ports w.nodes.live.outbox w.protocol.state;
    nodes = x;
  }

  pub all_landed_holds : Holds all_landed
  all_landed_holds =
      let r = w.protocol.state in
      let outbox = w.nodes.live.outbox in
      let sent = sent_is w.start r w.ports h.0 ∙ sym h.1.outbox in
      let u = landed_state w.start r w.ports h.0 outbox sent in
      let guest : x.live.guest ≡ u.guest = ap (λ (n : Node). n.guest) live ∙ h.1.live in
      let nodes : AreNodes (is_alone mode) r.generation window.to_commit u.guest [] [] x =
      record {
        first_generation = h.1.first_generation;
        last_generation = h.1.last_generation;
        backed = λ e. absurd (clash (is_alone mode) lone e);
        live = guest;
        outbox = ap (λ (n : Node). n.outbox) live;
        shape = rw live (subst (λ t. HasShape t w.nodes.live.guest) (sym shape) h.1.shape);
      } in
      record {
        accords = all_landed_accords w.start r w.ports h.0 outbox sent mode window;
        lines = named-more r w.protocol.lines h.2 window cut commit;
        nodes = rw (landed_is w.start r w.ports h.0 outbox sent) nodes;
        kept = λ two. absurd (clash (is_alone mode) lone two);
        still = λ e. refl;
      }

-- WHAT THE GUEST DOES at a node that is alone goes to the history at once
module _ (w : Pair) (k : KeepsNothing w.protocol.state) (lone : is_alone w.protocol.state.mode ≡ true) (es : List Entry) (live : Node)
    (inboxes : List (List (ℕ × Frame))) where
  -- as if it were kept, and at once
  abbrev pub if_kept : Pair
  if_kept = record w {
    protocol = record w.protocol { state = record w.protocol.state { journal = with_running w.protocol.state.journal es } };
    ports = record w.ports { inboxes = inboxes };
    nodes = record w.nodes { live = live };
  }

  abbrev targets : List (ℕ × Frame)
  targets = targets_of (length w.ports.boxes) live.outbox

  abbrev pub at_once : Pair
  at_once = record w {
    protocol = record w.protocol {
      state = record w.protocol.state {
        journal = with_history w.protocol.state.journal (es ++ landings w.ports.boxes targets);
        next_frame = w.protocol.state.next_frame + length live.outbox;
      };
    };
    ports = ports_landed (record w.ports { inboxes = inboxes }) w.protocol.state.next_frame live.outbox;
    nodes = record w.nodes { live = record live { outbox = [] } };
  }

  pub at_once_holds : HoldsAmid if_kept → Holds at_once
  at_once_holds h =
      let j = w.protocol.state.journal in
      let b = w.ports.boxes in
      let first : first_held w.protocol.state ≡ w.protocol.state.next_frame = first_lone w.protocol.state k.2 in
      let leaving : held if_kept ≡ targets = λ i. targets_of (length b) (frames_of (k.2 i) ++ live.outbox) in
      let history : (j.history ++ (joined j.sealed ++ (j.running ++ es))) ++ landings b (held if_kept)
      ≡ j.history ++ (es ++ landings b targets) =
      (λ i. (j.history ++ (joined (k.0 i) ++ (k.1 i ++ es))) ++ landings b (leaving i)) ∙ append_assoc j.history es (landings b targets) in
      subst Holds
      (λ i. record w {
        protocol = record w.protocol {
          state = record w.protocol.state {
            journal = record { history = history i; sealed = sym k.0 i; running = sym k.1 i };
            pending = sym k.2 i;
            next_frame = w.protocol.state.next_frame + length live.outbox;
          };
        };
        ports = ports_landed (record w.ports { inboxes = inboxes }) (first i) (frames_of (k.2 i) ++ live.outbox);
        nodes = record w.nodes { live = record live { outbox = [] } };
      })
      (all_landed_holds if_kept h w.protocol.state.mode lone w.protocol.state.window (record w.nodes { live = record live { outbox = [] } })
      refl refl (omega arith) (omega arith))

-- a frame's arrival, in a pair and at a node that is alone
pub admitted_holds : (w : Pair) (h : Holds w) (k : IsRecord w.protocol.state) (c n : ℕ) (f : Frame) → 1 ≤ c → c ≤ length w.ports.boxes
    → slice_get (list_of w.ports.inboxes c) 0 ≡ Some (n, f)
    → Holds (record w { protocol = record w.protocol { state = (admit_done w.protocol.state n).1 }; ports = ports_after_admit w.ports c; nodes = with_arrival w.nodes f })
admitted_holds w h k c n f low high first = by_mode (is_alone w.protocol.state.mode) refl
  where
    by_mode : (t : Bool) → is_alone w.protocol.state.mode ≡ t → Holds (record w {
      protocol = record w.protocol { state = record w.protocol.state { journal = with_moves t w.protocol.state.journal (Arrive n ∷ []) } };
      ports = ports_after_admit w.ports c;
      nodes = with_arrival w.nodes f;
    })
    by_mode false e = two_hold _ e (admit_stands w h c n f low high first)
    by_mode true e =
        let b = w.ports.boxes in
        let lone = keeps_nothing w h k e in
        let inboxes = (ports_after_admit w.ports c).inboxes in
        let live = (with_arrival w.nodes f).live in
        let none : w.nodes.live.outbox ≡ [] = (alone_is w h lone).outbox in
        let landed = at_once_holds w lone e (Arrive n ∷ []) live inboxes (admit_stands w h c n f low high first) in
        let next = w.protocol.state.next_frame in
        let same : next + 0 ≡ next = omega arith in
        subst Holds
        ((λ i. record w {
          protocol = record w.protocol {
            state = record w.protocol.state {
              journal = with_history w.protocol.state.journal (Arrive n ∷ landings b (targets_of (length b) (none i)));
              next_frame = next + length (none i);
            };
          };
          ports = ports_landed (record w.ports { inboxes = inboxes }) next (none i);
          nodes = record w.nodes { live = record live { outbox = sym none i } };
        })
        ∙ (λ i. record w {
          protocol = record w.protocol {
            state = record w.protocol.state { journal = with_history w.protocol.state.journal (Arrive n ∷ []); next_frame = same i };
          };
          ports = record w.ports { inboxes = inboxes };
          nodes = record w.nodes { live = live };
        }))
        landed
