-- Each event of the guest and of the backup keeps the invariant: the record's part is its own law, and here stands the nodes'.
use Rattle.std.proofs.Common.{rules, ◌≡◌, ℕ, ◌+◌, ◌*◌, ◌<◌, ◌≤◌, List, [], ◌∷◌, ◌++◌, length, refl, sym, ap, ◌∙◌, subst, arith}
use Rattle.std.proofs.{Common.{append_assoc, Bool, false, Some}, lemmas.List.{append-nil, length-map}}
use Rattle.std.specs.Prelude.{slice_get}
use Rattle.failover.specs.declared.mode.Mode.{Mode}
use Rattle.guest_rules.specs.{declared.shapes.Shape.Shape, Guest.Guest}
use Rattle.epoch_snapshot.specs.{Bases.IsBase, Checkpoints.Change}
use Rattle.frame_ports.specs.{Lands.list_of, Ports.{PortsState, empty_ports}}
use Rattle.pair_history.specs.{Entries.{Frame, Entry}, HistoryState.{start_state}}
use Rattle.pair_history.specs.Moves.{Move, Arrives, entries_of, guest_along, frames_along, left, AllCan}
use Rattle.pair_history.specs.laws.Moves.{guest_along-append, frames_along-append}
use Rattle.pair_record.specs.{Accords.{AreClients, all_moves}, Journal.with_running, Modes.is_alone}
use Rattle.pair_record.specs.{Protocol.{Record, cut_done, commit_done}, Record.{IsRecord, AreNumbered, ports_after_admit}, Window.with_cut}
use Rattle.pair_record.specs.Window.{with_commit as with_commit_window}
use Rattle.pair_record.specs.Accords.{kept_now, left_now}
use Rattle.pair_record.specs.laws.Accords.{moves_accord, arrival_accords, mode_accords}
use Rattle.pair_record.specs.laws.Accords.{first_sends, some_moves, some_held, shown_after, commit_accords, start_accords}
use Rattle.pair_record.specs.laws.{Modes.{clash, filled_alone}, Alone.cut_accords}
use Rattle.pair_core.specs.Invariant.{first_moves, AreSealed, AreNodes, Holds, HoldsAmid}
use Rattle.pair_core.specs.Lines.{Lines, packet, with_back, start_protocol, AreNamed}
use Rattle.pair_core.specs.{Pair.{Pair, shown_state}, Texts.IsText}
use Rattle.pair_core.specs.Nodes.{Node, HasShape, machine_of, start_nodes, with_arrival, with_sealed, with_commit}
use Rattle.pair_core.specs.Nodes.{first_text, read_as}
use Rattle.pair_core.specs.laws.Nodes.{shape-arrived, base-with_arrival, first-sealed, length-sealed, backed-live, nodes-cut, nodes-start}
use Rattle.pair_core.specs.laws.Nodes.{reads-version, reads-frames}
use Rattle.pair_core.specs.laws.{Commits.{change, frames-are, image-commit, keeps-nothing, nodes-commit}, Lines.{named-more, named-back}}
use Rattle.pair_core.specs.laws.Kept.{commit_fits, keeps_commit, keeps_cut, keeps_none, keeps_on, risen-same}
use Rattle.backup_image.specs.Images.{ImageState}
use Rattle.failover.specs.Modes.{mode_filled}

-- the invariant where record and ports are these
pub moved_to : (w : Pair) (now r : Record) (q p : PortsState) → now ≡ r → q ≡ p
    → Holds (record w { protocol = record w.protocol { state = r }; ports = p })
    → Holds (record w { protocol = record w.protocol { state = now }; ports = q })
moved_to w now r q p is ports h =
    subst Holds (λ i. record w { protocol = record w.protocol { state = sym is i }; ports = sym ports i }) h

-- THE GUEST GOES ON by moves, in the epoch that runs

module _ (w : Pair) (h : Holds w) (ms : List Move) (live : Node)
    (guest : live.guest ≡ guest_along w.nodes.live.guest ms)
    (outbox : live.outbox ≡ w.nodes.live.outbox ++ frames_along w.nodes.live.guest ms)
    (shape : (t : Shape) → HasShape t w.nodes.live.guest → HasShape t live.guest)
    (base : (b : Guest) → IsBase (machine_of w.nodes.live) b → IsBase (machine_of live) b) where
  pub nodes_moved : AreNodes (is_alone w.protocol.state.mode) w.protocol.state.generation w.protocol.state.window.to_commit (shown_state w).guest
      h.accords.journal.sealed_moves (h.accords.journal.running_moves ++ ms) (record w.nodes { live = live })
  nodes_moved =
      let s = shown_state w in
      let mss = h.accords.journal.sealed_moves in
      let ran = h.accords.journal.running_moves in
      let sealed = all_moves mss in
      let now = kept_now w.start w.protocol.state w.ports h.accords in
      let regroup : now ++ ms ≡ sealed ++ (ran ++ ms) = append_assoc sealed ran ms in
      let g = guest_along s.guest sealed in
      let live_is : w.nodes.live.guest ≡ guest_along g ran = h.nodes.live ∙ guest_along-append s.guest sealed ran in
      record {
        first_generation = h.nodes.first_generation;
        last_generation = h.nodes.last_generation;
        backed = λ e.
            let b = h.nodes.backed e in
            backed-live w.protocol.state.generation w.protocol.state.window.to_commit s.guest mss w.nodes live b (base g b.base);
        live = guest ∙ ap (λ x. guest_along x ms) h.nodes.live ∙ sym (guest_along-append s.guest now ms)
            ∙ ap (guest_along s.guest) regroup;
        outbox =
            outbox ∙ ap (λ t. t ++ frames_along w.nodes.live.guest ms) h.nodes.outbox
            ∙ ap (λ x. frames_along g ran ++ frames_along x ms) live_is ∙ sym (frames_along-append g ran ms);
        shape = shape w.nodes.image.shape h.nodes.shape;
      }

  pub moves_stand : (es : List Entry) (inboxes : List (List (ℕ × Frame))) → es ≡ entries_of ms
      → AllCan (left_now w.start w.protocol.state w.ports h.accords) ms
      → AreClients (shown_state w) (left (left_now w.start w.protocol.state w.ports h.accords) ms) (record w.ports { inboxes = inboxes })
      → HoldsAmid (record w {
        protocol = record w.protocol { state = record w.protocol.state { journal = with_running w.protocol.state.journal es } };
        ports = record w.ports { inboxes = inboxes };
        nodes = record w.nodes { live = live };
      })
  moves_stand es inboxes es_are can clients =
      let r = w.protocol.state in
      let p = w.ports in (
        moves_accord w.start r p h.accords ms es inboxes es_are can clients,
        nodes_moved,
        h.lines,
        λ two. keeps_on r p w.nodes.image (h.kept two) (record r { journal = with_running r.journal es }) (record p { inboxes = inboxes })
            w.nodes.image refl refl (risen-same p (record p { inboxes = inboxes }) refl refl) refl refl,
      )

-- in a pair that is all
pub two_hold : (w : Pair) → is_alone w.protocol.state.mode ≡ false → HoldsAmid w → Holds w
two_hold w two h = record { accords = h.0; lines = h.2; nodes = h.1; kept = h.3; still = λ alone. absurd (clash (is_alone w.protocol.state.mode) alone two) }

-- Admit: the first frame of a client arrives

pub admit_stands : (w : Pair) (h : Holds w) (c n : ℕ) (f : Frame) → 1 ≤ c → c ≤ length w.ports.boxes
    → slice_get (list_of w.ports.inboxes c) 0 ≡ Some (n, f)
    → HoldsAmid (record w {
      protocol = record w.protocol { state = record w.protocol.state { journal = with_running w.protocol.state.journal (entries_of (Arrives n f ∷ [])) } };
      ports = ports_after_admit w.ports c;
      nodes = with_arrival w.nodes f;
    })
admit_stands w h c n f low high first = (
  (arrival_accords w.start w.protocol.state w.ports h.accords c n f low high first).1,
  nodes_moved w h (Arrives n f ∷ []) (with_arrival w.nodes f).live refl (sym (append-nil w.nodes.live.outbox))
      (λ t k. shape-arrived f t w.nodes.live.guest k) (λ b k. base-with_arrival f w.nodes b k),
  h.lines,
  λ two. keeps_on w.protocol.state w.ports w.nodes.image (h.kept two)
      (record w.protocol.state { journal = with_running w.protocol.state.journal (entries_of (Arrives n f ∷ [])) })
      (ports_after_admit w.ports c) w.nodes.image refl refl (risen-same w.ports (ports_after_admit w.ports c) refl refl) refl refl,
)

-- CUT: the running epoch is sealed, as this text

abbrev pub after_cut : Pair → List ℕ → Pair
after_cut w text = record w { protocol = record w.protocol { state = (cut_done w.nodes.live.outbox w.protocol.state).1 }; nodes = with_sealed w.nodes text }

module _ (w : Pair) (h : Holds w) (k : IsRecord w.protocol.state) (numbered : AreNumbered w.protocol.state w.ports) (text : List ℕ)
    (is_text : (base : Guest) → IsBase (machine_of w.nodes.live) base → HasShape w.nodes.image.shape w.nodes.live.guest
    → IsText w.nodes.image.shape w.protocol.state.generation w.protocol.state.window.to_cut base w.nodes.live.guest w.nodes.live.outbox text) where
  pub cut_holds : Holds (after_cut w text)
  cut_holds =
      let s = shown_state w in
      let mss = h.accords.journal.sealed_moves in
      let counted : w.protocol.state.window.to_commit + length mss ≡ w.protocol.state.window.to_cut =
      ap (λ (m : ℕ). w.protocol.state.window.to_commit + m) (sym (ap length h.accords.journal.sealed_are ∙ length-map mss entries_of))
      ∙ k.sealed in
      record {
        accords = cut_accords w.start w.protocol.state w.ports h.accords w.nodes.live.outbox k h.nodes.outbox;
        lines = named-more w.protocol.state w.protocol.lines h.lines (with_cut w.protocol.state.window) (omega arith) (omega arith);
        nodes =
            nodes-cut (is_alone w.protocol.state.mode) w.protocol.state.generation w.protocol.state.window.to_commit s.guest mss
            h.accords.journal.running_moves w.nodes w.protocol.state.window.to_cut text h.nodes counted
            (λ e. is_text (guest_along s.guest (all_moves mss)) (h.nodes.backed e).base h.nodes.shape);
        kept = λ two. keeps_cut w.protocol.state w.ports w.nodes.image (h.kept two) k.window numbered.held w.protocol.state.journal.running []
            w.nodes.live.outbox;
        still = λ e. refl;
      }

-- SEND, and an acknowledgement sent again: only the lines

pub lines_hold : (w : Pair) → Holds w → (l : Lines) → AreNamed w.protocol.state.generation w.protocol.state.window l
    → Holds (record w { protocol = record w.protocol { lines = l } })
lines_hold w h l named = record { accords = h.accords; lines = named; nodes = h.nodes; kept = h.kept; still = h.still }

-- FAILPRIMARY: only the mode

pub mode_holds : (w : Pair) → Holds w → (mode : Mode) → is_alone w.protocol.state.mode ≡ is_alone mode
    → Holds (record w { protocol = record w.protocol { state = record w.protocol.state { mode = mode } } })
mode_holds w h mode same = record {
  accords = mode_accords w.start w.protocol.state w.ports h.accords mode;
  lines = h.lines;
  nodes = rw (← same) h.nodes;
  kept = λ two. keeps_on w.protocol.state w.ports w.nodes.image (h.kept (same ∙ two)) (record w.protocol.state { mode = mode }) w.ports
      w.nodes.image refl refl (risen-same w.ports w.ports refl refl) refl refl;
  still = λ e. h.still (same ∙ e);
}

-- each checkpoint that was cut and not committed has its text, which carries the frames of its epoch
module _ (w : Pair) (h : Holds w) (k : IsRecord w.protocol.state) (two : is_alone w.protocol.state.mode ≡ false)
    (more : w.protocol.state.window.to_commit < w.protocol.state.window.to_cut) where
  abbrev IsOldest : List Move → List (List ℕ) → Type 0
  IsOldest ms texts =
      (0 < length texts)
      × IsText w.nodes.image.shape w.protocol.state.generation w.protocol.state.window.to_commit (shown_state w).guest
      (guest_along (shown_state w).guest ms) (frames_along (shown_state w).guest ms) (first_text texts)

  pub oldest_text : IsOldest (first_moves h.accords.journal.sealed_moves) w.nodes.sealed
  oldest_text = by_moves h.accords.journal.sealed_moves (h.nodes.backed two).sealed
      (some_moves w.start w.protocol.state w.ports h.accords k more)
    where
      by_moves : (mss : List (List Move)) → AreSealed w.nodes.image.shape w.protocol.state.generation w.protocol.state.window.to_commit
          (shown_state w).guest mss w.nodes.sealed
          → 0 < length mss → IsOldest (first_moves mss) w.nodes.sealed
      by_moves [] s l = absurd (omega arith)
      by_moves (ms ∷ mss) s l = search (arith, rules, first-sealed, length-sealed)

  -- what the image takes in next is of version 2, and carries the frames that the guest sent along the oldest sealed epoch
  abbrev oldest : Change
  oldest = read_as w.nodes.image.shape (first_text w.nodes.sealed)

  pub oldest_version : oldest.version ≡ 2
  oldest_version =
      reads-version w.nodes.image.shape w.protocol.state.generation w.protocol.state.window.to_commit (shown_state w).guest _ _
      (first_text w.nodes.sealed) oldest_text.1

  pub oldest_frames : oldest.frames ≡ frames_along (shown_state w).guest (first_moves h.accords.journal.sealed_moves)
  oldest_frames =
      reads-frames w.nodes.image.shape w.protocol.state.generation w.protocol.state.window.to_commit (shown_state w).guest _ _
      (first_text w.nodes.sealed) oldest_text.1

-- COMMIT: the oldest sealed epoch moves to the history, and the image takes its checkpoint in

abbrev pub after_commit : Pair → Pair
after_commit w = record w {
  protocol = record {
    state = (commit_done w.protocol.state).1;
    lines = with_back w.protocol.lines (packet w.protocol.state.generation w.protocol.state.window.to_commit);
  };
  nodes = with_commit w.nodes;
}

module _ (w : Pair) (h : Holds w) (k : IsRecord w.protocol.state) (numbered : AreNumbered w.protocol.state w.ports)
    (two : is_alone w.protocol.state.mode ≡ false) where
  pub commit_holds : w.protocol.state.window.to_commit < w.protocol.state.window.to_cut → Holds (after_commit w)
  commit_holds more = by_lists h.accords.journal.sealed_moves refl (some_moves w.start w.protocol.state w.ports h.accords k more)
    where
      by_lists : (sealed : List (List Move)) (p : h.accords.journal.sealed_moves ≡ sealed) → 0 < length sealed → Holds (after_commit w)
      by_lists [] p l = absurd (omega arith)
      by_lists (ms ∷ mss) p l =
          let r = w.protocol.state in
          let s = shown_state w in
          let n = r.window.to_commit in
          let ran = h.accords.journal.running_moves in
          let same : is_alone (mode_filled r.mode) ≡ is_alone r.mode = filled_alone r.mode in
          let now : AreNodes (is_alone (mode_filled r.mode)) r.generation n s.guest (ms ∷ mss) ran w.nodes =
          rw same (subst (λ (x : List (List Move)). AreNodes (is_alone r.mode) r.generation n s.guest x ran w.nodes) p h.nodes) in
          let shown = shown_after w.start r w.ports h.accords k ms mss p in
          let held = some_held w.start r w.ports h.accords k (some_moves w.start r w.ports h.accords k more) in
          let lone : Bool = is_alone (mode_filled r.mode) in
          let not : lone ≡ false = same ∙ two in
          let c = change lone r.generation n s.guest ms mss ran w.nodes now not in
          let frames : c.frames ≡ held.0.frames =
          frames-are lone r.generation n s.guest ms mss ran w.nodes now not
          ∙ sym (first_sends w.start r w.ports h.accords k ms mss p held.0 held.1 held.2) in
          let full = keeps-nothing lone r.generation n s.guest ms mss ran w.nodes now not in
          let keeps = h.kept two in
          let fits = commit_fits r w.ports w.nodes.image keeps k numbered.held held.0 held.1 held.2 c frames full numbered.left in
          record {
            accords = commit_accords w.start r w.ports h.accords k ms mss p held.0 held.1 held.2;
            lines =
                named-back (commit_done r).1 w.protocol.lines (named-more r w.protocol.lines h.lines (with_commit_window r.window) (omega arith)
                (omega arith)) n (omega arith);
            nodes =
                subst (λ (g : Guest). AreNodes (is_alone (mode_filled r.mode)) r.generation (n + 1) g mss ran (with_commit w.nodes))
                (ap (λ t. t.guest) (sym shown))
                (nodes-commit lone r.generation n s.guest ms mss ran w.nodes now not fits);
            kept = λ e. keeps_commit r w.ports w.nodes.image keeps k numbered.held held.0 held.1 held.2 c frames full (with_commit w.nodes).image
                (ap (λ (x : ImageState). x.kept) (image-commit lone r.generation n s.guest ms mss ran w.nodes now not fits))
                (ap (λ (x : ImageState). x.sent) (image-commit lone r.generation n s.guest ms mss ran w.nodes now not fits));
            still = λ e. h.still (sym same ∙ e);
          }

-- WHERE A PAIR STARTS

abbrev pub start_pair : Shape → List ℕ → ℕ → Pair
start_pair shape image clients = record {
  start = start_state shape.pages shape.sectors image clients;
  protocol = start_protocol;
  ports = empty_ports clients;
  nodes = start_nodes shape image;
}

pub start_holds : (shape : Shape) (image : List ℕ) (clients : ℕ) → length image ≤ 4096 * shape.pages
    → Holds (start_pair shape image clients)
start_holds shape image clients fits = record {
  accords = start_accords shape.pages shape.sectors image clients;
  lines = record { forward = tt; back = tt };
  nodes = nodes-start shape image fits;
  kept = λ two. keeps_none (start_pair shape image clients).protocol.state (empty_ports clients) (start_nodes shape image).image refl refl refl refl;
  still = λ e. refl;
}
