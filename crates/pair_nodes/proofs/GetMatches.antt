-- What the standby does with a text that has come whole, the pair's backup does with its packet: it commits the next one, acknowledges an
-- earlier one again, and refuses any other.
use Rattle.std.proofs.Common.{◌≡◌, ℕ, suc, ◌+◌, ◌-◌, ◌<◌, ◌≤◌, List, [], ◌∷◌, ◌++◌, drop, refl, sym, ap, ◌∙◌, subst, arith, Bool, true, false, cond}
use Rattle.std.proofs.{Common.{Option, None, Some, inl, inr}, lemmas.Bool.Decides.nat_tests}
use Rattle.std.specs.Prelude.{slice_get, ◌==◌, ◌⊎◌, not, nat_lt}
use Rattle.epoch_snapshot.specs.Checkpoints.{Change}
use Rattle.backup_image.specs.Images.{ImageState, after_stage, applied, committed}
use Rattle.pair_record.specs.declared.event.{Packet.Packet, Event.TheVariants.BackupGet, Refusal.{Refusal}, Refusal.TheVariants.{Stale, Gap}}
use Rattle.pair_record.specs.declared.event.Reply.TheVariants as replies
use Rattle.pair_record.specs.{Modes.{is_alone}, Window.committed_count, Protocol.{first_refusal, backup_refusals, again_done, commit_done}}
use Rattle.pair_record.specs.Window.{with_commit as with_commit_window}
use Rattle.pair_record.specs.laws.{Tables.{passed, same_generation}, Modes.filled_alone}
use Rattle.pair_core.specs.{Lines.{packet}, Nodes.{read_as, first_text, later_texts}, Pair.Pair}
use Rattle.pair_core.specs.laws.Lines.{below_at}
use Rattle.pair_core.specs.laws.Events.{after_commit}
use Rattle.pair_nodes.specs.Matching.{Fits, HasRoom, HaveNames, Matches, IsServed, site_of, standby_of, WasSent}
use Rattle.pair_nodes.specs.{Sides.{to_commit, get_rows}, StandbyCalls.commit_rows}
use Rattle.checkpoint_stream.specs.Readings.{Reading, begun, fed}
use Rattle.checkpoint_stream.specs.laws.Feeding.{fed-append}
use Rattle.pair_nodes.proofs.{Coming.{fed-none, some-came, whole-reads}, Then.{nothing_served, served_then}}
use Rattle.pair_nodes.specs.Networks.{Output}
use Rattle.pair_nodes.specs.Runs.{Premises, Begin}
use Rattle.pair_nodes.specs.Sites.{Site, Happens, gets, restarts, commits, taken_site, again_site, commit_site, piece_site, restart_site}
use Rattle.pair_nodes.proofs.Bags.{at_site, matches_so, next_is, sent_on, acked_on, series-shape}
use Rattle.pair_nodes.proofs.Counts.{commit_counts, same-count}
use Rattle.pair_nodes.proofs.Outs.{commit-frames}
use Rattle.pair_nodes.proofs.PairEvents.{after_again, again_kept, commit_kept, get_answers, one_event}
use Rattle.pair_nodes.proofs.{Places.{later-drop, later-place}, Series.numbered-reads}

-- a commit keeps the image's shape
shape_kept : (i : ImageState) (c : Change) → (committed (after_stage i c)).shape ≡ i.shape
shape_kept i c = by_staged (after_stage i c).staged
  where
    by_staged : (o : Option Change) → (applied (after_stage i c) o).shape ≡ i.shape
    by_staged None = refl
    by_staged (Some d) = refl

first-is : (ts : List (List ℕ)) (t : List ℕ) → slice_get ts 0 ≡ Some t → first_text ts ≡ t
first-is [] t e = absurd (cc)
first-is (x ∷ ts) t e = cc

module _ (w : Pair) (kept texts : List (List ℕ)) (acks : List Packet) (out : Output) (came : List ℕ) (h : Fits w kept texts acks out came)
    (two : is_alone w.protocol.state.mode ≡ false) (k : ℕ) (text : List ℕ) (there : slice_get texts k ≡ Some text) where
  abbrev s : WasSent w text
  s = h.sent k text there

  abbrev c : Change
  c = read_as w.nodes.image.shape text

  abbrev p : Packet
  p = packet s.generation s.number

  c_is : c ≡ s.is.change
  c_is = numbered-reads w.nodes.image.shape s.generation s.number text s.is

  generation-is : c.generation ≡ s.generation
  generation-is = ap (λ (d : Change). d.generation) c_is ∙ s.is.of_generation

  number-is : c.number ≡ s.number
  number-is = ap (λ (d : Change). d.number) c_is ∙ s.is.of_number

  -- the standby takes the number next that the pair commits next
  next-is : to_commit (standby_of w came) ≡ w.protocol.state.window.to_commit
  next-is = next_is w h.pair two

  -- so their tables of refusals are one
  rows-are : first_refusal (get_rows (standby_of w came) c) ≡ first_refusal (backup_refusals w.protocol.state p)
  rows-are = λ i. first_refusal ((not (generation-is i == w.protocol.state.generation), Stale) ∷ (nat_lt (next-is i) (number-is i), Gap) ∷ [])

  abbrev site : Site
  site = site_of w kept texts acks out came

  -- it is refused, and nothing happens
  stays : IsServed w 0 [] site
  stays = record {
    events = [];
    replies = [];
    after = w;
    start = refl;
    run = refl;
    matches = matches_so site w kept texts acks out came refl h;
    counts = omega arith;
    told = refl;
  }

  module _ (free : first_refusal (commit_rows (standby_of w came) c) ≡ None) where
    allowed : first_refusal (backup_refusals w.protocol.state p) ≡ None
    allowed =
        let one = passed (not (c.generation == w.protocol.state.generation)) Stale _ free in
        let two = passed (nat_lt (to_commit (standby_of w came)) c.number) Gap _ one.1 in
        sym rows-are ∙ (λ i. cond (one.0 i) (Some Stale) (cond (two.0 i) (Some Gap) None))

    same : s.generation ≡ w.protocol.state.generation
    same = same_generation s.generation w.protocol.state.generation (passed _ _ _ allowed).0

    near : s.number ≤ w.protocol.state.window.to_commit
    near =
        let row : nat_lt w.protocol.state.window.to_commit s.number ≡ false =
        (passed (nat_lt w.protocol.state.window.to_commit s.number) Gap None (passed (not (s.generation == w.protocol.state.generation)) Stale _ allowed).1).0 in
        grind (arith, nat_tests, row)

    -- IT WAS COMMITTED BEFORE
    module _ (old : nat_lt c.number (to_commit (standby_of w came)) ≡ true) where
      below : nat_lt s.number w.protocol.state.window.to_commit ≡ true
      below = (λ i. nat_lt (sym number-is i) (sym next-is i)) ∙ old

      some : w.protocol.state.window.to_commit - 1 < w.protocol.state.window.to_commit
      some = let b = below in grind (arith, nat_tests, b)

      abbrev earlier : Pair
      earlier = after_again w h.pair some

      abbrev number : ℕ
      number = w.protocol.state.window.to_commit - 1

      again_fits : Fits earlier kept texts (acks ++ packet w.protocol.state.generation number ∷ []) out came
      again_fits = record {
        pair = again_kept w h.pair some;
        count = h.count;
        sealed = h.sealed;
        numbered = h.numbered;
        sent = λ j t is. let x = h.sent j t is in sent_on w earlier refl (λ i q e. e) t x x.next;
        acked = acked_on w earlier acks (packet w.protocol.state.generation number) refl h.acked;
        coming = h.coming;
        frames = h.frames;
        names = h.names;
      }

      again_served : IsServed w 0 [] (again_site site)
      again_served = record {
        events = BackupGet s.place ∷ [];
        replies = replies.Again w.protocol.state.generation number ∷ [];
        after = earlier;
        start = refl;
        run =
            let done = get_answers w h.pair two s.place p s.sent allowed (again_done w.protocol.state)
            (ap (λ t. cond t (again_done w.protocol.state) (commit_done w.protocol.state)) below) in
            one_event w earlier (BackupGet s.place) _ h.pair (again_kept w h.pair some) refl (inl done, refl);
        matches = matches_so (again_site site) earlier kept texts (acks ++ packet w.protocol.state.generation number ∷ []) out came
            (λ i. site_of earlier kept texts (acks ++ packet w.protocol.state.generation (next-is i - 1) ∷ []) out came) again_fits;
        counts = omega arith;
        told = refl;
      }

    -- IT IS THE NEXT ONE
    module _ (new : nat_lt c.number (to_commit (standby_of w came)) ≡ false) where
      above : nat_lt s.number w.protocol.state.window.to_commit ≡ false
      above = (λ i. nat_lt (sym number-is i) (sym next-is i)) ∙ new

      reached : w.protocol.state.window.to_commit ≤ s.number
      reached = let b = above in grind (arith, nat_tests, b)

      more : w.protocol.state.window.to_commit < w.protocol.state.window.to_cut
      more =
          let l = below_at w.protocol.state.generation w.protocol.state.window.to_cut w.protocol.lines.forward s.place (Some p)
          h.pair.holds.lines.forward (sym s.sent) same in
          let r = reached in
          omega arith

      -- it is the one that was sealed
      oldest : first_text w.nodes.sealed ≡ text
      oldest =
          let at : s.number - w.protocol.state.window.to_commit ≡ 0 = let a = near in omega arith in
          first-is w.nodes.sealed text (ap (slice_get w.nodes.sealed) (sym at) ∙ s.next same reached)

      abbrev later : Pair
      later = after_commit w

      abbrev more_acks : List Packet
      more_acks = acks ++ packet w.protocol.state.generation w.protocol.state.window.to_commit ∷ []

      shape : later.nodes.image.shape ≡ w.nodes.image.shape
      shape = shape_kept w.nodes.image (read_as w.nodes.image.shape (first_text w.nodes.sealed))

      commit_fits : Fits later kept texts more_acks out came
      commit_fits =
          let r = w.protocol.state in
          let committed = h.pair.record_is.window.committed in
          let count : suc (committed_count r.window) ≡ committed_count (with_commit_window r.window) = omega arith in
          record {
            pair = commit_kept w h.pair two more;
            count = h.count;
            sealed = ap later_texts h.sealed ∙ later-drop (committed_count r.window) kept ∙ ap (λ n. drop n kept) count;
            numbered = series-shape w.nodes.image.shape later.nodes.image.shape r.generation r.window.to_acknowledge kept shape h.numbered;
            sent = λ j t is.
                let x = h.sent j t is in
                sent_on w later shape (λ i q e. e) t x (λ now low.
                let at : suc (x.number - (r.window.to_commit + 1)) ≡ x.number - r.window.to_commit = omega arith in
                later-place w.nodes.sealed (x.number - (r.window.to_commit + 1)) ∙ ap (slice_get w.nodes.sealed) at ∙ x.next now (omega arith));
            acked = acked_on w later acks (packet r.generation r.window.to_commit) refl h.acked;
            coming = h.coming;
            frames = commit-frames w h.pair more out h.frames;
            names =
                subst (λ u. HaveNames u r.generation r.window.to_acknowledge kept texts) (sym shape) h.names;
          }

      site_is : commit_site site c ≡ site_of later kept texts more_acks out came
      site_is = λ i. record (site_of later kept texts (acks ++ packet w.protocol.state.generation (next-is i) ∷ []) out came) {
        primary = record (site_of later kept texts acks out came).primary {
          shape = sym shape i;
          backed = not (sym (filled_alone w.protocol.state.mode) i);
        };
        standby = record (standby_of w came) {
          image = committed (after_stage w.nodes.image (read_as w.nodes.image.shape (sym oldest i)));
          reading = fed (begun (sym shape i) 0) came;
        };
      }

      commit_served : IsServed w 0 [] (commit_site site c)
      commit_served = record {
        events = BackupGet s.place ∷ [];
        replies = replies.Committed w.protocol.state.generation w.protocol.state.window.to_commit ∷ [];
        after = later;
        start = refl;
        run =
            let done = get_answers w h.pair two s.place p s.sent allowed (commit_done w.protocol.state)
            (ap (λ t. cond t (again_done w.protocol.state) (commit_done w.protocol.state)) above) in
            one_event w later (BackupGet s.place) _ h.pair (commit_kept w h.pair two more) refl (inl done, refl);
        matches = matches_so (commit_site site c) later kept texts more_acks out came site_is commit_fits;
        counts = same-count (commit_counts w.protocol.state.journal);
        told = refl;
      }

    by_test : (t : Bool) → nat_lt c.number (to_commit (standby_of w came)) ≡ t → IsServed w 0 [] (cond t (again_site site) (commit_site site c))
    by_test true e = again_served e
    by_test false e = commit_served e

  by_rows : (o : Option Refusal) → first_refusal (commit_rows (standby_of w came) c) ≡ o → IsServed w 0 [] (taken_site site c o)
  by_rows (Some why) e = stays
  by_rows None e = by_test e (nat_lt c.number (to_commit (standby_of w came))) refl

  pub get_served : IsServed w 0 [] (taken_site site c (first_refusal (commit_rows (standby_of w came) c)))
  get_served = by_rows (first_refusal (commit_rows (standby_of w came) c)) refl

-- A PIECE comes; what has come is given up

module _ (s : Site) (w : Pair) (m : Matches s w) where
  -- the same site, where other bytes have come
  with_came : (came : List ℕ) → (came ≡ []) ⊎ Begin came s.texts
      → Matches (record s { standby = record s.standby { reading = fed (begun s.standby.image.shape 0) came }; came = came }) w
  with_came came c =
      let h = m.fits in
      let shape : w.nodes.image.shape ≡ s.standby.image.shape = ap (λ (u : Site). u.standby.image.shape) (sym m.is) in
      record {
        is = λ i. record (m.is i) {
          standby = record (m.is i).standby { reading = fed (begun (m.is i).standby.image.shape 0) came };
          came = came;
        };
        fits = record {
          pair = h.pair;
          count = h.count;
          sealed = h.sealed;
          numbered = h.numbered;
          sent = h.sent;
          acked = h.acked;
          coming = c;
          frames = h.frames;
          names = h.names;
        };
      }

  reading-is : s.standby.reading ≡ fed (begun s.standby.image.shape 0) s.came
  reading-is =
      ap (λ (u : Site). u.standby.reading) m.is ∙ ap (λ (u : Site). fed (begun u.standby.image.shape 0) s.came) (sym m.is)

  pub restart_served : IsServed w 0 [] (restart_site s)
  restart_served =
      nothing_served w 0 (restart_site s)
      (subst (λ (r : Reading). Matches (record s { standby = record s.standby { reading = r }; came = [] }) w)
      (fed-none (begun s.standby.image.shape 0)) (with_came [] (inl refl)))

  pub piece_served : (bytes : List ℕ) → Begin (s.came ++ bytes) s.texts → IsServed w 0 [] (piece_site s bytes)
  piece_served bytes b =
      nothing_served w 0 (piece_site s bytes)
      (subst (λ (r : Reading). Matches (record s { standby = record s.standby { reading = r }; came = s.came ++ bytes }) w)
      (fed-append (begun s.standby.image.shape 0) s.came bytes ∙ ap (λ (r : Reading). fed r bytes) (sym reading-is))
      (with_came (s.came ++ bytes) (inr b)))

-- A COMMIT, and what has come is given up
pub commit_matches : (s t : Site) (w : Pair) (most : ℕ) → Matches s w → HasRoom w 0 → Premises s commits most → Happens s commits t
    → IsServed w 0 [] t
commit_matches s t w most m room fair happens =
    at_site s t w commits most m room fair happens (λ kept texts acks out came h fits fair x.
    let shape = w.nodes.image.shape in
    let b = some-came shape came texts h.coming x.0 in
    let reads = whole-reads shape came texts b x.0 in
    let taken = get_served w kept texts acks out came h fair.fencing b.2.0 b.0 b.2.1 in
    let mid = taken_site (site_of w kept texts acks out came) (read_as shape b.0)
    (first_refusal (commit_rows (standby_of w came) (read_as shape b.0))) in
    let end = served_then w 0 0 [] [] mid (restart_site mid) taken (restart_served mid taken.after taken.matches) in
    rw x.1 (subst (λ (c : Change). IsServed w 0 []
    (restart_site (taken_site (site_of w kept texts acks out came) c (first_refusal (commit_rows (standby_of w came) c))))) (sym reads) end))

pub get_matches : (s t : Site) (w : Pair) (bytes : List ℕ) (most : ℕ) → Matches s w → HasRoom w 0 → Premises s (gets bytes) most
    → Happens s (gets bytes) t → IsServed w 0 [] t
get_matches s t w bytes most m room fair happens = rw happens (piece_served s w m bytes fair.unaltered)

pub restart_matches : (s t : Site) (w : Pair) (most : ℕ) → Matches s w → HasRoom w 0 → Premises s restarts most → Happens s restarts t
    → IsServed w 0 [] t
restart_matches s t w most m room fair happens = rw happens (restart_served s w m)
