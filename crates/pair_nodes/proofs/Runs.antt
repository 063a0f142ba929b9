-- Whole runs.
use Rattle.std.proofs.Common.{◌≡◌, ℕ, zero, suc, ◌+◌, ◌-◌, ◌*◌, ◌<◌, ◌≤◌, List, [], ◌∷◌, ◌++◌, length, replicate, refl, sym, ap, ◌∙◌, subst, arith}
use Rattle.std.proofs.Common.{append_assoc, inl, ⊎_elim}
use Rattle.std.proofs.lemmas.List.{length-replicate}
use Rattle.std.proofs.lemmas.List.Elements.{All-nil, All-cons}
use Rattle.std.specs.Prelude.{All}
use Rattle.failover.specs.declared.mode.{Mode.Mode, Mode.TheVariants.{Paired, Filling, Alone, Stopped}}
use Rattle.frame_ports.specs.{Limits.number_limit}
use Rattle.guest_rules.specs.{declared.shapes.Shape.Shape}
use Rattle.pair_history.specs.{HistoryState.{HistoryState, at, start_state}}
use Rattle.pair_record.specs.{Modes.{is_alone}}
use Rattle.pair_core.specs.{Calls.ahead_of, Pair.{Pair, InMode, IsConsistent, shown_state}, Service.{HasServed, moment}}
use Rattle.pair_core.specs.laws.{Consistent.{consistent, lone}, Events.{start_pair, start_holds}, Serves.served_grows}
use Rattle.pair_nodes.specs.Matching.{HasRoom, IsServed, Kept, Matches, held_of, site_of}
use Rattle.pair_nodes.specs.Networks.{frames_in}
use Rattle.std.proofs.lemmas.List.{take-append-drop}
use Rattle.output_gate.specs.Epochs.{frames_of}
use Rattle.output_gate.specs.laws.Epochs.{frames_of-append}
use Rattle.pair_record.specs.{Journal.kept_entries, Window.{committed_count, committed_of, uncommitted_of}}
use Rattle.checkpoint_stream.specs.Readings.{begun}
use Rattle.pair_nodes.proofs.Coming.{fed-none}
use Rattle.pair_nodes.proofs.{Covered.{covers, run_grows}, Exact.run_stays, Outs.{kept-sent, sent-append}}
use Rattle.pair_nodes.specs.Frames.{AreLetOut, GoesOnFrom, NoneGoesLive, NoneIsHeardBeyond, out_to, sent_since}
use Rattle.pair_nodes.specs.{Names.OneNameOneText, Serving.{AreOneGuest, GoesOn, ImageIs, IsStart, Reach, start_site, lone_start, start_moment}}
use Rattle.pair_nodes.specs.Runs.{Premises, Run, Call, IsAmong, adds, calls_by}
use Rattle.pair_nodes.specs.Sites.{Site, Happening, Happens, cuts, goes_alone}
use Rattle.pair_nodes.proofs.{Happenings.happens_served, Then.{nothing_served, served_then}}

pub run_served : (xs : List Happening) (s t : Site) (w : Pair) (most : ℕ) (calls : List Call) → Matches s w → HasRoom w most
    → Run s xs most calls t → IsServed w most calls t
run_served [] s t w most calls m room run = rw run.0 (subst (λ cs. IsServed w most cs s) (sym run.1) (nothing_served w most s m))
run_served (x ∷ xs) s t w most calls m room run =
    let n = adds s x in
    let fits = run.2.few_entries in
    let a = happens_served s run.0 w x most m (omega arith) run.2 run.3 in
    let counts = a.counts in
    let b = run_served xs run.0 t a.after (most - n) run.1 a.matches (omega arith) run.5 in
    let all : n + (most - n) ≡ most = omega arith in
    subst (λ k. IsServed w k calls t) all
    (subst (λ cs. IsServed w (n + (most - n)) cs t) (sym run.4) (served_then w n (most - n) (calls_by s x) run.1 run.0 t a b))

-- WHERE TWO NODES START

zeros_below : (n : ℕ) → All (λ k. k < 1) (replicate n 0)
zeros_below zero = All-nil (λ k. k < 1)
zeros_below (suc n) = All-cons (λ k. k < 1) 0 (replicate n 0) (omega arith) (zeros_below n)

none_at : (a : List ℕ) → IsAmong a [] → ⊥
none_at a h = let e = h.1 in cc

module _ (shape : Shape) (image : List ℕ) (clients : ℕ) (fits : length image ≤ 4096 * shape.pages) where
  abbrev pub first : Pair
  first = start_pair shape image clients

  start_kept : Kept first
  start_kept = record {
    holds = start_holds shape image clients fits;
    record_is = record {
      window = record {
        numbers = tt;
        count = refl;
        committed = omega arith;
        cut = omega arith;
        few = omega arith;
        last = omega arith;
      };
      sealed = refl;
      alone = λ e. (refl, refl);
      suits = omega arith;
    };
    numbered = record {
      held = omega arith;
      new = zeros_below clients;
      left = omega arith;
      left_in_pair = λ e some. omega arith;
    };
    clients = length-replicate clients 0 ∙ sym (length-replicate clients []);
  }

  pub start_matches : Matches (start_site shape image clients) first
  start_matches = record {
    is = λ i. record (start_site shape image clients) {
      standby = record (start_site shape image clients).standby { reading = sym (fed-none (begun shape 0)) i };
    };
    fits = record {
      pair = start_kept;
      count = refl;
      sealed = refl;
      numbered = tt;
      sent = λ k t is. absurd (cc);
      acked = λ k p is. absurd (cc);
      coming = inl refl;
      frames = refl;
      names = record { held = λ k n t is x low. absurd (cc); one = λ a b at_a at_b e. absurd (none_at a at_a) };
    };
  }

-- WHAT THAT IS TO CLIENTS

image_is : (mode : Mode) (v : Pair) (t : Site) → t.standby.image ≡ v.nodes.image → InMode mode v → ImageIs mode (shown_state v).guest t
image_is Paired v t same m = ap (λ i. i.guest) same ∙ m.1.image
image_is Stopped v t same m = ap (λ i. i.guest) same ∙ m.1.image
image_is Filling v t same m = tt
image_is Alone v t same m = tt

-- what nodes let out is what the guest of the history sent, and what the live one holds is what it sent ahead of that
frames_are : (v : Pair) (t : Site) → Matches t v → AreLetOut v.start (moment v) t
frames_are v t m =
    let r = v.protocol.state in
    let n = committed_count r.window in
    let a = m.fits.frames in
    let outbox = v.nodes.live.outbox in
    let late = frames_of (uncommitted_of r.window r.pending) in
    let here : AreLetOut v.start (moment v) (site_of v t.primary.texts t.texts t.acks t.out t.came) = record {
      committed = n;
      history = a;
      all =
          ap (λ gs. frames_in t.out.before ++ gs)
          (ap (λ fs. t.out.now ++ (fs ++ outbox))
          (ap frames_of (sym (take-append-drop n r.pending)) ∙ frames_of-append (committed_of r.window r.pending) (uncommitted_of r.window r.pending))
          ∙ ap (λ fs. t.out.now ++ fs) (append_assoc (held_of v) late outbox) ∙ sym (append_assoc t.out.now (held_of v) (late ++ outbox)))
          ∙ sym (append_assoc (frames_in t.out.before) (t.out.now ++ held_of v) (late ++ outbox))
          ∙ (λ i. a i ++ sym (kept-sent v m.fits.pair.holds) i)
          ∙ sym (sent-append v.start r.journal.history (kept_entries r.journal));
    } in
    subst (λ (u : Site). AreLetOut v.start (moment v) u) (sym m.is) here

pub one_guest : (w : Pair) (n : ℕ) (calls : List Call) (t : Site) → IsServed w n calls t → AreOneGuest w.start (moment w) calls t
one_guest w n calls t a =
    let v = a.after in
    let k = a.matches.fits.pair in
    let all : IsConsistent v = consistent v k.holds k.record_is k.numbered in
    let mode : t.mode ≡ v.protocol.state.mode = ap (λ (s : Site). s.mode) a.matches.is in
    let end = moment v in
    record {
      events = a.events;
      replies = a.replies;
      end = end;
      run = a.run;
      told = a.told;
      live = λ e. ap (λ (s : Site). s.primary.live.guest) a.matches.is ∙ all.live
          ∙ ap (λ (s : HistoryState). (at s (end.history ++ ahead_of end)).guest) a.start;
      alone = λ e. (lone v.protocol.state.mode v (sym (ap is_alone mode) ∙ e) all.mode).kept;
      image =
          subst (λ (s : HistoryState). ImageIs t.mode (at s end.history).guest t) a.start
          (subst (λ (m : Mode). ImageIs m (shown_state v).guest t) (sym mode)
          (image_is v.protocol.state.mode v t (ap (λ (s : Site). s.standby.image) a.matches.is) all.mode));
      frames = subst (λ (s : HistoryState). AreLetOut s end t) a.start (frames_are v t a.matches);
    }

-- WHEREVER A RUN BEGINS, it is one of two nodes that both booted: one that is alone has its standby stop first

module _ (shape : Shape) (image : List ℕ) (clients : ℕ) where
  pub stop-first : Happens (start_site shape image clients) goes_alone (lone_start shape image clients)
  stop-first = (refl, omega arith, refl)

  -- a run of two that booted both
  record IsRun (most : ℕ) (calls : List Call) (t : Site) : Type 0 where
    pub happenings : List Happening
    pub run : Run (start_site shape image clients) happenings most calls t

  from_start : (s t : Site) (xs : List Happening) (most : ℕ) (calls : List Call) → IsStart shape image clients s → Run s xs most calls t
      → IsRun most calls t
  from_start s t xs most calls start run = ⊎_elim
      (λ (e : s ≡ start_site shape image clients). record { happenings = xs; run = subst (λ (u : Site). Run u xs most calls t) e run })
      (λ (e : s ≡ lone_start shape image clients).
      let fair : Premises (start_site shape image clients) goes_alone most =
      record { fencing = refl; one_stop_a_generation = tt; unaltered = tt; few_entries = omega arith } in
      let left : most ≡ most - 0 = omega arith in
      record {
        happenings = goes_alone ∷ xs;
        run = (
          lone_start shape image clients,
          calls,
          fair,
          stop-first,
          refl,
          subst (λ n. Run (lone_start shape image clients) xs n calls t) left (subst (λ (u : Site). Run u xs most calls t) e run),
        );
      })
      start

module _ (shape : Shape) (image : List ℕ) (clients : ℕ) (calls : List Call) (s : Site) (r : Reach shape image clients calls s) where
  abbrev pair : Pair
  pair = first shape image clients r.image_fits

  reached : IsServed pair r.entries calls s
  reached =
      let all = from_start shape image clients r.begin s r.happenings r.entries calls r.begins r.run in
      let few = r.few_entries in
      run_served all.happenings (start_site shape image clients) s pair r.entries calls (start_matches shape image clients r.image_fits) (omega arith)
      all.run

  pub reach_is_one_guest : AreOneGuest (start_state shape.pages shape.sectors image clients) (start_moment shape image clients) calls s
  reach_is_one_guest = one_guest pair r.entries calls s reached

  pub reach_goes_on : (t : Site) (ys : List Happening) (n : ℕ) (more : List Call) → r.entries + n < number_limit → Run s ys n more t
      → GoesOn (start_state shape.pages shape.sectors image clients) (start_moment shape image clients) calls more s t
  unfolding one_guest served_then
  reach_goes_on t ys n more room run =
      let w = pair in
      let a = reached in
      let counts = a.counts in
      let b = run_served ys s t a.after n more a.matches (omega arith) run in
      let both = served_then w r.entries n calls more s t a b in
      record {
        now = one_guest w r.entries calls s a;
        then = one_guest w (r.entries + n) (calls ++ more) t both;
        grows =
            served_grows w.start (moment a.after) (moment b.after) b.events b.replies
            (subst (λ (u : HistoryState). HasServed u (moment a.after) b.events b.replies (moment b.after)) a.start b.run);
      }

  -- each text that was sent has a name of its own
  pub reach_names_texts : OneNameOneText s.primary.shape s.texts
  reach_names_texts =
      let a = reached in
      subst (λ (u : Site). OneNameOneText u.primary.shape s.texts) (sym a.matches.is) a.matches.fits.names.one

  -- what a checkpoint covers is out, or held for it
  pub reach_covers : (t : Site) (ys : List Happening) (n : ℕ) (more : List Call) (text : List ℕ) → r.entries + n < number_limit
      → Run s (cuts text ∷ ys) n more t → NoneGoesLive ys → GoesOnFrom (sent_since s) (out_to s.primary.to_cut t)
  reach_covers t ys n more text room run none =
      let a = reached in
      let counts = a.counts in
      let b = happens_served s run.0 a.after (cuts text) n a.matches (omega arith) run.2 run.3 in
      let more_counts = b.counts in
      subst (λ fs. GoesOnFrom fs (out_to s.primary.to_cut t)) (covers s run.0 a.after a.matches text run.3)
      (run_grows s.primary.to_cut ys run.0 t b.after (n - 0) run.1 b.matches (omega arith) none run.5)

  -- and nothing else, as long as no later one is heard of
  pub reach_covers_exactly : (t : Site) (ys : List Happening) (n : ℕ) (more : List Call) (text : List ℕ) → r.entries + n < number_limit
      → Run s (cuts text ∷ ys) n more t → NoneIsHeardBeyond s.primary.to_cut ys → out_to s.primary.to_cut t ≡ sent_since s
  reach_covers_exactly t ys n more text room run none =
      let a = reached in
      let counts = a.counts in
      let b = happens_served s run.0 a.after (cuts text) n a.matches (omega arith) run.2 run.3 in
      let more_counts = b.counts in
      let next : run.0.primary.to_cut ≡ s.primary.to_cut + 1 = ap (λ (u : Site). u.primary.to_cut) run.3.4 in
      run_stays s.primary.to_cut ys run.0 t b.after (n - 0) run.1 b.matches (omega arith) (omega arith) none run.5
      ∙ covers s run.0 a.after a.matches text run.3
