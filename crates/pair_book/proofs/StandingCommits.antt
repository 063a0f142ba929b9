-- A backup stands by what it committed.
use Rattle.std.proofs.Common.{◌≡◌, ◌≢◌, ℕ, zero, suc, ◌+◌, ◌-◌, ◌<◌, ◌≤◌, List, [], ◌∷◌, ◌++◌, length, take, drop, refl, sym, ap, ◌∙◌}
use Rattle.std.proofs.Common.{subst, cond, Bool, true, false, arith, Option, Some}
use Rattle.std.proofs.Math.Bridge.{le_prop}
use Rattle.std.proofs.lemmas.{Bool.eqb-true, List.{append-nil, append_cancel_right, length-drop}, Slice.Eq.bytes_eq-Decides}
use Rattle.std.specs.Prelude.{◌==◌, nat_eq}
use Rattle.std.specs.Cmp.Lexicographic.{pointwise}
use mathlib.Core.HLevel.{is_prop→PathP}
use Rattle.failover.specs.declared.mode.Mode.{Mode}
use Rattle.failover.specs.declared.mode.Mode.TheVariants.{Paired, Filling, Alone, Stopped}
use Rattle.guest_rules.specs.declared.shapes.Shape.{Shape}
use Rattle.guest_rules.specs.Guest.{Guest}
use Rattle.epoch_snapshot.specs.Checkpoints.{Change}
use Rattle.epoch_snapshot.specs.Images.{image_of}
use Rattle.checkpoint_stream.specs.ReadBack.{ReadsBack}
use Rattle.checkpoint_stream.specs.Readings.{begun, fed}
use Rattle.checkpoint_stream.specs.Sound.{change_in}
use Rattle.checkpoint_stream.specs.Text.{text}
use Rattle.frame_ports.specs.Ports.{PortsState}
use Rattle.pair_history.specs.Entries.{Frame, Entry}
use Rattle.pair_history.specs.HistoryState.{HistoryState, at, sent_along}
use Rattle.pair_record.specs.Kept.{all_frames}
use Rattle.pair_record.specs.Modes.{is_alone}
use Rattle.pair_record.specs.declared.event.Reply.{Reply}
use Rattle.pair_record.specs.declared.event.Reply.TheVariants as replies
use Rattle.pair_record.specs.Protocol.{Record, again_done, commit_done}
use Rattle.pair_record.specs.Record.{IsRecord, SuitsMode}
use Rattle.growing_history.specs.Steps.{Step, step, Begins, steps_by}
use Rattle.growing_history.specs.LogState.{LogState, Epoch, state_at, entries_of, after_step, mark_of, IsAlone, IsFirstSealed}
use Rattle.growing_history.specs.SealedTexts.{Makes, MakeInTurn}
use Rattle.growing_history.specs.Views.{Member}
use Rattle.growing_history.specs.laws.Logs.{state-snoc}
use Rattle.growing_history.specs.laws.Sealed.{first-sealed}
use Rattle.growing_history.specs.laws.Prefixes.{steps_by-own}
use Rattle.pair_book.specs.declared.failures.Ack.{Ack}
use Rattle.pair_book.specs.Commits.{commit_of, kept_then, sent_then, first_then, WasRead, StandsAfterNext, StandsAfterAgain}
use Rattle.pair_book.specs.Made.{IsShape, Reads}
use Rattle.pair_book.specs.Standing.{first_sent, commits_of, KeepsLast, ack_before, last_ack, IsLive, Stands}
use Rattle.pair_book.specs.internal.{Committed.KeepsCommitted, Tie.IsTied}
use Rattle.pair_book.proofs.{CommittedLaws.commits-snoc, CommitTies.not-alone, StandingLaws.{stands-on, keeps-more}, Ties.sealed-long}
use Rattle.failover.specs.Modes.{is_filling}

-- WHAT WAS READ is what the sealed text reads back as

-- the pair has one shape
same_shape : (s t : Shape) → s.pages ≡ t.pages → s.sectors ≡ t.sectors → s ≡ t
same_shape s t e f = λ i. record {
  pages = e i;
  sectors = f i;
  some_pages = is_prop→PathP (λ j. 1 ≤ e j) (λ j x y. le_prop x y) s.some_pages t.some_pages i;
  most_pages = is_prop→PathP (λ j. e j ≤ 16384) (λ j x y. le_prop x y) s.most_pages t.most_pages i;
  some_sectors = is_prop→PathP (λ j. 1 ≤ f j) (λ j x y. le_prop x y) s.some_sectors t.some_sectors i;
  most_sectors = is_prop→PathP (λ j. f j ≤ 32768) (λ j x y. le_prop x y) s.most_sectors t.most_sectors i;
}

one_shape : (start : HistoryState) (s t : Shape) → IsShape start s → IsShape start t → s ≡ t
one_shape start s t a b = same_shape s t (omega (arith, a.ram, b.ram)) (omega (arith, a.sectors, b.sectors))

reads-as : (d c : Change) → ReadsBack d (text c) → d.shape ≡ c.shape → WasRead c → d ≡ c
unfolding ReadsBack
reads-as d c back shape read =
    sym (back read.0).1 ∙ ap (λ (s : Shape). change_in (fed (begun s read.0) (text c))) shape ∙ read.1

-- an unmarked commit's text is the sealed one's
unmarked-text : (e : Epoch) (es : List Epoch) (txt : List ℕ) → mark_of (e ∷ es) txt ≡ 0 → e.text ≡ txt
unmarked-text e es txt none = (bytes_eq-Decides e.text txt).0 (by_test (pointwise nat_eq e.text txt) none)
  where
    by_test : (t : Bool) → ◌≡◌ {A = ℕ} (cond t 0 1) 0 → t ≡ true
    by_test true z = refl
    by_test false z = absurd (omega (arith, z))

-- a full checkpoint's text makes the guest of any image, another's of the one that it stands over
by-number : (start : HistoryState) (n : ℕ) (txt : List ℕ) (fs : List Frame) (from image to : Guest)
    → ((m : ℕ) → n ≡ suc m → image ≡ from) → Makes (Reads start) n txt fs from to → Reads start txt fs image to
by-number start zero txt fs from image to same m = m image
by-number start (suc n) txt fs from image to same m = subst (λ (g : Guest). Reads start txt fs g to) (sym (same n refl)) m

on-list : (start : HistoryState) (c : Change) (h : HistoryState) (image : Guest) (es : List Epoch) → IsFirstSealed c.number es
    → MakeInTurn (Reads start) h [] es → mark_of es (text c) ≡ 0 → ((m : ℕ) → c.number ≡ suc m → image ≡ h.guest)
    → Reads start (text c) (sent_along h (entries_of (take 1 es))) image (at h (entries_of (take 1 es))).guest
on-list start c h image [] first m none same = absurd first
on-list start c h image (e ∷ es) first m none same =
    let one = by-number start e.number e.text (sent_along h e.entries) h.guest image (at h e.entries).guest
    (λ k is. same k (sym first ∙ is)) m.0 in
    subst (λ (y : List ℕ × List Entry). Reads start y.0 (sent_along h y.1) image (at h y.1).guest)
    (λ i. (unmarked-text e es (text c) none i, sym (append-nil e.entries) i)) one

-- a pair that has committed a checkpoint isn't being filled
filled : (m : Mode) (r : Record) → SuitsMode m r.window → r.window.to_commit ≢ 0 → is_filling m ≡ false
filled Paired r suits some = refl
filled Filling r suits some = absurd (some suits)
filled Alone r suits some = refl
filled Stopped r suits some = refl

-- the acknowledgement of the next commit
abbrev pub next_ack : Record → Ack
next_ack r = record { generation = r.generation; number = r.window.to_commit }

-- is what is answered
generation_of : Reply → ℕ
generation_of (replies.Committed g n) = g
generation_of (replies.Again g n) = g
generation_of other = 0

number_of : Reply → ℕ
number_of (replies.Committed g n) = n
number_of (replies.Again g n) = n
number_of other = 0

pub answered : (ack : Ack) (r after_step : Record) → (replies.Committed ack.generation ack.number, after_step) ≡ commit_done r → ack ≡ next_ack r
unfolding generation_of number_of
answered ack r after_step e = λ i. record { generation = generation_of (e i).0; number = number_of (e i).0 }

-- A COMMIT, of a backup that has seen all
module _ (start : HistoryState) (steps : List Step) (r : Record) (p : PortsState) (t : IsTied start steps r p)
    (keeps : KeepsCommitted start steps r p) (k : IsRecord r) (by : ℕ) (c : Change) (mine : by ≡ (state_at start steps).backup)
    (pair : is_alone r.mode ≡ false) (number : c.number ≡ r.window.to_commit) (some : r.window.to_commit < r.window.to_cut)
    (turn : (state_at start steps).marked ≡ 0
    → MakeInTurn (Reads start) (state_at start steps).history [] (state_at start steps).sealed)
    (read : WasRead c) (shape : IsShape start c.shape) (image : Guest) (last : Option Ack) (sent first : ℕ) (kept : List (List Frame))
    (stood : Stands start (record { number = by; steps = steps }) image last sent first kept) where
  abbrev s : LogState
  s = state_at start steps

  abbrev now : List Step
  now = steps ++ step by (commit_of c) ∷ []

  abbrev seat' : Member
  seat' = record { number = by; steps = now }

  there : state_at start now ≡ after_step s (commit_of c)
  there = state-snoc start steps (step by (commit_of c))

  live : IsLive start (record { number = by; steps = steps })
  live = (mine, subst (λ (m : Mode). IsAlone m → ⊥) t.mode (not-alone r.mode pair))

  long : length r.journal.sealed ≡ length s.sealed
  long = sealed-long start steps r p t

  first-is : IsFirstSealed c.number s.sealed
  first-is =
      first-sealed start steps t.legal c.number (omega (arith, number, long, k.sealed, t.next)) (omega (arith, number, some, t.next))

  unmarked : (state_at start now).marked ≡ 0 → (s.marked ≡ 0) × (mark_of s.sealed (text c) ≡ 0)
  unmarked none =
      let marks : (state_at start now).marked ≡ s.marked + mark_of s.sealed (text c) = ap (λ (u : LogState). u.marked) there in
      (omega (arith, marks, none), omega (arith, marks, none))

  -- what it stood at is what the text is read over
  over : s.marked ≡ 0 → (m : ℕ) → c.number ≡ suc m → image ≡ s.history.guest
  over none m is =
      let not_first : r.window.to_commit ≢ 0 = λ (z : r.window.to_commit ≡ 0). omega (arith, z, number, is) in
      stood.guest live none (subst (λ (x : Mode). is_filling x ≡ false) t.mode (filled r.mode r k.suits not_first))

  reads : (state_at start now).marked ≡ 0
      → Reads start (text c) (first_sent s) image (at s.history (entries_of (take 1 s.sealed))).guest
  reads none =
      let both = unmarked none in
      on-list start c s.history image s.sealed first-is (turn both.0) both.1 (over both.0)

  same : (x : Reads start (text c) (first_sent s) image (at s.history (entries_of (take 1 s.sealed))).guest) → x.change ≡ c
  same x = reads-as x.change c x.reads_back (one_shape start x.change.shape c.shape x.of_shape shape) read

  -- a full checkpoint's frames come after none
  before : KeepsLast (commits_of start steps) sent first kept → (full : Bool) → (c.number == 0) ≡ full
      → KeepsLast (commits_of start steps) (cond full 0 sent) (cond full 0 sent + 1 - length (all_frames (cond full [] kept)))
      (cond full [] kept)
  before h false e = record { last = h.last; count = h.count; number = refl }
  before h true e =
      let none : commits_of start steps ≡ [] = keeps.none (sym number ∙ eqb-true c.number 0 e) in
      subst (λ (l : List (List Frame)). KeepsLast l 0 (0 + 1 - length (all_frames [])) []) (sym none)
      (record { last = refl; count = refl; number = refl })

  kept-now : (state_at start now).marked ≡ 0
      → KeepsLast (commits_of start now) (sent_then c sent) (first_then c sent kept) (kept_then c kept)
  kept-now none =
      let x = reads none in
      let full = c.number == 0 in
      let base = before (stood.frames.keeps live (unmarked none).0) full refl in
      let carries : c.frames ≡ first_sent s = ap (λ (d : Change). d.frames) (sym (same x)) ∙ x.carries in
      subst (λ (l : List (List Frame)). KeepsLast l (sent_then c sent) (first_then c sent kept) (kept_then c kept))
      (ap (λ (fs : List Frame). commits_of start steps ++ fs ∷ []) carries
      ∙ sym (commits-snoc start steps (step by (commit_of c))))
      (keeps-more (commits_of start steps) (cond full [] kept) (cond full 0 sent)
      (cond full 0 sent + 1 - length (all_frames (cond full [] kept))) c.frames base)

  acked : Some (next_ack r) ≡ last_ack (state_at start now)
  acked =
      let less = length-drop 1 s.sealed in
      let next : suc r.window.to_commit ≡ s.next - length (drop 1 s.sealed) = omega (arith, less, long, k.sealed, t.next, some) in
      ap (λ (g : ℕ). ack_before g (suc r.window.to_commit)) t.generation
      ∙ ap (ack_before s.generation) next
      ∙ ap last_ack (sym there)

  pub stood-before : c.generation ≡ r.generation → last ≡ ack_before c.generation c.number
  stood-before generation =
      let own : s.generation ≡ c.generation = sym t.generation ∙ sym generation in
      let place : s.next - length s.sealed ≡ c.number = omega (arith, number, long, k.sealed, t.next) in
      stood.committed live ∙ (λ i. ack_before (own i) (place i))

  pub stands-then : (ack : Ack) → ack ≡ next_ack r
      → Stands start seat' (image_of c image) (Some ack) (sent_then c sent) (first_then c sent kept) (kept_then c kept)
  stands-then ack is = record {
    frames = record {
      born = let same = ap (λ (u : LogState). u.backup) there in omega (arith, mine, same);
      keeps = λ alive none. kept-now none;
    };
    committed = λ alive. ap Some is ∙ acked;
    guest = λ alive none full.
        let x = reads none in
        ap (λ (d : Change). image_of d image) (sym (same x))
        ∙ x.makes
        ∙ ap (λ (u : LogState). u.history.guest) (sym there);
  }

-- WHERE IT LOOKS FIRST, and its own steps are those before and this one

pub stands-by : (start : HistoryState) (steps : List Step) (r : Record) (p : PortsState) → IsTied start steps r p
    → KeepsCommitted start steps r p → IsRecord r → (seat after_step : Member) (c : Change) → seat.number ≡ (state_at start steps).backup
    → is_alone r.mode ≡ false → c.generation ≡ r.generation → c.number ≡ r.window.to_commit → r.window.to_commit < r.window.to_cut
    → ((state_at start steps).marked ≡ 0
    → MakeInTurn (Reads start) (state_at start steps).history [] (state_at start steps).sealed)
    → Begins seat.steps steps
    → steps_by seat.number (steps ++ step seat.number (commit_of c) ∷ [])
    ≡ steps_by seat.number seat.steps ++ step seat.number (commit_of c) ∷ []
    → after_step ≡ record { number = seat.number; steps = steps ++ step seat.number (commit_of c) ∷ [] }
    → (ack : Ack) → ack ≡ next_ack r → StandsAfterNext start c ack seat after_step
stands-by start steps r p t keeps k seat after_step c mine pair generation number some turn begins own is ack ack-is read shape image last sent
    first kept stood =
    let x = step seat.number (commit_of c) in
    let none : steps_by seat.number steps ≡ steps_by seat.number seat.steps =
    append_cancel_right (steps_by seat.number steps) (steps_by seat.number seat.steps) (x ∷ [])
    (sym (steps_by-own seat.number steps x refl) ∙ own) in
    let stood-on = stands-on start seat steps image last sent first kept begins t.legal none stood in (
      stood-before start steps r p t keeps k seat.number c mine pair number some turn read shape image last sent first kept stood-on
          generation,
      subst
          (λ (m : Member). Stands start m (image_of c image) (Some ack) (sent_then c sent) (first_then c sent kept) (kept_then c kept))
          (sym is)
          (stands-then start steps r p t keeps k seat.number c mine pair number some turn read shape image last sent first kept stood-on
          ack ack-is),
    )

-- AN EARLIER ONE again: it has looked, and stands at the last one that is committed

last-number : (g n : ℕ) → 1 ≤ n → ack_before g n ≡ Some (record { generation = g; number = n - 1 })
last-number g zero low = absurd (omega (arith, low))
last-number g (suc n) low =
    let before : n ≡ suc n - 1 = omega arith in ap (λ (k : ℕ). Some (record { generation = g; number = k })) before

-- the acknowledgement of the last commit is what is answered
abbrev before_ack : Record → Ack
before_ack r = record { generation = r.generation; number = r.window.to_commit - 1 }

pub answered-again : (ack : Ack) (r after_step : Record) → (replies.Again ack.generation ack.number, after_step) ≡ again_done r
    → ack ≡ before_ack r
unfolding generation_of number_of
answered-again ack r after_step e = λ i. record { generation = generation_of (e i).0; number = number_of (e i).0 }

pub stands-again : (start : HistoryState) (steps : List Step) (r : Record) (p : PortsState) → IsTied start steps r p → IsRecord r
    → (seat after_step : Member) → seat.number ≡ (state_at start steps).backup → is_alone r.mode ≡ false → 0 < r.window.to_commit
    → Begins seat.steps steps → steps_by seat.number steps ≡ steps_by seat.number seat.steps
    → after_step ≡ record { number = seat.number; steps = steps } → (ack : Ack) → ack ≡ before_ack r → StandsAfterAgain start ack seat after_step
stands-again start steps r p t k seat after_step mine pair low begins own is ack ack-is image last sent first kept stood =
    let s = state_at start steps in
    let on = stands-on start seat steps image last sent first kept begins t.legal own stood in
    let live : IsLive start (record { number = seat.number; steps = steps }) =
    (mine, subst (λ (m : Mode). IsAlone m → ⊥) t.mode (not-alone r.mode pair)) in
    let long = sealed-long start steps r p t in
    let place : s.next - length s.sealed ≡ r.window.to_commit = omega (arith, long, k.sealed, t.next) in
    let there : last_ack s ≡ Some (before_ack r) =
    ap (λ (g : ℕ). ack_before g (s.next - length s.sealed)) (sym t.generation)
    ∙ ap (ack_before r.generation) place
    ∙ last-number r.generation r.window.to_commit (omega (arith, low)) in (
      on.committed live ∙ there ∙ ap Some (sym ack-is),
      subst (λ (m : Member). Stands start m image last sent first kept) (sym is) on,
    )
