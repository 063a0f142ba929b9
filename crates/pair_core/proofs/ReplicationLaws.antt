-- What a cut and a commit do to the guests that the image will be.
use Rattle.std.proofs.Common.{rules, ◌≡◌, ℕ, suc, ◌+◌, ◌-◌, ◌<◌, List, [], ◌∷◌, ◌++◌, length, refl, sym, ap, ◌∙◌, arith, false, Some}
use Rattle.std.proofs.Common.{append_assoc}
use Rattle.failover.specs.{declared.mode.Mode.Mode, declared.mode.Mode.TheVariants.{Filling, Alone}}
use Rattle.guest_rules.specs.{declared.shapes.Shape.Shape, Guest.Guest}
use Rattle.backup_image.specs.Images.{empty_image}
use Rattle.epoch_snapshot.specs.{Checkpoints.Change, Images.image_of}
use Rattle.pair_history.specs.{Entries.Entry, HistoryState.{HistoryState, at, sent_along}}
use Rattle.pair_history.specs.laws.Histories.{at-append}
use Rattle.pair_record.specs.declared.event.{Event.Event, Event.TheVariants.{Cut, BackupGet, FailBackup, GoLive, Protect}, Refusal.Refusal}
use Rattle.pair_record.specs.declared.event.Reply.TheVariants as replies
use Rattle.pair_record.specs.Journal.{joined, kept_entries, first_of, rest_of}
use Rattle.pair_record.specs.Modes.{is_alone}
use Rattle.pair_core.specs.Nodes.{Nodes, Fills, with_sealed, with_commit, with_protected, read_as}
use Rattle.pair_core.specs.Pair.{Pair, HasBackup, ImageFollows, InMode, shown_state, live_state}
use Rattle.pair_record.specs.Record.{IsRecord, SuitsMode}
use Rattle.pair_core.specs.Replication.{guests_of, to_come, number_after, next_number, NodesCut, IsCommit, IsProtected, Replicates}
use Rattle.pair_core.specs.Texts.{IsText, AreTexts}
use Rattle.pair_core.specs.laws.{Events.{after_cut, after_commit}, Nodes.reads-as}
use Rattle.failover.specs.Modes.{mode_filled}

-- the guests at the ends of epochs
abbrev ends : HistoryState → List (List Entry) → List Guest
ends s [] = []
ends s (es ∷ ess) = (at s es).guest ∷ ends (at s es) ess

-- the texts of epochs make the guests at their ends
texts-make : (shape : Shape) (generation n : ℕ) (s : HistoryState) (ess : List (List Entry)) (texts : List (List ℕ))
    → AreTexts shape generation n s ess texts → guests_of shape s.guest texts ≡ ends s ess
texts-make shape generation n s [] [] h = refl
texts-make shape generation n s [] (t ∷ texts) h = absurd h
texts-make shape generation n s (es ∷ ess) [] h = absurd h
texts-make shape generation n s (es ∷ ess) (t ∷ texts) h =
    let is : image_of (read_as shape t) s.guest ≡ (at s es).guest =
    ap (λ (c : Change). image_of c s.guest) (reads-as shape generation n s.guest (at s es).guest (sent_along s es) t h.0) ∙ h.0.image in
    ap (λ (g : Guest). g ∷ guests_of shape g texts) is
    ∙ ap (λ t. (at s es).guest ∷ t) (texts-make shape generation (n + 1) (at s es) ess texts h.1)

ends-push : (s : HistoryState) (ess : List (List Entry)) (es : List Entry)
    → ends s (ess ++ es ∷ []) ≡ ends s ess ++ (at s (joined ess ++ es)).guest ∷ []
ends-push s [] es = refl
ends-push s (x ∷ ess) es = search (arith, rules, append_assoc, at-append, ends-push (at s x) ess es)

ends-first : (s : HistoryState) (ess : List (List Entry)) → 0 < length ess
    → ends s ess ≡ (at s (first_of ess)).guest ∷ ends (at s (first_of ess)) (rest_of ess)
ends-first s [] l = absurd (omega arith)
ends-first s (es ∷ ess) l = refl

pub length-ends : (s : HistoryState) (ess : List (List Entry)) → length (ends s ess) ≡ length ess
length-ends s [] = refl
length-ends s (es ∷ ess) = ap suc (length-ends (at s es) ess)

-- a full checkpoint makes its guest of whatever guest
from-any : (g before : Guest) (x : Nodes) → Fills g x → to_come x ≡ guests_of x.image.shape before x.sealed
from-any g before x f = search (arith, rules)

module _ (w : Pair) where
  -- what the image will be are the guests at the ends of the sealed epochs
  pub to_come-ends : (mode : Mode) → is_alone mode ≡ false → InMode mode w
      → to_come w.nodes ≡ ends (shown_state w) w.protocol.state.journal.sealed
  to_come-ends mode two m = by_mode mode two m
    where
      along : HasBackup w → guests_of w.nodes.image.shape (shown_state w).guest w.nodes.sealed
          ≡ ends (shown_state w) w.protocol.state.journal.sealed
      along b =
          texts-make w.nodes.image.shape w.protocol.state.generation w.protocol.state.window.to_commit (shown_state w) w.protocol.state.journal.sealed
          w.nodes.sealed b.sealed

      by_mode : (mode : Mode) → is_alone mode ≡ false → InMode mode w → to_come w.nodes ≡ ends (shown_state w) w.protocol.state.journal.sealed
      by_mode Filling two m =
          from-any (at (shown_state w) (first_of w.protocol.state.journal.sealed)).guest (shown_state w).guest w.nodes m.1 ∙ along m.0
      by_mode Alone two m = absurd (cc)
      by_mode other two m = ap (λ (g : Guest). guests_of w.nodes.image.shape g w.nodes.sealed) m.1.image ∙ along m.0

  -- the image takes the next checkpoint to be committed next
  next-number : (mode : Mode) → is_alone mode ≡ false → InMode mode w → SuitsMode mode w.protocol.state.window
      → next_number w.nodes ≡ w.protocol.state.window.to_commit
  next-number Filling two m s = ap number_after m.1.empty ∙ sym s
  next-number Alone two m s = absurd (cc)
  next-number other two m s = ap number_after m.1.stands_at ∙ omega arith

  -- a commit makes a pair
  filled-follows : (mode : Mode) → is_alone mode ≡ false → InMode (mode_filled mode) w → ImageFollows w
  filled-follows Alone two m = absurd (cc)
  filled-follows other two m = m.1

pub filled-pairs : (mode : Mode) → is_alone mode ≡ false → is_alone (mode_filled mode) ≡ false
filled-pairs Alone e = absurd (cc)
filled-pairs Filling e = refl
filled-pairs other e = refl

-- CUT and COMMIT, from what holds of the backup before and after

module _ (w : Pair) (k : IsRecord w.protocol.state) (two : is_alone w.protocol.state.mode ≡ false) (now : InMode w.protocol.state.mode w) where
  pub cut_replicates : (text : List ℕ) → InMode w.protocol.state.mode (after_cut w text) → (live_state w).guest ≡ w.nodes.live.guest
      → NodesCut w.protocol.state.window.to_cut w.nodes (with_sealed w.nodes text)
  cut_replicates text then live =
      let j = w.protocol.state.journal in
      let s = shown_state w in
      let old : to_come w.nodes ≡ ends s j.sealed = to_come-ends w w.protocol.state.mode two now in
      let new : to_come (with_sealed w.nodes text) ≡ ends s (j.sealed ++ j.running ∷ []) =
      to_come-ends (after_cut w text) w.protocol.state.mode two then in
      let is : (at s (joined j.sealed ++ j.running)).guest ≡ w.nodes.live.guest =
      ap (λ (t : HistoryState). t.guest) (sym (at-append w.start j.history (kept_entries j))) ∙ live in
      let counted = k.sealed in
      let next = next-number w w.protocol.state.mode two now k.suits in
      let long : length (to_come w.nodes) ≡ length j.sealed = ap length old ∙ length-ends s j.sealed in
      record {
        last = new ∙ ends-push s j.sealed j.running ∙ (λ i. sym old i ++ is i ∷ []);
        live = refl;
        image = refl;
        place = omega arith;
      }

  pub commit_replicates : InMode (mode_filled w.protocol.state.mode) (after_commit w) → w.protocol.state.window.to_commit < w.protocol.state.window.to_cut
      → IsCommit w.protocol.state.generation w.protocol.state.window.to_commit w.nodes (with_commit w.nodes)
  commit_replicates then more =
      let j = w.protocol.state.journal in
      let s = shown_state w in
      let n = w.protocol.state.window.to_commit in
      let follows = filled-follows (after_commit w) w.protocol.state.mode two then in
      let ended = to_come-ends (after_commit w) (mode_filled w.protocol.state.mode) (filled-pairs w.protocol.state.mode two) then in
      let counted = k.sealed in
      let shown : shown_state (after_commit w) ≡ at s (first_of j.sealed) = at-append w.start j.history (first_of j.sealed) in
      let first : ends s j.sealed ≡ (at s (first_of j.sealed)).guest ∷ ends (at s (first_of j.sealed)) (rest_of j.sealed) =
      ends-first s j.sealed (omega arith) in
      let number : n + 1 - 1 ≡ n = omega arith in
      record {
        first =
            to_come-ends w w.protocol.state.mode two now ∙ first
            ∙ (λ i. (sym shown i).guest ∷ ends (sym shown i) (rest_of j.sealed))
            ∙ (λ i. sym follows.image i ∷ sym ended i);
        live = refl;
        before = next-number w w.protocol.state.mode two now k.suits;
        stands = follows.stands_at ∙ ap (λ (m : ℕ). Some (record { generation = w.protocol.state.generation; number = m })) number;
      }

-- PROTECT: the full checkpoint's text makes the live guest

pub protect_replicates : (x : Nodes) (generation : ℕ) (text : List ℕ)
    → ((before : Guest) → IsText x.image.shape generation 0 before x.live.guest [] text) → IsProtected x (with_protected x text)
protect_replicates x generation text is_text =
    let shape = x.image.shape in
    let before = (empty_image shape).guest in
    let is = is_text before in
    record {
      only =
          ap (λ (c : Change). image_of c before ∷ []) (reads-as shape generation 0 before x.live.guest [] text is)
          ∙ ap (λ (g : Guest). g ∷ []) is.image;
      live = refl;
      empty = refl;
    }

-- a refusal leaves the image and what is to come
pub refused_replicates : (event : Event) (why : Refusal) (x : Nodes) → Replicates event (replies.Refused why) x x
refused_replicates Cut why x = (refl, refl)
refused_replicates (BackupGet k) why x = (refl, refl)
refused_replicates FailBackup why x = (refl, refl)
refused_replicates GoLive why x = (refl, refl)
refused_replicates Protect why x = (refl, refl)
refused_replicates other why x = (refl, refl)
