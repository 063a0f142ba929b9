-- What a checkpoint covers is let out, in the order sent.
use Rattle.std.proofs.Common.{◌≡◌, ℕ, ◌+◌, ◌-◌, ◌<◌, ◌≤◌, List, [], ◌∷◌, ◌++◌, length, refl, sym, ap, ◌∙◌, subst, arith, append_assoc}
use Rattle.std.proofs.{Common.{Bool, true, false, cond, Option, Some, None}, lemmas.List.append-nil, lemmas.Bool.Decides.nat_tests}
use Rattle.std.specs.Prelude.{nat_le, nat_lt}
use Rattle.guest_rules.specs.Runs.{sent_in}
use Rattle.epoch_snapshot.specs.Checkpoints.{Change}
use Rattle.output_gate.specs.Epochs.{Epoch, frames_of, frames_to, after_number}
use Rattle.output_gate.specs.laws.Epochs.{frames_to-append}
use Rattle.pair_history.specs.Entries.{Frame}
use Rattle.pair_record.specs.{declared.event.Refusal.Refusal, Modes.is_alone, Tables.first_refusal, Window.NumberedFrom}
use Rattle.pair_core.specs.{Pair.Pair}
use Rattle.checkpoint_stream.specs.Sound.{change_in}
use Rattle.pair_core.specs.laws.Consistent.{keeps_nothing}
use Rattle.pair_nodes.specs.Frames.{GoesOnFrom, NoneGoesLive, out_to, sent_since}
use Rattle.pair_nodes.specs.Matching.{HasRoom, Matches}
use Rattle.pair_nodes.specs.{Sides.to_commit, StandbyCalls.commit_rows}
use Rattle.pair_nodes.specs.Runs.{Run, Call, adds}
use Rattle.pair_nodes.specs.Sites.{Site, Happening, Happens, hear_site, taken_site, again_site, commit_site, cuts, sends, gets, restarts, commits}
use Rattle.pair_nodes.specs.Sites.{hears, stops, goes_live, protects, steps, lone_steps, comes, goes_alone, delivers, overflows, takes}
use Rattle.pair_nodes.specs.Sites.{loses_in, loses_out}
use Rattle.pair_nodes.proofs.{Bags.has-none, Happenings.happens_served}

-- OF NUMBERED EPOCHS those up to a number come first

pub none-to : (m a : ℕ) (es : List Epoch) → m < a → NumberedFrom a es → (frames_to m es ≡ []) × (after_number m es ≡ es)
none-to m a [] l h = (refl, refl)
none-to m a (e ∷ es) l h =
    let number = h.0 in
    let off : nat_le e.number m ≡ false = grind (arith, nat_tests, number, l) in
    let later = none-to m (a + 1) es (omega arith) h.1 in (
      ap (λ t. cond t (e.frames ++ frames_to m es) (frames_to m es)) off ∙ later.0,
      ap (λ t. cond t (after_number m es) (e ∷ after_number m es)) off ∙ ap (λ t. e ∷ t) later.1,
    )

pub first-to : (m a : ℕ) (e : Epoch) (es : List Epoch) → a ≤ m → e.number ≡ a
    → (frames_to m (e ∷ es) ≡ e.frames ++ frames_to m es) × (after_number m (e ∷ es) ≡ after_number m es)
first-to m a e es l number =
    let on : nat_le e.number m ≡ true = grind (arith, nat_tests, number, l) in (
      ap (λ t. cond t (e.frames ++ frames_to m es) (frames_to m es)) on,
      ap (λ t. cond t (after_number m es) (e ∷ after_number m es)) on,
    )

-- those up to n, where those up to m are let out
left-to : (m n a : ℕ) (es : List Epoch) → NumberedFrom a es → GoesOnFrom (frames_to n es) (frames_to m es ++ frames_to n (after_number m es))
left-to m n a [] h = ([], refl)
left-to m n a (e ∷ es) h = by_test (left-to m n (a + 1) es h.1) (nat_le a m) refl (nat_le a n) refl
  where
    low : (k : ℕ) → nat_le a k ≡ true → a ≤ k
    low k t = grind (arith, nat_tests, t)

    high : (k : ℕ) → nat_le a k ≡ false → k < a
    high k t = grind (arith, nat_tests, t)

    by_test : GoesOnFrom (frames_to n es) (frames_to m es ++ frames_to n (after_number m es)) → (b : Bool) → nat_le a m ≡ b
        → (c : Bool) → nat_le a n ≡ c → GoesOnFrom (frames_to n (e ∷ es)) (frames_to m (e ∷ es) ++ frames_to n (after_number m (e ∷ es)))
    by_test later false below c at =
        let all = none-to m a (e ∷ es) (high m below) h in
        ([], (λ i. all.0 i ++ frames_to n (all.1 i)) ∙ sym (append-nil (frames_to n (e ∷ es))))
    by_test later true from false above =
        let none = none-to n a (e ∷ es) (high n above) h in
        let fs = frames_to m (e ∷ es) ++ frames_to n (after_number m (e ∷ es)) in
        (fs, (λ i. sym none.0 i ++ fs))
    by_test later true from true within =
        let one = first-to m a e es (low m from) h.0 in
        let two = first-to n a e es (low n within) h.0 in (
          later.0,
          (λ i. one.0 i ++ frames_to n (one.1 i)) ∙ append_assoc e.frames (frames_to m es) (frames_to n (after_number m es))
              ∙ ap (λ t. e.frames ++ t) later.1 ∙ sym (append_assoc e.frames (frames_to n es) later.0) ∙ (λ i. sym two.0 i ++ later.0),
        )

-- those up to n are the first of all
all-to : (n a : ℕ) (es : List Epoch) → NumberedFrom a es → GoesOnFrom (frames_to n es) (frames_of es)
all-to n a [] h = ([], refl)
all-to n a (e ∷ es) h = by_test (all-to n (a + 1) es h.1) (nat_le a n) refl
  where
    by_test : GoesOnFrom (frames_to n es) (frames_of es) → (c : Bool) → nat_le a n ≡ c → GoesOnFrom (frames_to n (e ∷ es)) (frames_of (e ∷ es))
    by_test later false above =
        let l : n < a = grind (arith, nat_tests, above) in
        let none = none-to n a (e ∷ es) l h in
        (frames_of (e ∷ es), (λ i. sym none.0 i ++ frames_of (e ∷ es)))
    by_test later true within =
        let l : a ≤ n = grind (arith, nat_tests, within) in
        let two = first-to n a e es l h.0 in (
          later.0,
          ap (λ t. e.frames ++ t) later.1 ∙ sym (append_assoc e.frames (frames_to n es) later.0) ∙ (λ i. sym two.0 i ++ later.0),
        )

-- WHATEVER HAPPENS, but that a standby goes live

same : (fs gs : List Frame) → gs ≡ fs → GoesOnFrom fs gs
same fs gs e = ([], e ∙ sym (append-nil fs))

further : (fs gs hs : List Frame) → GoesOnFrom fs gs → GoesOnFrom gs hs → GoesOnFrom fs hs
further fs gs hs a b = (a.0 ++ b.0, b.1 ∙ ap (λ t. t ++ b.0) a.1 ∙ append_assoc fs a.0 b.0)

taken-out : (n : ℕ) (s : Site) (c : Change) (o : Option Refusal) → out_to n (taken_site s c o) ≡ out_to n s
taken-out n s c (Some why) = refl
taken-out n s c None = by_test (nat_lt c.number (to_commit s.standby))
  where
    by_test : (b : Bool) → out_to n (cond b (again_site s) (commit_site s c)) ≡ out_to n s
    by_test true = refl
    by_test false = refl

-- a full checkpoint holds no frame
full-to : (n : ℕ) (b : Bool) → cond b ([] ++ frames_to n []) (frames_to n []) ≡ []
full-to n true = refl
full-to n false = refl

module _ (n : ℕ) (s : Site) (w : Pair) (m : Matches s w) where
  pub numbers : NumberedFrom w.protocol.state.window.to_acknowledge s.primary.pending
  numbers =
      subst (λ (u : Site). NumberedFrom w.protocol.state.window.to_acknowledge u.primary.pending) (sym m.is) m.fits.pair.record_is.window.numbers

  -- a primary without a standby holds nothing
  nothing : s.primary.backed ≡ false → s.primary.pending ≡ []
  nothing e =
      let k = m.fits.pair in
      let unbacked = ap (λ (u : Site). u.primary.backed) (sym m.is) ∙ e in
      let lone : is_alone w.protocol.state.mode ≡ true = ap is_alone (has-none w.protocol.state.mode unbacked) in
      ap (λ (u : Site). u.primary.pending) m.is ∙ (keeps_nothing w k.holds k.record_is lone).2

  out-grows : (x : Happening) (t : Site) → NoneGoesLive (x ∷ []) → Happens s x t → GoesOnFrom (out_to n s) (out_to n t)
  out-grows (cuts text) t none x =
      let p = s.primary in
      let e : Epoch = record { number = p.to_cut; frames = p.live.outbox } in
      rw x.4 (
        frames_to n (e ∷ []),
        ap (λ fs. s.out.now ++ fs) (frames_to-append n p.pending (e ∷ [])) ∙ sym (append_assoc s.out.now (frames_to n p.pending) (frames_to n (e ∷ []))),
      )
  out-grows (sends k) t none x = rw x.1.2 (same (out_to n s) (out_to n s) refl)
  out-grows (gets bytes) t none x = rw x (same (out_to n s) (out_to n s) refl)
  out-grows restarts t none x = rw x (same (out_to n s) (out_to n s) refl)
  out-grows commits t none x =
      let c = change_in s.standby.reading in
      same (out_to n s) (out_to n t) (ap (out_to n) x.1 ∙ taken-out n s c (first_refusal (commit_rows s.standby c)))
  out-grows (hears p) t none x =
      let es = s.primary.pending in
      let fs = frames_to p.number es in
      let rest = frames_to n (after_number p.number es) in
      let more = left-to p.number n w.protocol.state.window.to_acknowledge es numbers in
      rw x.2 (
        more.0,
        append_assoc s.out.now fs rest ∙ ap (λ t. s.out.now ++ t) more.1 ∙ sym (append_assoc s.out.now (frames_to n es) more.0),
      )
  out-grows stops t none x = rw x (same (out_to n s) (out_to n s) refl)
  out-grows goes_live t none x = absurd none
  out-grows (protects text) t none x =
      let before = ap (frames_to n) (nothing x.0) in
      same (out_to n s) (out_to n t)
      (ap (out_to n) x.3 ∙ ap (λ fs. s.out.now ++ fs) (full-to n (nat_le 0 n)) ∙ ap (λ fs. s.out.now ++ fs) (sym before))
  out-grows (steps k) t none x = rw x.2 (same (out_to n s) (out_to n s) refl)
  out-grows (lone_steps k) t none x =
      let before = ap (frames_to n) (nothing x.0) in
      let fs = sent_in k s.primary.live.guest in
      rw x.3 (
        fs,
        ap (λ gs. (s.out.now ++ fs) ++ gs) before ∙ append-nil (s.out.now ++ fs)
            ∙ ap (λ gs. gs ++ fs) (sym (append-nil s.out.now) ∙ ap (λ gs. s.out.now ++ gs) (sym before)),
      )
  out-grows (comes c) t none x = rw x.1.3 (same (out_to n s) (out_to n s) refl)
  out-grows goes_alone t none x =
      let p = s.primary in
      let all = all-to n w.protocol.state.window.to_acknowledge p.pending numbers in
      rw x.2 (
        all.0 ++ p.live.outbox,
        append-nil (s.out.now ++ (frames_of p.pending ++ p.live.outbox))
            ∙ ap (λ fs. s.out.now ++ (fs ++ p.live.outbox)) all.1
            ∙ ap (λ fs. s.out.now ++ fs) (append_assoc (frames_to n p.pending) all.0 p.live.outbox)
            ∙ sym (append_assoc s.out.now (frames_to n p.pending) (all.0 ++ p.live.outbox)),
      )
  out-grows (delivers c bytes) t none x = rw x.4 (same (out_to n s) (out_to n s) refl)
  out-grows (overflows c bytes) t none x = rw x.3 (same (out_to n s) (out_to n s) refl)
  out-grows (takes c) t none x = rw x.1 (same (out_to n s) (out_to n s) refl)
  out-grows (loses_in c place) t none x = rw x.2 (same (out_to n s) (out_to n s) refl)
  out-grows (loses_out c place) t none x = rw x.2 (same (out_to n s) (out_to n s) refl)

one-not-live : (x : Happening) (xs : List Happening) → NoneGoesLive (x ∷ xs) → NoneGoesLive (x ∷ []) × NoneGoesLive xs
one-not-live goes_live xs h = absurd h
one-not-live (cuts text) xs h = (tt, h)
one-not-live (sends k) xs h = (tt, h)
one-not-live (gets bytes) xs h = (tt, h)
one-not-live restarts xs h = (tt, h)
one-not-live commits xs h = (tt, h)
one-not-live (hears p) xs h = (tt, h)
one-not-live stops xs h = (tt, h)
one-not-live (protects text) xs h = (tt, h)
one-not-live (steps k) xs h = (tt, h)
one-not-live (lone_steps k) xs h = (tt, h)
one-not-live (comes c) xs h = (tt, h)
one-not-live goes_alone xs h = (tt, h)
one-not-live (delivers c bytes) xs h = (tt, h)
one-not-live (overflows c bytes) xs h = (tt, h)
one-not-live (takes c) xs h = (tt, h)
one-not-live (loses_in c place) xs h = (tt, h)
one-not-live (loses_out c place) xs h = (tt, h)

pub run_grows : (n : ℕ) (xs : List Happening) (s t : Site) (w : Pair) (most : ℕ) (calls : List Call) → Matches s w → HasRoom w most
    → NoneGoesLive xs → Run s xs most calls t → GoesOnFrom (out_to n s) (out_to n t)
run_grows n [] s t w most calls m room none run = same (out_to n s) (out_to n t) (ap (out_to n) run.0)
run_grows n (x ∷ xs) s t w most calls m room none run =
    let k = adds s x in
    let fits = run.2.few_entries in
    let a = happens_served s run.0 w x most m (omega arith) run.2 run.3 in
    let counts = a.counts in
    let both = one-not-live x xs none in
    let more = run_grows n xs run.0 t a.after (most - k) run.1 a.matches (omega arith) both.1 run.5 in
    further (out_to n s) (out_to n run.0) (out_to n t) (out-grows n s w m x run.0 both.0 run.3) more

-- where a cut is made all that was sent is out, or held for checkpoints up to it
module _ (s u : Site) (w : Pair) (m : Matches s w) (text : List ℕ) (x : Happens s (cuts text) u) where
  pub covers : out_to s.primary.to_cut u ≡ sent_since s
  covers =
      let p = s.primary in
      let n = p.to_cut in
      let e : Epoch = record { number = n; frames = p.live.outbox } in
      let r = w.protocol.state in
      let count = m.fits.pair.record_is.window.count in
      let cut : n ≡ r.window.to_cut = ap (λ (v : Site). v.primary.to_cut) m.is in
      let long : length p.pending ≡ length r.pending = ap (λ (v : Site). length v.primary.pending) m.is in
      let old = all-held r.window.to_acknowledge n p.pending (numbers n s w m) (omega arith) in
      let on : nat_le n n ≡ true = grind (arith, nat_tests) in
      let new : frames_to n (e ∷ []) ≡ p.live.outbox =
      ap (λ t. cond t (p.live.outbox ++ []) []) on ∙ append-nil p.live.outbox in
      ap (out_to n) x.4 ∙ ap (λ fs. s.out.now ++ fs) (frames_to-append n p.pending (e ∷ []) ∙ (λ i. old i ++ new i))
    where
      all-held : (a n : ℕ) (es : List Epoch) → NumberedFrom a es → a + length es ≤ n → frames_to n es ≡ frames_of es
      all-held a n [] h l = refl
      all-held a n (e ∷ es) h l =
          (first-to n a e es (omega arith) h.0).0 ∙ ap (λ t. e.frames ++ t) (all-held (a + 1) n es h.1 (omega arith))

-- what an acknowledgement leaves is for later checkpoints
pub heard : (n : ℕ) (es : List Epoch) → frames_to n (after_number n es) ≡ []
heard n [] = refl
heard n (e ∷ es) = by_test (heard n es) (nat_le e.number n) refl
  where
    by_test : frames_to n (after_number n es) ≡ [] → (b : Bool) → nat_le e.number n ≡ b → frames_to n (cond b (after_number n es) (e ∷ after_number n es)) ≡ []
    by_test rest true on = rest
    by_test rest false off =
        ap (λ t. cond t (e.frames ++ frames_to n (after_number n es)) (frames_to n (after_number n es))) off ∙ rest

pub hears-all : (n : ℕ) (s : Site) → out_to n (hear_site s n) ≡ (hear_site s n).out.now
hears-all n s =
    let now = (hear_site s n).out.now in
    ap (λ fs. now ++ fs) (heard n s.primary.pending) ∙ append-nil now
