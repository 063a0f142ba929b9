-- A follower of a stream stands where the bytes say, whatever the pieces were and wherever they end.
use Rattle.checkpoint_stream.specs.laws.Feeding.{fed-append, fed-closed, taken-closed, taken-byte, taken-append, whole-place}
use Rattle.checkpoint_stream.specs.{declared.place.Place.{Place, TheVariants.Whole}, Readings.{Reading, begun, fed_byte, fed, taken}}
use Rattle.checkpoint_stream.specs.{Readings.{is_whole, is_closed}, Sound.change_in, Text.text, Widths.HasWidths, ReadBack.ReadsBack}
use Rattle.std.proofs.Common.{◌≡◌, ℕ, suc, ◌+◌, ◌<◌, List, [], ◌∷◌, ◌++◌, length, Bool, true, false, refl, sym, ap, subst, ◌∙◌, arith, take}
use Rattle.std.proofs.{Common.{drop, slice_index_or, append_assoc, length-append}, lemmas.List.append-nil}
use Rattle.guest_rules.specs.declared.shapes.Shape.{Shape}
use Rattle.epoch_snapshot.specs.Checkpoints.{Change, IsCanonical}
use Rattle.backup_image.specs.{Images.ImageState, Streams.{IsOne, renewed, BeginsWith, after_all, Follower, Call, feeds, commits}}
use Rattle.backup_image.specs.Streams.{after_call, after_calls, committed_next, follower, IsWritten, AreWritten, texts}

-- Reading

-- what is taken of a piece is all that counts of it
fed-taken : (r : Reading) (xs : List ℕ) → fed r (take (taken r xs) xs) ≡ fed r xs
unfolding fed taken
fed-taken r [] = refl
fed-taken r (x ∷ xs) = by_test (is_closed r.place) refl (fed-taken (fed_byte r x) xs)
  where
    by_test : (t : Bool) → is_closed r.place ≡ t → fed (fed_byte r x) (take (taken (fed_byte r x) xs) xs) ≡ fed (fed_byte r x) xs
        → fed r (take (taken r (x ∷ xs)) (x ∷ xs)) ≡ fed r (x ∷ xs)
    by_test true closed rest = rw (taken-closed r (x ∷ xs) closed) (sym (fed-closed r (x ∷ xs) closed))
    by_test false going rest = rw (taken-byte r x xs going) rest

taken-taken : (r : Reading) (xs : List ℕ) → taken r (take (taken r xs) xs) ≡ length (take (taken r xs) xs)
unfolding taken
taken-taken r [] = refl
taken-taken r (x ∷ xs) = by_test (is_closed r.place) refl (taken-taken (fed_byte r x) xs)
  where
    by_test : (t : Bool) → is_closed r.place ≡ t
        → taken (fed_byte r x) (take (taken (fed_byte r x) xs) xs) ≡ length (take (taken (fed_byte r x) xs) xs)
        → taken r (take (taken r (x ∷ xs)) (x ∷ xs)) ≡ length (take (taken r (x ∷ xs)) (x ∷ xs))
    by_test true closed rest = rw (taken-closed r (x ∷ xs) closed) refl
    by_test false going rest =
        let left : List ℕ = take (taken (fed_byte r x) xs) xs in
        let first : taken r (x ∷ left) ≡ suc (taken (fed_byte r x) left) = taken-byte r x left going in
        let both : taken r (x ∷ left) ≡ length (x ∷ left) = omega (arith, first, rest) in
        rw (taken-byte r x xs going) both

whole-closed : (p : Place) → is_whole p ≡ true → is_closed p ≡ true
whole-closed Whole e = refl
whole-closed other e = absurd (cc)

is-whole : (p : Place) → p ≡ Whole → is_whole p ≡ true
is-whole p e = ap is_whole e

-- what doesn't stand whole after all the bytes didn't after any of the first of them
none-before : (start : Reading) (part : List ℕ) → is_whole (fed start part).place ≡ false → BeginsWith start [] part
none-before start part bare front after is = by_test (is_whole (fed start front).place) refl
  where
    by_test : (t : Bool) → is_whole (fed start front).place ≡ t → t ≡ false
    by_test false e = refl
    by_test true e =
        let stays : fed start part ≡ fed start front
        = ap (fed start) is ∙ fed-append start front after ∙ fed-closed (fed start front) after (whole-closed _ e) in
        let both : is_whole (fed start part).place ≡ true = ap (λ (r : Reading). is_whole r.place) stays ∙ e in
        absurd (cc)

-- Following

-- at the end of the calls no checkpoint stands whole
abbrev Bare : List Call → Follower → Type 0
Bare calls f = is_whole (after_calls f calls).reading.place ≡ false

-- the calls take g, which has read as much as f, to the image of the whole checkpoints that come
abbrev Ends : List Call → Reading → List ℕ → Follower → Follower → Type 0
Ends calls start part f g =
    (new : List ℕ) × (cs : List Change) × ((after_calls g calls).came ≡ f.came ++ new) × BeginsWith start cs (part ++ new)
    × ((after_calls g calls).image ≡ after_all f.image cs)

-- from where it has read a part of a checkpoint that begins at `start`, a follower gets to the image of the whole checkpoints
follows : (calls : List Call) (start : Reading) (part : List ℕ) (f : Follower) → f.reading ≡ fed start part
    → taken start part ≡ length part → Bare calls f → Ends calls start part f f
unfolding fed taken
follows [] start part f is all bare = (
  [],
  [],
  sym (append-nil f.came),
  none-before start (part ++ [])
      (ap (λ (l : List ℕ). is_whole (fed start l).place) (append-nil part) ∙ ap (λ (r : Reading). is_whole r.place) (sym is) ∙ bare),
  refl,
)
follows (feeds piece ∷ calls) start part f is all bare =
    let took : List ℕ = take (taken f.reading piece) piece in
    let now : fed f.reading piece ≡ fed start (part ++ took)
    = sym (fed-taken f.reading piece) ∙ ap (λ (r : Reading). fed r took) is ∙ sym (fed-append start part took) in
    let most : taken f.reading took ≡ length took = taken-taken f.reading piece in
    let more : taken (fed start part) took ≡ length took = ap (λ (r : Reading). taken r took) (sym is) ∙ most in
    let every : taken start (part ++ took) ≡ length (part ++ took)
    = taken-append start part took all ∙ ap (λ (n : ℕ). length part + n) more ∙ sym (length-append part took) in
    let later = follows calls start (part ++ took) (after_call f (feeds piece)) now every bare in (
      took ++ later.0,
      later.1,
      later.2 ∙ append_assoc f.came took later.0,
      subst (BeginsWith start later.1) (append_assoc part took later.0) later.3,
      later.4,
    )
follows (commits ∷ calls) start part f is all bare =
    by_test (is_whole f.reading.place) refl (follows calls start part f is all)
    (follows calls (renewed f.reading) [] (committed_next f) refl refl)
  where
    by_test : (t : Bool) → is_whole f.reading.place ≡ t → (Bare calls f → Ends calls start part f f)
        → (Bare calls (committed_next f) → Ends calls (renewed f.reading) [] (committed_next f) (committed_next f))
        → Ends calls start part f (after_call f commits)
    by_test false e stays goes =
        let same : after_call f commits ≡ f = rw e refl in
        subst (Ends calls start part f) (sym same) (stays (subst (Bare calls) same bare))
    by_test true e stays goes =
        let same : after_call f commits ≡ committed_next f = rw e refl in
        let later = goes (subst (Bare calls) same bare) in
        let one : IsOne start part (change_in f.reading) = record {
          whole = ap (λ (r : Reading). r.place) (sym is) ∙ whole-place _ e;
          all = all;
          is = ap change_in (sym is);
        } in
        let rest : BeginsWith (renewed (fed start part)) later.1 later.0
        = subst (λ (r : Reading). BeginsWith (renewed r) later.1 later.0) is later.3 in
        subst (Ends calls start part f) (sym same)
        (later.0, change_in f.reading ∷ later.1, later.2, (part, later.0, refl, one, rest), later.4)

-- at the start of a stream nothing was read
pub follows-all : (calls : List Call) (start : Reading) (i : ImageState) → Bare calls (follower start i)
    → (cs : List Change) × BeginsWith start cs (after_calls (follower start i) calls).came
    × ((after_calls (follower start i) calls).image ≡ after_all i cs)
unfolding fed taken
follows-all calls start i bare =
    let all = follows calls start [] (follower start i) refl refl bare in
    (all.1, subst (BeginsWith start all.1) (sym all.2) all.3, all.4)

-- The bytes have one reading

-- of two ways to part the same bytes, at the same length, both parts are the same
same-parts : (xs ys us vs : List ℕ) → xs ++ us ≡ ys ++ vs → length xs ≡ length ys → (xs ≡ ys) × (us ≡ vs)
same-parts [] [] us vs e same = (refl, e)
same-parts [] (y ∷ ys) us vs e same = absurd (omega (arith, same))
same-parts (x ∷ xs) [] us vs e same = absurd (omega (arith, same))
same-parts (x ∷ xs) (y ∷ ys) us vs e same =
    let rest = same-parts xs ys us vs (ap (drop 1) e) (omega (arith, same)) in
    let first : x ≡ y = ap (λ (l : List ℕ). slice_index_or l 0 x) e in
    (ap (λ (n : ℕ). n ∷ xs) first ∙ ap (λ (l : List ℕ). y ∷ l) rest.0, rest.1)

one-closes : (start : Reading) (one rest : List ℕ) (c : Change) → IsOne start one c → taken start (one ++ rest) ≡ length one
one-closes start one rest c k =
    taken-append start one rest k.all
    ∙ ap (λ (n : ℕ). length one + n) (taken-closed (fed start one) rest (whole-closed _ (is-whole _ k.whole))) ∙ omega arith

pub one-reading : (cs ds : List Change) (start : Reading) (bytes : List ℕ) → BeginsWith start cs bytes → BeginsWith start ds bytes → cs ≡ ds
one-reading [] [] start bytes p q = refl
one-reading [] (d ∷ ds) start bytes p q =
    let none : is_whole (fed start q.0).place ≡ false = p q.0 q.1 q.2 in
    let whole : is_whole (fed start q.0).place ≡ true = is-whole _ q.3.whole in
    absurd (cc)
one-reading (c ∷ cs) [] start bytes p q =
    let none : is_whole (fed start p.0).place ≡ false = q p.0 p.1 p.2 in
    let whole : is_whole (fed start p.0).place ≡ true = is-whole _ p.3.whole in
    absurd (cc)
one-reading (c ∷ cs) (d ∷ ds) start bytes p q =
    let e : p.0 ++ p.1 ≡ q.0 ++ q.1 = sym p.2 ∙ q.2 in
    let long : length p.0 ≡ length q.0 = sym (one-closes start p.0 p.1 c p.3) ∙ ap (taken start) e ∙ one-closes start q.0 q.1 d q.3 in
    let parts = same-parts p.0 q.0 p.1 q.1 e long in
    let first : c ≡ d = sym p.3.is ∙ ap (λ (l : List ℕ). change_in (fed start l)) parts.0 ∙ q.3.is in
    let rest : BeginsWith (renewed (fed start q.0)) cs q.1
    = subst (λ (l : List ℕ). BeginsWith (renewed (fed start q.0)) cs l) parts.1
    (subst (λ (l : List ℕ). BeginsWith (renewed (fed start l)) cs p.1) parts.0 p.4) in
    ap (λ (a : Change). a ∷ cs) first ∙ ap (λ (es : List Change). d ∷ es) (one-reading cs ds (renewed (fed start q.0)) q.1 rest q.4)

-- A stream of texts

shape-in : (r : Reading) → (change_in r).shape ≡ r.shape
unfolding change_in
shape-in r = refl

module _ (back : (c : Change) → IsCanonical c → HasWidths c → ReadsBack c (text c))
    (needed : (c : Change) (offset : ℕ) (front rest : List ℕ) → IsCanonical c → HasWidths c → text c ≡ front ++ rest
    → is_closed (fed (begun c.shape offset) front).place ≡ true → rest ≡ []) where
  text-is-one : (shape : Shape) (offset : ℕ) (c : Change) → IsWritten shape c → IsOne (begun shape offset) (text c) c
  unfolding ReadsBack
  text-is-one shape offset c k =
      let is = back c k.canonical k.widths offset in
      subst (λ (s : Shape). IsOne (begun s offset) (text c) c) k.shaped (record { whole = is.0; all = is.2; is = is.1 })

  -- the front of a text is no whole checkpoint
  front-is-none : (shape : Shape) (offset : ℕ) (d : Change) (front rest : List ℕ) → IsWritten shape d → text d ≡ front ++ rest
      → 0 < length rest → is_whole (fed (begun shape offset) front).place ≡ false
  front-is-none shape offset d front rest k is some = by_test (is_whole (fed (begun shape offset) front).place) refl
    where
      by_test : (t : Bool) → is_whole (fed (begun shape offset) front).place ≡ t → t ≡ false
      by_test false e = refl
      by_test true e =
          let closed : is_closed (fed (begun d.shape offset) front).place ≡ true
          = subst (λ (s : Shape). is_closed (fed (begun s offset) front).place ≡ true) (sym k.shaped) (whole-closed _ e) in
          absurd (omega (arith, some, ap (λ (l : List ℕ). length l) (needed d offset front rest k.canonical k.widths is closed)))

  pub texts-are-read : (shape : Shape) (cs : List Change) (offset : ℕ) (d : Change) (front rest : List ℕ) → AreWritten shape cs
      → IsWritten shape d → text d ≡ front ++ rest → 0 < length rest → BeginsWith (begun shape offset) cs (texts cs ++ front)
  texts-are-read shape [] offset d front rest all k is some =
      none-before (begun shape offset) front (front-is-none shape offset d front rest k is some)
  texts-are-read shape (c ∷ cs) offset d front rest all k is some =
      let one = text-is-one shape offset c all.0 in
      let after : Reading = fed (begun shape offset) (text c) in
      let same : after.shape ≡ shape = sym (shape-in after) ∙ ap (λ (a : Change). a.shape) one.is ∙ all.0.shaped in (
        text c,
        texts cs ++ front,
        append_assoc (text c) (texts cs) front,
        one,
        subst (λ (s : Shape). BeginsWith (begun s after.offset) cs (texts cs ++ front)) (sym same)
            (texts-are-read shape cs after.offset d front rest all.1 k is some),
      )
