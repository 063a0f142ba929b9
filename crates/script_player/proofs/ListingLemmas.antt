-- What a file of checkpoints prints: what is left of it always has a listing, and a listing grows at its front.
use Rattle.std.proofs.Common.{◌≡◌, ◌≢◌, ◌<◌, ◌≤◌, ℕ, zero, suc, List, [], ◌∷◌, ◌++◌, length, drop, Bool, false, Option, Some, None}
use Rattle.std.proofs.Common.{Bor, Result, Ok, Err, subst, refl, sym, ap, ◌∙◌, arith, length-drop, append_assoc, append-nil}
use Rattle.std.specs.Io.KnownBytes.{Appends}
use Rattle.script_player.specs.{StreamLines.{checkpoint_line, malformed_line}, StreamMeaning.{FileEnd, complete, IsListed, whole, cut_short}}
use Rattle.script_player.specs.{StreamMeaning.{inside, stopped, end_line, end_status, next_after, Lists, IsListing}}
use Rattle.script_player.specs.Listing.{IsNext, IsLast, IsFound, IsListedTo, is_complete, listed_status}
use Rattle.script_player.specs.Streams.{Writing, Writes, WritesFront}
use Rattle.script_player.specs.laws.Written.{front-after}
use Rattle.script_player.proofs.ScriptLemmas.{front-still, front-again, written}
use Rattle.memory_wanted.specs.Wanted.{wanted}
use Rattle.checkpoint_stream.specs.{Answers.FeedAnswers, declared.errors.StreamError.TheVariants.{Malformed, NoMemory}}
use Rattle.checkpoint_stream.specs.{declared.place.Place.{Place, TheVariants.{Whole, Failed}}, Readings.{Reading, fed, taken, is_closed}}
use Rattle.checkpoint_stream.specs.{Readings.failure_at, Sound.change_in}

-- what is left of a file prints something
abbrev pub HasListing : List ℕ → ℕ → Reading → List ℕ → Type 0
HasListing no_memory len r bytes = (count : ℕ) × (out : List ℕ) × (end : FileEnd) × Lists no_memory len count r bytes out end

-- a reading that goes on takes a byte at least
taken-some : (r : Reading) (b : ℕ) (bs : List ℕ) → is_closed r.place ≡ false → 0 < taken r (b ∷ bs)
unfolding taken
taken-some r b bs going = rw going (omega arith)

module _ (no_memory : List ℕ) (len : ℕ) (r : Reading) (b : ℕ) (bs : List ℕ)
    (more : (fed r (b ∷ bs)).place ≡ Whole
    → HasListing no_memory len (next_after (fed r (b ∷ bs))) (drop (taken r (b ∷ bs)) (b ∷ bs))) where
  -- what stands after some bytes says what they print
  listed-at : (p : Place) → (fed r (b ∷ bs)).place ≡ p → HasListing no_memory len r (b ∷ bs)
  listed-at (Failed at) e = (0, malformed_line at, stopped (Malformed at), (ap failure_at e, refl))
  listed-at Whole e =
      let rest = more e in
      (suc rest.0, checkpoint_line (change_in (fed r (b ∷ bs))) ++ rest.1, rest.2, (e, rest.1, refl, rest.3))
  listed-at p e = (0, end_line no_memory len inside, inside, (((λ e. cc), ap is_closed e), refl))

-- what is left always prints something
pub listed : (no_memory : List ℕ) (len most : ℕ) (r : Reading) (bytes : List ℕ) → is_closed r.place ≡ false → length bytes ≤ most
    → HasListing no_memory len r bytes
listed no_memory len most r [] going few = (0, [], complete, (refl, refl))
listed no_memory len zero r (b ∷ bs) going few = absurd (omega arith)
listed no_memory len (suc most) r (b ∷ bs) going few =
    let fewer : length (drop (taken r (b ∷ bs)) (b ∷ bs)) ≤ most =
    omega (arith, length-drop (taken r (b ∷ bs)) (b ∷ bs), taken-some r b bs going) in
    listed-at no_memory len r b bs
    (λ e. listed no_memory len most (next_after (fed r (b ∷ bs))) (drop (taken r (b ∷ bs)) (b ∷ bs)) refl fewer)
    (fed r (b ∷ bs)).place refl

-- where the reader finds the bytes malformed, that is the last line
pub malformed-last : (no_memory : List ℕ) (len : ℕ) (r new : Reading) (bytes printed : List ℕ) (at : ℕ)
    → FeedAnswers r bytes (Err (Malformed at)) new → printed ≡ malformed_line at → IsLast no_memory len r bytes printed
malformed-last no_memory len r new bytes printed at h e = record {
  end = stopped (Malformed at);
  more = λ p. cc;
  ends = ap (λ (x : Reading). failure_at x.place) (sym h.0) ∙ h.1;
  is_printed = e;
}

-- where there is no memory to read on, that is the last line
pub no_memory-last : (no_memory : List ℕ) (len : ℕ) (r : Reading) (bytes : List ℕ) → IsLast no_memory len r bytes no_memory
no_memory-last no_memory len r bytes = record { end = stopped (NoMemory wanted); more = λ p. cc; ends = tt; is_printed = refl }

module _ (no_memory : List ℕ) (start : Reading) (bytes : List ℕ) where
  -- what was printed so far, followed by what the bytes that are left print, is what the file prints
  abbrev pub Follows : Reading → List ℕ → List ℕ → Type 0
  Follows r rest printed = (count : ℕ) (out : List ℕ) (end : FileEnd)
      → Lists no_memory (length bytes) count r rest out end → IsListing no_memory start bytes (printed ++ out) end

  pub follows-begin : Follows start bytes []
  follows-begin count out end h = (count, h)

  -- a whole checkpoint more
  pub follows-next : (r new : Reading) (rest left printed first : List ℕ) → Follows r rest printed → IsNext r rest first left new
      → Follows new left (printed ++ first)
  follows-next r new rest left printed first f n count out end h =
      let here = rw (n.goes_on, n.are_left) at h in
      rw append_assoc (f (suc count) (first ++ out) end (n.whole, out, ap (λ (l : List ℕ). l ++ out) n.is_printed, here))

  pub follows-last : (r : Reading) (rest printed last : List ℕ) → Follows r rest printed
      → (n : IsLast no_memory (length bytes) r rest last) → IsListing no_memory start bytes (printed ++ last) n.end
  follows-last r rest printed last f n = f 0 last n.end (n.ends, n.is_printed)

  pub follows-end : (r : Reading) (rest printed : List ℕ) → Follows r rest printed → rest ≡ []
      → IsListing no_memory start bytes printed complete
  follows-end r rest printed f e = rw append-nil at (f 0 [] complete (e, refl))

  -- a write failed, and a beginning of what the file prints is printed
  module _ (o m o' : Writing) (r : Reading) (rest printed : List ℕ) (f : Follows r rest printed)
      (so-far : Appends o.bytes m.bytes printed) where
    grown : (line more : List ℕ) → WritesFront m o' line → WritesFront o o' (printed ++ line ++ more)
    grown line more w =
        let longer : WritesFront m o' (line ++ more) =
        record {
          front = (w.front.0, w.front.1 ++ more, ap (λ l. l ++ more) w.front.2 ∙ append_assoc w.front.0 w.front.1 more, w.front.3);
          badly = w.badly;
        } in
        subst (WritesFront o o') (sym (append_assoc printed line more)) (front-after o m o' printed so-far (line ++ more) longer)

    pub listed-cut : (line : List ℕ) (found : Option (Bor (List ℕ))) (new : Reading)
        → IsFound no_memory (length bytes) r rest found new line → WritesFront m o' line
        → (text : List ℕ) × (end : FileEnd) × IsListing no_memory start bytes text end × WritesFront o o' text
    listed-cut line (Some left) new n front =
        let going : is_closed new.place ≡ false = ap (λ (x : Reading). is_closed x.place) n.goes_on in
        let more = listed no_memory (length bytes) (length left.now) new left.now going (omega arith) in
        let after = follows-next r new rest left.now printed line f n in
        (printed ++ line ++ more.1, more.2, after more.0 more.1 more.2 more.3, grown line more.1 front)
    listed-cut line None new n front =
        (printed ++ line, n.end, follows-last r rest printed line f n, rw append-nil at (grown line [] front))

-- what ends a file early isn't its end
pub not-complete : (end : FileEnd) → end ≢ complete → false ≡ is_complete end
not-complete complete h = absurd (h refl)
not-complete end h = refl

-- ---- the whole file

status-is : (E : Type 0) (end : FileEnd) (all : Bool) → all ≡ is_complete end → listed_status {E = E} (Ok all) ≡ end_status end
status-is E complete all e = rw e refl
status-is E end all e = rw e refl

module _ {E : Type 0} {no_memory : List ℕ} (start : Reading) (bytes : List ℕ) (o m o' : Writing) where
  -- all that was printed is written out
  pub listed-well : (r : Result Bool E) (status : ℕ) → IsListedTo no_memory start bytes r o m → Writes m o' [] × (m.failed ≡ false)
      → status ≡ listed_status r → IsListed no_memory start bytes o o' status
  listed-well (Ok all) status h w e =
      whole h.0 h.1 h.2 (written o m o' h.0 h.3 w.0) (e ∙ status-is E h.1 all h.4)
  listed-well (Err failed) status h w e = cc (sym w.1 ∙ h.3.badly)

  -- writing it out fails
  pub listed-badly : (r : Result Bool E) → IsListedTo no_memory start bytes r o m → WritesFront m o' []
      → IsListed no_memory start bytes o o' 1
  listed-badly (Ok all) h w = cut_short h.0 h.1 h.2 (front-still o m o' h.0 h.3 w) refl
  listed-badly (Err failed) h w = cut_short h.0 h.1 h.2 (front-again o m o' h.0 h.3 w) refl
