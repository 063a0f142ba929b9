-- Laws of the frames that wait for the guest.
use Rattle.std.proofs.Common.{◌≡◌, ◌≢◌, ℕ, ◌+◌, ◌<◌, ◌≤◌, List, [], ◌∷◌, ◌++◌, length, remove, refl, arith, cond}
use Rattle.std.proofs.Common.{Option, Some, None}
use Rattle.std.specs.Prelude.{slice_get, ◌==◌}
use Rattle.std.proofs.lemmas.Bool.Decides.{nat_tests}
use Rattle.pair_history.specs.Entries.{Frame}
use Rattle.pair_history.specs.HistoryState.{Waiting, inbox_of, frame_numbered, without_number, IsFirst}
use Rattle.pair_history.specs.Reached.{AreRising}
pub use Rattle.pair_history.specs.Waits.{Waits}

-- Frames that are delivered later stand behind.

pub inbox_of-append : (c : ℕ) (xs ys : List Waiting) → inbox_of c (xs ++ ys) ≡ inbox_of c xs ++ inbox_of c ys
inbox_of-append c [] ys = refl
inbox_of-append c (x ∷ xs) ys = grind (arith, nat_tests, inbox_of-append c xs ys)

first-more : {A : Type 0} (xs ys : List A) (a : A) → slice_get xs 0 ≡ Some a → slice_get (xs ++ ys) 0 ≡ Some a
first-more [] ys a e = absurd (cc)
first-more (x ∷ xs) ys a e = e

pub IsFirst-more : (n : ℕ) (xs ys : List Waiting) → IsFirst n xs → IsFirst n (xs ++ ys)
IsFirst-more n xs ys h = (h.0, h.1, rw (inbox_of-append h.0 xs ys) (first-more _ _ _ h.2))

is-there : (n c : ℕ) (f : Frame) (ws : List Waiting) → slice_get (inbox_of c ws) 0 ≡ Some (n, f) → frame_numbered n ws ≢ None
is-there n c f [] e = absurd (cc)
is-there n c f (x ∷ xs) e = grind (arith, nat_tests, is-there n c f xs)

-- as of the number of a client's first
pub first-waits : (n : ℕ) (ws : List Waiting) → IsFirst n ws → Waits n ws
first-waits n ws h = by_answer (frame_numbered n ws) (is-there n h.0 h.1 ws h.2)
  where
    by_answer : (o : Option Frame) → o ≢ None → (f : Frame) × (o ≡ Some f)
    by_answer None there = absurd (there refl)
    by_answer (Some f) there = (f, refl)

pub frame_numbered-more : (n : ℕ) (f : Frame) (xs ys : List Waiting) → frame_numbered n xs ≡ Some f
    → (frame_numbered n (xs ++ ys) ≡ Some f) × (without_number n (xs ++ ys) ≡ without_number n xs ++ ys)
frame_numbered-more n f [] ys e = absurd (cc)
frame_numbered-more n f (x ∷ xs) ys e = grind (arith, nat_tests, frame_numbered-more n f xs ys)

-- What waits has rising numbers.

pub AreRising-push : (first end : ℕ) (xs : List Waiting) (x : Waiting) → AreRising first end xs → x.number ≡ end
    → AreRising first (end + 1) (xs ++ x ∷ [])
AreRising-push first end [] x h e = (omega arith, omega arith)
AreRising-push first end (y ∷ xs) x h e = (h.0, AreRising-push (y.number + 1) end xs x h.1 e)

AreRising-later : (a b end : ℕ) (xs : List Waiting) → a ≤ b → AreRising b end xs → AreRising a end xs
AreRising-later a b end [] l h = omega arith
AreRising-later a b end (x ∷ xs) l h = (let k = h.0 in omega arith, h.1)

pub AreRising-without : (n first end : ℕ) (xs : List Waiting) → AreRising first end xs → AreRising first end (without_number n xs)
AreRising-without n first end [] h = h
AreRising-without n first end (x ∷ xs) h =
    grind (arith, nat_tests, AreRising-without n (x.number + 1) end xs h.1, AreRising-later first (x.number + 1) end xs)

-- Of two numbers one's frame is found as before where the other's leaves, and they leave in either order.

pub found-without : (m n : ℕ) (ws : List Waiting) → m ≢ n → frame_numbered m (without_number n ws) ≡ frame_numbered m ws
found-without m n [] differ = refl
found-without m n (x ∷ xs) differ = grind (arith, nat_tests, found-without m n xs)

pub without-swaps : (m n : ℕ) (ws : List Waiting) → without_number m (without_number n ws) ≡ without_number n (without_number m ws)
without-swaps m n [] = refl
without-swaps m n (x ∷ xs) = grind (arith, nat_tests, without-swaps m n xs)

first-without : (m n c : ℕ) (f : Frame) (ws : List Waiting) → m ≢ n → slice_get (inbox_of c ws) 0 ≡ Some (m, f)
    → slice_get (inbox_of c (without_number n ws)) 0 ≡ Some (m, f)
first-without m n c f [] differ e = e
first-without m n c f (x ∷ xs) differ e = grind (arith, nat_tests, first-without m n c f xs)

-- the first frame of a client stays so
pub IsFirst-without : (m n : ℕ) (ws : List Waiting) → m ≢ n → IsFirst m ws → IsFirst m (without_number n ws)
IsFirst-without m n ws differ h = (h.0, h.1, first-without m n h.0 h.1 ws differ h.2)

-- Numbers that rise are each one frame's.

none-below : (n first end : ℕ) (ws : List Waiting) → AreRising first end ws → n < first → frame_numbered n ws ≡ None
none-below n first end [] h l = refl
none-below n first end (x ∷ xs) h l = grind (arith, nat_tests, none-below n (x.number + 1) end xs)

pub gone : (n first end : ℕ) (ws : List Waiting) → AreRising first end ws → frame_numbered n (without_number n ws) ≡ None
gone n first end [] h = refl
gone n first end (x ∷ xs) h = grind (arith, nat_tests, gone n (x.number + 1) end xs, none-below n (x.number + 1) end xs)

-- A frame of a client is found by its number, and when it leaves, only its own client's inbox loses it, at its place.

-- the frame stands at that place of client c's inbox
abbrev pub StandsAt : ℕ → ℕ → ℕ → Frame → List Waiting → Type 0
StandsAt c place n f ws = slice_get (inbox_of c ws) place ≡ Some (n, f)

from : (c place n : ℕ) (f : Frame) (first end : ℕ) (ws : List Waiting) → AreRising first end ws → StandsAt c place n f ws → first ≤ n
from c place n f first end [] h s = absurd (cc)
from c place n f first end (x ∷ xs) h s =
    let more = λ (k : ℕ). from c k n f (x.number + 1) end xs h.1 in
    grind (arith, nat_tests)

-- what is so of the frame at that place of client c's inbox where it has number n
abbrev pub Leaves : ℕ → ℕ → ℕ → Frame → List Waiting → Type 0
Leaves c place n f ws =
    (frame_numbered n ws ≡ Some f)
    × ((d : ℕ) → inbox_of d (without_number n ws) ≡ cond (d == c) (remove (inbox_of c ws) place) (inbox_of d ws))

pub leaves-at : (c place n : ℕ) (f : Frame) (first end : ℕ) (ws : List Waiting) → AreRising first end ws → StandsAt c place n f ws
    → Leaves c place n f ws
leaves-at c place n f first end [] h s = absurd (cc)
leaves-at c place n f first end (x ∷ xs) h s =
    let above = λ (k : ℕ). from c k n f (x.number + 1) end xs h.1 in
    let more = λ (k : ℕ). leaves-at c k n f (x.number + 1) end xs h.1 in
    grind (arith, nat_tests)

-- a client's inbox gets no longer where a frame leaves
pub shorter : (c n : ℕ) (ws : List Waiting) → length (inbox_of c (without_number n ws)) ≤ length (inbox_of c ws)
shorter c n [] = omega arith
shorter c n (x ∷ xs) = grind (arith, nat_tests, shorter c n xs)
