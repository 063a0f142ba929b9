-- Landings keep the boxes as many as they are, and go in two parts.
use Rattle.std.proofs.Common.{◌≡◌, ℕ, ◌+◌, ◌-◌, Bool, true, false, if◌then◌else◌, List, [], ◌∷◌, ◌++◌, length, refl, ◌∙◌, arith, length-set}
use Rattle.std.proofs.Common.{◌<◌, All}
use Rattle.std.proofs.lemmas.Bool.{ltb-true}
use Rattle.std.proofs.lemmas.List.{length_push}
use Rattle.std.proofs.lemmas.List.Elements.{All-set, All-push}
use Rattle.arrayvec.specs.ArrayVec.{ArrayVec}
use Rattle.frame_ports.specs.{Addresses.IsFrame, Limits.box_frames, Ports.IsBox}
use Rattle.frame_ports.specs.Lands.{list_of, with_list, has_room, landed_at, lands, put_count, drop_count}

-- a landing keeps the count of boxes
pub length-landed_at : (boxes : List (List (ArrayVec ℕ))) (c : ℕ) (f : ArrayVec ℕ) → length (landed_at boxes c f) ≡ length boxes
length-landed_at boxes c f = by_room (has_room boxes c)
  where
    by_room : (b : Bool) → length (if b then with_list boxes c (list_of boxes c ++ f ∷ []) else boxes) ≡ length boxes
    by_room true = length-set boxes (c - 1) (list_of boxes c ++ f ∷ [])
    by_room false = refl

pub length-lands : (boxes : List (List (ArrayVec ℕ))) (ps : List (ℕ × ArrayVec ℕ)) → length (lands boxes ps) ≡ length boxes
length-lands boxes [] = refl
length-lands boxes (p ∷ ps) = length-lands (landed_at boxes p.0 p.1) ps ∙ length-landed_at boxes p.0 p.1

-- one list of landings after another
pub lands-append : (boxes : List (List (ArrayVec ℕ))) (ps qs : List (ℕ × ArrayVec ℕ)) → lands boxes (ps ++ qs) ≡ lands (lands boxes ps) qs
lands-append boxes [] qs = refl
lands-append boxes (p ∷ ps) qs = lands-append (landed_at boxes p.0 p.1) ps qs

pub put_count-append : (boxes : List (List (ArrayVec ℕ))) (ps qs : List (ℕ × ArrayVec ℕ)) →
    put_count boxes (ps ++ qs) ≡ put_count boxes ps + put_count (lands boxes ps) qs
put_count-append boxes [] qs = omega arith
put_count-append boxes (p ∷ ps) qs = omega (arith, put_count-append (landed_at boxes p.0 p.1) ps qs)

pub drop_count-append : (boxes : List (List (ArrayVec ℕ))) (ps qs : List (ℕ × ArrayVec ℕ)) →
    drop_count boxes (ps ++ qs) ≡ drop_count boxes ps + drop_count (lands boxes ps) qs
drop_count-append boxes [] qs = omega arith
drop_count-append boxes (p ∷ ps) qs = omega (arith, drop_count-append (landed_at boxes p.0 p.1) ps qs)

-- they leave boxes that are boxes
pub boxes-landed_at : (boxes : List (List (ArrayVec ℕ))) (c : ℕ) (f : ArrayVec ℕ) → IsFrame f → c - 1 < length boxes → All IsBox boxes →
    All IsBox (landed_at boxes c f)
boxes-landed_at boxes c f frame inside all = by_room (has_room boxes c) refl
  where
    box : IsBox (list_of boxes c)
    box = all (c - 1) [] inside

    by_room : (b : Bool) → has_room boxes c ≡ b → All IsBox (if b then with_list boxes c (list_of boxes c ++ f ∷ []) else boxes)
    by_room true room =
        let lt : length (list_of boxes c) < box_frames = ltb-true (length (list_of boxes c)) box_frames room in
        All-set IsBox boxes (c - 1) (list_of boxes c ++ f ∷ [])
        (omega (arith, length_push (list_of boxes c) f), All-push IsFrame (list_of boxes c) f box.1 frame) all
    by_room false room = all
