-- Laws of landing.
use Rattle.std.proofs.Common.{◌≡◌, ℕ, ◌+◌, ◌-◌, ◌<◌, ◌≤◌, Bool, true, false, if◌then◌else◌, List, [], ◌∷◌, ◌++◌, length, refl, sym, ◌∙◌}
use Rattle.std.proofs.Common.{ap, arith, All, ◌≢◌, subst}
use Rattle.std.proofs.lemmas.List.{get_or-set_same, get_or-set_other}
use Rattle.std.proofs.lemmas.List.Elements.{All-head, All-tail}
use Rattle.frame_ports.specs.Addresses.{IsFrame}
use Rattle.frame_ports.specs.Ports.{PortsState, IsPorts, IsBox}
use Rattle.arrayvec.specs.ArrayVec.{ArrayVec}
use Rattle.frame_ports.specs.Lands.{list_of, with_list, has_room, landed_at, lands, put_count, drop_count}
use Rattle.frame_ports.specs.laws.Lands.{length-landed_at, length-lands, boxes-landed_at}

-- a landing where the box has room, and where it has none
pub landed_at-room : (boxes : List (List (ArrayVec ℕ))) (c : ℕ) (f : ArrayVec ℕ) → has_room boxes c ≡ true →
    landed_at boxes c f ≡ with_list boxes c (list_of boxes c ++ f ∷ [])
landed_at-room boxes c f room = ap (λ b. if b then with_list boxes c (list_of boxes c ++ f ∷ []) else boxes) room

pub landed_at-full : (boxes : List (List (ArrayVec ℕ))) (c : ℕ) (f : ArrayVec ℕ) → has_room boxes c ≡ false → landed_at boxes c f ≡ boxes
landed_at-full boxes c f full = ap (λ b. if b then with_list boxes c (list_of boxes c ++ f ∷ []) else boxes) full

-- each pair is put into a box or dropped
pub put_count-drop_count : (boxes : List (List (ArrayVec ℕ))) (ps : List (ℕ × ArrayVec ℕ)) → put_count boxes ps + drop_count boxes ps
    ≡ length ps
put_count-drop_count boxes [] = refl
put_count-drop_count boxes (p ∷ ps) = omega (arith, put_count-drop_count (landed_at boxes p.0 p.1) ps, one (has_room boxes p.0))
  where
    one : (b : Bool) → (if b then 1 else 0) + (if b then 0 else 1) ≡ 1
    one true = refl
    one false = refl

-- the box of the client, and the boxes of the others
pub list_of-landed_at_same : (boxes : List (List (ArrayVec ℕ))) (c : ℕ) (f : ArrayVec ℕ) → c - 1 < length boxes →
    list_of (landed_at boxes c f) c ≡ (if has_room boxes c then list_of boxes c ++ f ∷ [] else list_of boxes c)
list_of-landed_at_same boxes c f inside = by_room (has_room boxes c)
  where
    by_room : (b : Bool) → list_of (if b then with_list boxes c (list_of boxes c ++ f ∷ []) else boxes) c
        ≡ (if b then list_of boxes c ++ f ∷ [] else list_of boxes c)
    by_room true = get_or-set_same boxes (c - 1) (list_of boxes c ++ f ∷ []) [] inside
    by_room false = refl

pub list_of-landed_at_other : (boxes : List (List (ArrayVec ℕ))) (c d : ℕ) (f : ArrayVec ℕ) → 1 ≤ c → 1 ≤ d → d ≢ c →
    list_of (landed_at boxes c f) d ≡ list_of boxes d
list_of-landed_at_other boxes c d f cpos dpos other = by_room (has_room boxes c)
  where
    by_room : (b : Bool) → list_of (if b then with_list boxes c (list_of boxes c ++ f ∷ []) else boxes) d ≡ list_of boxes d
    by_room true = get_or-set_other boxes (c - 1) (d - 1) (list_of boxes c ++ f ∷ []) [] (λ e. other (omega arith))
    by_room false = refl

pub boxes-lands : (boxes : List (List (ArrayVec ℕ))) (ps : List (ℕ × ArrayVec ℕ)) → All (λ p. IsFrame p.1) ps →
    All (λ p. (1 ≤ p.0) × (p.0 ≤ length boxes)) ps → All IsBox boxes → All IsBox (lands boxes ps)
boxes-lands boxes [] frames clients all = all
boxes-lands boxes (p ∷ ps) frames clients all =
    let first : (1 ≤ p.0) × (p.0 ≤ length boxes) = All-head (λ p. (1 ≤ p.0) × (p.0 ≤ length boxes)) p ps clients in
    let same : length (landed_at boxes p.0 p.1) ≡ length boxes = length-landed_at boxes p.0 p.1 in
    boxes-lands (landed_at boxes p.0 p.1) ps
    (All-tail (λ p. IsFrame p.1) p ps frames)
    (subst (λ n. All (λ p. (1 ≤ p.0) × (p.0 ≤ n)) ps) (sym same) (All-tail (λ p. (1 ≤ p.0) × (p.0 ≤ length boxes)) p ps clients))
    (boxes-landed_at boxes p.0 p.1 (All-head (λ p. IsFrame p.1) p ps frames) (omega arith) all)

-- and ports that are ports
pub ports-lands : (s : PortsState) (ps : List (ℕ × ArrayVec ℕ)) → All (λ p. IsFrame p.1) ps →
    All (λ p. (1 ≤ p.0) × (p.0 ≤ length s.boxes)) ps → IsPorts s → IsPorts (record s { boxes = lands s.boxes ps })
ports-lands s ps frames clients ok =
    let same : length (lands s.boxes ps) ≡ length s.boxes = length-lands s.boxes ps in
    record {
      next = ok.next;
      clients = (omega (arith, same, ok.clients.0), omega (arith, same, ok.clients.1));
      pairs = ok.pairs ∙ sym same;
      numbered = ok.numbered ∙ sym same;
      inboxes = ok.inboxes;
      boxes = boxes-lands s.boxes ps frames clients ok.boxes;
    }
