-- What landed is lost, the last frame first.
use Rattle.std.proofs.Common.{◌≡◌, ℕ, suc, ◌+◌, ◌-◌, ◌≤◌, List, [], ◌∷◌, ◌++◌, length, remove, refl, sym, ap, ◌∙◌, subst, arith, Bool, true, false, cond}
use Rattle.std.proofs.lemmas.List.{length-append, length-set, get_or-set_same, set-get_or, set-set}
use Rattle.std.proofs.lemmas.List.Elements.{All-head, All-tail}
use Rattle.std.specs.Prelude.{All}
use Rattle.frame_ports.specs.Lands.{list_of, with_list, has_room, landed_at, lands}
use Rattle.frame_ports.specs.laws.Lands.{length-landed_at}
use Rattle.pair_history.specs.Entries.{Frame}
use Rattle.pair_core.specs.Pair.{Pair}
use Rattle.pair_nodes.specs.Matching.{HasRoom, IsServed, Matches}
use Rattle.pair_nodes.specs.Networks.{with_lost_out}
use Rattle.pair_nodes.specs.Sites.{Site, Happens, loses_out}
use Rattle.pair_nodes.proofs.{ClientMatches.lose_out_matches, Then.{nothing_served, served_then}}

-- these boxes in the place of a site's
abbrev pub with_boxes : Site → List (List Frame) → Site
with_boxes s boxes = record s { network = record s.network { boxes = boxes } }

remove-last : (xs : List Frame) (f : Frame) → remove (xs ++ f ∷ []) (length xs) ≡ xs
remove-last [] f = refl
remove-last (x ∷ xs) f = ap (λ t. x ∷ t) (remove-last xs f)

-- losses, one after another
abbrev pub Loses : Site → List (ℕ × ℕ) → Site → Type 0
Loses s [] t = t ≡ s
Loses s (x ∷ xs) t = (mid : Site) × Happens s (loses_out x.0 x.1) mid × Loses mid xs t

more_losses : (xs ys : List (ℕ × ℕ)) (s u t : Site) → Loses s xs u → Loses u ys t → Loses s (xs ++ ys) t
more_losses [] ys s u t a b = subst (λ (x : Site). Loses x ys t) a b
more_losses (x ∷ xs) ys s u t a b = (a.0, a.1, more_losses xs ys a.0 u t a.2 b)

-- they are served
pub losses_served : (xs : List (ℕ × ℕ)) (s t : Site) (w : Pair) → Matches s w → HasRoom w (length xs) → Loses s xs t
    → IsServed w (length xs) [] t
losses_served [] s t w m room l = rw l (nothing_served w 0 s m)
losses_served (x ∷ xs) s t w m room l =
    let a = lose_out_matches s l.0 w x.0 x.1 1 m (omega arith)
    (record { fencing = tt; one_stop_a_generation = tt; unaltered = tt; few_entries = omega arith }) l.1 in
    let counts = a.counts in
    let b = losses_served xs l.0 t a.after a.matches (omega arith) l.2 in
    let all : 1 + length xs ≡ suc (length xs) = omega arith in
    subst (λ n. IsServed w n [] t) all (served_then w 1 (length xs) [] [] l.0 t a b)

-- so many losses lead from boxes to these, whatever else the site has
pub record Lost (most : ℕ) (to : List (List Frame)) (s : Site) : Type 0 where
  pub losses : List (ℕ × ℕ)
  pub few : length losses ≤ most
  pub lead : Loses s losses (with_boxes s to)

abbrev pub CanLose : ℕ → List (List Frame) → List (List Frame) → Type 0
CanLose most from to = (s : Site) → s.network.boxes ≡ from → Lost most to s

nothing_lost : (from to : List (List Frame)) → from ≡ to → CanLose 0 from to
nothing_lost from to e s is = record { losses = []; few = omega arith; lead = λ i. with_boxes s (sym (is ∙ e) i) }

-- and then
lost_then : (m n : ℕ) (from mid to : List (List Frame)) → CanLose m from mid → CanLose n mid to → CanLose (m + n) from to
lost_then m n from mid to a b s is =
    let one = a s is in
    let two = b (with_boxes s mid) refl in
    let few = one.few in
    let more = two.few in
    let all = length-append one.losses two.losses in
    record {
      losses = one.losses ++ two.losses;
      few = omega arith;
      lead = more_losses one.losses two.losses s (with_boxes s mid) (with_boxes s to) one.lead two.lead;
    }

weaker : (m n : ℕ) (from to : List (List Frame)) → m ≤ n → CanLose m from to → CanLose n from to
weaker m n from to l a s is =
    let b = a s is in
    let few = b.few in
    record { losses = b.losses; few = omega arith; lead = b.lead }

module _ (boxes : List (List Frame)) (c : ℕ) (f : Frame) (low : 1 ≤ c) (high : c ≤ length boxes) where
  abbrev box : List Frame
  box = list_of boxes c

  abbrev fuller : List (List Frame)
  fuller = with_list boxes c (box ++ f ∷ [])

  there : list_of fuller c ≡ box ++ f ∷ []
  there = get_or-set_same boxes (c - 1) (box ++ f ∷ []) [] (omega arith)

  back : with_list fuller c (remove (list_of fuller c) (length box)) ≡ boxes
  back =
      ap (λ (xs : List Frame). with_list fuller c (remove xs (length box))) there
      ∙ ap (with_list fuller c) (remove-last box f) ∙ set-set boxes (c - 1) (box ++ f ∷ []) box ∙ set-get_or boxes (c - 1) []

  one_landing : CanLose 1 (landed_at boxes c f) boxes
  one_landing = by_room (has_room boxes c)
    where
      by_room : (t : Bool) → CanLose 1 (cond t fuller boxes) boxes
      by_room false s is = weaker 0 1 boxes boxes (omega arith) (nothing_lost boxes boxes refl) s is
      by_room true s is =
          let place = length box in
          let long = length-set boxes (c - 1) (box ++ f ∷ []) in
          let count = ap (λ (bs : List (List Frame)). length bs) is in
          let here = ap (λ (bs : List (List Frame)). length (list_of bs c)) is ∙ ap (λ (xs : List Frame). length xs) there
          ∙ length-append box (f ∷ []) in
          let left : with_list s.network.boxes c (remove (list_of s.network.boxes c) place) ≡ boxes =
          ap (λ (bs : List (List Frame)). with_list bs c (remove (list_of bs c) place)) is ∙ back in
          record {
            losses = (c, place) ∷ [];
            few = omega arith;
            lead = (
              record s { network = with_lost_out s.network c place },
              ((low, omega arith), omega arith, refl),
              λ i. with_boxes s (sym left i),
            );
          }

-- all that landed
pub landings_lost : (ps : List (ℕ × Frame)) (boxes : List (List Frame)) → All (λ p. (1 ≤ p.0) × (p.0 ≤ length boxes)) ps
    → CanLose (length ps) (lands boxes ps) boxes
landings_lost [] boxes range = nothing_lost boxes boxes refl
landings_lost (p ∷ ps) boxes range =
    let here = All-head (λ p. (1 ≤ p.0) × (p.0 ≤ length boxes)) p ps range in
    let next = landed_at boxes p.0 p.1 in
    let rest : All (λ p. (1 ≤ p.0) × (p.0 ≤ length next)) ps =
    subst (λ k. All (λ p. (1 ≤ p.0) × (p.0 ≤ k)) ps) (sym (length-landed_at boxes p.0 p.1))
    (All-tail (λ p. (1 ≤ p.0) × (p.0 ≤ length boxes)) p ps range) in
    let all : length ps + 1 ≤ suc (length ps) = omega arith in
    weaker (length ps + 1) (suc (length ps)) (lands next ps) boxes all
    (lost_then (length ps) 1 (lands next ps) next boxes (landings_lost ps next rest) (one_landing boxes p.0 p.1 here.0 here.1))
