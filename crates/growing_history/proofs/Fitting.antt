-- What the rule says of the seats' views where one of them is changed, and what it tells the keeper.
use Rattle.std.proofs.Common.{◌≡◌, ◌≢◌, ℕ, ◌<◌, ◌≤◌, ⊎_elim, List, [], ◌∷◌, ◌++◌, length, set, refl, sym, ap, ◌∙◌}
use Rattle.std.proofs.Common.{subst, cond, arith, eqb, true, false, true≢false, eq-eqb, ne_eqb}
use Rattle.std.specs.Prelude.{slice_index, Option, None, Some}
use mathlib.Core.Option.{some}
use lib.ListN.{get_elem?}
use Rattle.atomic_table.proofs.Lists.{at_set}
use Rattle.pair_history.specs.HistoryState.{HistoryState}
use Rattle.growing_history.specs.Steps.{Step, Begins, steps_by}
use Rattle.growing_history.specs.Views.{View, nobody, Fits, Kept}
use Rattle.growing_history.specs.Plays.{Meets}
use Rattle.growing_history.specs.laws.Prefixes.{begins-nil, begins-through}
use Rattle.growing_history.proofs.Prefixes.{at_snoc_place}

pub off : false ≡ true → ⊥
off e = true≢false (sym e)

pub none≢some : {A : Type 0} (x : A) → None ≡ Some x → ⊥
none≢some x e = cc

-- that number is owned at that place now
pub now_owned : (ℕ → ℕ) → ℕ → ℕ → ℕ → ℕ
now_owned owner n place m = cond (eqb m n) place (owner m)

pub owned_here : (owner : ℕ → ℕ) (n place : ℕ) → now_owned owner n place n ≡ place
unfolding now_owned
owned_here owner n place = ap (λ t. cond t place (owner n)) (eq-eqb n n refl)

pub owned_else : (owner : ℕ → ℕ) (n place m : ℕ) → m ≢ n → now_owned owner n place m ≡ owner m
unfolding now_owned
owned_else owner n place m isnt = ap (λ t. cond t place (owner m)) (ne_eqb m n isnt)

-- a fact of each view, where one was changed, and where one came last
pub fits_set : (F : ℕ → View → Type 0) (views : List View) (place : ℕ) (w : View)
    → ((j : ℕ) (u : View) → j ≢ place → get_elem? views j ≡ some u → F j u) → F place w
    → (j : ℕ) (u : View) → get_elem? (set views place w) j ≡ some u → F j u
fits_set F views place w others mine j u e = ⊎_elim
    (λ (x : (j ≡ place) × (w ≡ u)). subst (λ (y : ℕ × View). F y.0 y.1) (λ i. (sym x.0 i, x.1 i)) mine)
    (λ (x : (j ≢ place) × (get_elem? views j ≡ some u)). others j u x.0 x.1)
    (at_set views place j w u e)

pub fits_more : (F : ℕ → View → Type 0) (views : List View) (w : View)
    → ((j : ℕ) (u : View) → get_elem? views j ≡ some u → F j u) → F (length views) w
    → (j : ℕ) (u : View) → get_elem? (views ++ w ∷ []) j ≡ some u → F j u
fits_more F views w others mine j u e = ⊎_elim
    (λ (x : (j < length views) × (get_elem? views j ≡ some u)). others j u x.1)
    (λ (x : (j ≡ length views) × (w ≡ u)). subst (λ (y : ℕ × View). F y.0 y.1) (λ i. (sym x.0 i, x.1 i)) mine)
    (at_snoc_place views w u j e)

-- what goes on to hold of a view that isn't changed
pub still_fits : (start : Option HistoryState) (log now : List Step) (keeper enrolled given : ℕ) (owner owns : ℕ → ℕ) (j : ℕ) (u : View)
    → Fits start log keeper enrolled owner j u → (u.keeps ≡ true → (now ≡ log) × (given ≡ enrolled)) → Begins log now → enrolled ≤ given
    → (0 < u.number → owns u.number ≡ owner u.number) → (0 < u.number → steps_by u.number now ≡ steps_by u.number log)
    → Fits start now keeper given owns j u
still_fits start log now keeper enrolled given owner owns j u f kept more up same others = record {
  steps = begins-through u.steps log now f.steps more;
  told = begins-through u.told log now f.told more;
  starts = f.starts;
  keeps = λ k. let was = f.keeps k in (was.0, was.1, was.2 ∙ sym (kept k).0, was.3 ∙ sym (kept k).1);
  mine = λ p. let was = f.mine p in (same p ∙ was.0, omega (arith, was.1), was.2 ∙ sym (others p));
}

-- the word, where it is written
pub word_set : (words : List ℕ) (n m : ℕ) → words ≡ n ∷ [] → set words 0 m ≡ m ∷ []
word_set words n m is = ap (λ (ws : List ℕ). set ws 0 m) is

pub word_is : (words : List ℕ) (n : ℕ) → words ≡ n ∷ [] → slice_index words 0 ≡ n
word_is words n is = ap (λ (ws : List ℕ). slice_index ws 0) is

-- a load leaves the word
pub word_left : (words : List ℕ) (n : ℕ) → words ≡ n ∷ [] → set words 0 (slice_index words 0) ≡ n ∷ []
word_left words n is = word_set words n (slice_index words 0) is ∙ ap (λ (m : ℕ). m ∷ []) (word_is words n is)

pub some_is : {A : Type 0} (x y : A) → Some x ≡ Some y → x ≡ y
some_is x y e = cc

-- what the rule tells of a seat joined into the keeper's
pub told : (words : List ℕ) (views : List View) (h : Kept words views) (id : ℕ) (v : View) → v.keeps ≡ true → get_elem? views id ≡ some v
    → Meets v (slice_index words 0)
told words views h id v kept at =
    let f = h.fits id v at in
    let k = f.keeps kept in
    record {
      word = word_is words (length h.log) h.word ∙ ap length (sym k.2);
      fresh = λ n lt. ap (steps_by n) k.2 ∙ h.fresh n (omega (arith, k.3, lt));
      told = subst (Begins v.told) (sym k.2) f.told;
      mine = λ p. (omega (arith, (f.mine p).1, k.3), (f.mine p).2 ∙ ap (steps_by v.number) (sym k.2));
    }

-- the same log, over these views and with these owners
pub same_log : {words now : List ℕ} {views others : List View} (h : Kept words views) (owner : ℕ → ℕ) → now ≡ length h.log ∷ []
    → ((place : ℕ) (v : View) → get_elem? others place ≡ some v → Fits h.start h.log h.keeper h.enrolled owner place v) → Kept now others
same_log h owner word fits = record {
  log = h.log;
  start = h.start;
  keeper = h.keeper;
  enrolled = h.enrolled;
  owner = owner;
  fits = fits;
  word = word;
  legal = h.legal;
  fresh = h.fresh;
}

-- what is left of a seat that was joined into another
pub nobody_fits : (start : Option HistoryState) (log : List Step) (keeper enrolled : ℕ) (owner : ℕ → ℕ) (place : ℕ)
    → Fits start log keeper enrolled owner place nobody
nobody_fits start log keeper enrolled owner place = record {
  steps = begins-nil log;
  told = begins-nil log;
  starts = λ x e. absurd (none≢some x e);
  keeps = λ q. absurd (off q);
  mine = λ p. absurd (omega (arith, p));
}

-- the seat that is joined was there before
pub was_there : (views : List View) (id other : ℕ) (both w : View) → other ≢ id → get_elem? (set views id both) other ≡ some w
    → get_elem? views other ≡ some w
was_there views id other both w apart there = ⊎_elim
    (λ (x : (other ≡ id) × (both ≡ w)). absurd (apart x.0))
    (λ (x : (other ≢ id) × (get_elem? views other ≡ some w)). x.1)
    (at_set views id other both w there)
