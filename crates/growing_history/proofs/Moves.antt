-- Each move of a seat keeps the rule.
use Rattle.std.proofs.Common.{◌≡◌, ◌≢◌, ℕ, zero, suc, ◌+◌, ◌%◌, ◌^◌, ◌<◌, ◌≤◌, ⊎_elim, List, [], ◌∷◌, ◌++◌, length, set, refl, sym, ap, ◌∙◌}
use Rattle.std.proofs.Common.{subst, arith}
use Rattle.std.proofs.Common.{true, false, length-append}
use Rattle.std.specs.Prelude.{slice_index, None, Some}
use mathlib.Core.Option.{some, some-injective, some-ne-none}
use lib.ListN.{get_elem?}
use Rattle.atomic_table.specs.Table.{keeps, Allows, Splits, Joins}
use Rattle.atomic_table.proofs.Lists.{at_set}
use Rattle.pair_history.specs.HistoryState.{HistoryState}
use Rattle.growing_history.specs.Steps.{Step}
use Rattle.growing_history.specs.LogState.{LegalSteps}
use Rattle.growing_history.specs.Views.{View, unopened, nobody, keeper_view, Fits, Kept, Rule}
use Rattle.growing_history.specs.Plays.{Opens, one_more, newcomer, with_member, without_member, member_of, Met, stepped, Counted}
use Rattle.growing_history.specs.Plays.{saw, Looks, badge_of, heard}
use Rattle.growing_history.specs.laws.Prefixes.{begins-self, begins-nil, begins-more, steps_by-own, steps_by-other}
use Rattle.growing_history.proofs.Fitting.{off, none≢some, now_owned, owned_here, owned_else, fits_set, fits_more, still_fits, word_set}
use Rattle.growing_history.proofs.Fitting.{word_is, word_left, some_is, told, same_log, nobody_fits, was_there}

-- the table at the start
pub begins : Kept (0 ∷ []) (unopened ∷ [])
begins = record {
  log = [];
  start = None;
  keeper = 0;
  enrolled = 0;
  owner = λ n. 0;
  fits = one;
  word = refl;
  legal = λ h e. absurd (none≢some h e);
  fresh = λ n lt. refl;
}
  where
    here : Fits None [] 0 0 (λ n. 0) 0 unopened
    here = record {
      steps = ([], refl);
      told = ([], refl);
      starts = λ h e. e;
      keeps = λ k. (refl, refl, refl, refl);
      mine = λ p. absurd (omega (arith, p));
    }

    one : (place : ℕ) (v : View) → get_elem? (unopened ∷ []) place ≡ some v → Fits None [] 0 0 (λ n. 0) place v
    one zero v e = subst (Fits None [] 0 0 (λ n. 0) 0) (some-injective _ _ e) here
    one (suc place) v e = absurd (some-ne-none v (sym e))

module _ {S : Type 0} where
  -- the keeper gives out the next number
  pub enrolls : (id : ℕ) (v : View) → v.keeps ≡ true → Splits (Rule {S = S}) id v (one_more v) (newcomer v)
  enrolls id v kept s h at =
      let f = h.fits id v at in
      let k = f.keeps kept in
      let left = set s.views id (one_more v) in
      let n : ℕ = v.enrolled + 1 in
      let owns = now_owned h.owner n (length left) in
      let F : ℕ → View → Type 0 = Fits h.start h.log h.keeper (h.enrolled + 1) owns in
      let same : (m : ℕ) → m ≤ h.enrolled
      → owns m ≡ h.owner m = λ m le. owned_else h.owner n (length left) m (λ e. omega (arith, e, k.3, le)) in
      let other : (j : ℕ) (u : View) → j ≢ id → get_elem? s.views j ≡ some u → F j u = λ j u apart e.
      let g = h.fits j u e in
      still_fits h.start h.log h.log h.keeper h.enrolled (h.enrolled + 1) h.owner owns j u g
      (λ q. absurd (apart ((g.keeps q).0 ∙ sym k.0))) (begins-self h.log) (omega arith) (λ p. same u.number (g.mine p).1) (λ p. refl) in
      let mine : F id (one_more v) = record {
        steps = f.steps;
        told = f.told;
        starts = f.starts;
        keeps = λ q. (k.0, k.1, k.2, ap (λ m. m + 1) k.3);
        mine = λ p. let was = f.mine p in (same v.number was.1 ∙ was.0, omega (arith, was.1), was.2);
      } in
      let new : F (length left) (newcomer v) = record {
        steps = f.steps;
        told = begins-nil h.log;
        starts = f.starts;
        keeps = λ q. absurd (off q);
        mine = λ p. (owned_here h.owner n (length left), omega (arith, k.3), sym (h.fresh n (omega (arith, k.3))));
      } in
      record {
        log = h.log;
        start = h.start;
        keeper = h.keeper;
        enrolled = h.enrolled + 1;
        owner = owns;
        fits = fits_more F left (newcomer v) (fits_set F s.views id (one_more v) other mine) new;
        word = h.word;
        legal = h.legal;
        fresh = λ m lt. h.fresh m (omega (arith, lt));
      }

  -- a member's seat is joined into the keeper's
  pub takes_in : (id : ℕ) (v : View) (other : ℕ) (w : View) → v.keeps ≡ true → Joins (Rule {S = S}) id v other w (with_member v w) nobody
  takes_in id v other w kept s h at apart there =
      let f = h.fits id v at in
      let k = f.keeps kept in
      let both = with_member v w in
      let was = was_there s.views id other both w apart there in
      let g = h.fits other w was in
      let owns = now_owned h.owner w.number id in
      let F : ℕ → View → Type 0 = Fits h.start h.log h.keeper h.enrolled owns in
      let rest : (j : ℕ) (u : View) → j ≢ other → j ≢ id → get_elem? s.views j ≡ some u → F j u = λ j u no yes e.
      let o = h.fits j u e in
      still_fits h.start h.log h.log h.keeper h.enrolled h.enrolled h.owner owns j u o
      (λ q. (refl, refl)) (begins-self h.log) (omega arith)
      (λ p. owned_else h.owner w.number id u.number
      (λ (same : u.number ≡ w.number). no (sym (o.mine p).0 ∙ (ap h.owner same ∙ (g.mine (subst (λ m. 0 < m) same p)).0))))
      (λ p. refl) in
      let mine : F id both = record {
        steps = f.steps;
        told = g.steps;
        starts = f.starts;
        keeps = f.keeps;
        mine = λ p. (owned_here h.owner w.number id, (g.mine p).1, (g.mine p).2);
      } in
      same_log h owns h.word
      (fits_set F (set s.views id both) other nobody
      (λ j u no e. ⊎_elim
      (λ (x : (j ≡ id) × (both ≡ u)). subst (λ (y : ℕ × View). F y.0 y.1) (λ i. (sym x.0 i, x.1 i)) mine)
      (λ (x : (j ≢ id) × (get_elem? s.views j ≡ some u)). rest j u no x.0 x.1)
      (at_set s.views id j both u e))
      (nobody_fits h.start h.log h.keeper h.enrolled owns other))

  -- and is split off again
  pub gives_back : (id : ℕ) (v : View) → v.keeps ≡ true → Splits (Rule {S = S}) id v (without_member v) (member_of v)
  gives_back id v kept s h at =
      let f = h.fits id v at in
      let k = f.keeps kept in
      let left = set s.views id (without_member v) in
      let owns = now_owned h.owner v.number (length left) in
      let F : ℕ → View → Type 0 = Fits h.start h.log h.keeper h.enrolled owns in
      let other : (j : ℕ) (u : View) → j ≢ id → get_elem? s.views j ≡ some u → F j u = λ j u apart e.
      let o = h.fits j u e in
      still_fits h.start h.log h.log h.keeper h.enrolled h.enrolled h.owner owns j u o
      (λ q. (refl, refl)) (begins-self h.log) (omega arith)
      (λ p. owned_else h.owner v.number (length left) u.number
      (λ (same : u.number ≡ v.number). apart (sym (o.mine p).0 ∙ (ap h.owner same ∙ (f.mine (subst (λ m. 0 < m) same p)).0))))
      (λ p. refl) in
      let mine : F id (without_member v) = record {
        steps = f.steps;
        told = begins-nil h.log;
        starts = f.starts;
        keeps = f.keeps;
        mine = λ p. absurd (omega (arith, p));
      } in
      let new : F (length left) (member_of v) = record {
        steps = f.steps;
        told = begins-nil h.log;
        starts = f.starts;
        keeps = λ q. absurd (off q);
        mine = λ p. (owned_here h.owner v.number (length left), (f.mine p).1, (f.mine p).2);
      } in
      same_log h owns h.word
      (fits_more F left (member_of v) (fits_set F s.views id (without_member v) other mine) new)

  -- a badge of a seat is split off
  pub tells : (id : ℕ) (v : View) → Splits (Rule {S = S}) id v v (badge_of v)
  tells id v s h at =
      let f = h.fits id v at in
      let left = set s.views id v in
      let F : ℕ → View → Type 0 = Fits h.start h.log h.keeper h.enrolled h.owner in
      let new : F (length left) (badge_of v) = record {
        steps = f.steps;
        told = begins-nil h.log;
        starts = f.starts;
        keeps = λ q. absurd (off q);
        mine = λ p. absurd (omega (arith, p));
      } in
      same_log h h.owner h.word
      (fits_more F left (badge_of v) (fits_set F s.views id v (λ j u apart e. h.fits j u e) f) new)

  -- a badge is joined into a seat
  pub hears : (id : ℕ) (v : View) (other : ℕ) (w : View) → Joins (Rule {S = S}) id v other w (heard v w) nobody
  hears id v other w s h at apart there =
      let f = h.fits id v at in
      let both = heard v w in
      let was = was_there s.views id other both w apart there in
      let F : ℕ → View → Type 0 = Fits h.start h.log h.keeper h.enrolled h.owner in
      let mine : F id both = record {
        steps = f.steps;
        told = (h.fits other w was).steps;
        starts = f.starts;
        keeps = f.keeps;
        mine = f.mine;
      } in
      same_log h h.owner h.word
      (fits_set F (set s.views id both) other nobody (λ j u no e. fits_set F s.views id both (λ j u apart e. h.fits j u e) mine j u e)
      (nobody_fits h.start h.log h.keeper h.enrolled h.owner other))

  -- the first seat gets to know where the history starts
  pub opens : (id slots : ℕ) (h : HistoryState) (carried : List (ℕ × S)) → LegalSteps h []
      → Allows (Rule {S = S}) slots id (unopened, carried) 0 (λ n. n) (λ n m. Opens h unopened n m.0 × (m.1 ≡ carried))
  opens id slots start carried lawful s h homes at bound =
      let f = h.fits id unopened at in
      let k = f.keeps refl in
      let none : h.start ≡ None = sym k.1 in
      let w = keeper_view start 0 [] [] in
      let F : ℕ → View → Type 0 = Fits (Some start) h.log h.keeper h.enrolled h.owner in
      let other : (j : ℕ) (u : View) → j ≢ id → get_elem? s.views j ≡ some u → F j u = λ j u apart e.
      let o = h.fits j u e in
      record {
        steps = o.steps;
        told = o.told;
        starts = λ x q. absurd (none≢some x (sym none ∙ o.starts x q));
        keeps = λ q. absurd (apart ((o.keeps q).0 ∙ sym k.0));
        mine = o.mine;
      } in
      let mine : F id w = record {
        steps = f.steps;
        told = f.told;
        starts = λ x q. q;
        keeps = λ q. (k.0, refl, k.2, k.3);
        mine = λ p. absurd (omega (arith, p));
      } in
      let kept : Kept (set s.words 0 (slice_index s.words 0)) (set s.views id w) = record {
        log = h.log;
        start = Some start;
        keeper = h.keeper;
        enrolled = h.enrolled;
        owner = h.owner;
        fits = fits_set F s.views id w other mine;
        word = word_left s.words (length h.log) h.word;
        legal = λ x e. subst (λ (y : HistoryState). LegalSteps y h.log) (some_is start x e) (subst (LegalSteps start) k.2 lawful);
        fresh = h.fresh;
      } in
      (w, keeps, tt, kept, (refl, refl))

  -- the keeper looks
  pub meets : (id slots : ℕ) (v : View) (carried : List (ℕ × S)) → v.keeps ≡ true
      → Allows (Rule {S = S}) slots id (v, carried) 0 (λ n. n) (λ n m. Met v n m.0 × (m.1 ≡ carried))
  meets id slots v carried kept s h homes at bound =
      let f = h.fits id v at in
      let F : ℕ → View → Type 0 = Fits h.start h.log h.keeper h.enrolled h.owner in
      let after : Kept (set s.words 0 (slice_index s.words 0)) (set s.views id v) = same_log h h.owner
      (word_left s.words (length h.log) h.word)
      (fits_set F s.views id v (λ j u apart e. h.fits j u e) f) in
      (v, keeps, tt, after, ((refl, told s.words s.views h id v kept at), refl))

  -- another seat looks
  pub looks : (id slots : ℕ) (v : View) (carried : List (ℕ × S)) → v.keeps ≡ false
      → Allows (Rule {S = S}) slots id (v, carried) 0 (λ n. n) (λ n m. Looks v n m.0 × (m.1 ≡ carried))
  looks id slots v carried not s h homes at bound =
      let f = h.fits id v at in
      let w = saw v h.log in
      let F : ℕ → View → Type 0 = Fits h.start h.log h.keeper h.enrolled h.owner in
      let mine : F id w = record {
        steps = begins-self h.log;
        told = begins-nil h.log;
        starts = f.starts;
        keeps = λ q. absurd (off (sym not ∙ q));
        mine = f.mine;
      } in
      let after : Kept (set s.words 0 (slice_index s.words 0)) (set s.views id w) = same_log h h.owner
      (word_left s.words (length h.log) h.word)
      (fits_set F s.views id w (λ j u apart e. h.fits j u e) mine) in
      let tells : Looks v (slice_index s.words 0) w = record {
        now = refl;
        word = word_is s.words (length h.log) h.word;
        steps = f.steps;
        told = f.told;
        mine = λ p. (f.mine p).2;
        legal = λ x e. h.legal x (f.starts x e);
      } in
      (w, keeps, tt, after, (tells, refl))

  -- the keeper's step: the word rises by one, and the log by the step
  pub counts : (id slots : ℕ) (v : View) (carried : List (ℕ × S)) (start : HistoryState) (x : Step)
      → v.keeps ≡ true → v.start ≡ Some start → x.by ≡ v.number → length v.steps < 2 ^ 62 → LegalSteps start (v.steps ++ x ∷ [])
      → Allows (Rule {S = S}) slots id (v, carried) 0 (λ n. (n + 1) % 2 ^ 64) (λ n m. Counted x v n m.0 × (m.1 ≡ carried))
  counts id slots v carried start x kept starts by room lawful s h homes at bound =
      let f = h.fits id v at in
      let k = f.keeps kept in
      let w = stepped x v in
      let log = h.log ++ x ∷ [] in
      let longer : length log ≡ length h.log + 1 = length-append h.log (x ∷ []) in
      let same : length v.steps ≡ length h.log = ap length k.2 in
      let F : ℕ → View → Type 0 = Fits h.start log h.keeper h.enrolled h.owner in
      let other : (j : ℕ) (u : View) → j ≢ id → get_elem? s.views j ≡ some u → F j u = λ j u apart e.
      let o = h.fits j u e in
      still_fits h.start h.log log h.keeper h.enrolled h.enrolled h.owner h.owner j u o
      (λ q. absurd (apart ((o.keeps q).0 ∙ sym k.0))) (begins-more h.log h.log (x ∷ []) (begins-self h.log)) (omega arith) (λ p. refl)
      (λ p. steps_by-other u.number h.log x
      (λ (e' : x.by ≡ u.number). let n : v.number ≡ u.number = sym by ∙ e' in
      apart (sym (o.mine p).0 ∙ (ap h.owner (sym n) ∙ (f.mine (subst (λ m. 0 < m) (sym n) p)).0)))) in
      let mine : F id w = record {
        steps = ([], ap (λ l. l ++ x ∷ []) (sym k.2) ∙ sym (Rattle.std.proofs.lemmas.List.append-nil (v.steps ++ x ∷ [])));
        told = begins-more v.told h.log (x ∷ []) f.told;
        starts = f.starts;
        keeps = λ q. (k.0, k.1, ap (λ l. l ++ x ∷ []) k.2, k.3);
        mine = λ p. let was = f.mine p in (was.0, was.1, ap (λ l. l ++ x ∷ []) was.2 ∙ sym (steps_by-own v.number h.log x by));
      } in
      let risen : (slice_index s.words 0 + 1) % 2 ^ 64 ≡ length log =
      let at_word : slice_index s.words 0 ≡ length h.log = word_is s.words (length h.log) h.word in omega arith in
      let after : Kept (set s.words 0 ((slice_index s.words 0 + 1) % 2 ^ 64)) (set s.views id w) = record {
        log = log;
        start = h.start;
        keeper = h.keeper;
        enrolled = h.enrolled;
        owner = h.owner;
        fits = fits_set F s.views id w other mine;
        word = word_set s.words (length h.log) ((slice_index s.words 0 + 1) % 2 ^ 64) h.word ∙ ap (λ (m : ℕ). m ∷ []) risen;
        legal = λ y e. subst (λ (z : HistoryState). LegalSteps z log) (some_is start y (sym starts ∙ (k.1 ∙ e)))
            (subst (λ l. LegalSteps start (l ++ x ∷ [])) k.2 lawful);
        fresh = λ n lt. steps_by-other n h.log x (λ (e : x.by ≡ n). let m : v.number ≡ n = sym by ∙ e in
            absurd (omega (arith, m, lt, (f.mine (omega (arith, m, lt))).1))) ∙ h.fresh n lt;
      } in
      (w, keeps, tt, after, ((refl, told s.words s.views h id v kept at), refl))
