-- The pages of a list lose their flags one after another, and the next of them is found.
use Rattle.std.proofs.lemmas.Bool.{cond_both, Decides.nat_tests}
use Rattle.std.proofs.lemmas.List.Elements.{Contains-get_or}
use Rattle.std.proofs.Common.{ap, if◌then◌else◌, ◌&&◌, nat_le, nat_lt}
use Rattle.std.proofs.lemmas.{Bool.{true≢false, cases_eq}, List.{ext_get_or, drop_all, length-set, length-replicate, get_or-replicate}}
use Rattle.std.proofs.{lemmas.{List.get_or-set_other, Grind.get_or-set_at}, Common.{◌≡◌, ℕ, zero, suc, ◌+◌, ◌<◌, ◌≤◌, inl, inr, Bool, true}}
use Rattle.std.proofs.Common.{false, List, [], ◌∷◌, length, replicate, drop, get_or, Contains, refl, sym, ◌∙◌, subst, add-one, arith}
use Rattle.std.proofs.Math.{ListN.set, Seq.drop-cons}
use Rattle.paged_memory.specs.Pages.{is_written}
use Rattle.paged_memory.specs.Listed.{IsLeast}

-- each page with a flag is yet to come in the list
pub record AreAhead (flags : List Bool) (pages : List ℕ) (index number : ℕ) : Type 0 where
  pub count : length flags ≡ number
  pub ahead : (page : ℕ) → page < number → is_written flags page ≡ true → Contains (drop index pages) page

rest_has : (x : ℕ) (xs : List ℕ) (page k : ℕ) → k < length (x ∷ xs) → get_or (x ∷ xs) k page ≡ page → (x ≡ page → ⊥) → Contains xs page
rest_has x xs page zero here same apart = absurd (apart same)
rest_has x xs page (suc k) here same apart = let below : k < length xs = omega arith in (k, below, same)

none_has : (page k : ℕ) → k < length {A = ℕ} [] → ⊥
none_has page k here = absurd (omega arith)

-- the page at the index loses its flag
pub one_cleared : (flags : List Bool) (pages : List ℕ) (index number : ℕ) → index < length pages → get_or pages index 0 < number →
    AreAhead flags pages index number → AreAhead (set flags (get_or pages index 0) false) pages (index + 1) number
one_cleared flags pages index number here inside is = record {
  count = length-set flags (get_or pages index 0) false ∙ is.count;
  ahead = λ page below flag. elim (cases_eq page (get_or pages index 0)) [
    | inl same ↦ absurd (true≢false (sym flag ∙ get_or-set_at flags (get_or pages index 0) page false true same (omega (arith, is.count))))
    | inr apart ↦ later page below apart (sym (get_or-set_other flags (get_or pages index 0) page false true apart) ∙ flag)
  ];
}
  where
    later : (page : ℕ) → page < number → (page ≡ get_or pages index 0 → ⊥) → is_written flags page ≡ true →
        Contains (drop (index + 1) pages) page
    later page below apart flag =
        let Has : List ℕ → Type 0 = λ xs. Contains xs page in
        let found : Contains (get_or pages index 0 ∷ drop (suc index) pages) page =
        subst Has (drop-cons pages index 0 here) (is.ahead page below flag) in
        let rest : Contains (drop (suc index) pages) page =
        rest_has (get_or pages index 0) (drop (suc index) pages) page found.0 found.1 found.2 (λ e. apart (sym e)) in
        let At : ℕ → Type 0 = λ k. Contains (drop k pages) page in
        subst At (sym (add-one index)) rest

-- after the whole list no page has a flag
pub all_cleared : (flags : List Bool) (pages : List ℕ) (index number : ℕ) → length pages ≤ index → AreAhead flags pages index number →
    flags ≡ replicate number false
all_cleared flags pages index number end is =
    ext_get_or true flags (replicate number false) (is.count ∙ sym (length-replicate number false))
    (λ page here. none page (omega (arith, is.count)) (get_or flags page true) refl
    ∙ sym (get_or-replicate number page false true (omega (arith, is.count))))
  where
    none : (page : ℕ) → page < number → (f : Bool) → is_written flags page ≡ f → is_written flags page ≡ false
    none page below false is_f = is_f
    none page below true is_f =
        let Has : List ℕ → Type 0 = λ xs. Contains xs page in
        let found : Contains [] page = subst Has (drop_all index pages end) (is.ahead page below is_f) in
        absurd (none_has page found.0 found.1)

-- ---- the least of the numbers of a list that isn't below a bound

pub least_of_none : (numbers : List ℕ) (from end : ℕ) → from ≤ end → IsLeast numbers from end 0 end
least_of_none numbers from end ordered = record {
  first = ordered;
  last = omega arith;
  found = inl refl;
  below = λ k none. absurd (omega (arith, none));
}

both : (from n least : ℕ) → (nat_le from n && nat_lt n least) ≡ true → (from ≤ n) × (n < least)
both from n least h = grind (arith, nat_tests)

either : (from n least : ℕ) → (nat_le from n && nat_lt n least) ≡ false → from ≤ n → least ≤ n
either from n least h above = grind (arith, nat_tests)

-- one number more was looked at
pub one_looked_at : (numbers : List ℕ) (from end index least next : ℕ) → index < length numbers →
    next ≡ (if nat_le from (get_or numbers index 0) && nat_lt (get_or numbers index 0) least then get_or numbers index 0 else least) →
    IsLeast numbers from end index least → IsLeast numbers from end (index + 1) next
one_looked_at numbers from end index least next here is so_far =
    let n : ℕ = get_or numbers index 0 in
    subst (λ (k : ℕ). IsLeast numbers from end (index + 1) k) (sym is)
    (cond_both (nat_le from n && nat_lt n least) n least (λ (k : ℕ). IsLeast numbers from end (index + 1) k) taken left)
  where
    taken : (nat_le from (get_or numbers index 0) && nat_lt (get_or numbers index 0) least) ≡ true →
        IsLeast numbers from end (index + 1) (get_or numbers index 0)
    taken test =
        let is_near : (from ≤ get_or numbers index 0) × (get_or numbers index 0 < least) = both from (get_or numbers index 0) least test in
        record {
          first = is_near.0;
          last = omega (arith, is_near.1, so_far.last);
          found = inr (Contains-get_or numbers index 0 here);
          below = λ k low high. elim (cases_eq k index) [
            | inl same ↦ omega (arith, ap (λ (j : ℕ). get_or numbers j 0) same)
            | inr apart ↦ omega (arith, so_far.below k (omega (arith, low, apart)) high, is_near.1)
          ];
        }

    left : (nat_le from (get_or numbers index 0) && nat_lt (get_or numbers index 0) least) ≡ false →
        IsLeast numbers from end (index + 1) least
    left test = record {
      first = so_far.first;
      last = so_far.last;
      found = so_far.found;
      below = λ k low high. elim (cases_eq k index) [
        | inl same ↦
            let at : get_or numbers k 0 ≡ get_or numbers index 0 = ap (λ (j : ℕ). get_or numbers j 0) same in
            omega (arith, at, either from (get_or numbers index 0) least test (omega (arith, at, high)))
        | inr apart ↦ so_far.below k (omega (arith, low, apart)) high
      ];
    }

-- all were
pub all_looked_at : (numbers : List ℕ) (from end index least : ℕ) → length numbers ≤ index → IsLeast numbers from end index least →
    IsLeast numbers from end (length numbers) least
all_looked_at numbers from end index least ended is = record {
  first = is.first;
  last = is.last;
  found = is.found;
  below = λ k low high. is.below k (omega (arith, low, ended)) high;
}
