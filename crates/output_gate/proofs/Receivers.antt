-- Laws of the clients to whom a frame goes, as the loop over them wants them.
use Rattle.std.proofs.Common.{◌≡◌, ℕ, zero, suc, ◌+◌, ◌-◌, ◌<◌, ◌≤◌, List, [], ◌∷◌, refl, sym, ap, ◌∙◌}
use Rattle.std.proofs.Common.{arith, Bool, true, false, cond, ⊎_elim}
use Rattle.std.proofs.lemmas.Bool.{cases_lt, le-leb}
use Rattle.std.specs.Prelude.{◌&&◌}
use Rattle.frame_ports.specs.{Addresses.{addressed, clients_from, clients_of}, Targets.{has_target, AreTargets}}

-- the clients from c on, of n
abbrev pub from_on : ℕ → ℕ → List ℕ → List ℕ
from_on n c bytes = clients_from (n + 1 - c) c bytes

step_count : (n c : ℕ) → c ≤ n → n + 1 - c ≡ suc (n + 1 - (c + 1))
step_count n c h = omega arith

next : (n c : ℕ) (bytes : List ℕ) → c ≤ n
    → from_on n c bytes ≡ cond (addressed bytes c) (c ∷ from_on n (c + 1) bytes) (from_on n (c + 1) bytes)
next n c bytes h = ap (λ k. clients_from k c bytes) (step_count n c h)

module _ (n c : ℕ) (bytes : List ℕ) (targets : ℕ) (are : AreTargets n bytes targets) (low : 1 ≤ c) (high : c ≤ n) (most : n ≤ 16) where
  is_addressed : has_target targets c ≡ addressed bytes c
  is_addressed = are c low (omega arith) ∙ ap (λ t. t && addressed bytes c) (le-leb c n high)

  pub next_yes : has_target targets c ≡ true → from_on n c bytes ≡ c ∷ from_on n (c + 1) bytes
  next_yes e = next n c bytes high ∙ ap (λ t. cond t (c ∷ from_on n (c + 1) bytes) (from_on n (c + 1) bytes)) (sym is_addressed ∙ e)

  pub next_no : has_target targets c ≡ false → from_on n c bytes ≡ from_on n (c + 1) bytes
  next_no e = next n c bytes high ∙ ap (λ t. cond t (c ∷ from_on n (c + 1) bytes) (from_on n (c + 1) bytes)) (sym is_addressed ∙ e)

-- Of a span outside which no client is addressed: nothing is before it, and nothing from its end on.
module _ (n : ℕ) (bytes : List ℕ) (targets a b : ℕ) (are : AreTargets n bytes targets) (most : n ≤ 16)
    (all : (c : ℕ) → 1 ≤ c → c ≤ n → has_target targets c ≡ true → (a ≤ c) × (c < b)) where
  outside : (c : ℕ) → 1 ≤ c → c ≤ n → (a ≤ c → c < b → ⊥) → has_target targets c ≡ false
  outside c low high out = by (has_target targets c) refl
    where
      by : (t : Bool) → has_target targets c ≡ t → has_target targets c ≡ false
      by true e = let x = all c low high e in absurd (out x.0 x.1)
      by false e = e

  gone : (c : ℕ) → n < c → from_on n c bytes ≡ []
  gone c long = let none : n + 1 - c ≡ 0 = omega arith in ap (λ k. clients_from k c bytes) none

  skip : (k c : ℕ) → 1 ≤ c → ((d : ℕ) → c ≤ d → d < c + k → a ≤ d → d < b → ⊥) → from_on n c bytes ≡ from_on n (c + k) bytes
  skip zero c low out = let same : c ≡ c + 0 = omega arith in ap (λ j. from_on n j bytes) same
  skip (suc k) c low out =
      let same : c + 1 + k ≡ c + suc k = omega arith in
      ⊎_elim
      (λ long. gone c long ∙ sym (gone (c + suc k) (omega (arith, long))))
      (λ high.
      next_no n c bytes targets are low high most (outside c low high (λ x y. out c (omega arith) (omega arith) x y))
      ∙ skip k (c + 1) (omega arith) (λ d x y. out d (omega (arith, x)) (omega (arith, y)))
      ∙ ap (λ j. from_on n j bytes) same)
      (cases_lt n c)

  pub span_starts : 1 ≤ a → from_on n a bytes ≡ clients_of n bytes
  span_starts low =
      let there : 1 + (a - 1) ≡ a = omega arith in
      let whole : n + 1 - 1 ≡ n = omega arith in
      sym (skip (a - 1) 1 (omega arith) (λ d x y z w. absurd (omega (arith, y, z))) ∙ ap (λ j. from_on n j bytes) there)
      ∙ ap (λ k. clients_from k 1 bytes) whole

  pub span_ends : (i : ℕ) → 1 ≤ i → b ≤ i → from_on n i bytes ≡ []
  span_ends i low over =
      skip (n + 1) i low (λ d x y z w. absurd (omega (arith, x, w, over))) ∙ gone (i + (n + 1)) (omega arith)
