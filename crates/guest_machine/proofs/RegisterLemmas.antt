-- The values of x1 to x31 among those of x0 to x31.
use Rattle.std.proofs.Common.{◌≡◌, ℕ, zero, suc, ◌+◌, ◌%◌, ◌<◌, ◌^◌, if◌then◌else◌, inl, inr, Bool}
use Rattle.std.proofs.Common.{List, ◌∷◌, length, drop, get_or, sym, ap, ◌∙◌, add-one, arith}
use Rattle.std.proofs.Math.ListN.{set}
use Rattle.std.proofs.lemmas.Bool.{cases_eq, ne_eqb}
use Rattle.std.proofs.lemmas.List.{ext_get_or, length-drop, length-set, get_or-drop, get_or-set_same, get_or-set_other}
use Rattle.rv64_core.specs.Registers.{register, with_register}

-- the first values stand in a list as they stand in the registers
abbrev pub Agree : List ℕ → List ℕ → ℕ → Type 0
Agree regs values n = (k : ℕ) → k < n → get_or regs (k + 1) 0 ≡ get_or values k 0

pub all_taken : (regs values : List ℕ) → length regs ≡ 32 → length values ≡ 31 → Agree regs values 31 → values ≡ drop 1 regs
all_taken regs values count long agree =
    ext_get_or 0 values (drop 1 regs) (omega (arith, long, count, length-drop 1 regs))
    (λ i here.
    let place : i + 1 ≡ 1 + i = omega arith in
    sym (agree i (omega arith)) ∙ ap (λ (k : ℕ). get_or regs k 0) place ∙ sym (get_or-drop 1 regs i 0))

pub one_taken : (regs values : List ℕ) (i x : ℕ) → i < 31 → length values ≡ 31 → x ≡ register regs ((i + 1) % 2 ^ 5) → Agree regs values i →
    Agree regs (set values i x) (i + 1)
one_taken regs values i x within long is agree k below =
    elim (cases_eq k i) [
      | inl same ↦
          let place : k + 1 ≡ (i + 1) % 2 ^ 5 = omega arith in
          ap (λ (n : ℕ). get_or regs n 0) place ∙ sym is ∙ sym (get_or-set_same values i x 0 (omega arith))
          ∙ ap (λ (n : ℕ). get_or (set values i x) n 0) (sym same)
      | inr apart ↦ agree k (omega (arith, below, apart)) ∙ sym (get_or-set_other values i k x 0 apart)
    ]

-- registers that are given their values one by one
pub record AreGiven (regs values : List ℕ) (n : ℕ) : Type 0 where
  pub count : length regs ≡ 32
  pub zero_first : get_or regs 0 0 ≡ 0
  pub agree : Agree regs values n

pub all_given : (regs values : List ℕ) → length values ≡ 31 → AreGiven regs values 31 → regs ≡ 0 ∷ values
all_given regs values long given = ext_get_or 0 regs (0 ∷ values) (omega (arith, given.count, long)) (each regs values given)
  where
    each : (xs ys : List ℕ) → AreGiven xs ys 31 → (i : ℕ) → i < length xs → get_or xs i 0 ≡ get_or (0 ∷ ys) i 0
    each xs ys g zero here = g.zero_first
    each xs ys g (suc k) here = ap (λ (n : ℕ). get_or xs n 0) (sym (add-one k)) ∙ g.agree k (omega (arith, here, g.count))

pub one_given : (regs values after : List ℕ) (i : ℕ) → i < 31 → length values ≡ 31 →
    after ≡ with_register regs ((i + 1) % 2 ^ 5) (get_or values i 0) → AreGiven regs values i → AreGiven after values (i + 1)
one_given regs values after i within long is given =
    let place : (i + 1) % 2 ^ 5 ≡ i + 1 = omega arith in
    let written : after ≡ set regs (i + 1) (get_or values i 0) =
    is ∙ ap (λ (r : ℕ). with_register regs r (get_or values i 0)) place
    ∙ ap (λ (b : Bool). if b then regs else set regs (i + 1) (get_or values i 0)) (ne_eqb (i + 1) 0 (λ e. omega arith)) in
    record {
      count = ap length written ∙ length-set regs (i + 1) (get_or values i 0) ∙ given.count;
      zero_first = ap (λ (x : List ℕ). get_or x 0 0) written ∙ get_or-set_other regs (i + 1) 0 (get_or values i 0) 0 (λ e. omega arith)
          ∙ given.zero_first;
      agree = λ k below. ap (λ (x : List ℕ). get_or x (k + 1) 0) written ∙ elim (cases_eq k i) [
        | inl same ↦
            let here : k + 1 ≡ i + 1 = omega arith in
            ap (λ (n : ℕ). get_or (set regs (i + 1) (get_or values i 0)) n 0) here
            ∙ get_or-set_same regs (i + 1) (get_or values i 0) 0 (omega (arith, given.count)) ∙ ap (λ (n : ℕ). get_or values n 0) (sym same)
        | inr apart ↦ get_or-set_other regs (i + 1) (k + 1) (get_or values i 0) 0 (λ e. apart (omega arith))
            ∙ given.agree k (omega (arith, below, apart))
      ];
    }
