-- The checkpoints that are pending have consecutive numbers: what is known of each, and what an acknowledgement leaves.
use Rattle.std.proofs.Common.{◌≡◌, ℕ, ◌+◌, ◌-◌, ◌*◌, ◌<◌, ◌≤◌, List, [], ◌∷◌, ◌++◌, length, refl, sym, ap, ◌∙◌, subst, arith, All, Bool, true, false, cond}
use Rattle.std.proofs.lemmas.Bool.Decides.{nat_tests}
use Rattle.std.proofs.lemmas.List.{append-nil, length-append}
use Rattle.std.proofs.lemmas.List.Elements.{All-nil, All-cons, All-head, All-tail}
use Rattle.std.specs.Prelude.{nat_le, not, if◌then◌else◌}
use Rattle.failover.specs.declared.mode.Mode.{Mode}
use Rattle.failover.specs.declared.mode.Mode.TheVariants as modes
use Rattle.output_gate.specs.Epochs.{Epoch, IsEpoch, frames_of, after_number}
use Rattle.pair_record.specs.Modes.{is_alone}
use Rattle.pair_record.specs.Window.{NumberedFrom}
use Rattle.pair_nodes.specs.PrimaryCalls.{has_full}
use Rattle.pair_record.specs.laws.Windows.{Taken, taken}
use Rattle.std.proofs.lemmas.Bool.{leb-true, leb-false}

pub below_all : (n m : ℕ) (es : List Epoch) → NumberedFrom n es → n + length es ≤ m → All (λ e. e.number < m) es
below_all n m [] h l = All-nil (λ e. e.number < m)
below_all n m (e ∷ es) h l = All-cons (λ e. e.number < m) e es (omega (arith, h.0)) (below_all (n + 1) m es h.1 (omega arith))

-- what an acknowledgement of n leaves of epochs from a on
pub record Left (n a : ℕ) (es : List Epoch) : Type 0 where
  pub few : length (after_number n es) ≤ length es
  pub count : length es - length (after_number n es) ≡ (n + 1) - a
  pub numbered : NumberedFrom ((a + length es) - length (after_number n es)) (after_number n es)

-- what stays is numbered from b on
made : (n a b : ℕ) (es stay : List Epoch) → after_number n es ≡ stay → b + length stay ≡ a + length es → (n + 1) - a ≡ b - a → a ≤ b
    → NumberedFrom b stay → Left n a es
made n a b es stay is counts gone from numbers =
    let long : length (after_number n es) ≡ length stay = ap (λ (l : List Epoch). length l) is in
    let place : b ≡ (a + length es) - length (after_number n es) = omega (arith, long, counts) in
    record {
      few = omega (arith, long, counts, from);
      count = omega (arith, long, counts, from, gone);
      numbered = subst (λ m. NumberedFrom m (after_number n es)) place (subst (NumberedFrom b) (sym is) numbers);
    }

by_test : (n a : ℕ) (es : List Epoch) (t : Taken n a es []) → after_number n es ≡ t.stay → NumberedFrom (cond (nat_le a n) (n + 1) a) t.stay
    → (b : Bool) → nat_le a n ≡ b → Left n a es
by_test n a es t rest numbers true on =
    let first : cond (nat_le a n) (n + 1) a ≡ n + 1 = ap (λ b. cond b (n + 1) a) on in
    let from : a ≤ n = leb-true a n on in
    made n a (n + 1) es t.stay rest (ap (λ m. m + length t.stay) (sym first) ∙ t.count) refl (omega (arith, from))
    (subst (λ m. NumberedFrom m t.stay) first numbers)
by_test n a es t rest numbers false off =
    let first : cond (nat_le a n) (n + 1) a ≡ a = ap (λ b. cond b (n + 1) a) off in
    let under : n < a = leb-false a n off in
    made n a a es t.stay rest (ap (λ m. m + length t.stay) (sym first) ∙ t.count) (omega (arith, under)) (omega arith)
    (subst (λ m. NumberedFrom m t.stay) first numbers)

pub left_of : (n a : ℕ) (es : List Epoch) → NumberedFrom a es → n < a + length es → Left n a es
left_of n a es numbered below =
    let all : es ++ [] ≡ es = append-nil es in
    let t : Taken n a es [] = taken n a es [] below (subst (NumberedFrom a) (sym all) numbered) in
    let rest : after_number n es ≡ t.stay = ap (after_number n) (sym all) ∙ t.rest ∙ append-nil t.stay in
    by_test n a es t rest (subst (NumberedFrom (cond (nat_le a n) (n + 1) a)) (append-nil t.stay) t.numbers) (nat_le a n) refl

-- where numbers are consecutive, only the first can be 0
pub not_full : (n : ℕ) (es : List Epoch) → NumberedFrom n es → 1 ≤ n → has_full es ≡ false
not_full n [] h l = refl
not_full n (e ∷ es) h l = grind (arith, nat_tests, h.0, l)

-- at most 256 frames in each
pub frames_few : (es : List Epoch) → All IsEpoch es → length (frames_of es) ≤ length es * 256
frames_few [] all = omega arith
frames_few (e ∷ es) all =
    omega (arith, (All-head IsEpoch e es all).0, frames_few es (All-tail IsEpoch e es all), length-append e.frames (frames_of es))

-- the mode of a primary with a standby whose full checkpoint isn't pending
pub mode_paired : (m : Mode) (es : List Epoch) → m ≡ modes.Paired → has_full es ≡ false
    → m ≡ (if not (is_alone m) then (if has_full es then modes.Filling else modes.Paired) else modes.Alone)
mode_paired m es is none =
    subst (λ m. m ≡ (if not (is_alone m) then (if has_full es then modes.Filling else modes.Paired) else modes.Alone)) (sym is)
    (sym (ap (λ b. if b then modes.Filling else modes.Paired) none))

-- a delta is no full checkpoint
pub full-append : (es : List Epoch) (e : Epoch) → 1 ≤ e.number → has_full (es ++ e ∷ []) ≡ has_full es
full-append [] e l = grind (arith, nat_tests, l)
full-append (x ∷ es) e l = refl
