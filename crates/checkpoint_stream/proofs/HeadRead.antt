-- The units of the head are read as its numbers.
use Rattle.std.proofs.Common.{◌≡◌, ℕ, ◌+◌, ◌<◌, ◌%◌, ◌^◌, ◌==◌, List, [], ◌∷◌, ◌++◌, length, drop, get_or, IsTrue, true, false, refl, sym}
use Rattle.std.proofs.{Common.{◌∙◌, ap, arith, append_assoc, length-drop}, lemmas.{List.{get_or-drop, drop-drop}, Bool.Decides.nat_tests}}
use Rattle.guest_rules.specs.declared.shapes.Shape.{Shape}
use Rattle.checkpoint_stream.specs.declared.{rules.{Row.Row, Width.TheVariants.Four, Rule.TheVariants.Magic}, place.Place.Place}
use Rattle.checkpoint_stream.specs.{declared.place.Place.TheVariants.{Head, PageCount}, HeadTable.{head_table, row_at, passes, bytes_of}}
use Rattle.checkpoint_stream.specs.{HeadTable.{bytes_in, number}, Readings.{judged, kept_number, after_number}, Sound.{AllPass, last_after}}
use Rattle.checkpoint_stream.{specs.Text.number_units}
use Rattle.checkpoint_stream.{proofs.Numbers.{length-head_table, limit_of, AllFit, number-back, length-bytes_of, some-bytes}}
use Rattle.checkpoint_stream.proofs.Leading.{at, standing, Leads, Leads-append, Leads-unit}

number-judged : (shape : Shape) (k : ℕ) (head : List ℕ) (before n m : ℕ) (place : Place) (o : ℕ) → m ≡ n →
    passes shape (row_at k).rule before n ≡ true → after_number (k + 1) ≡ place →
    kept_number (passes shape (row_at k).rule before m) (at (standing shape Head k head before) o) (row_at k) m
    ≡ at (standing shape place (k + 1) (head ++ n ∷ []) n) ((o + bytes_in (row_at k).width) % 2 ^ 64)
unfolding kept_number
number-judged shape k head before n m place o same p next = rw (same, p, next) refl

number-step : (shape : Shape) (k : ℕ) (head : List ℕ) (before n : ℕ) (place : Place) → IsTrue (passes shape (row_at k).rule before n) →
    n < limit_of (row_at k).width → after_number (k + 1) ≡ place →
    Leads (standing shape Head k head before) (bytes_of (row_at k).width n ∷ [])
    (standing shape place (k + 1) (head ++ n ∷ []) n)
unfolding judged
number-step shape k head before n place p fits next =
    Leads-unit _ _ _ refl (some-bytes (row_at k).width n) (length-bytes_of (row_at k).width n)
    (λ o. (
      (o + bytes_in (row_at k).width) % 2 ^ 64,
      number-judged shape k head before n _ place o (number-back (row_at k).width n fits) p next,
    ))

-- a row of the table, from those that are left
record Left (k : ℕ) (row : Row) (rows : List Row) : Type 0 where
  here : row_at k ≡ row
  rest : drop (k + 1) head_table ≡ rows
  count : k + 1 + length rows ≡ 80

left : (k : ℕ) (row : Row) (rows : List Row) → drop k head_table ≡ row ∷ rows → Left k row rows
unfolding row_at
left k row rows e = record {
  here = ap (λ (i : ℕ). get_or head_table i (number Four Magic)) (omega arith) ∙ sym (get_or-drop k head_table 0 (number Four Magic))
      ∙ ap (λ (l : List Row). get_or l 0 (number Four Magic)) e;
  rest = sym (drop-drop 1 k head_table) ∙ ap (λ (l : List Row). drop 1 l) e;
  count = omega (arith, ap length e, length-drop k head_table, length-head_table);
}

pub going-on : (k : ℕ) → k < 80 → after_number k ≡ Head
going-on k h = let other : (k == 80) ≡ false = grind (arith, nat_tests) in rw other refl

number_units-cons : (row : Row) (rows : List Row) (n : ℕ) (ns : List ℕ) →
    number_units (row ∷ rows) (n ∷ ns) ≡ (bytes_of row.width n ∷ []) ++ number_units rows ns
unfolding number_units
number_units-cons row rows n ns = refl

number_units-last : (row : Row) (n : ℕ) → number_units (row ∷ []) (n ∷ []) ≡ bytes_of row.width n ∷ []
unfolding number_units
number_units-last row n = refl

pub numbers-lead : (shape : Shape) (rows : List Row) (ns : List ℕ) (k : ℕ) (head : List ℕ) (before : ℕ) → 0 < length rows →
    drop k head_table ≡ rows → AllPass shape before rows ns → AllFit rows ns →
    Leads (standing shape Head k head before) (number_units rows ns)
    (standing shape PageCount 80 (head ++ ns) (last_after before ns))
numbers-lead shape [] ns k head before some at p fit = absurd (omega (arith, some))
numbers-lead shape (row ∷ rows) [] k head before some at p fit = absurd fit
numbers-lead shape (row ∷ []) (n ∷ []) k head before some at p fit =
    let l : Left k row [] = left k row [] at in
    let known : k + 1 ≡ 80 = omega (arith, l.count) in
    let step : Leads (standing shape Head k head before) (bytes_of (row_at k).width n ∷ [])
    (standing shape PageCount (k + 1) (head ++ n ∷ []) n)
    = number-step shape k head before n PageCount (rw l.here p.0) (rw l.here fit.0) (rw known refl) in
    rw (number_units-last row n, ← l.here, ← known) step
numbers-lead shape (row ∷ []) (n ∷ m ∷ ns) k head before some at p fit = absurd fit.1
numbers-lead shape (row ∷ next ∷ rows) (n ∷ ns) k head before some at p fit =
    let l : Left k row (next ∷ rows) = left k row (next ∷ rows) at in
    let step : Leads (standing shape Head k head before) (bytes_of (row_at k).width n ∷ [])
    (standing shape Head (k + 1) (head ++ n ∷ []) n)
    = number-step shape k head before n Head (rw l.here p.0) (rw l.here fit.0) (going-on (k + 1) (omega (arith, l.count))) in
    let rest : Leads (standing shape Head (k + 1) (head ++ n ∷ []) n) (number_units (next ∷ rows) ns)
    (standing shape PageCount 80 ((head ++ n ∷ []) ++ ns) (last_after n ns))
    = numbers-lead shape (next ∷ rows) ns (k + 1) (head ++ n ∷ []) n (omega arith) l.rest p.1 fit.1 in
    let both : Leads (standing shape Head k head before) ((bytes_of (row_at k).width n ∷ []) ++ number_units (next ∷ rows) ns)
    (standing shape PageCount 80 ((head ++ n ∷ []) ++ ns) (last_after n ns))
    = Leads-append _ _ _ _ _ step rest in
    let grouped : (head ++ n ∷ []) ++ ns ≡ head ++ n ∷ ns = append_assoc head (n ∷ []) ns in
    rw (number_units-cons row (next ∷ rows) n ns, ← l.here, ← grouped) both
