-- Bytes that are all 0.
use Rattle.std.proofs.Common.{◌≡◌, ℕ, Bool, true, false, not, List, [], ◌∷◌, length, replicate, refl, sym, ◌∙◌, ap, All}
use Rattle.std.specs.Prelude.{◌↔◌}
use Rattle.std.proofs.lemmas.Simd.{length-replicate}
use Rattle.std.proofs.lemmas.List.Elements.{All-replicate, All-same, All-head, All-tail}
use Rattle.page_lanes.specs.Kernels.{differ}
use Rattle.page_lanes.proofs.SideBySide.{differ-false, differ-same}

abbrev pub IsZero : ℕ → Type 0
IsZero b = b ≡ 0

replicate-zeros : (s : List ℕ) → All (λ b. b ≡ 0) s → s ≡ replicate (length s) 0
replicate-zeros [] _ = refl
replicate-zeros (b ∷ s) zeros = ap (λ x. x ∷ s) (All-head IsZero b s zeros)
    ∙ ap (λ l. 0 ∷ l) (replicate-zeros s (All-tail IsZero b s zeros))

-- a flag that says whether n bytes differ from n zeros
pub zero-tells : (s : List ℕ) (n : ℕ) (differs : Bool) → length s ≡ n → differs ≡ differ s (replicate n 0) →
    (not differs ≡ true) ↔ All IsZero s
zero-tells s n true len says = (
  λ no. cc,
  λ zeros.
      let same : s ≡ replicate n 0 = replicate-zeros s zeros ∙ ap (λ k. replicate k 0) len in
      let not_itself : differ s (replicate n 0) ≡ false = ap (λ l. differ s l) (sym same) ∙ differ-same s in
      cc,
)
zero-tells s n false len says = (
  λ _. All-same IsZero s (replicate n 0) (differ-false s (replicate n 0) (len
      ∙ sym (length-replicate n 0)) (sym says)) (All-replicate IsZero n 0 refl),
  λ _. refl,
)
