-- How long the image of a guest's words is.
use Rattle.std.proofs.Common.{◌≡◌, ◌≤◌, ◌*◌, ℕ, List, [], ◌∷◌, length, refl, ap, arith, length-append, Result, Ok, Err, IfOk}
use Rattle.std.specs.Int.{to_le_bytes, w32}
use Rattle.script_player.specs.Guests.{words_image}

-- four bytes a word
length-words_image : (ws : List ℕ) → length (words_image ws) ≡ 4 * length ws
length-words_image [] = refl
length-words_image (w ∷ ws) = let rest = length-words_image ws in let parts = length-append (to_le_bytes w32 w) (words_image ws) in
    omega (arith, rest, parts)

-- what is made of words that fit is no longer than the pages
pub made_fits : {V E : Type 0} (items : V → List ℕ) (pages : ℕ) (ws : List ℕ) (made : Result V E) → 4 * length ws ≤ 4096 * pages
    → IfOk made (λ image. items image ≡ words_image ws) → IfOk made (λ image. length (items image) ≤ 4096 * pages)
made_fits items pages ws (Ok image) h e = omega (arith, ap length e, length-words_image ws)
made_fits items pages ws (Err e) h _ = tt
