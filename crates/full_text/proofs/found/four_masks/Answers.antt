-- All blocks of each page make its mask.
use Rattle.std.proofs.Common.{◌≡◌, ◌∷◌, [], ℕ, List, ◌∙◌, arith}
use Rattle.full_text.specs.UsedPages.{used_mask}
use Rattle.full_text.proofs.found.four_masks.Goals as goal

pub returns : goal.returns
returns c =
    let n = c.loop-number.number in
    let end : n ≡ 64 = omega (arith, c.loop-number-test.false, c.loop-number.auto.number-end) in
    let masks = c.loop-number.invariant in
    let whole : (mask : ℕ) (bytes own : List ℕ) → bytes ≡ own → mask ≡ used_mask bytes n → mask ≡ used_mask own 64 =
    λ mask bytes own is made. made ∙ (λ i. used_mask (is i) (end i)) in
    let first = whole c.loop-number.a c.page_of-first.result.now _ c.page_of-first.ensures masks.first in
    let second = whole c.loop-number.b c.page_of-second.result.now _ c.page_of-second.ensures masks.second in
    let third = whole c.loop-number.c c.page_of-third.result.now _ c.page_of-third.ensures masks.third in
    let fourth = whole c.loop-number.d c.page_of-fourth.result.now _ c.page_of-fourth.ensures masks.fourth in
    λ i. first i ∷ second i ∷ third i ∷ fourth i ∷ []
