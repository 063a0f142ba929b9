-- Shapes that compare equal are the same.
use Rattle.std.proofs.{Common.{◌≡◌, ℕ, ◌≤◌, ◌==◌, true, sym, ◌∙◌, subst}, Math.Bridge.le_prop, lemmas.Bool.{and_parts, eqb-true}}
use Rattle.guest_rules.specs.{declared.shapes.Shape.Shape, Limits.most_pages}
use Rattle.checkpoint_tests.proofs.image.stage.Goals as goal

-- the shape of these numbers, which are in range
shape : (p s : ℕ) → 1 ≤ p → p ≤ most_pages → 1 ≤ s → s ≤ 32768 → Shape
shape p s a b c d = record { pages = p; sectors = s; some_pages = a; most_pages = b; some_sectors = c; most_sectors = d }

same_pages : (p q s : ℕ) (a : 1 ≤ p) (b : p ≤ most_pages) (c : 1 ≤ s) (d : s ≤ 32768) → p ≡ q → (x : 1 ≤ q) (y : q ≤ most_pages) →
    shape p s a b c d ≡ shape q s x y c d
unfolding shape
same_pages p q s a b c d e =
    subst (λ (n : ℕ). (x : 1 ≤ n) (y : n ≤ most_pages) → shape p s a b c d ≡ shape n s x y c d) e
    (λ x y. λ i. shape p s (le_prop a x i) (le_prop b y i) c d)

same_sectors : (p s t : ℕ) (a : 1 ≤ p) (b : p ≤ most_pages) (c : 1 ≤ s) (d : s ≤ 32768) → s ≡ t → (x : 1 ≤ t) (y : t ≤ 32768) →
    shape p s a b c d ≡ shape p t a b x y
unfolding shape
same_sectors p s t a b c d e =
    subst (λ (n : ℕ). (x : 1 ≤ n) (y : n ≤ 32768) → shape p s a b c d ≡ shape p n a b x y) e
    (λ x y. λ i. shape p s a b (le_prop c x i) (le_prop d y i))

same_shape : (s t : Shape) → s.pages ≡ t.pages → s.sectors ≡ t.sectors → s ≡ t
unfolding shape
same_shape s t e f =
    same_pages s.pages t.pages s.sectors s.some_pages s.most_pages s.some_sectors s.most_sectors e t.some_pages t.most_pages
    ∙ same_sectors t.pages s.sectors t.sectors t.some_pages t.most_pages s.some_sectors s.most_sectors f t.some_sectors t.most_sectors

pub stage-requires : goal.stage-requires
stage-requires g c =
    let equal : c.eq.result ≡ true = c.holds.ensures in
    let parts = and_parts (c.shape.result.pages == c.shape-2.result.pages) (c.shape.result.sectors == c.shape-2.result.sectors)
    (sym c.eq.ensures ∙ equal) in
    sym c.shape-2.ensures
    ∙ sym (same_shape c.shape.result c.shape-2.result (eqb-true c.shape.result.pages c.shape-2.result.pages parts.0)
    (eqb-true c.shape.result.sectors c.shape-2.result.sectors parts.1))
    ∙ c.shape.ensures.value
