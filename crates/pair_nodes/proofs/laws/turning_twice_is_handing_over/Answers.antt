use Rattle.std.proofs.Common.{◌≡◌, ◌≤◌, ℕ, ◌+◌, ◌-◌, Bool, true, false, cond, zero, suc, List, [], ◌∷◌, ◌++◌, length, drop, refl, sym, ap, ◌∙◌, subst}
use Rattle.std.proofs.Common.{arith, append-nil}
use Rattle.std.proofs.lemmas.Bool.{le-leb}
use Rattle.std.specs.Prelude.{nat_le}
use Rattle.guest_rules.specs.{declared.shapes.Shape.Shape, Guest.Guest}
use Rattle.output_gate.specs.Epochs.{Epoch, frames_of, frames_to, after_number}
use Rattle.pair_core.specs.{Nodes.{Node, HasShape, settled_node}, Texts.IsText}
use Rattle.pair_nodes.specs.Networks.{Turn, frames_in, with_frames}
use Rattle.pair_nodes.specs.Sides.{Primary, after_protect, live_of, new_standby, to_commit}
use Rattle.pair_nodes.specs.Sites.{live_site, lost_to, protect_site}
use Rattle.pair_nodes.proofs.Outs.{frames_in-push}
use Rattle.pair_nodes.proofs.laws.turning_twice_is_handing_over.Goals as goal

-- the text of a full checkpoint of the next generation but one
Full : Node → Shape → ℕ → List ℕ → Type 0
Full x shape n u = (before : Guest) → HasShape shape x.guest → IsText shape (n + 1 + 1) 0 before x.guest [] u

-- what it is of there, is what it is of here
moved : (x y : Node) (s r : Shape) (n m : ℕ) (u : List ℕ) → x ≡ y → s ≡ r → n ≡ m → Full x s n u → Full y r m u
moved x y s r n m u node shape generation full =
    subst (λ n. Full y r n u) generation (subst (λ s. Full y s n u) shape (subst (λ x. Full x s n u) node full))

pub returns-clause-text : goal.returns-clause-text
unfolding Full
returns-clause-text c = λ p b t u h. let there = settled_node b.image.guest in (
  moved there p.live b.image.shape p.shape b.generation p.generation u (sym h.guest) (sym h.shape) (sym h.generation),
  moved p.live there p.shape b.image.shape p.generation b.generation u h.guest h.shape h.generation,
)

pub returns-clause-same : goal.returns-clause-same
returns-clause-same c = λ p b t u h k. after_protect (record (live_of b) {
  live = h.guest k;
  shape = h.shape k;
  generation = h.generation k + 1;
}) u

pub returns-clause-once : goal.returns-clause-once
returns-clause-once c = λ p b t h e.
    let next : p.generation + 1 ≡ b.generation + 1 + 1 = ap (λ (p : Primary). p.generation) e in
    omega (arith, next, h.generation)

-- an acknowledgement leaves no more epochs than there were
few : (n : ℕ) (es : List Epoch) → length (after_number n es) ≤ length es
few n [] = omega arith
few n (e ∷ es) = by_test (nat_le e.number n) (few n es)
  where
    by_test : (b : Bool) → length (after_number n es) ≤ length es
        → length (cond b (after_number n es) (e ∷ after_number n es)) ≤ suc (length es)
    by_test true rest = omega (arith, rest)
    by_test false rest = omega (arith, rest)

-- of lists that differ in the first item, what stays behind it is the same
dropped : (k : ℕ) (t u : List ℕ) (ts : List (List ℕ)) → 1 ≤ k → drop k (t ∷ ts) ≡ drop k (u ∷ ts)
dropped zero t u ts some = absurd (omega (arith, some))
dropped (suc k) t u ts some = refl

pub returns-clause-given_up : goal.returns-clause-given_up
returns-clause-given_up c = λ p first later t u texts n covered.
    let left : after_number n (first ∷ later) ≡ after_number n later =
    ap (λ b. cond b (after_number n later) (first ∷ after_number n later)) (le-leb first.number n covered) in
    let gone : 1 ≤ suc (length later) - length (after_number n (first ∷ later)) =
    omega (arith, few n later, ap (λ (l : List Epoch). length l) left) in
    ap (λ (ts : List (List ℕ)). record p { pending = after_number n (first ∷ later); texts = ts })
    (dropped (suc (length later) - length (after_number n (first ∷ later))) t u texts gone)

pub returns-clause-site : goal.returns-clause-site
returns-clause-site c = λ s t u h heard k. record (protect_site (live_site s) u) {
  primary = after_protect (record (live_of s.standby) {
    live = h.guest k;
    shape = h.shape k;
    generation = h.generation k + 1;
  }) u;
  standby = new_standby (h.shape k) (h.generation k + 1 + 1);
  out = s.out;
  network = with_frames (with_frames s.network (frames_of (heard k) ++ (h.guest k).outbox)) [];
}

pub returns-clause-out : goal.returns-clause-out
returns-clause-out c = λ s t u h heard.
    let before = frames_in s.out.before in
    let now = s.out.now in
    let kept : frames_of s.primary.pending ++ s.primary.live.outbox ≡ [] = λ k. frames_of (heard k) ++ (h.guest k).outbox in
    let lost : lost_to s ≡ [] = ap (frames_to (to_commit s.standby - 1)) heard in
    let turn : Turn = record { let_out = now; lost = lost_to s } in
    ap (λ fs. before ++ ((now ++ fs) ++ [])) kept
    ∙ ap (λ fs. before ++ fs) (append-nil (now ++ []) ∙ append-nil now)
    ∙ sym (append-nil (frames_in (s.out.before ++ turn ∷ [])) ∙ frames_in-push s.out.before turn
    ∙ ap (λ fs. before ++ (now ++ fs)) lost ∙ ap (λ fs. before ++ fs) (append-nil now))
