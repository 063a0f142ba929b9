-- The first form of an order that fits is the one form that fits.
use Rattle.std.proofs.Common.{◌≡◌, ◌≤◌, ℕ, Bool, true, false, cond, List, ◌∷◌, ◌++◌, Option, Some, None}
use Rattle.std.proofs.Common.{IfSome, refl, ap, arith, ◌∙◌, nat_eq, codes}
use Rattle.std.specs.Option.{option_and_then}
use Rattle.script_player.specs.{Fields.{text_after, number_written, numbered_by, operand_of, with_second}, Command.IsNumbered}
use Rattle.script_player.specs.laws.Fields.{text_after-some, operand_of-spelled, operand_of-read}
use Rattle.script_player.specs.laws.Options.{and_then_some, map_some, pair_parts}
use Rattle.script_player.specs.laws.Forms.{Read, same, word, told, one, two, is_numbered, read-spelled}
use Rattle.node_player.specs.Orders.{IsOrder, order_of, HasThreeNumbers, three_by, IsShaped, is_shaped}
use Rattle.node_player.specs.declared.orders.Form.TheVariants as forms
use Rattle.node_player.specs.declared.orders.Order.{Order}
use Rattle.node_player.specs.declared.orders.Order.TheVariants.{Standby, Step, Cut, Text, Ack, Alone, Protect, Commit, Restart, GoLive}
use Rattle.node_player.specs.declared.orders.Order.TheVariants.{Show, Sector}

is_shaped-of : (pages sectors generation : ℕ) → IsShaped pages sectors generation → is_shaped pages sectors generation ≡ true
is_shaped-of pages sectors generation h =
    grind (arith, h.pages_fit.0, h.pages_fit.1, h.sectors_fit.0, h.sectors_fit.1, h.generation_fits.0, h.generation_fits.1)

-- what is spelled so is read so
pub order_of-spelled : (text : List ℕ) (order : Order) → IsOrder text order → order_of text ≡ Some order
order_of-spelled text (Standby pages sectors generation) ((first, second, third, shape, l, m, n), is) =
    ap order_of shape ∙ rw (
      operand_of-spelled first (second ++ 32 ∷ third) pages l,
      operand_of-spelled second third sectors m,
      n,
      is_shaped-of pages sectors generation is,
    ) refl
order_of-spelled text (Step n) ((digits, shape, value), low) =
    let positive : nat_eq n 0 ≡ false = grind arith in ap order_of shape ∙ rw (value, positive) refl
order_of-spelled text (Text forms.Hex number from count) (first, second, third, shape, l, m, n) =
    ap order_of shape ∙ rw (operand_of-spelled first (second ++ 32 ∷ third) number l, operand_of-spelled second third from m, n) refl
order_of-spelled text (Text forms.Raw number from count) (first, second, third, shape, l, m, n) =
    ap order_of shape ∙ rw (operand_of-spelled first (second ++ 32 ∷ third) number l, operand_of-spelled second third from m, n) refl
order_of-spelled text (Ack generation number) (first, second, shape, m, n) =
    ap order_of shape ∙ rw (operand_of-spelled first second generation m, n) refl
order_of-spelled text (Sector sector) (digits, shape, value) = ap order_of shape ∙ rw value refl
order_of-spelled text other shape = ap order_of shape

-- what a reading of three numbers says
has_three : (front text : List ℕ) (found : ℕ × ℕ × ℕ) → three_by front text ≡ Some found
    → HasThreeNumbers front found.0 found.1 found.2 text
has_three front text found h =
    let head = and_then_some _ (option_and_then operand_of (text_after front text)) found h in
    let rest = and_then_some operand_of (text_after front text) head.0 head.1 in
    let read = operand_of-read rest.0 head.0.0 head.0.1 rest.2 in
    let others = option_and_then with_second (operand_of head.0.1) in
    let pair = map_some {B = ℕ × ℕ × ℕ} (λ (two : ℕ × ℕ). (head.0.0, two.0, two.1)) others found head.2 in
    let next = and_then_some with_second (operand_of head.0.1) pair.0 pair.1 in
    let second = operand_of-read head.0.1 next.0.0 next.0.1 next.1 in
    let last = map_some {B = ℕ × ℕ} (λ n. (next.0.0, n)) (number_written next.0.1) pair.0 next.2 in
    let both = pair_parts {A = ℕ} {B = ℕ} last.2 in (
      read.0,
      second.0,
      next.0.1,
      text_after-some front text rest.0 rest.1 ∙ ap (λ t. front ++ t) (read.1 ∙ ap (λ t. read.0 ++ 32 ∷ t) second.1),
      read.2 ∙ ap Some (ap (λ t. t.0) pair.2),
      second.2 ∙ ap Some (both.0 ∙ ap (λ t. t.1) pair.2),
      last.1 ∙ ap Some (both.1 ∙ ap (λ t. t.2) pair.2),
    )

shaped-is : (pages sectors generation : ℕ) → is_shaped pages sectors generation ≡ true → IsShaped pages sectors generation
shaped-is pages sectors generation h = record {
  pages_fit = (grind (arith, h), grind (arith, h));
  sectors_fit = (grind (arith, h), grind (arith, h));
  generation_fits = (grind (arith, h), grind (arith, h));
}

-- what is read is spelled so
module _ (text : List ℕ) (order : Order) where
  steps : (n : ℕ) → IsNumbered (codes "step ") n text → (b : Bool) → nat_eq n 0 ≡ b
      → Read IsOrder text order (cond b None (Some (Step n)))
  steps n is true e h = cc
  steps n is false e h = let low : 1 ≤ n = grind arith in same IsOrder text order (Step n) (is, low) h

  waits : (f : ℕ × ℕ × ℕ) → HasThreeNumbers (codes "standby ") f.0 f.1 f.2 text → (b : Bool) → is_shaped f.0 f.1 f.2 ≡ b
      → Read IsOrder text order (cond b (Some (Standby f.0 f.1 f.2)) None)
  waits f is true e h = same IsOrder text order (Standby f.0 f.1 f.2) (is, shaped-is f.0 f.1 f.2 e) h
  waits f is false e h = cc

  order_of-read : Read IsOrder text order (order_of text)
  order_of-read =
      word IsOrder text order (codes "cut") Cut (λ e. e) (
      word IsOrder text order (codes "alone") Alone (λ e. e) (
      word IsOrder text order (codes "protect") Protect (λ e. e) (
      word IsOrder text order (codes "commit") Commit (λ e. e) (
      word IsOrder text order (codes "restart") Restart (λ e. e) (
      word IsOrder text order (codes "golive") GoLive (λ e. e) (
      word IsOrder text order (codes "show") Show (λ e. e) (
      told IsOrder text order (λ n. cond (nat_eq n 0) None (Some (Step n))) (numbered_by (codes "step ") text)
      (λ n e. steps n (is_numbered (codes "step ") text n e) (nat_eq n 0) refl) (
      two IsOrder text order (codes "ack ") (λ f. Ack f.0 f.1) (λ f is. is) (
      told IsOrder text order (λ f. Some (Text forms.Hex f.0 f.1 f.2)) (three_by (codes "text ") text)
      (λ f e. same IsOrder text order (Text forms.Hex f.0 f.1 f.2) (has_three (codes "text ") text f e)) (
      told IsOrder text order (λ f. Some (Text forms.Raw f.0 f.1 f.2)) (three_by (codes "rawtext ") text)
      (λ f e. same IsOrder text order (Text forms.Raw f.0 f.1 f.2) (has_three (codes "rawtext ") text f e)) (
      one IsOrder text order (codes "sector ") (λ sector. Sector sector) (λ sector is. is) (
      told IsOrder text order (λ f. cond (is_shaped f.0 f.1 f.2) (Some (Standby f.0 f.1 f.2)) None) (three_by (codes "standby ") text)
      (λ f e. waits f (has_three (codes "standby ") text f e) (is_shaped f.0 f.1 f.2) refl) (
      λ e. cc)))))))))))))

pub order-spelled : (text : List ℕ) (found : Option Order) → found ≡ order_of text → IfSome found (λ order. IsOrder text order)
order-spelled = read-spelled IsOrder order_of order_of-read
