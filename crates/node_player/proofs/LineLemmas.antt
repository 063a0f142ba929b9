-- A text spells one line at most.
use Rattle.std.proofs.Common.{◌≡◌, ◌<◌, ℕ, nat_eq, nat_lt, ◌&&◌, Bool, true, false, cond, List, ◌∷◌, ◌++◌, length, Option, Some, None, Result, Ok, Err}
use Rattle.std.proofs.Common.{IfOk, IfSome, OnErr, refl, sym, ap, subst, ◌∙◌, codes, inl, inr, arith}
use Rattle.std.proofs.lemmas.Bool.{and_parts}
use Rattle.std.specs.Option.{option_map, option_and_then}
use Rattle.script_player.specs.{Fields.{text_after, operand_at}, Boot.{BootLine, IsBoot}, Delivery.IsHex}
use Rattle.script_player.specs.laws.Fields.{text_after-some, text_after-append, operand_at-spelled, operand_at-read}
use Rattle.script_player.specs.laws.Options.{some_same, and_then_some}
use Rattle.node_player.specs.Lines.{Line, boot, order, arrive, piece, HasBytes, IsFollowed, IsLine}
use Rattle.node_player.specs.internal.Followed.{all_counted, followed}
use Rattle.node_player.specs.Orders.{IsOrder, order_of}
use Rattle.node_player.specs.declared.orders.Order.{Order}
use Rattle.node_player.proofs.OrderLemmas.{order_of-spelled}

module _ (text : List ℕ) where
  order-not-arrive : (o : Order) (bytes : List ℕ) → IsOrder text o → HasBytes (codes "arrive ") bytes text → ⊥
  order-not-arrive o bytes is (digits, shape, hex) = cc (sym (order_of-spelled text o is) ∙ ap order_of shape)

  order-not-piece : (o : Order) (bytes : List ℕ) → IsOrder text o → HasBytes (codes "piece ") bytes text → ⊥
  order-not-piece o bytes is (digits, shape, hex) = cc (sym (order_of-spelled text o is) ∙ ap order_of shape)

  order-not-boot : (o : Order) (line : BootLine) → IsOrder text o → IsBoot text line → ⊥
  order-not-boot o line is h = cc (sym (order_of-spelled text o is) ∙ ap order_of h.shape)

  after-piece : (bytes : List ℕ) → HasBytes (codes "piece ") bytes text → (rest : List ℕ) × (text_after (codes "piece ") text ≡ Some rest)
  after-piece bytes (digits, shape, hex) = (digits, ap (text_after (codes "piece ")) shape ∙ text_after-append (codes "piece ") digits)

  arrive-not-piece : (a b : List ℕ) → HasBytes (codes "arrive ") a text → HasBytes (codes "piece ") b text → ⊥
  arrive-not-piece a b (digits, shape, hex) h = cc (sym (after-piece b h).1 ∙ ap (text_after (codes "piece ")) shape)

  piece-not-boot : (b : List ℕ) (line : BootLine) → HasBytes (codes "piece ") b text → IsBoot text line → ⊥
  piece-not-boot b line h is = cc (sym (after-piece b h).1 ∙ ap (text_after (codes "piece ")) is.shape)

  arrive-not-boot : (b : List ℕ) (line : BootLine) → HasBytes (codes "arrive ") b text → IsBoot text line → ⊥
  arrive-not-boot b line (digits, shape, hex) is =
      cc (sym (text_after-append (codes "arrive ") digits) ∙ ap (text_after (codes "arrive ")) (sym shape ∙ is.shape))

  after-raw : (bytes : List ℕ) → IsFollowed (codes "rawpiece ") bytes text → (rest : List ℕ) × (text_after (codes "rawpiece ") text ≡ Some rest)
  after-raw bytes (digits, shape, written, some) =
      (digits ++ 10 ∷ bytes, ap (text_after (codes "rawpiece ")) shape ∙ text_after-append (codes "rawpiece ") (digits ++ 10 ∷ bytes))

  order-not-raw : (o : Order) (bytes : List ℕ) → IsOrder text o → IsFollowed (codes "rawpiece ") bytes text → ⊥
  order-not-raw o bytes is (digits, shape, written, some) = cc (sym (order_of-spelled text o is) ∙ ap order_of shape)

  bytes-not-raw : (a b : List ℕ) → HasBytes (codes "arrive ") a text → IsFollowed (codes "rawpiece ") b text → ⊥
  bytes-not-raw a b (digits, shape, hex) h = cc (sym (after-raw b h).1 ∙ ap (text_after (codes "rawpiece ")) shape)

  piece-not-raw : (a b : List ℕ) → HasBytes (codes "piece ") a text → IsFollowed (codes "rawpiece ") b text → ⊥
  piece-not-raw a b (digits, shape, hex) h = cc (sym (after-raw b h).1 ∙ ap (text_after (codes "rawpiece ")) shape)

  raw-not-boot : (b : List ℕ) (line : BootLine) → IsFollowed (codes "rawpiece ") b text → IsBoot text line → ⊥
  raw-not-boot b line h is = cc (sym (after-raw b h).1 ∙ ap (text_after (codes "rawpiece ")) is.shape)

-- ---- bytes that follow a line

pub followed-spelled : (front text bytes : List ℕ) → IsFollowed front bytes text → followed front text ≡ Some bytes
followed-spelled front text bytes (digits, shape, written, some) =
    let low : nat_lt 0 (length bytes) ≡ true = grind arith in
    let same : nat_eq (length bytes) (length bytes) ≡ true = grind arith in
    ap (followed front) shape
    ∙ ap (λ (o : Option (List ℕ)). option_and_then all_counted (option_and_then (operand_at 10) o)) (text_after-append front (digits ++ 10 ∷ bytes))
    ∙ ap (option_and_then all_counted) (operand_at-spelled 10 refl digits bytes (length bytes) written)
    ∙ rw (low, same) refl

counted-so : (n : ℕ) (rest bytes : List ℕ) (b : Bool) → (nat_lt 0 n && nat_eq n (length rest)) ≡ b → cond b (Some rest) None ≡ Some bytes
    → (rest ≡ bytes) × (n ≡ length rest) × (0 < n)
counted-so n rest bytes true e h = let both = and_parts (nat_lt 0 n) (nat_eq n (length rest)) e in (some_same h, grind (arith, both.1), grind (arith, both.0))
counted-so n rest bytes false e h = cc

pub followed-read : (front text bytes : List ℕ) → followed front text ≡ Some bytes → IsFollowed front bytes text
followed-read front text bytes h =
    let counted = and_then_some all_counted (option_and_then (operand_at 10) (text_after front text)) bytes h in
    let after = and_then_some (operand_at 10) (text_after front text) counted.0 counted.1 in
    let read = operand_at-read 10 after.0 counted.0.0 counted.0.1 after.2 in
    let so = counted-so counted.0.0 counted.0.1 bytes (nat_lt 0 counted.0.0 && nat_eq counted.0.0 (length counted.0.1)) refl counted.2 in (
      read.0,
      text_after-some front text after.0 after.1 ∙ ap (λ t. front ++ t) (read.1 ∙ ap (λ t. read.0 ++ 10 ∷ t) so.0),
      read.2 ∙ ap Some (so.1 ∙ ap length so.0),
      subst (λ (n : ℕ). 0 < n) (so.1 ∙ ap length so.0) so.2,
    )

-- ---- bytes after a front

pub after-front : (front text : List ℕ) (bytes : List ℕ) (h : HasBytes front bytes text) → text_after front text ≡ Some h.0
after-front front text bytes h = ap (text_after front) h.1 ∙ text_after-append front h.0

module _ (front text digits : List ℕ) (after : text_after front text ≡ Some digits) where
  spelled : (bytes : List ℕ) → IsHex digits bytes → HasBytes front bytes text
  spelled bytes hex = (digits, text_after-some front text digits after, hex)

  pub found-bytes : {V E : Type 0} (items : V → List ℕ) (r : Result (Option V) E)
      → IfOk r (λ found. IfSome found (λ v. IsHex digits (items v))) → IfOk r (λ found. IfSome found (λ v. HasBytes front (items v) text))
  found-bytes items (Ok None) h = tt
  found-bytes items (Ok (Some v)) h = spelled (items v) h
  found-bytes items (Err e) h = tt

  pub said-bytes : {T E : Type 0} (r : Result T E) → OnErr r ((bytes : List ℕ) × IsHex digits bytes)
      → OnErr r ((bytes : List ℕ) × HasBytes front bytes text)
  said-bytes (Ok t) h = tt
  said-bytes (Err e) h = (h.0, spelled h.0 h.1)

-- ---- the one line that a text spells, by what its readers say

module _ (text : List ℕ) where
  -- it is no order
  abbrev NoOrder : Type 0
  NoOrder = (o : Order) → IsOrder text o → ⊥

  abbrev NoBytes : List ℕ → Type 0
  NoBytes front = (bytes : List ℕ) → HasBytes front bytes text → ⊥

  pub order-only : (found : Order) → IsOrder text found → (line : Line) → IsLine text line → Some (order found) ≡ Some line
  order-only found is (order o) h =
      ap (option_map (λ (x : Order). order x)) (sym (order_of-spelled text found is) ∙ order_of-spelled text o h)
  order-only found is (boot line) h = absurd (order-not-boot text found line is h)
  order-only found is (arrive bytes) h = absurd (order-not-arrive text found bytes is h)
  order-only found is (piece bytes) (inl h) = absurd (order-not-piece text found bytes is h)
  order-only found is (piece bytes) (inr h) = absurd (order-not-raw text found bytes is h)

  pub arrive-only : NoOrder → (found : List ℕ) → HasBytes (codes "arrive ") found text
      → ((bytes : List ℕ) → HasBytes (codes "arrive ") bytes text → Some found ≡ Some bytes)
      → (line : Line) → IsLine text line → Some (arrive found) ≡ Some line
  arrive-only other found is only (order o) h = absurd (other o h)
  arrive-only other found is only (boot line) h = absurd (arrive-not-boot text found line is h)
  arrive-only other found is only (arrive bytes) h = ap (option_map (λ (x : List ℕ). arrive x)) (only bytes h)
  arrive-only other found is only (piece bytes) (inl h) = absurd (arrive-not-piece text found bytes is h)
  arrive-only other found is only (piece bytes) (inr h) = absurd (bytes-not-raw text found bytes is h)

  pub piece-only : NoOrder → NoBytes (codes "arrive ") → (found : List ℕ) → HasBytes (codes "piece ") found text
      → ((bytes : List ℕ) → HasBytes (codes "piece ") bytes text → Some found ≡ Some bytes)
      → (line : Line) → IsLine text line → Some (piece found) ≡ Some line
  piece-only other none found is only (order o) h = absurd (other o h)
  piece-only other none found is only (boot line) h = absurd (piece-not-boot text found line is h)
  piece-only other none found is only (arrive bytes) h = absurd (none bytes h)
  piece-only other none found is only (piece bytes) (inl h) = ap (option_map (λ (x : List ℕ). piece x)) (only bytes h)
  piece-only other none found is only (piece bytes) (inr h) = absurd (piece-not-raw text found bytes is h)

  pub raw-only : NoOrder → NoBytes (codes "arrive ") → NoBytes (codes "piece ") → (found : List ℕ)
      → followed (codes "rawpiece ") text ≡ Some found
      → (line : Line) → IsLine text line → Some (piece found) ≡ Some line
  raw-only other none nor found is (order o) h = absurd (other o h)
  raw-only other none nor found is (boot line) h = absurd (raw-not-boot text found line (followed-read (codes "rawpiece ") text found is) h)
  raw-only other none nor found is (arrive bytes) h = absurd (none bytes h)
  raw-only other none nor found is (piece bytes) (inl h) = absurd (nor bytes h)
  raw-only other none nor found is (piece bytes) (inr h) =
      ap (option_map (λ (x : List ℕ). piece x)) (sym is ∙ followed-spelled (codes "rawpiece ") text bytes h)

  -- neither an order nor bytes: what is read as a boot line, or as none
  pub boot-only : NoOrder → NoBytes (codes "arrive ") → NoBytes (codes "piece ") → followed (codes "rawpiece ") text ≡ None
      → (found : Option BootLine)
      → ((line : BootLine) → IsBoot text line → found ≡ Some line)
      → (line : Line) → IsLine text line → option_map (λ (x : BootLine). boot x) found ≡ Some line
  boot-only other none nor unfollowed found only (order o) h = absurd (other o h)
  boot-only other none nor unfollowed found only (boot line) h = ap (option_map (λ (x : BootLine). boot x)) (only line h)
  boot-only other none nor unfollowed found only (arrive bytes) h = absurd (none bytes h)
  boot-only other none nor unfollowed found only (piece bytes) (inl h) = absurd (nor bytes h)
  boot-only other none nor unfollowed found only (piece bytes) (inr h) = cc (sym unfollowed ∙ followed-spelled (codes "rawpiece ") text bytes h)
