-- The first form that fits is the one form that fits: for whatever a text may spell.
use Rattle.std.proofs.Common.{◌≡◌, ℕ, Bool, true, false, cond, List, ◌++◌, Option, Some, None, IfSome, refl, sym, ap, subst, ◌∙◌}
use Rattle.std.{proofs.lemmas.Slice.Eq.bytes_eq-Decides, specs.Option.{option_map_or, option_and_then}}
use Rattle.std.specs.Str.{bytes_eq}
use Rattle.script_player.specs.{Fields.{text_after, number_written, numbered_by, operand_of, with_second, numbers_by}, Command.IsNumbered}
use Rattle.script_player.specs.Command.{HasNumbers}
use Rattle.script_player.specs.laws.Fields.{text_after-some, operand_of-read}
use Rattle.script_player.specs.laws.Options.{some_same, pair_parts}
use Rattle.script_player.specs.laws.Options.{and_then_some, map_some}

pub is_numbered : (front text : List ℕ) (n : ℕ) → numbered_by front text ≡ Some n → IsNumbered front n text
is_numbered front text n h =
    let rest = and_then_some number_written (text_after front text) n h in
    (rest.0, text_after-some front text rest.0 rest.1, rest.2)

pub has_numbers : (front text : List ℕ) (found : ℕ × ℕ) → numbers_by front text ≡ Some found → HasNumbers front found.0 found.1 text
has_numbers front text found h =
    let head = and_then_some with_second (option_and_then operand_of (text_after front text)) found h in
    let rest = and_then_some operand_of (text_after front text) head.0 head.1 in
    let read = operand_of-read rest.0 head.0.0 head.0.1 rest.2 in
    let last = map_some {B = ℕ × ℕ} (λ n. (head.0.0, n)) (number_written head.0.1) found head.2 in
    let both = pair_parts last.2 in
    let shape = text_after-some front text rest.0 rest.1 ∙ ap (λ t. front ++ t) read.1 in
    (read.0, head.0.1, shape, read.2 ∙ ap Some both.0, last.1 ∙ ap Some both.1)

-- what is read is spelled so, where `IsSpelled text thing` says how each thing is spelled
module _ {C : Type 0} (IsSpelled : List ℕ → C → Type 0) (text : List ℕ) (thing : C) where
  abbrev pub Read : Option C → Type 0
  Read found = found ≡ Some thing → IsSpelled text thing

  pub same : (found : C) → IsSpelled text found → Read (Some found)
  same found is e = subst (IsSpelled text) (some_same e) is

  -- a word alone, or otherwise the next forms
  pub word : (name : List ℕ) (found : C) {others : Option C} → (text ≡ name → IsSpelled text found) → Read others
      → Read (cond (bytes_eq text name) (Some found) others)
  word name found {others} is more = by-test (bytes_eq text name) (bytes_eq-Decides text name).0
    where
      by-test : (b : Bool) → (b ≡ true → text ≡ name) → Read (cond b (Some found) others)
      by-test true e = same found (is (e refl))
      by-test false e = more

  -- what stands after the name of a form
  pub told : {A : Type 0} (make : A → Option C) (o : Option A) {others : Option C} → ((a : A) → o ≡ Some a → Read (make a))
      → Read others → Read (option_map_or make o others)
  told make (Some a) is more = is a refl
  told make None is more = more

  pub one : (front : List ℕ) (make : ℕ → C) {others : Option C} → ((n : ℕ) → IsNumbered front n text → IsSpelled text (make n))
      → Read others → Read (option_map_or (λ n. Some (make n)) (numbered_by front text) others)
  one front make is = told (λ n. Some (make n)) (numbered_by front text) (λ n e. same (make n) (is n (is_numbered front text n e)))

  pub two : (front : List ℕ) (make : ℕ × ℕ → C) {others : Option C}
      → ((f : ℕ × ℕ) → HasNumbers front f.0 f.1 text → IsSpelled text (make f))
      → Read others → Read (option_map_or (λ f. Some (make f)) (numbers_by front text) others)
  two front make is = told (λ f. Some (make f)) (numbers_by front text) (λ f e. same (make f) (is f (has_numbers front text f e)))

pub read-spelled : {C : Type 0} (IsSpelled : List ℕ → C → Type 0) (read : List ℕ → Option C)
    → ((text : List ℕ) (thing : C) → read text ≡ Some thing → IsSpelled text thing)
    → (text : List ℕ) (found : Option C) → found ≡ read text → IfSome found (λ thing. IsSpelled text thing)
read-spelled IsSpelled read is text None e = tt
read-spelled IsSpelled read is text (Some thing) e = is text thing (sym e)
