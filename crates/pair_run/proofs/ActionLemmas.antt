-- Actions, as they are read one by one.
use Rattle.std.proofs.Common.{◌≡◌, ◌<◌, ◌+◌, ℕ, List, [], ◌∷◌, ◌++◌, length, Option, Some, None, Bor, MatchOption, IfSome}
use Rattle.std.{proofs.Common.{refl, sym, ap, ◌∙◌, arith, append-nil, append_assoc}, specs.Option.option_map}
use Rattle.pair_run.specs.RunFile.{Action, AreActions, IsAction, fields_of}

-- a text that a slice lends
abbrev pub texts : Option (Bor (List ℕ)) → Option (List ℕ)
texts left = option_map (λ text. text.now) left

-- the fields that are left, and how many bytes they are
abbrev pub fields_left : Option (List ℕ) → List (List ℕ)
fields_left None = []
fields_left (Some text) = fields_of text

abbrev pub most_fields : Option (List ℕ) → ℕ
most_fields None = 0
most_fields (Some text) = length text + 1

-- of these fields these actions were read, and those are left
pub record AreRead (fields : List (List ℕ)) (done : List Action) (left : List (List ℕ)) : Type 0 where
  pub all : (more : List Action) → AreActions left more → AreActions fields (done ++ more)
  pub some : (actions : List Action) → AreActions fields actions → (more : List Action) × AreActions left more

pub none-read : (fields : List (List ℕ)) → AreRead fields [] fields
none-read fields = record { all = λ more h. h; some = λ actions h. (actions, h) }

-- actions of fields of which the first is read
pub first-action : (field : List ℕ) (others : List (List ℕ)) (actions : List Action) → AreActions (field ∷ others) actions
    → (action : Action) × (rest : List Action) × (actions ≡ action ∷ rest) × IsAction field action × AreActions others rest
first-action field others [] h = absurd h
first-action field others (action ∷ rest) h = (action, rest, refl, h.0, h.1)

pub one-read : (fields : List (List ℕ)) (done : List Action) (field : List ℕ) (others : List (List ℕ)) (action : Action)
    → AreRead fields done (field ∷ others) → IsAction field action → AreRead fields (done ++ action ∷ []) others
one-read fields done field others action before is = record {
  all = λ more h. rw append_assoc (before.all (action ∷ more) (is, h));
  some = λ actions h.
      let rest = before.some actions h in
      let first = first-action field others rest.0 rest.1 in (first.1, first.4);
}

-- a field that is no action
pub not-read : (fields : List (List ℕ)) (done : List Action) (field : List ℕ) (others : List (List ℕ))
    → AreRead fields done (field ∷ others)
    → ((action : Action) → IsAction field action → ⊥) → (actions : List Action) → AreActions fields actions → ⊥
not-read fields done field others before none actions h =
    let rest = before.some actions h in
    let first = first-action field others rest.0 rest.1 in none first.0 first.3

-- the fields that are left once the first was read
module _ (left : Option (Bor (List ℕ))) (text : Bor (List ℕ)) (is : left ≡ Some text) where
  pub at-field : (field : List ℕ) (r : Option (Bor (List ℕ)))
      → MatchOption r (fields_of text.now ≡ field ∷ []) (λ rest. fields_of text.now ≡ field ∷ fields_of rest.now)
      → fields_left (texts left) ≡ field ∷ fields_left (texts r)
  at-field field None e = rw is e
  at-field field (Some rest) e = rw is e

  pub fewer : (r : Option (Bor (List ℕ))) → IfSome r (λ rest. length rest.now < length text.now)
      → most_fields (texts r) < most_fields (texts left)
  fewer None h = rw is (omega arith)
  fewer (Some rest) h = rw is (omega arith)

-- the actions of fields, of which these were read and those are left
abbrev pub Comes : List (List ℕ) → List Action → List (List ℕ) → Type 0
Comes fields done left = (actions : List Action) → AreActions fields actions
    → (more : List Action) × AreActions left more × (actions ≡ done ++ more)

pub one-comes : (fields : List (List ℕ)) (done : List Action) (field : List ℕ) (others : List (List ℕ)) (action : Action)
    → Comes fields done (field ∷ others) → ((said : Action) → IsAction field said → said ≡ action)
    → Comes fields (done ++ action ∷ []) others
one-comes fields done field others action before only actions h =
    let rest = before actions h in
    let first = first-action field others rest.0 rest.1 in (
      first.1,
      first.4,
      rest.2 ∙ ap (λ acts. done ++ acts) first.2 ∙ ap (λ a. done ++ a ∷ first.1) (only first.0 first.3)
          ∙ sym (append_assoc done (action ∷ []) first.1),
    )

no-more : (done more : List Action) → AreActions [] more → done ++ more ≡ done
no-more done [] h = append-nil done
no-more done (action ∷ more) h = absurd h

pub all-come : (fields : List (List ℕ)) (done : List Action) → Comes fields done [] → (actions : List Action) → AreActions fields actions
    → done ≡ actions
all-come fields done before actions h =
    let rest = before actions h in sym (rest.2 ∙ no-more done rest.0 rest.1)
