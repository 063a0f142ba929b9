-- What a legal list of steps is to clients.
use Rattle.std.proofs.Common.{◌≡◌, ℕ, List, [], ◌∷◌, ◌++◌, sym, ap, subst, Some, None, inl, inr}
use Rattle.std.specs.Prelude.{slice_get}
use Rattle.std.specs.List.{All, AllByRecursion}
use Rattle.std.proofs.lemmas.List.Elements.{All-from_recursion, recursion_from_All}
use Rattle.pair_history.specs.Entries.{Entry, Delivered, Refused, Took}
use Rattle.pair_history.specs.HistoryState.{HistoryState, at}
use Rattle.pair_history.specs.HistoryState as history
use Rattle.pair_history.specs.Released.{account, WasSent, IsPartOf, IsSound}
use Rattle.growing_history.specs.Steps.{Step}
use Rattle.growing_history.specs.LogState.{LegalSteps, state_at, under_way, history_of}
use Rattle.growing_history.specs.Service.{GuestAnswers}
use Rattle.pair_history.specs.laws.Histories.{legal-first, legal-second}
use Rattle.growing_history.specs.laws.Logs.{history-lawful}

-- what an entry needs says what it answers
answered : (s : HistoryState) (e : Entry) → history.Allows s e → GuestAnswers s e
answered s (Delivered c f n) a = a
answered s (Refused c f) a = a
answered s (Took c (Some f)) a = (a.0, sym a.1)
answered s (Took c None) a = (a.0, sym (ap (λ l. slice_get l 0) a.1))
answered s other a = tt

pub history-legal : (h : HistoryState) (xs : List Step) → LegalSteps h xs → (state_at h xs).marked ≡ 0 → history.Legal h (history_of h xs)
history-legal h xs l none = legal-first h (history_of h xs) (under_way (state_at h xs)) (history-lawful h xs l none)

pub answered-there : (h : HistoryState) (xs : List Step) → LegalSteps h xs → (state_at h xs).marked ≡ 0
    → (before later : List Entry) (e : Entry) → history_of h xs ≡ before ++ e ∷ later → GuestAnswers (at h before) e
answered-there h xs l none before later e is =
    answered (at h before) e (legal-second h before (e ∷ later) (subst (history.Legal h) is (history-legal h xs l none))).0

-- what is so of each of a list is so of each of a part of it
module _ {X : Type 0} (P : X → Type 0) where
  of-part : (xs ys : List X) → IsPartOf xs ys → AllByRecursion P ys → AllByRecursion P xs
  of-part [] ys part all = tt
  of-part (x ∷ xs) [] part all = absurd part
  of-part (x ∷ xs) (y ∷ ys) (inl h) all = (subst P (sym h.0) all.0, of-part xs ys h.1 all.1)
  of-part (x ∷ xs) (y ∷ ys) (inr h) all = of-part (x ∷ xs) ys h all.1

  of-first : (xs ys : List X) → AllByRecursion P (xs ++ ys) → AllByRecursion P xs
  of-first [] ys all = tt
  of-first (x ∷ xs) ys all = (all.0, of-first xs ys all.1)

-- what landed was sent by a step
pub landed-sent : (h : HistoryState) (es : List Entry) (c : ℕ) → All (WasSent h es c) (account h es c).sent → IsSound (account h es c)
    → All (WasSent h es c) (account h es c).released
landed-sent h es c sent sound =
    let a = account h es c in
    let P = WasSent h es c in
    All-from_recursion P a.released
    (of-first P a.released a.on_way (of-part P (a.released ++ a.on_way) a.sent sound.in_order (recursion_from_All P a.sent sent)))
