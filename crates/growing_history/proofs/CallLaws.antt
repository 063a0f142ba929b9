-- What a client's call makes of its history.
use Rattle.std.proofs.Common.{◌≡◌, ℕ, ◌≤◌, List, [], ◌∷◌, ◌++◌, refl, sym, ap, ◌∙◌, append_assoc}
use Rattle.std.proofs.lemmas.List.{append-nil}
use Rattle.pair_history.specs.Entries.{Entry}
use Rattle.pair_history.specs.HistoryState.{HistoryState}
use Rattle.growing_history.specs.Steps.{Added, Step, step, Begins, steps_by}
use Rattle.growing_history.specs.LogState.{LegalSteps, history_of, client_seat}
use Rattle.growing_history.specs.Entries.{own_entries, announced_in, announced, IsCall}
use Rattle.growing_history.specs.laws.Logs.{begun, history-begins, history-snoc}
use Rattle.growing_history.proofs.OwnEntries.{history-own}

announced-append : (xs ys : List Step) → announced (xs ++ ys) ≡ announced xs ++ announced ys
announced-append [] ys = refl
announced-append (x ∷ xs) ys = ap (λ l. announced_in x.what ++ l) (announced-append xs ys)
    ∙ sym (append_assoc (announced_in x.what) (announced xs) (announced ys))

pub call-is : (h : HistoryState) (c : ℕ) (old log : List Step) (es : List Entry) → 1 ≤ c → Begins old log
    → LegalSteps h (log ++ step (client_seat c) (Added es) ∷ [])
    → steps_by (client_seat c) (log ++ step (client_seat c) (Added es) ∷ []) ≡ steps_by (client_seat c) old ++ step (client_seat c)
    (Added es) ∷ []
    → IsCall h c old (log ++ step (client_seat c) (Added es) ∷ []) es
call-is h c old log es p b l own =
    let x = step (client_seat c) (Added es) in
    let more = history-begins h old log b in
    let before : LegalSteps h old = begun h old (log ++ x ∷ []) (b.0 ++ x ∷ [], ap (λ xs. xs ++ x ∷ []) b.1 ∙ append_assoc old b.0 (x ∷ [])) l in
    record {
      seen = (more.0, history-snoc h log x ∙ ap (λ xs. xs ++ es) more.1);
      mine = history-own h (log ++ x ∷ []) c p l
          ∙ (ap announced own
          ∙ (announced-append (steps_by (client_seat c) old) (x ∷ [])
          ∙ (ap (λ xs. announced (steps_by (client_seat c) old) ++ xs) (append-nil es)
          ∙ ap (λ xs. xs ++ es) (sym (history-own h old c p before)))));
    }

pub own-stays : (h : HistoryState) (c : ℕ) (old now : List Step) → 1 ≤ c → Begins old now → LegalSteps h now
    → steps_by (client_seat c) now ≡ steps_by (client_seat c) old
    → own_entries c (history_of h now) ≡ own_entries c (history_of h old)
own-stays h c old now p b l own = history-own h now c p l ∙ (ap announced own ∙ sym (history-own h old c p (begun h old now b l)))
