-- How a list of steps goes on, and the history with it.
use Rattle.std.proofs.Common.{◌≡◌, ℕ, zero, suc, ◌≤◌, List, [], ◌∷◌, ◌++◌, refl, sym, ap, ◌∙◌, subst, append_assoc, arith, le_refl}
use Rattle.std.proofs.Common.{le_trans}
use Rattle.std.proofs.lemmas.List.{append-nil}
use Rattle.pair_history.specs.laws.Histories.{at-append, Legal-append, legal-first, legal-second}
use Rattle.pair_history.specs.Entries as entries
use Rattle.pair_history.specs.HistoryState.{HistoryState, at}
use Rattle.pair_history.specs.HistoryState as history
use Rattle.growing_history.specs.Steps.{What, Added, Sealed, RanAlone, Committed, PrimaryFailed, BackupFailed, WentLive, Protected, Step}
use Rattle.growing_history.specs.Steps.{Begins}
use Rattle.growing_history.specs.LogState.{LogState, start_of, under_way, added, after_step, Needs, state_after, LegalFrom, history_from, LegalSteps}
use Rattle.growing_history.specs.LogState.{state_at, history_of}

-- OF LISTS OF STEPS, from any state: the state after them, whether they are legal, and the history, in two parts

pub state-append : (s : LogState) (xs ys : List Step) → state_after s (xs ++ ys) ≡ state_after (state_after s xs) ys
state-append s [] ys = refl
state-append s (x ∷ xs) ys = state-append (after_step s x.what) xs ys

pub joined : (s : LogState) (xs ys : List Step) → LegalFrom s xs → LegalFrom (state_after s xs) ys → LegalFrom s (xs ++ ys)
joined s [] ys a b = b
joined s (x ∷ xs) ys a b = (a.0, joined (after_step s x.what) xs ys a.1 b)

pub first : (s : LogState) (xs ys : List Step) → LegalFrom s (xs ++ ys) → LegalFrom s xs
first s [] ys l = tt
first s (x ∷ xs) ys l = (l.0, first (after_step s x.what) xs ys l.1)

pub second : (s : LogState) (xs ys : List Step) → LegalFrom s (xs ++ ys) → LegalFrom (state_after s xs) ys
second s [] ys l = l
second s (x ∷ xs) ys l = second (after_step s x.what) xs ys l.1

history-append : (s : LogState) (xs ys : List Step) → history_from s (xs ++ ys) ≡ history_from s xs ++ history_from (state_after s xs) ys
history-append s [] ys = refl
history-append s (x ∷ xs) ys =
    ap (λ l. added s x.what ++ l) (history-append (after_step s x.what) xs ys)
    ∙ sym (append_assoc (added s x.what) (history_from (after_step s x.what) xs) (history_from (state_after (after_step s x.what) xs) ys))

-- the history's state is that of what a step added, and of what all of them did
pub moved : (s : LogState) (w : What) → (after_step s w).history ≡ at s.history (added s w)
moved s (Added es) = refl
moved s (Sealed g zero epoch text) = refl
moved s (Sealed g (suc n) epoch text) = refl
moved s (RanAlone epoch) = refl
moved s (Committed g n text) = refl
moved s PrimaryFailed = refl
moved s BackupFailed = refl
moved s (WentLive r) = refl
moved s (Protected b) = refl

pub stands : (s : LogState) (xs : List Step) → (state_after s xs).history ≡ at s.history (history_from s xs)
stands s [] = refl
stands s (x ∷ xs) =
    stands (after_step s x.what) xs
    ∙ (ap (λ h. at h (history_from (after_step s x.what) xs)) (moved s x.what)
    ∙ sym (at-append s.history (added s x.what) (history_from (after_step s x.what) xs)))

-- no step takes a mark away
pub marked : (s : LogState) (w : What) → s.marked ≤ (after_step s w).marked
marked s (Added es) = le_refl s.marked
marked s (Sealed g zero epoch text) = le_refl s.marked
marked s (Sealed g (suc n) epoch text) = le_refl s.marked
marked s (RanAlone epoch) = le_refl s.marked
marked s (Committed g n text) = omega arith
marked s PrimaryFailed = le_refl s.marked
marked s BackupFailed = le_refl s.marked
marked s (WentLive r) = le_refl s.marked
marked s (Protected b) = le_refl s.marked

pub marks-stay : (s : LogState) (xs : List Step) → s.marked ≤ (state_after s xs).marked
marks-stay s [] = le_refl s.marked
marks-stay s (x ∷ xs) = le_trans (marked s x.what) (marks-stay (after_step s x.what) xs)

-- who is live has a number that only rises
pub numbers : (s : LogState) (by : ℕ) (w : What) → Needs s (record { by = by; what = w }) → (s.runner ≤ (after_step s w).runner)
    × (s.backup ≤ (after_step s w).backup)
numbers s by (Added es) n = (le_refl s.runner, le_refl s.backup)
numbers s by (Sealed g zero epoch text) n = (le_refl s.runner, le_refl s.backup)
numbers s by (Sealed g (suc k) epoch text) n = (le_refl s.runner, le_refl s.backup)
numbers s by (RanAlone epoch) n = (le_refl s.runner, le_refl s.backup)
numbers s by (Committed g k text) n = (le_refl s.runner, le_refl s.backup)
numbers s by PrimaryFailed n = (le_refl s.runner, le_refl s.backup)
numbers s by BackupFailed n = (le_refl s.runner, le_refl s.backup)
numbers s by (WentLive r) n = (omega (arith, n.may.2.0), le_refl s.backup)
numbers s by (Protected b) n = (le_refl s.runner, omega (arith, n.may.2.1))

pub numbers-rise : (s : LogState) (xs : List Step) → LegalFrom s xs → (s.runner ≤ (state_after s xs).runner)
    × (s.backup ≤ (state_after s xs).backup)
numbers-rise s [] l = (le_refl s.runner, le_refl s.backup)
numbers-rise s (x ∷ xs) l =
    let one = numbers s x.by x.what l.0 in
    let rest = numbers-rise (after_step s x.what) xs l.1 in
    (le_trans one.0 rest.0, le_trans one.1 rest.1)

-- what is under way after a step is legal where it stood
pub way-after : (s : LogState) (x : Step) → Needs s x → s.marked ≡ 0 → history.Legal (after_step s x.what).history (under_way (after_step s x.what))
way-after s x needs none = subst (λ h. history.Legal h (under_way (after_step s x.what))) (sym (moved s x.what))
    (legal-second s.history (added s x.what) (under_way (after_step s x.what)) (needs.lawful none))

-- Unless a commit is marked, what was added, and then what is under way, is a legal history.
pub lawful : (s : LogState) (xs : List Step) → LegalFrom s xs → (state_after s xs).marked ≡ 0 → history.Legal s.history (under_way s)
    → history.Legal s.history (history_from s xs ++ under_way (state_after s xs))
lawful s [] l none now = now
lawful s (x ∷ xs) l none now =
    let s' = after_step s x.what in
    let unmarked : s.marked ≡ 0 = omega (arith, marked s x.what, marks-stay s' xs, none) in
    let here = l.0.lawful unmarked in
    let there = way-after s x l.0 unmarked in
    let rest = subst (λ h. history.Legal h (history_from s' xs ++ under_way (state_after s' xs))) (moved s x.what)
    (lawful s' xs l.1 none there) in
    subst (history.Legal s.history) (sym (append_assoc (added s x.what) (history_from s' xs) (under_way (state_after s' xs))))
    (Legal-append s.history (added s x.what) (history_from s' xs ++ under_way (state_after s' xs))
    (legal-first s.history (added s x.what) (under_way s') here) rest)

-- OF LISTS FROM THE START: one step on, the step that it needs, and a beginning of it

pub goes-on : (h : HistoryState) (xs : List Step) (x : Step) → LegalSteps h xs → Needs (state_at h xs) x → LegalSteps h (xs ++ x ∷ [])
unfolding LegalSteps state_at
goes-on h xs x l n = joined (start_of h) xs (x ∷ []) l (n, tt)

pub needed : (h : HistoryState) (xs : List Step) (x : Step) → LegalSteps h (xs ++ x ∷ []) → Needs (state_at h xs) x
unfolding LegalSteps state_at
needed h xs x l = (second (start_of h) xs (x ∷ []) l).0

pub begun : (h : HistoryState) (xs ys : List Step) → Begins xs ys → LegalSteps h ys → LegalSteps h xs
unfolding LegalSteps
begun h xs ys b l = first (start_of h) xs b.0 (subst (LegalFrom (start_of h)) b.1 l)

-- the state, and the history, of no steps, and one step on
pub state-nil : (h : HistoryState) → state_at h [] ≡ start_of h
unfolding state_at
state-nil h = refl

pub state-snoc : (h : HistoryState) (xs : List Step) (x : Step) → state_at h (xs ++ x ∷ []) ≡ after_step (state_at h xs) x.what
unfolding state_at
state-snoc h xs x = state-append (start_of h) xs (x ∷ [])

pub history-nil : (h : HistoryState) → history_of h [] ≡ []
unfolding history_of
history-nil h = refl

pub history-snoc : (h : HistoryState) (xs : List Step) (x : Step)
    → history_of h (xs ++ x ∷ []) ≡ history_of h xs ++ added (state_at h xs) x.what
unfolding history_of state_at
history-snoc h xs x = history-append (start_of h) xs (x ∷ [])
    ∙ ap (λ l. history_from (start_of h) xs ++ l) (append-nil (added (state_after (start_of h) xs) x.what))

-- the history of a beginning begins that of the whole; the state says where it stands; and it is legal, unless a commit is marked
pub history-begins : (h : HistoryState) (xs ys : List Step) → Begins xs ys → entries.Begins (history_of h xs) (history_of h ys)
unfolding history_of
history-begins h xs ys b = (
  history_from (state_after (start_of h) xs) b.0,
  ap (history_from (start_of h)) b.1
      ∙ history-append (start_of h) xs b.0,
)

pub history-stands : (h : HistoryState) (xs : List Step) → (state_at h xs).history ≡ at h (history_of h xs)
unfolding history_of state_at
history-stands h xs = stands (start_of h) xs

pub history-lawful : (h : HistoryState) (xs : List Step) → LegalSteps h xs → (state_at h xs).marked ≡ 0
    → history.Legal h (history_of h xs ++ under_way (state_at h xs))
unfolding LegalSteps history_of state_at
history-lawful h xs l none = lawful (start_of h) xs l none tt

-- numbers of live members, and marks, only rise
pub live-rise : (h : HistoryState) (xs ys : List Step) → Begins xs ys → LegalSteps h ys
    → ((state_at h xs).runner ≤ (state_at h ys).runner) × ((state_at h xs).backup ≤ (state_at h ys).backup)
unfolding LegalSteps state_at
live-rise h xs ys b l =
    let all : LegalFrom (start_of h) (xs ++ b.0) = subst (LegalFrom (start_of h)) b.1 l in
    let rise = numbers-rise (state_after (start_of h) xs) b.0 (second (start_of h) xs b.0 all) in
    let same : state_after (start_of h) ys ≡ state_after (state_after (start_of h) xs) b.0 = ap (state_after (start_of h)) b.1
    ∙ state-append (start_of h) xs b.0 in
    subst (λ (t : LogState). ((state_after (start_of h) xs).runner ≤ t.runner) × ((state_after (start_of h) xs).backup ≤ t.backup))
    (sym same) rise

pub marks-rise : (h : HistoryState) (xs ys : List Step) → Begins xs ys → (state_at h xs).marked ≤ (state_at h ys).marked
unfolding state_at
marks-rise h xs ys b =
    let same : state_after (start_of h) ys ≡ state_after (state_after (start_of h) xs) b.0 = ap (state_after (start_of h)) b.1
    ∙ state-append (start_of h) xs b.0 in
    subst (λ (t : LogState). (state_after (start_of h) xs).marked ≤ t.marked) (sym same) (marks-stay (state_after (start_of h) xs) b.0)
