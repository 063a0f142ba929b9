-- The lines of a file, answered.
use Rattle.std.proofs.Common.{◌≡◌, ℕ, suc, ◌-◌, ◌≤◌, ◌<◌, List, [], ◌∷◌, ◌++◌, map, length, Option, None, set, get_or, sym}
use Rattle.std.proofs.Common.{ap, subst, ◌∙◌, arith, append_assoc, append-nil}
use Rattle.pair_history.specs.HistoryState.{HistoryState}
use Rattle.pair_run.specs.declared.run_file.Action.{Action}
use Rattle.pair_run.specs.declared.run_file.ClientLine.{ClientLine}
use Rattle.growing_history.specs.Entries.{own_entries}
use Rattle.growing_history.specs.LogState.{history_of}
use Rattle.growing_history.specs.Steps.{Step}
use Rattle.hypervisor.specs.Clients.{ClientState, own}
use Rattle.hypervisor.specs.Looking.{SeeAll}
use Rattle.hypervisor.specs.Opening.{new_client}
use Rattle.pair_threads.specs.Lines.{clients_of}
use Rattle.pair_threads.specs.Seats.{AreSeated, sits}
use Rattle.pair_threads.specs.Served.{AreServed}
use Rattle.pair_threads.specs.Told.{AreAnswered, IsAnswered, MayAnswerAll, entries_told}
use Rattle.pair_threads.specs.internal.Scripts.{ScriptState, HasPlayed, IsScript, AreScripts, answered_of, client_of}
use Rattle.pair_threads.proofs.SeatLemmas.{taken}

-- one script more
pub more-scripts : (lines : List ClientLine) (scripts : List ScriptState) (line : ClientLine) (script : ScriptState) → AreScripts lines scripts
    → IsScript line script → AreScripts (lines ++ line ∷ []) (scripts ++ script ∷ [])
more-scripts [] [] line script are is = (is, tt)
more-scripts [] (s ∷ ss) line script are is = absurd are
more-scripts (l ∷ ls) [] line script are is = absurd are
more-scripts (l ∷ ls) (s ∷ ss) line script are is = (are.0, more-scripts ls ss line script are.1 is)

module _ (start : HistoryState) (unseen : (c : ℕ) → own start (new_client c) ≡ []) (all : List Step) where
  -- a client's own entries are all that it called, in this history too
  abbrev Keeps : ClientState → Type 0
  Keeps c = own_entries c.number (history_of start all) ≡ own start c

  abbrev AllKeep : List ClientState → Type 0
  AllKeep cs = (i : ℕ) (c : ClientState) → i < length cs → Keeps (get_or cs i c)

  one-answered : (line : ClientLine) (script ended : ScriptState) → IsScript line script → HasPlayed start script ended
      → Keeps ended.client → IsAnswered (history_of start all) line (answered_of ended)
  one-answered line script ended is played keeps =
      let same : ended.line ≡ line = played.0 ∙ is.line in
      let made = played.1 is.room in
      let first : script.client.number ≡ line.client = ap (λ c. c.number) is.client in
      let number : ended.client.number ≡ line.client = made.number ∙ first in
      let does = ap (λ l. l.actions.items) is.line in
      let nothing : own start script.client ≡ [] = ap (own start) is.client ∙ unseen line.client in
      record {
        client = ap (λ l. l.client) same;
        may = subst (λ (acts : List Action). MayAnswerAll acts ended.replies.items) does made.may;
        own = ap (λ n. own_entries n (history_of start all)) (sym number)
            ∙ (keeps
            ∙ (made.own
            ∙ (ap (λ es. es ++ entries_told script.client.number script.line.actions.items ended.replies.items) nothing
            ∙ (ap (λ n. entries_told n script.line.actions.items ended.replies.items) first
            ∙ ap (λ acts. entries_told line.client acts ended.replies.items) does))));
      }

  answered-all : (lines : List ClientLine) (scripts ended : List ScriptState) → AreScripts lines scripts
      → AreServed (HasPlayed start) scripts ended → AllKeep (map client_of ended)
      → AreAnswered (history_of start all) lines (map answered_of ended)
  answered-all [] [] [] are served keep = tt
  answered-all [] [] (e ∷ es) are served keep = absurd (omega (arith, served.0))
  answered-all [] (s ∷ ss) ended are served keep = absurd are
  answered-all (l ∷ ls) [] ended are served keep = absurd are
  answered-all (l ∷ ls) (s ∷ ss) [] are served keep = absurd (omega (arith, served.0))
  answered-all (l ∷ ls) (s ∷ ss) (e ∷ es) are served keep = (
    one-answered l s e are.0 (served.1 0 s (omega arith)) (keep 0 e.client (omega arith)),
    answered-all ls ss es are.1 (omega (arith, served.0), λ i x low. served.1 (suc i) x (omega arith))
        (λ i x low. keep (suc i) x (omega arith)),
  )

  -- they have looked
  pub all-answered : (lines : List ClientLine) (scripts ended : List ScriptState) (looked : List ClientState) → AreScripts lines scripts
      → AreServed (HasPlayed start) scripts ended → SeeAll start all (map client_of ended) looked
      → AreAnswered (history_of start all) lines (map answered_of ended)
  all-answered lines scripts ended looked are served see =
      answered-all lines scripts ended are served (λ i x low. (see.each i x low).own)

-- ---- a line more

pub sits-first : (seats : List (Option ClientState)) (left rest : List ClientLine) (line : ClientLine) → left ≡ line ∷ rest
    → AreSeated seats (clients_of left) → (1 ≤ line.client) × sits seats line.client
sits-first seats left rest line is seated =
    let first = subst (λ ls. AreSeated seats (clients_of ls)) is seated in
    (first.0, first.1)

pub seated-on : (seats seats' : List (Option ClientState)) (left rest : List ClientLine) (line : ClientLine) → left ≡ line ∷ rest
    → AreSeated seats (clients_of left) → seats' ≡ set seats (line.client - 1) None → AreSeated seats' (clients_of rest)
seated-on seats seats' left rest line is seated left' =
    let first = subst (λ ls. AreSeated seats (clients_of ls)) is seated in
    subst (λ ss. AreSeated ss (clients_of rest)) (sym left') (taken seats (clients_of rest) line.client first.0 first.2 first.3)

-- the lines so far have their scripts, of all these lines
abbrev pub HaveScripts : List ClientLine → List ClientLine → List ScriptState → Type 0
HaveScripts all left scripts = (done : List ClientLine) × (done ++ left ≡ all) × AreScripts done scripts

pub scripts-on : (all left rest : List ClientLine) (line : ClientLine) (scripts scripts' : List ScriptState) (script : ScriptState)
    → left ≡ line ∷ rest → HaveScripts all left scripts → IsScript line script → scripts' ≡ scripts ++ script ∷ []
    → HaveScripts all rest scripts'
scripts-on all left rest line scripts scripts' script is have one more = (
  have.0 ++ line ∷ [],
  append_assoc have.0 (line ∷ []) rest ∙ (ap (λ ls. have.0 ++ ls) (sym is) ∙ have.1),
  subst (AreScripts (have.0 ++ line ∷ [])) (sym more) (more-scripts have.0 scripts line script have.2 one),
)

pub scripts-all : (all left : List ClientLine) (scripts : List ScriptState) → left ≡ [] → HaveScripts all left scripts
    → AreScripts all scripts
scripts-all all left scripts none have =
    subst (λ ls. AreScripts ls scripts) (sym (append-nil have.0) ∙ (ap (λ ls. have.0 ++ ls) (sym none) ∙ have.1)) have.2
