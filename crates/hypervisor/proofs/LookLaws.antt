-- Clients look, one after another.
use Rattle.std.proofs.Common.{◌≡◌, ◌≢◌, ℕ, ◌+◌, ◌<◌, ◌≤◌, ◌⊎◌, inl, inr, List, [], length, set, get_or, map, refl, sym, ap, ◌∙◌, subst, arith}
use Rattle.std.proofs.lemmas.Bool.{cases_eq}
use Rattle.std.proofs.lemmas.List.{get_or-set_other, get_or-set_same, length-set, length-map, nil_from_length}
use Rattle.pair_history.specs.Entries.{Entry}
use Rattle.pair_history.specs.HistoryState.{HistoryState}
use Rattle.growing_history.specs.Steps.{Step}
use Rattle.growing_history.specs.LogState.{Epoch, LegalSteps, state_at, history_of}
use Rattle.pair_book.specs.Books.{BookState}
use Rattle.hypervisor.specs.Clients.{ClientState}
use Rattle.hypervisor.specs.Looking.{SeesAll, SeeAll, HasFound, found_at}
use Rattle.hypervisor.specs.Service.{AreOfOneGuest}

-- so many of them have seen all, and the others are as before
pub record SomeSee (start : HistoryState) (all : List Step) (some : ℕ) (old new : List ClientState) : Type 0 where
  pub count : length new ≡ length old
  pub first : (i : ℕ) (c : ClientState) → i < length old → i < some → SeesAll start all (get_or old i c) (get_or new i c)
  pub rest : (i : ℕ) (c : ClientState) → some ≤ i → get_or new i c ≡ get_or old i c

module _ (start : HistoryState) (all : List Step) (old : List ClientState) where
  pub none-sees : SomeSee start all 0 old old
  none-sees = record { count = refl; first = λ i c within low. absurd (omega (arith, low)); rest = λ i c low. refl }

  pub one-more-sees : (some : ℕ) (new : List ClientState) (seen : ClientState) → SomeSee start all some old new → some < length old
      → ((c : ClientState) → SeesAll start all (get_or new some c) seen) → SomeSee start all (some + 1) old (set new some seen)
  one-more-sees some new seen h within sees = record {
    count = length-set new some seen ∙ h.count;
    first = λ i c low less. by_place i c low less (cases_eq i some);
    rest = λ i c low.
        get_or-set_other new some i seen c (λ (e : i ≡ some). absurd (omega (arith, low, e))) ∙ h.rest i c (omega (arith, low));
  }
    where
      by_place : (i : ℕ) (c : ClientState) → i < length old → i < some + 1 → (i ≡ some) ⊎ (i ≢ some)
          → SeesAll start all (get_or old i c) (get_or (set new some seen) i c)
      by_place i c low less (inl e) =
          let here : get_or (set new some seen) some c ≡ seen = get_or-set_same new some seen c (omega (arith, within, h.count)) in
          subst (λ (k : ℕ). SeesAll start all (get_or old k c) (get_or (set new some seen) k c)) (sym e)
          (subst (λ (x : ClientState × ClientState). SeesAll start all x.0 x.1)
          (λ j. (h.rest some c (omega arith) j, sym here j)) (sees c))
      by_place i c low less (inr e) =
          subst (λ (s : ClientState). SeesAll start all (get_or old i c) s) (sym (get_or-set_other new some i seen c e))
          (h.first i c low (omega (arith, less, e)))

-- all have looked
pub all-see : (start : HistoryState) (all : List Step) (old new : List ClientState) (some : ℕ) → length old ≤ some
    → SomeSee start all some old new → SeeAll start all old new
all-see start all old new some many seen =
    record { count = seen.count; each = λ i c low. seen.first i c low (omega (arith, low, many)) }

-- what the book says of itself is what was found
pub has-found : (start : HistoryState) (b : BookState) → LegalSteps start b.steps → AreOfOneGuest start b.steps
    → ((state_at start b.steps).marked ≡ 0 → b.protocol.journal.history ≡ history_of start b.steps)
    → b.protocol.generation ≡ (state_at start b.steps).generation → b.protocol.window.to_cut ≡ (state_at start b.steps).next
    → b.protocol.journal.sealed ≡ map (λ (e : Epoch). e.entries) (state_at start b.steps).sealed
    → (length b.protocol.pending ≡ 0 → b.protocol.journal.sealed ≡ []) → HasFound start b.steps (found_at b)
has-found start b legal guest history generation next sealed pending =
    let s = state_at start b.steps in
    record {
      legal = legal;
      guest = guest;
      entries = λ none. ap (λ (es : List Entry). length es) (history none);
      generation = generation;
      next = next;
      sealed = λ none.
          nil_from_length s.sealed
          (sym (length-map s.sealed (λ (e : Epoch). e.entries)) ∙ ap (λ (l : List (List Entry)). length l) (sym sealed ∙ pending none));
    }
