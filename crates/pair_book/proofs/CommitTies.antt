-- What a commit keeps of the tie.
use Rattle.std.proofs.Common.{◌≡◌, ℕ, ◌<◌, List, [], ◌∷◌, ◌++◌, length, map, take, drop, refl, sym, ap, ◌∙◌, subst, false, arith}
use Rattle.std.proofs.lemmas.List.{append-nil}
use Rattle.failover.specs.declared.mode.Mode.{Mode}
use Rattle.failover.specs.declared.mode.Mode.TheVariants.{Paired, Filling, Alone, Stopped}
use Rattle.epoch_snapshot.specs.Checkpoints.{Change}
use Rattle.frame_ports.specs.Ports.{PortsState}
use Rattle.pair_history.specs.HistoryState.{HistoryState}
use Rattle.pair_record.specs.Journal.{first_of, rest_of}
use Rattle.pair_record.specs.Modes.{is_alone}
use Rattle.pair_record.specs.Protocol.{Record, commit_done}
use Rattle.pair_record.specs.Record.{IsRecord}
use Rattle.pair_record.specs.Accords.{Accords}
use Rattle.pair_record.specs.laws.Accords.{commit_accords, some_moves, some_held}
use Rattle.growing_history.specs.Steps.{Step, step}
use Rattle.growing_history.specs.LogState.{LogState, Epoch, state_at, entries_of, IsAlone, IsFirstSealed}
use Rattle.growing_history.specs.laws.Sealed.{first-sealed}
use Rattle.pair_book.specs.Commits.{commit_of}
use Rattle.pair_book.specs.internal.Tie.{IsTied}
use Rattle.pair_book.proofs.Ties.{step-tied, sealed-long, tied-as, tied-still}
use Rattle.failover.specs.Modes.{mode_filled}

-- the first of the sealed epochs, and the others
pub first-entries : (es : List Epoch) → first_of (map (λ (e : Epoch). e.entries) es) ≡ entries_of (take 1 es)
first-entries [] = refl
first-entries (e ∷ es) = sym (append-nil e.entries)

other-entries : (es : List Epoch) → rest_of (map (λ (e : Epoch). e.entries) es) ≡ map (λ (e : Epoch). e.entries) (drop 1 es)
other-entries [] = refl
other-entries (e ∷ es) = refl

pub not-alone : (m : Mode) → is_alone m ≡ false → IsAlone m → ⊥
not-alone Paired e a = a
not-alone Filling e a = a
not-alone Alone e a = absurd (cc)
not-alone Stopped e a = a

pub some-first : {A : Type 0} (xs : List A) → 0 < length xs → (x : A) × (rest : List A) × (xs ≡ x ∷ rest)
some-first [] l = absurd (omega (arith, l))
some-first (x ∷ xs) l = (x, xs, refl)

module _ {start : HistoryState} {steps : List Step} {r now : Record} {p q : PortsState} (t : IsTied start steps r p) (by : ℕ) (c : Change)
    (k : IsRecord r)
    (mine : by ≡ (state_at start steps).backup)
    (pair : is_alone r.mode ≡ false)
    (generation : c.generation ≡ r.generation)
    (number : c.number ≡ r.window.to_commit)
    (some : r.window.to_commit < r.window.to_cut)
    (is : now ≡ (commit_done r).1)
    (ports : q ≡ p) where
  abbrev s : LogState
  s = state_at start steps

  first : IsFirstSealed c.number s.sealed
  first =
      let long = sealed-long start steps r p t in
      first-sealed start steps t.legal c.number (omega (arith, number, long, k.sealed, t.next)) (omega (arith, number, some, t.next))

  paired : IsAlone s.mode → ⊥
  paired = subst (λ (m : Mode). IsAlone m → ⊥) t.mode (not-alone r.mode pair)

  committed-accords : Accords start r p → Accords start (commit_done r).1 p
  committed-accords a =
      let many = some_moves start r p a k some in
      let moves = some-first a.journal.sealed_moves many in
      let held = some_held start r p a k many in
      commit_accords start r p a k moves.0 moves.1 moves.2 held.0 held.1 held.2

  pub committed-tied : IsTied start (steps ++ step by (commit_of c) ∷ []) now q
  committed-tied =
      tied-as is ports
      (step-tied start steps r (commit_done r).1 p p t by (commit_of c) (mine, paired, generation ∙ t.generation, first) (λ none. tt)
      (λ none. ap (λ l. r.journal.history ++ l) (ap first_of t.sealed ∙ first-entries s.sealed))
      (ap rest_of t.sealed ∙ other-entries s.sealed) t.running (ap mode_filled t.mode) t.generation t.next refl
      (tied-still start steps r p p t (commit_of c) tt refl refl refl) (λ none. committed-accords (t.accords none)))
