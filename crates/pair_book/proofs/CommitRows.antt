-- The table of refusals of commits.
use Rattle.std.proofs.Common.{◌≡◌, ℕ, ◌<◌, [], ◌∷◌, length, Bool, true, false, refl, Some, None, arith}
use Rattle.std.proofs.{lemmas.Bool.{eqb-true, eq-eqb, ltb-false, ltb-true}}
use Rattle.std.specs.Prelude.{nat_le, nat_lt, not, ◌==◌, ◌&&◌}
use Rattle.epoch_snapshot.specs.Checkpoints.{Change, is_old_delta}
use Rattle.frame_ports.specs.Limits.{number_limit}
use Rattle.pair_history.specs.HistoryState.{HistoryState}
use Rattle.pair_record.specs.declared.event.Refusal.TheVariants.{Stopped, Stale, Gap, Exhausted, OldVersion}
use Rattle.pair_record.specs.Modes.{is_alone}
use Rattle.pair_record.specs.Protocol.{first_refusal}
use Rattle.std.proofs.lemmas.Bool.{leb-false}
use Rattle.growing_history.specs.LogState.{state_at}
use Rattle.pair_book.specs.Books.{BookState}
use Rattle.pair_book.specs.Calls.{is_word_full}
use Rattle.pair_book.specs.Commits.{may_commit, is_next, is_earlier, commit_why}
use Rattle.pair_book.proofs.Words.{word_room}

-- what is so where nothing refuses the commit, and it isn't an earlier one
pub record MayCommit (start : HistoryState) (b : BookState) (by : ℕ) (c : Change) : Type 0 where
  pub mine : by ≡ (state_at start b.steps).backup
  pub pair : is_alone b.protocol.mode ≡ false
  pub generation : c.generation ≡ b.protocol.generation
  pub number : c.number ≡ b.protocol.window.to_commit
  pub some : b.protocol.window.to_commit < b.protocol.window.to_cut
  pub room : length b.steps < number_limit

abbrev none : Bool → Bool → Bool → Bool → Bool → Bool → Type 0
none old may own far empty full =
    first_refusal
    ((old, OldVersion) ∷ (not may, Stopped) ∷ (not own, Stale) ∷ (far, Gap) ∷ (empty, Gap) ∷ (full, Exhausted) ∷ [])
    ≡ None

five : (old may own far empty full : Bool) → none old may own far empty full
    → (may ≡ true) × (own ≡ true) × (far ≡ false) × (empty ≡ false) × (full ≡ false)
five true may own far empty full e = absurd (cc)
five false false own far empty full e = absurd (cc)
five false true false far empty full e = absurd (cc)
five false true true true empty full e = absurd (cc)
five false true true false true full e = absurd (cc)
five false true true false false true e = absurd (cc)
five false true true false false false e = (refl, refl, refl, refl, refl)

both-true : (x y : Bool) → x && not y ≡ true → (x ≡ true) × (y ≡ false)
both-true true false e = (refl, refl)
both-true true true e = absurd (cc)
both-true false y e = absurd (cc)

second-false : (x y : Bool) → x ≡ true → x && y ≡ false → y ≡ false
second-false true y is e = e
second-false false y is e = absurd (cc)

pub commit_may : (start : HistoryState) (b : BookState) (by : ℕ) (c : Change) → commit_why start b by (Some c) ≡ None
    → is_earlier b c ≡ false → MayCommit start b by c
commit_may start b by c e later =
    let w = b.protocol.window in
    let rows =
    five (is_old_delta c) (may_commit start b by) (c.generation == b.protocol.generation) (nat_lt w.to_commit c.number)
    (is_next b c && nat_le w.to_cut w.to_commit) (is_next b c && is_word_full b) e in
    let may = both-true (by == (state_at start b.steps).backup) (is_alone b.protocol.mode) rows.0 in
    let least = ltb-false c.number w.to_commit later in
    let most = ltb-false w.to_commit c.number rows.2 in
    let same : c.number ≡ w.to_commit = omega (arith, least, most) in
    let next : is_next b c ≡ true = eq-eqb c.number w.to_commit same in
    record {
      mine = eqb-true by (state_at start b.steps).backup may.0;
      pair = may.1;
      generation = eqb-true c.generation b.protocol.generation rows.1;
      number = same;
      some = leb-false w.to_cut w.to_commit (second-false (is_next b c) (nat_le w.to_cut w.to_commit) next rows.3);
      room = word_room b (second-false (is_next b c) (is_word_full b) next rows.4);
    }

-- and whether it is an earlier one or not: the backup is the live one's, and no node is alone
pub commit-live : (start : HistoryState) (b : BookState) (by : ℕ) (c : Change) → commit_why start b by (Some c) ≡ None
    → (by ≡ (state_at start b.steps).backup) × (is_alone b.protocol.mode ≡ false)
commit-live start b by c e =
    let w = b.protocol.window in
    let rows =
    five (is_old_delta c) (may_commit start b by) (c.generation == b.protocol.generation) (nat_lt w.to_commit c.number)
    (is_next b c && nat_le w.to_cut w.to_commit) (is_next b c && is_word_full b) e in
    let may = both-true (by == (state_at start b.steps).backup) (is_alone b.protocol.mode) rows.0 in (
      eqb-true by (state_at start b.steps).backup may.0,
      may.1,
    )

pub some-committed : (b : BookState) (c : Change) → is_earlier b c ≡ true → 0 < b.protocol.window.to_commit
some-committed b c e = let low = ltb-true c.number b.protocol.window.to_commit e in omega (arith, low)
