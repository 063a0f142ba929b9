-- Along a run each sealed epoch keeps its place, until its checkpoint is committed and it enters the history.
use Rattle.std.proofs.Common.{◌≡◌, ℕ, suc, ◌+◌, ◌≤◌, List, [], ◌∷◌, ◌++◌, length, refl, sym, ap, ◌∙◌, subst, arith, Bool, true, false, Some}
use Rattle.std.proofs.lemmas.List.{length-append, append-nil}
use Rattle.std.specs.Prelude.{slice_get}
use Rattle.pair_history.specs.{Entries.Entry, HistoryState.HistoryState}
use Rattle.pair_record.specs.{declared.event.Event.Event, declared.event.Event.TheVariants.{Cut, BackupGet, Protect}}
use Rattle.pair_record.specs.declared.event.Reply.{Reply}
use Rattle.pair_record.specs.Journal.{Journal, first_of, rest_of, with_moves}
use Rattle.pair_record.specs.{Modes.is_alone, Protocol.{Record, Outcome, refused}}
use Rattle.pair_core.specs.{Nodes.Nodes, Pair.{Pair, IsConsistent}}
use Rattle.pair_core.specs.Replication.{to_come, number_after, next_number, KeepsBackup, Replicates, Does, Leads}
use Rattle.pair_core.specs.Lines.{Lines}
use Rattle.pair_core.specs.laws.Along.{along-keeps}
use Rattle.pair_core.specs.laws.Ends.{Ends, answers_end}
use Rattle.pair_core.proofs.Generations.{place-more, next-same, refused_keeps}
use Rattle.pair_core.proofs.ReplicationLaws.{to_come-ends, length-ends}
use Rattle.pair_core.proofs.ReplicationRuns.{does, place-last}
use Rattle.pair_record.specs.declared.event.Reply.TheVariants as replies

-- The places of sealed epochs

-- the epoch of this number is es, where the first of these has number n
abbrev Stands : ℕ → List Entry → ℕ → List (List Entry) → Type 0
Stands number es n ess = (j : ℕ) → n + j ≡ number → slice_get ess j ≡ Some es

-- each epoch keeps its place
abbrev Stays : ℕ → List (List Entry) → ℕ → List (List Entry) → Type 0
Stays n ess m fss = (number : ℕ) (es : List Entry) → Stands number es n ess → Stands number es m fss

stays_same : (n m : ℕ) (ess fss : List (List Entry)) → n ≡ m → fss ≡ ess → Stays n ess m fss
stays_same n m ess fss e f number es p j at = ap (λ (xs : List (List Entry)). slice_get xs j) f ∙ p j (ap (λ k. k + j) e ∙ at)

stays_cut : (n m : ℕ) (ess : List (List Entry)) (running : List Entry) → n ≡ m → Stays n ess m (ess ++ running ∷ [])
stays_cut n m ess running e number es p j at = place-more ess (running ∷ []) j es (p j (ap (λ k. k + j) e ∙ at))

rest-at : (ess : List (List Entry)) (j : ℕ) → slice_get (rest_of ess) j ≡ slice_get ess (suc j)
rest-at [] j = refl
rest-at (es ∷ ess) j = refl

stays_commit : (n m : ℕ) (ess : List (List Entry)) → m ≡ n + 1 → Stays n ess m (rest_of ess)
stays_commit n m ess e number es p j at = rest-at ess j ∙ p (suc j) (omega arith)

first-at : (ess : List (List Entry)) (es : List Entry) → slice_get ess 0 ≡ Some es → first_of ess ≡ es
first-at [] es e = absurd (cc)
first-at (x ∷ ess) es e = cc

-- what a reply tells of the epochs, where it adds these entries and leaves the record q of r
abbrev Tells : Record → Reply → List Entry → Record → Type 0
Tells r (replies.Cut generation number) es q = q.journal.sealed ≡ r.journal.sealed ++ r.journal.running ∷ []
Tells r (replies.Committed generation number) es q = es ≡ first_of r.journal.sealed
Tells r (replies.Protecting generation) es q = q.journal.sealed ≡ r.journal.sealed ++ [] ∷ []
Tells r other es q = Unit {0}

-- where the generation stays and there is a backup after the event, each sealed epoch keeps its place
record Keeps (r : Record) (x y : Nodes) (event : Event) (es : List Entry) (o : Outcome) : Type 0 where
  tells : Tells r o.0 es o.1
  stays : Replicates event o.0 x y → is_alone o.1.mode ≡ false → o.1.generation ≡ r.generation
      → Stays (next_number x) r.journal.sealed (next_number y) o.1.journal.sealed

-- Each event, by the ways in which it may end

sealed-stay : (alone : Bool) (j : Journal) (es : List Entry) → (with_moves alone j es).sealed ≡ j.sealed
sealed-stay true j es = refl
sealed-stay false j es = refl

module _ (start : HistoryState) (r : Record) (x y : Nodes) where
  -- no epoch is sealed or committed
  kept : (event : Event) (es : List Entry) (o : Outcome) → o.1.journal.sealed ≡ r.journal.sealed → Tells r o.0 es o.1
      → (Replicates event o.0 x y → KeepsBackup x y) → Keeps r x y event es o
  kept event es o same tells keeps = record {
    tells = tells;
    stays = λ k two e. stays_same (next_number x) (next_number y) r.journal.sealed o.1.journal.sealed (next-same x y (keeps k).0) same;
  }

  -- in the next generation
  later : (event : Event) (es : List Entry) (o : Outcome) → o.1.generation ≡ r.generation + 1 → Tells r o.0 es o.1 → Keeps r x y event es o
  later event es o generation tells = record { tells = tells; stays = λ k two e. absurd (omega arith) }

  keeps_all : (l : Lines) → Ends start r l (Keeps r x y)
  keeps_all l = record {
    refuses = λ event why plain. kept event _ (refused r why) refl tt (λ k. subst (λ (A : Type 0). A) (refused_keeps event why x y) k);
    step = λ alone is. kept _ _ _ (sealed-stay (is_alone r.mode) r.journal _) tt (λ k. k);
    cut = record {
      tells = refl;
      stays = λ k two e. stays_cut (next_number x) (next_number y) r.journal.sealed r.journal.running (next-same x y k.image);
    };
    send = kept _ _ _ refl tt (λ k. k);
    lost = λ k. (kept _ _ _ refl tt (λ k. k), kept _ _ _ refl tt (λ k. k));
    again = λ k. kept _ _ _ refl tt (λ k. k);
    commit = λ k goes. record {
      tells = refl;
      stays = λ k two e.
          let before = k.before in
          stays_commit (next_number x) (next_number y) r.journal.sealed (ap number_after k.stands ∙ ap (λ n. n + 1) (sym before));
    };
    acknowledge = λ k p is same. kept _ _ _ refl tt (λ k. k);
    empty = λ c place. (kept _ _ _ refl tt (λ k. k), kept _ _ _ refl tt (λ k. k), kept _ _ _ refl tt (λ k. k));
    admit = λ c n alone is. kept _ _ _ (sealed-stay (is_alone r.mode) r.journal _) tt (λ k. k);
    full = λ c bytes. kept _ _ _ refl tt (λ k. k);
    deliver = λ c bytes. kept _ _ _ refl tt (λ k. k);
    take = λ c. kept _ _ _ refl tt (λ k. k);
    lose_in = λ c place x is. kept _ _ _ refl tt (λ k. k);
    lose_out = λ c place f is. kept _ _ _ refl tt (λ k. k);
    fail_primary = λ goes. kept _ _ _ refl tt (λ k. k);
    fail_backup = record { tells = tt; stays = λ k two same. absurd (cc) };
    go_live = later _ _ _ refl tt;
    protect = later _ _ _ refl refl;
  }

-- Along runs

-- what an event added to the history, and what it did to the sealed epochs
keeps : (old new : Pair) (event : Event) (reply : Reply) → Does old event reply new
    → (es : List Entry) × (new.protocol.state.journal.history ≡ old.protocol.state.journal.history ++ es)
    × Keeps old.protocol.state old.nodes new.nodes event es (reply, new.protocol.state)
keeps old new event reply d =
    answers_end old.start old.protocol.state old.protocol.lines _
    (keeps_all old.start old.protocol.state old.nodes new.nodes old.protocol.lines) event reply new.protocol.state d.answers.0

-- Once the checkpoint of this generation and number is committed, this epoch enters the history: as long as there is a backup in that
-- generation, it stands in its place among those that are sealed.
record Awaits (generation number : ℕ) (es : List Entry) (w : Pair) : Type 0 where
  begun : generation ≤ w.protocol.state.generation
  place : is_alone w.protocol.state.mode ≡ false → w.protocol.state.generation ≡ generation
      → Stands number es (next_number w.nodes) w.protocol.state.journal.sealed

module _ (generation number : ℕ) (es : List Entry) where
  waits_event : (event : Event) (reply : Reply) (old new : Pair) → Does old event reply new
      → Awaits generation number es old → Awaits generation number es new
  waits_event event reply old new d p =
      let k = does old new event reply d in
      let begun = p.begun in
      let raises = k.raises in
      record {
        begun = omega arith;
        place = λ two e.
            let there = k.stays d.replicates two (omega arith) in
            (keeps old new event reply d).2.stays d.replicates two (omega arith) number es (p.place there.0 (omega arith));
      }

  waits_along : (events : List Event) (replies : List Reply) (old new : Pair) → Leads old events replies new
      → Awaits generation number es old → Awaits generation number es new
  waits_along = along-keeps Does (Awaits generation number es) waits_event

  enters : (k : ℕ) (old new : Pair) → Does old (BackupGet k) (replies.Committed generation number) new
      → Awaits generation number es old → new.protocol.state.journal.history ≡ old.protocol.state.journal.history ++ es
  enters k old new d p =
      let c = d.replicates in
      let before = c.before in
      let told = (does old new (BackupGet k) (replies.Committed generation number) d).tells in
      let kept = keeps old new (BackupGet k) (replies.Committed generation number) d in
      let first = first-at old.protocol.state.journal.sealed es (p.place told.0 told.1 0 (omega arith)) in
      kept.1 ∙ ap (λ (t : List Entry). old.protocol.state.journal.history ++ t) (kept.2.tells ∙ first)

-- as many epochs are sealed as guests are to come
as-many : (w : Pair) → is_alone w.protocol.state.mode ≡ false → IsConsistent w → length (to_come w.nodes) ≡ length w.protocol.state.journal.sealed
as-many w two k = ap length (to_come-ends w w.protocol.state.mode two k.mode) ∙ length-ends _ w.protocol.state.journal.sealed

-- the epoch that was sealed last stands last
last-stands : (n number : ℕ) (ess fss : List (List Entry)) (es : List Entry) → fss ≡ ess ++ es ∷ [] → n + length fss ≡ number + 1
    → Stands number es n fss
last-stands n number ess fss es e long j at =
    let longer : length fss ≡ length ess + 1 = ap length e ∙ length-append ess (es ∷ []) in
    let last : j ≡ length ess = omega arith in
    (λ i. slice_get (e i) (last i)) ∙ place-last ess es

waits_once_cut : (generation number : ℕ) (old new : Pair) → Does old Cut (replies.Cut generation number) new
    → Awaits generation number old.protocol.state.journal.running new
waits_once_cut generation number old new d =
    let told = (does old new Cut (replies.Cut generation number) d).tells in
    let sealed = (keeps old new Cut (replies.Cut generation number) d).2.tells in
    let c = d.replicates in
    let place = c.place in
    let same = next-same old.nodes new.nodes c.image in
    let one_more : length (to_come new.nodes) ≡ length (to_come old.nodes) + 1 =
    ap length c.last ∙ length-append (to_come old.nodes) (old.nodes.live.guest ∷ []) in
    record {
      begun = omega arith;
      place = λ two e.
          let many = as-many new two d.consistent in
          last-stands (next_number new.nodes) number old.protocol.state.journal.sealed new.protocol.state.journal.sealed old.protocol.state.journal.running
          sealed (omega arith);
    }

waits_once_protected : (generation : ℕ) (old new : Pair) → Does old Protect (replies.Protecting generation) new
    → Awaits generation 0 [] new
waits_once_protected generation old new d =
    let told = (does old new Protect (replies.Protecting generation) d).tells in
    let sealed = (keeps old new Protect (replies.Protecting generation) d).2.tells in
    let c = d.replicates in
    let empty : next_number new.nodes ≡ 0 = ap number_after c.empty in
    let one : length (to_come new.nodes) ≡ 1 = ap length c.only in
    record {
      begun = omega arith;
      place = λ two e.
          let many = as-many new two d.consistent in
          last-stands (next_number new.nodes) 0 old.protocol.state.journal.sealed new.protocol.state.journal.sealed [] sealed (omega arith);
    }

pub cut_enters : (cut next late done : Pair) (generation number k : ℕ) (events : List Event) (answers : List Reply)
    → Does cut Cut (replies.Cut generation number) next → Leads next events answers late
    → Does late (BackupGet k) (replies.Committed generation number) done
    → done.protocol.state.journal.history ≡ late.protocol.state.journal.history ++ cut.protocol.state.journal.running
cut_enters cut next late done generation number k events answers c l d =
    let es = cut.protocol.state.journal.running in
    enters generation number es k late done d
    (waits_along generation number es events answers next late l (waits_once_cut generation number cut next c))

-- the full checkpoint's epoch is empty

pub full_enters : (alone next late done : Pair) (generation k : ℕ) (events : List Event) (answers : List Reply)
    → IsConsistent alone → Does alone Protect (replies.Protecting generation) next → Leads next events answers late
    → Does late (BackupGet k) (replies.Committed generation 0) done
    → done.protocol.state.journal.history ≡ late.protocol.state.journal.history
full_enters alone next late done generation k events answers before c l d =
    enters generation 0 [] k late done d
    (waits_along generation 0 [] events answers next late l (waits_once_protected generation alone next c))
    ∙ append-nil late.protocol.state.journal.history
