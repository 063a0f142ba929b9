-- What each event does to the generation, and to the places of the guests that the image will be: one lemma for each way in which an
-- event ends.
use Rattle.std.proofs.Common.{rules, ◌≡◌, ℕ, zero, suc, ◌+◌, ◌≤◌, List, [], ◌∷◌, ◌++◌, refl, sym, ap, ◌∙◌, subst, arith, false, Some}
use Rattle.std.specs.Prelude.{slice_get}
use Rattle.guest_rules.specs.Guest.{Guest}
use Rattle.backup_image.specs.Images.{ImageState}
use Rattle.pair_history.specs.HistoryState.{HistoryState}
use Rattle.pair_record.specs.{declared.event.Event.Event, declared.event.Event.TheVariants.{Step, GoLive, Protect}}
use Rattle.pair_record.specs.{declared.event.Refusal.Refusal, declared.event.Reply.Reply, Modes.is_alone}
use Rattle.pair_core.specs.Nodes.{Nodes}
use Rattle.pair_record.specs.Protocol.{Record, Outcome, refused}
use Rattle.pair_core.specs.Replication.{to_come, number_after, next_number, NodesCut, IsCommit, KeepsBackup, Replicates}
use Rattle.pair_record.specs.laws.Modes.{backup_goes, stop_goes}
use Rattle.pair_core.specs.Lines.{Lines}
use Rattle.pair_core.specs.laws.Ends.{Ends}
use Rattle.pair_record.specs.declared.event.Reply.TheVariants as replies

-- The places of the guests to come

-- once the checkpoint of this number is committed, the image will be this guest
abbrev pub Stands : ℕ → Guest → Nodes → Type 0
Stands number g x = (j : ℕ) → next_number x + j ≡ number → slice_get (to_come x) j ≡ Some g

-- each guest to come keeps its place
abbrev pub Stays : Nodes → Nodes → Type 0
Stays x y = (number : ℕ) (g : Guest) → Stands number g x → Stands number g y

pub place-more : {A : Type 0} (xs ys : List A) (j : ℕ) (a : A) → slice_get xs j ≡ Some a → slice_get (xs ++ ys) j ≡ Some a
place-more [] ys j a e = absurd (cc)
place-more (x ∷ xs) ys zero a e = e
place-more (x ∷ xs) ys (suc j) a e = place-more xs ys j a e

pub next-same : (x y : Nodes) → y.image ≡ x.image → next_number x ≡ next_number y
next-same x y e = ap (λ (s : ImageState). number_after s.stands_at) (sym e)

pub stays_kept : (x y : Nodes) → KeepsBackup x y → Stays x y
stays_kept x y k number g p j e = search (arith, rules, next-same)

stays_cut : (n : ℕ) (x y : Nodes) → NodesCut n x y → Stays x y
stays_cut n x y k number g p j e =
    ap (λ (gs : List Guest). slice_get gs j) k.last
    ∙ place-more (to_come x) (x.live.guest ∷ []) j g (p j (ap (λ (n : ℕ). n + j) (next-same x y k.image) ∙ e))

stays_commit : (m n : ℕ) (x y : Nodes) → IsCommit m n x y → Stays x y
stays_commit m n x y k number g p j e =
    let now = k.before in
    let then : next_number y ≡ n + 1 = ap number_after k.stands in
    ap (λ (gs : List Guest). slice_get gs (suc j)) (sym k.first) ∙ p (suc j) (omega arith)

-- a refusal does nothing for replication
pub refused_keeps : (event : Event) (why : Refusal) (x y : Nodes) → Replicates event (replies.Refused why) x y ≡ KeepsBackup x y
refused_keeps Step why x y = refl
refused_keeps other why x y = refl

-- what a reply tells of the generation, where it leaves the record q of r
abbrev pub Tells : Record → Reply → Record → Type 0
Tells r (replies.Cut generation number) q = q.generation ≡ generation
Tells r (replies.Committed generation number) q = (is_alone r.mode ≡ false) × (r.generation ≡ generation)
Tells r (replies.Protecting generation) q = q.generation ≡ generation
Tells r other q = Unit {0}

-- The generation rises or stays, and where it stays and there is a backup after the event, there was one before it, and each guest to
-- come keeps its place.
pub record Goes (r : Record) (x y : Nodes) (event : Event) (o : Outcome) : Type 0 where
  pub raises : r.generation ≤ o.1.generation
  pub tells : Tells r o.0 o.1
  pub stays : Replicates event o.0 x y → is_alone o.1.mode ≡ false → o.1.generation ≡ r.generation
      → (is_alone r.mode ≡ false) × Stays x y

-- Each event, by the ways in which it may end

module _ (start : HistoryState) (r : Record) (x y : Nodes) where
  -- in the same generation
  same : (event : Event) (o : Outcome) → o.1.generation ≡ r.generation → (is_alone o.1.mode ≡ false → is_alone r.mode ≡ false)
      → Tells r o.0 o.1 → (Replicates event o.0 x y → Stays x y) → Goes r x y event o
  same event o generation two tells stays = record {
    raises = omega arith;
    tells = tells;
    stays = λ k e same. (two e, stays k);
  }

  -- in the next one
  later : (event : Event) (o : Outcome) → o.1.generation ≡ r.generation + 1 → Tells r o.0 o.1 → Goes r x y event o
  later event o generation tells = record {
    raises = omega arith;
    tells = tells;
    stays = λ k e same. absurd (omega arith);
  }

  -- the backup stays, and the mode
  kept : (event : Event) (o : Outcome) → o.1.generation ≡ r.generation → o.1.mode ≡ r.mode → Tells r o.0 o.1
      → (Replicates event o.0 x y → KeepsBackup x y) → Goes r x y event o
  kept event o generation mode tells keeps = same event o generation (λ e. ap is_alone (sym mode) ∙ e) tells (λ k. stays_kept x y (keeps k))

  pub goes_all : (l : Lines) → Ends start r l (λ event es o. Goes r x y event o)
  goes_all l = record {
    refuses = λ event why plain. kept event (refused r why) refl refl tt (λ k. subst (λ (A : Type 0). A) (refused_keeps event why x y) k);
    step = λ alone is. kept _ _ refl refl tt (λ k. k);
    cut = same _ _ refl (λ e. e) refl (stays_cut r.window.to_cut x y);
    send = kept _ _ refl refl tt (λ k. k);
    lost = λ k. (kept _ _ refl refl tt (λ k. k), kept _ _ refl refl tt (λ k. k));
    again = λ k. kept _ _ refl refl tt (λ k. k);
    commit = λ k goes.
        let two = backup_goes r.mode goes in
        same _ _ refl (λ e. two) (two, refl) (stays_commit r.generation r.window.to_commit x y);
    acknowledge = λ k p is same. kept _ _ refl refl tt (λ k. k);
    empty = λ c place. (kept _ _ refl refl tt (λ k. k), kept _ _ refl refl tt (λ k. k), kept _ _ refl refl tt (λ k. k));
    admit = λ c n alone is. kept _ _ refl refl tt (λ k. k);
    full = λ c bytes. kept _ _ refl refl tt (λ k. k);
    deliver = λ c bytes. kept _ _ refl refl tt (λ k. k);
    take = λ c. kept _ _ refl refl tt (λ k. k);
    lose_in = λ c place x is. kept _ _ refl refl tt (λ k. k);
    lose_out = λ c place f is. kept _ _ refl refl tt (λ k. k);
    fail_primary = λ goes. same _ _ refl (λ e. stop_goes r.mode goes) tt (stays_kept x y);
    fail_backup = record {
      raises = omega arith;
      tells = tt;
      stays = λ k two same. absurd (cc);
    };
    go_live = later GoLive _ refl tt;
    protect = later Protect _ refl refl;
  }
