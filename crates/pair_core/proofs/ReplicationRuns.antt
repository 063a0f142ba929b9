-- Along a run each guest to come keeps its place, until the checkpoint that makes it is committed.
use Rattle.std.proofs.Common.{◌≡◌, ℕ, List, [], ◌∷◌, ◌++◌, length, refl, sym, ap, ◌∙◌, arith, Some}
use Rattle.std.specs.Prelude.{slice_get}
use Rattle.guest_rules.specs.Guest.{Guest}
use Rattle.pair_record.specs.{declared.event.Event.Event, declared.event.Event.TheVariants.{Cut, BackupGet, Protect}}
use Rattle.pair_record.specs.declared.event.Reply.{Reply}
use Rattle.pair_core.specs.{Pair.Pair, Replication.{to_come, number_after, next_number, Awaits, Does, Leads}}
use Rattle.pair_core.specs.laws.Along.{along-keeps}
use Rattle.pair_core.specs.laws.Ends.{answers_end}
use Rattle.pair_core.proofs.Generations.{Goes, goes_all, next-same}
use Rattle.pair_record.specs.declared.event.Reply.TheVariants as replies

-- what an event did to the generation and to the guests to come
pub does : (old new : Pair) (event : Event) (reply : Reply) → Does old event reply new
    → Goes old.protocol.state old.nodes new.nodes event (reply, new.protocol.state)
does old new event reply d =
    (answers_end old.start old.protocol.state old.protocol.lines _ (goes_all old.start old.protocol.state old.nodes new.nodes old.protocol.lines)
    event reply new.protocol.state d.answers.0).2

module _ (generation number : ℕ) (g : Guest) where
  pub waits_event : (event : Event) (reply : Reply) (old new : Pair) → Does old event reply new
      → Awaits generation number g old → Awaits generation number g new
  waits_event event reply old new d p =
      let k = does old new event reply d in
      let begun = p.begun in
      let raises = k.raises in
      record {
        begun = omega arith;
        place = λ two e.
            let stays = k.stays d.replicates two (omega arith) in
            stays.1 number g (p.place stays.0 (omega arith));
      }

  pub waits_along : (events : List Event) (replies : List Reply) (old new : Pair) → Leads old events replies new
      → Awaits generation number g old → Awaits generation number g new
  waits_along = along-keeps Does (Awaits generation number g) waits_event

  pub comes : (k : ℕ) (old new : Pair) → Does old (BackupGet k) (replies.Committed generation number) new
      → Awaits generation number g old → new.nodes.image.guest ≡ g
  comes k old new d p =
      let c = d.replicates in
      let before = c.before in
      let told = (does old new (BackupGet k) (replies.Committed generation number) d).tells in
      let first : Some new.nodes.image.guest ≡ Some g =
      ap (λ (x : List Guest). slice_get x 0) (sym c.first) ∙ p.place told.0 told.1 0 (omega arith) in
      cc

-- from a cut on its guest is awaited, and from a new backup on that of its full checkpoint

pub place-last : {A : Type 0} (xs : List A) (a : A) → slice_get (xs ++ a ∷ []) (length xs) ≡ Some a
place-last [] a = refl
place-last (x ∷ xs) a = place-last xs a

pub waits_once_cut : (generation number : ℕ) (old new : Pair) → Does old Cut (replies.Cut generation number) new
    → Awaits generation number old.nodes.live.guest new
waits_once_cut generation number old new d =
    let told = (does old new Cut (replies.Cut generation number) d).tells in
    let c = d.replicates in
    let place = c.place in
    let same = next-same old.nodes new.nodes c.image in
    record {
      begun = omega arith;
      place = λ two e j t.
          let last : j ≡ length (to_come old.nodes) = omega arith in
          (λ i. slice_get (c.last i) (last i)) ∙ place-last (to_come old.nodes) old.nodes.live.guest;
    }

pub waits_once_protected : (generation : ℕ) (old new : Pair) → Does old Protect (replies.Protecting generation) new
    → Awaits generation 0 old.nodes.live.guest new
waits_once_protected generation old new d =
    let told = (does old new Protect (replies.Protecting generation) d).tells in
    let c = d.replicates in
    let empty : next_number new.nodes ≡ 0 = ap number_after c.empty in
    record {
      begun = omega arith;
      place = λ two e j t.
          let first : j ≡ 0 = omega arith in
          λ i. slice_get (c.only i) (first i);
    }

pub committed_is_cut : (cut next late done : Pair) (generation number k : ℕ) (events : List Event) (answers : List Reply)
    → Does cut Cut (replies.Cut generation number) next → Leads next events answers late
    → Does late (BackupGet k) (replies.Committed generation number) done → done.nodes.image.guest ≡ cut.nodes.live.guest
committed_is_cut cut next late done generation number k events answers c l d =
    let g = cut.nodes.live.guest in
    comes generation number g k late done d
    (waits_along generation number g events answers next late l (waits_once_cut generation number cut next c))

pub full_is_live : (alone next late done : Pair) (generation k : ℕ) (events : List Event) (answers : List Reply)
    → Does alone Protect (replies.Protecting generation) next → Leads next events answers late
    → Does late (BackupGet k) (replies.Committed generation 0) done → done.nodes.image.guest ≡ alone.nodes.live.guest
full_is_live alone next late done generation k events answers c l d =
    let g = alone.nodes.live.guest in
    comes generation 0 g k late done d
    (waits_along generation 0 g events answers next late l (waits_once_protected generation alone next c))
