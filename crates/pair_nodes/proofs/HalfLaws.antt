-- A node's calls, answered as their contracts say, are what may happen.
use Rattle.std.proofs.Common.{◌≡◌, ℕ, ◌+◌, ◌-◌, ◌<◌, ◌≤◌, List, [], ◌∷◌, ◌++◌, length, refl, sym, ap, ◌∙◌, subst, arith, Bool, true, false, cond}
use Rattle.std.proofs.Common.{Option, Some, None, Result, Ok, Err}
use Rattle.std.proofs.lemmas.{Bool.Decides.nat_tests, List.append-nil}
use Rattle.std.specs.Prelude.{◌==◌, ◌&&◌, not, nat_le, nat_lt, slice_get}
use Rattle.epoch_snapshot.specs.Checkpoints.{Change}
use Rattle.checkpoint_stream.specs.{Readings.is_whole, Sound.change_in, declared.place.Place.TheVariants.Whole}
use Rattle.failover.specs.Generations.{generation_limit}
use Rattle.frame_ports.specs.Limits.{number_limit}
use Rattle.full_text.specs.Full.{IsMost}
use Rattle.guest_rules.specs.Runs.{sent_in, HaveRoom}
use Rattle.pair_history.specs.Entries.{Frame}
use Rattle.pair_record.specs.declared.event.{Packet.Packet, Refusal.{Refusal}, Refusal.TheVariants.{CutNeeded, NotPaired, AlreadyPaired, Exhausted, Stale, NoImage}}
use Rattle.pair_record.specs.{Limits.last_frame, Tables.first_refusal}
use Rattle.pair_record.specs.laws.Tables.{passed, same_generation}
use Rattle.pair_nodes.specs.declared.standby.Commit.{Commit, TheVariants.{Committed, Again}}
use Rattle.pair_nodes.specs.Halves.{acknowledged_by}
use Rattle.pair_nodes.specs.PrimaryCalls.{IsSealed, IsSteps, IsProtected, ack_rows, alone_rows, after_release, first_pending}
use Rattle.pair_nodes.specs.PrimaryCalls.{part_of, pending_text, text_answer, text_part}
use Rattle.pair_nodes.specs.Refusing.{IsFree}
use Rattle.pair_core.specs.Lines.{packet}
use Rattle.pair_nodes.specs.Sides.{Primary, Standby, cut_rows, after_commit, after_lone_run, restarted, to_commit}
use Rattle.pair_nodes.specs.Sites.{Site, Happens, cuts, sends, hears, goes_alone, protects, steps, lone_steps, commits, goes_live, alone_site}
use Rattle.pair_nodes.specs.Sites.{hear_site, live_site, lone_site, protect_site, run_site, taken_site, whole_site, restart_site, again_site, commit_site}
use Rattle.pair_nodes.specs.StandbyCalls.{commit_outcome, commit_rows, is_empty, live_rows, taking_if}

has : (b : Bool) → not b ≡ false → b ≡ true
has true e = refl
has false e = absurd (cc)

last-generation : (g : ℕ) → nat_le generation_limit (g + 1) ≡ false → g + 1 ≤ number_limit - 1
last-generation g e = grind (arith, nat_tests, e)

pub cut_happens : (s : Site) (count : ℕ) (q : Primary) → IsSealed s.primary count q
    → (text : List ℕ) × (length text ≡ count) × Happens s (cuts text) (record s { primary = q })
cut_happens s count q x =
    let p = s.primary in
    let row = passed (not p.backed) NotPaired (first_refusal (cut_rows p)) x.free in
    (x.text, sym x.bytes, (has p.backed row.0, row.1, x.cut.few, x.cut.delta, ap (λ (r : Primary). record s { primary = r }) x.cut.left))

part-of-text : (p : Primary) (n from count : ℕ) (o : Option (List ℕ)) (bytes : List ℕ) → text_answer p n from count o ≡ Ok bytes
    → (text : List ℕ) × (o ≡ Some text) × (bytes ≡ part_of from count text)
part-of-text p n from count None bytes e = absurd (cc)
part-of-text p n from count (Some text) bytes e = (text, refl, cc)

pending-at : (n first : ℕ) (texts : List (List ℕ)) (text : List ℕ) (t : Bool) → cond t None (slice_get texts (n - first)) ≡ Some text
    → slice_get texts (n - first) ≡ Some text
pending-at n first texts text true e = absurd (cc)
pending-at n first texts text false e = e

pub text_happens : (s : Site) (n from count : ℕ) (bytes : List ℕ) → s.primary.backed ≡ true → text_part s.primary n from count ≡ Ok bytes
    → (k : ℕ) × (text : List ℕ) × (bytes ≡ part_of from count text) × Happens s (sends k) (record s { texts = s.texts ++ text ∷ [] })
text_happens s n from count bytes backed e =
    let p = s.primary in
    let answer = ap (λ t. cond t (text_answer p n from count (pending_text p n)) (Err NotPaired)) (sym backed) ∙ e in
    let x = part-of-text p n from count (pending_text p n) bytes answer in
    let at = pending-at n (first_pending p) p.texts x.0 (nat_lt n (first_pending p)) x.1 in
    (n - first_pending p, x.0, x.2, (backed, (x.0, at, refl)))

pub ack_happens : (s : Site) (ack : Packet) → IsFree (ack_rows s.primary ack) → Happens s (hears ack) (hear_site s ack.number)
ack_happens s ack free =
    let p = s.primary in
    let one = passed (not p.backed) NotPaired _ free in
    let two = passed (not (ack.generation == p.generation)) Stale _ one.1 in
    (has p.backed one.0, same_generation ack.generation p.generation two.0, refl)

pub alone_happens : (s : Site) → IsFree (alone_rows s.primary) → length s.primary.live.outbox ≤ 256 → Happens s goes_alone (alone_site s)
alone_happens s free few =
    let one = passed (not s.primary.backed) NotPaired None free in
    (has s.primary.backed one.0, few, refl)

pub protect_happens : (s : Site) (count : ℕ) (q : Primary) → IsProtected s.primary count q
    → (text : List ℕ) × IsMost count text s.primary.live.guest.ram × Happens s (protects text) (protect_site s text) × ((protect_site s text).primary ≡ q)
protect_happens s count q x =
    let p = s.primary in
    let one = passed p.backed AlreadyPaired _ x.free in
    let two = passed (nat_le generation_limit (p.generation + 1)) Exhausted None one.1 in
    (x.text, x.bytes, (one.0, last-generation p.generation two.0, x.full, refl), sym x.left)

pub step_happens : (s : Site) (count made : ℕ) (q : Primary) → s.primary.backed ≡ true → IsSteps count s.primary (Ok made) q
    → Happens s (steps made) (run_site made s) × ((run_site made s).primary ≡ q)
step_happens s count made q backed x = ((backed, x.2.room, refl), sym x.2.left)

pub full_happens : (s : Site) (count : ℕ) (q : Primary) → IsSteps count s.primary (Err CutNeeded) q
    → (made : ℕ) × (made < count) × Happens s (steps made) (run_site made s) × ((run_site made s).primary ≡ q)
full_happens s count q x = (x.1.0, x.1.1, (x.0, x.1.2.room, refl), sym x.1.2.left)

pub lone_happens : (s : Site) (count made : ℕ) (q : Primary) → s.primary.backed ≡ false → s.primary.live.outbox ≡ []
    → IsSteps count s.primary (Ok made) q
    → Happens s (lone_steps made) (lone_site made s) × ((lone_site made s).primary ≡ after_release q)
lone_happens s count made q alone none x =
    let p = s.primary in
    let row : nat_lt last_frame (p.next_frame + 256) ≡ false =
    subst (λ b. (not b && nat_lt last_frame (p.next_frame + 256)) ≡ false) alone (passed _ Exhausted None x.0).0 in
    let room = subst (λ (fs : List Frame). HaveRoom made p.live.guest fs) none x.2.room in
    let fs = sent_in made p.live.guest in
    let numbers : p.next_frame + 256 ≤ last_frame = grind (arith, nat_tests, row) in
    let released : (lone_site made s).primary ≡ after_release q =
    (λ i. record (after_lone_run made p) { next_frame = p.next_frame + length (sym none i ++ fs) })
    ∙ ap after_release (sym x.2.left) in
    ((alone, room, numbers, refl), released)

-- what a commit leaves, and acknowledges, by whether it is refused
record Taken (s : Site) (c : Change) (o : Option Refusal) : Type 0 where
  pub standby : (restart_site (taken_site s c o)).standby ≡ restarted (taking_if s.standby c o).1
  pub acks : (restart_site (taken_site s c o)).acks ≡ s.acks ++ acknowledged_by (taking_if s.standby c o).0

taken : (s : Site) (c : Change) (o : Option Refusal) → Taken s c o
taken s c (Some why) = record { standby = refl; acks = sym (append-nil s.acks) }
taken s c None = record { standby = standby (nat_lt c.number (to_commit s.standby)); acks = acks (nat_lt c.number (to_commit s.standby)) }
  where
    standby : (t : Bool) → (restart_site (cond t (again_site s) (commit_site s c))).standby
        ≡ restarted (cond t s.standby (after_commit s.standby c))
    standby true = refl
    standby false = refl

    acks : (t : Bool) → (restart_site (cond t (again_site s) (commit_site s c))).acks
        ≡ s.acks ++ acknowledged_by (Ok (cond t (Again (packet s.standby.generation (to_commit s.standby - 1)))
        (Committed (packet s.standby.generation (to_commit s.standby)))))
    acks true = refl
    acks false = refl

pub commit_happens : (s : Site) → s.standby.reading.place ≡ Whole
    → Happens s commits (whole_site s) × ((whole_site s).standby ≡ (commit_outcome s.standby).1)
    × ((whole_site s).acks ≡ s.acks ++ acknowledged_by (commit_outcome s.standby).0)
commit_happens s whole =
    let b = s.standby in
    let c = change_in b.reading in
    let o = first_refusal (commit_rows b c) in
    let complete : is_whole b.reading.place ≡ true = ap is_whole whole in
    let outcome : ((taking_if b c o).0, restarted (taking_if b c o).1) ≡ commit_outcome b =
    ap (λ t. cond t ((taking_if b c o).0, restarted (taking_if b c o).1) (Err NoImage, b)) (sym complete) in
    let x = taken s c o in (
      (whole, refl),
      x.standby ∙ ap (λ (r : Result Commit Refusal × Standby). r.1) outcome,
      x.acks ∙ ap (λ (r : Result Commit Refusal × Standby). s.acks ++ acknowledged_by r.0) outcome,
    )

pub live_happens : (s : Site) → IsFree (live_rows s.standby) → Happens s goes_live (live_site s)
live_happens s free =
    let b = s.standby in
    let one = passed (is_empty b) NoImage _ free in
    let two = passed (nat_le generation_limit (b.generation + 1)) Exhausted None one.1 in
    (last-generation b.generation two.0, refl)
