-- What a node's lines do may happen at its site.
use Rattle.std.proofs.Common.{◌≡◌, ◌<◌, ◌≤◌, ℕ, Bool, true, false, cond, List, [], length, Result, Ok, Err, inl, inr, refl, sym, ap, ◌∙◌}
use Rattle.checkpoint_stream.specs.declared.errors.StreamError.TheVariants.{Malformed, NoMemory}
use Rattle.checkpoint_stream.specs.{declared.place.Place.TheVariants.Whole, declared.place.Place.Place}
use Rattle.pair_record.specs.declared.event.{Packet.Packet, Refusal.Refusal}
use Rattle.pair_record.specs.declared.event.Refusal.TheVariants.{CutNeeded}
use Rattle.pair_core.specs.Lines.{packet}
use Rattle.pair_nodes.specs.PrimaryCalls.{IsSealed, IsSteps, IsProtected, ack_rows, alone_rows, after_release}
use Rattle.pair_nodes.specs.Refusing.{IsFree}
use Rattle.pair_nodes.specs.Flagged.{Flagged, begun_primary}
use Rattle.pair_nodes.specs.Sides.{Primary, Standby as StandbyNode, after_ack, after_alone, after_piece, live_of, restarted}
use Rattle.pair_nodes.specs.Sites.{Site, Happens, cuts, hears, goes_alone, protects, steps, lone_steps, gets, restarts, commits, goes_live}
use Rattle.pair_nodes.specs.Sites.{alone_site, hear_site, live_site, lone_site, piece_site, protect_site}
use Rattle.pair_nodes.specs.Sites.{restart_site, run_site, whole_site}
use Rattle.pair_nodes.specs.StandbyCalls.{commit_outcome, live_rows}
use Rattle.node_player.specs.{AtPrimary.{AtPrimary, IsStepsAnswer, after_steps}, AtStandby.{AtStandby, IsFed}}
use Rattle.node_player.proofs.BetweenLemmas.{IsBetween}
use Rattle.node_player.specs.Halves.{IsPrimarysHalf, stays, happens, arrives, IsStandbysHalf}
use Rattle.node_player.specs.Halves.{stays_standby, happens_there, becomes_live}
use Rattle.node_player.specs.Lines.{Line, boot, order, arrive, piece}
use Rattle.node_player.specs.Nodes.{Node, primary, standby}
use Rattle.node_player.specs.declared.orders.Order.TheVariants.{Step, Cut, Ack, Alone, Protect, Commit, Restart, GoLive}

-- what the laws of a primary's calls say at a site
pub record PrimaryLaws (s : Site) : Type 0 where
  pub cut : (count : ℕ) (q : Primary) → IsSealed s.primary count q
      → (text : List ℕ) × (length text ≡ count) × Happens s (cuts text) (record s { primary = q })
  pub acknowledge : (ack : Packet) → IsFree (ack_rows s.primary ack)
      → Happens s (hears ack) (hear_site s ack.number) × ((hear_site s ack.number).primary ≡ after_ack s.primary ack.number)
  pub alone : IsFree (alone_rows s.primary) → length s.primary.live.outbox ≤ 256
      → Happens s goes_alone (alone_site s) × ((alone_site s).primary ≡ after_alone s.primary)
  pub protect : (count : ℕ) (q : Primary) → IsProtected s.primary count q
      → (text : List ℕ) × (length text ≤ count) × Happens s (protects text) (protect_site s text) × ((protect_site s text).primary ≡ q)
  pub step : (count made : ℕ) (q : Primary) → s.primary.backed ≡ true → IsSteps count s.primary (Ok made) q
      → Happens s (steps made) (run_site made s) × ((run_site made s).primary ≡ q)
  pub full : (count : ℕ) (q : Primary) → IsSteps count s.primary (Err CutNeeded) q
      → (made : ℕ) × (made < count) × Happens s (steps made) (run_site made s) × ((run_site made s).primary ≡ q)
  pub lone : (count made : ℕ) (q : Primary) → s.primary.backed ≡ false → s.primary.live.outbox ≡ []
      → IsSteps count s.primary (Ok made) q
      → Happens s (lone_steps made) (lone_site made s) × ((lone_site made s).primary ≡ after_release q)

primary-of : {p q : Flagged} → p ≡ q → p.primary ≡ q.primary
primary-of e = ap (λ (p : Flagged). p.primary) e

module _ (s : Site) (laws : PrimaryLaws s) (line : Line) where
  -- the steps that were made
  stepped : (count made : ℕ) (q new : Primary) → IsBetween s.primary → IsSteps count s.primary (Ok made) q → new ≡ after_steps q
      → (b : Bool) → s.primary.backed ≡ b → IsPrimarysHalf s line new
  stepped count made q new between is left true backed =
      let made-so = laws.step count made q backed is in
      let same : q.backed ≡ true = ap (λ (p : Primary). p.backed) is.2.left ∙ backed in
      happens (steps made) (run_site made s) made-so.0 (made-so.1 ∙ sym (left ∙ ap (λ b. cond b q (after_release q)) same))
  stepped count made q new between is left false lone =
      let made-so = laws.lone count made q lone (between.lone lone) is in
      let same : q.backed ≡ false = ap (λ (p : Primary). p.backed) is.2.left ∙ lone in
      happens (lone_steps made) (lone_site made s) made-so.0 (made-so.1 ∙ sym (left ∙ ap (λ b. cond b q (after_release q)) same))

  -- steps that were refused
  refused : (count : ℕ) (why : Refusal) (q new : Primary) → IsSteps count s.primary (Err why) q → new ≡ q → IsPrimarysHalf s line new
  refused count CutNeeded q new is left =
      let made-so = laws.full count q is in
      happens (steps made-so.0) (run_site made-so.0 s) made-so.2 (made-so.3 ∙ sym left)
  refused count why q new is left = stays (left ∙ is.1)

  answered : (no_memory : List ℕ) (count : ℕ) (result : Result ℕ Refusal) (q : Flagged) (printed : List ℕ) (new : Flagged)
      → IsBetween s.primary → IsSteps count s.primary result q.primary → IsStepsAnswer no_memory q result printed new
      → IsPrimarysHalf s line new.primary
  answered no_memory count (Ok made) q printed new between is answer =
      stepped count made q.primary new.primary between is (primary-of answer.1) s.primary.backed refl
  answered no_memory count (Err why) q printed new between is answer = refused count why q.primary new.primary is (primary-of answer.1)

pub primarys-half : (no_memory : List ℕ) (s : Site) (flags : List Bool) → PrimaryLaws s → (line : Line) (printed : List ℕ) (q : Flagged)
    → IsBetween s.primary → AtPrimary no_memory (record { primary = s.primary; flags = flags }) line printed q
    → IsPrimarysHalf s line q.primary
primarys-half no_memory s flags laws (boot b) printed q between h = stays (primary-of h.1)
primarys-half no_memory s flags laws (arrive bytes) printed q between (inl done) = arrives bytes refl done.1.1
primarys-half no_memory s flags laws (arrive bytes) printed q between (inr denied) = stays (primary-of denied.2.1)
primarys-half no_memory s flags laws (piece bytes) printed q between h = stays (primary-of h.1)
primarys-half no_memory s flags laws (order (Step count)) printed q between h =
    answered s laws (order (Step count)) no_memory count h.0 h.1 printed q between h.2 h.3
primarys-half no_memory s flags laws (order Cut) printed q between (inl done) =
    let made = laws.cut done.1.0 q.primary done.1.1 in happens (cuts made.0) (record s { primary = q.primary }) made.2 refl
primarys-half no_memory s flags laws (order Cut) printed q between (inr denied) = stays (primary-of denied.2.1)
primarys-half no_memory s flags laws (order (Ack generation number)) printed q between (inl done) =
    let made = laws.acknowledge (packet generation number) done.0 in
    happens (hears (packet generation number)) (hear_site s number) made.0 (made.1 ∙ sym (primary-of done.1.1))
primarys-half no_memory s flags laws (order (Ack generation number)) printed q between (inr denied) = stays (primary-of denied.2.1)
primarys-half no_memory s flags laws (order Alone) printed q between (inl done) =
    let made = laws.alone done.0 between.few in happens goes_alone (alone_site s) made.0 (made.1 ∙ sym (primary-of done.1.1))
primarys-half no_memory s flags laws (order Alone) printed q between (inr denied) = stays (primary-of denied.2.1)
primarys-half no_memory s flags laws (order Protect) printed q between (inl done) =
    let made = laws.protect done.1.0 q.primary done.1.1 in happens (protects made.0) (protect_site s made.0) made.2 made.3
primarys-half no_memory s flags laws (order Protect) printed q between (inr denied) = stays (primary-of denied.2.1)
primarys-half no_memory s flags laws (order other) printed q between h = stays (primary-of h.1)

-- what the laws of a standby's calls say at a site
pub record StandbyLaws (s : Site) : Type 0 where
  pub piece_comes : (bytes : List ℕ) → Happens s (gets bytes) (piece_site s bytes)
      × ((piece_site s bytes).standby ≡ after_piece s.standby bytes)
  pub restart : Happens s restarts (restart_site s) × ((restart_site s).standby ≡ restarted s.standby)
  pub commit : s.standby.reading.place ≡ Whole
      → Happens s commits (whole_site s) × ((whole_site s).standby ≡ (commit_outcome s.standby).1)
  pub go_live : IsFree (live_rows s.standby) → Happens s goes_live (live_site s) × ((live_site s).primary ≡ live_of s.standby)

module _ (s : Site) (laws : StandbyLaws s) where
  fed-half : {no_memory : List ℕ} (bytes printed : List ℕ) (c : StandbyNode) → IsFed no_memory s.standby bytes printed c
      → IsStandbysHalf s (standby c)
  fed-half bytes printed c (Ok count, answers, same, said) =
      let made = laws.piece_comes bytes in
      happens_there (gets bytes) (piece_site s bytes) made.0
      (ap (λ (b : StandbyNode). standby b) (same ∙ ap (λ r. record s.standby { reading = r }) answers.0 ∙ sym made.1))
  fed-half bytes printed c (Err (Malformed at), answers, same, said) =
      let made = laws.piece_comes bytes in
      happens_there (gets bytes) (piece_site s bytes) made.0
      (ap (λ (b : StandbyNode). standby b) (same ∙ ap (λ r. record s.standby { reading = r }) answers.0 ∙ sym made.1))
  fed-half bytes printed c (Err (NoMemory w), answers, same, said) =
      stays_standby (ap (λ (b : StandbyNode). standby b) (same ∙ ap (λ r. record s.standby { reading = r }) answers))

  -- a checkpoint is complete, or none is
  committed-half : (new : Node) → new ≡ standby (commit_outcome s.standby).1 → (p : Place) → s.standby.reading.place ≡ p
      → IsStandbysHalf s new
  committed-half new left Whole whole =
      let made = laws.commit whole in
      happens_there commits (whole_site s) made.0 (left ∙ ap (λ (b : StandbyNode). standby b) (sym made.1))
  committed-half new left p open-still = stays_standby (left ∙ ap (λ (b : StandbyNode). standby b) (rw open-still refl))

pub standbys-half : (no_memory : List ℕ) (s : Site) → StandbyLaws s → (line : Line) (printed : List ℕ) (new : Node)
    → AtStandby no_memory s.standby line printed new
    → IsStandbysHalf s new
standbys-half no_memory s laws (boot b) printed new h = stays_standby h.1
standbys-half no_memory s laws (arrive bytes) printed new h = stays_standby h.1
standbys-half no_memory s laws (piece bytes) printed new (c, fed, left) = rw left (fed-half s laws bytes printed c fed)
standbys-half no_memory s laws (order Commit) printed new h = committed-half s laws new h.1 s.standby.reading.place refl
standbys-half no_memory s laws (order Restart) printed new h =
    happens_there restarts (restart_site s) laws.restart.0 (h.1 ∙ ap (λ (b : StandbyNode). standby b) (sym laws.restart.1))
standbys-half no_memory s laws (order GoLive) printed new (inl done) =
    let made = laws.go_live done.0 in
    becomes_live (live_site s) made.0 (done.1.1 ∙ ap (λ (p : Primary). primary (begun_primary p)) (sym made.1))
standbys-half no_memory s laws (order GoLive) printed new (inr denied) = stays_standby denied.2.1
standbys-half no_memory s laws (order other) printed new h = stays_standby h.1
