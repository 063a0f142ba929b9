-- Between two lines of a session a primary's outbox has 256 frames at most, and none where it is alone.
use Rattle.std.proofs.Common.{◌≡◌, ◌≤◌, ℕ, Bool, true, false, cond, List, [], ◌∷◌, length, Result, Ok, Err, inl, inr, refl, sym, ap, ◌∙◌, subst, arith}
use Rattle.pair_record.specs.declared.event.Refusal.{Refusal}
use Rattle.pair_record.specs.declared.event.Refusal.TheVariants.{CutNeeded}
use Rattle.pair_nodes.specs.PrimaryCalls.{IsSteps, after_release}
use Rattle.pair_nodes.specs.Flagged.{Flagged}
use Rattle.pair_nodes.specs.Sides.{Primary, Standby as StandbyNode, after_alone, after_cut, after_protect, live_of}
use Rattle.script_player.specs.Session.{IsReply, is_played, is_too_long, is_not_kept, Replies}
use Rattle.node_player.specs.{AtNothing.AtNothing, AtPrimary.{AtPrimary, IsStepsAnswer}, AtStandby.AtStandby, Halves.IsReached}
use Rattle.node_player.specs.Lines.{Line, boot, order, arrive, piece}
use Rattle.node_player.specs.Meaning.{NodeAnswers, PlaysLine, is_silence, answers, is_bad, finds_no_memory}
use Rattle.node_player.specs.Nodes.{Node, nothing, primary, standby}
use Rattle.node_player.specs.declared.orders.Order.TheVariants.{Standby, Step, Cut, Ack, Alone, Protect, GoLive}

pub record IsBetween (p : Primary) : Type 0 where
  pub few : length p.live.outbox ≤ 256
  pub lone : p.backed ≡ false → p.live.outbox ≡ []

abbrev IsBetweenIn : Flagged → Type 0
IsBetweenIn p = IsBetween p.primary

abbrev IsBetweenAt : Node → Type 0
IsBetweenAt nothing = Unit {0}
IsBetweenAt (primary p) = IsBetweenIn p
IsBetweenAt (standby b) = Unit {0}

none-between : (p : Primary) → p.live.outbox ≡ [] → IsBetween p
none-between p none = record { few = omega (arith, ap (λ l. length l) none); lone = λ _. none }

backed-between : (p : Primary) → p.backed ≡ true → length p.live.outbox ≤ 256 → IsBetween p
backed-between p backed few = record { few = few; lone = λ (alone : p.backed ≡ false). cc }

-- steps
left-between : (q : Primary) (b : Bool) → q.backed ≡ b → length q.live.outbox ≤ 256 → IsBetween (cond b q (after_release q))
left-between q true backed few = backed-between q backed few
left-between q false alone few = none-between (after_release q) refl

stepped : (no_memory : List ℕ) (count : ℕ) (result : Result ℕ Refusal) (p q : Flagged) (printed : List ℕ) (new : Flagged) → IsBetweenIn p
    → IsSteps count p.primary result q.primary → IsStepsAnswer no_memory q result printed new → IsBetweenIn new
stepped no_memory count (Ok made) p q printed new h is answer =
    subst IsBetweenIn (sym answer.1) (left-between q.primary q.primary.backed refl is.2.few)
stepped no_memory count (Err CutNeeded) p q printed new h is answer =
    let run = is.1.2 in
    subst IsBetweenIn (sym answer.1) (backed-between q.primary (ap (λ (r : Primary). r.backed) run.left ∙ is.0) run.few)
stepped no_memory count (Err why) p q printed new h is answer =
    subst IsBetweenIn (sym answer.1) (subst IsBetween (sym is.1) h)

at-primary : (no_memory : List ℕ) (p : Flagged) (line : Line) (printed : List ℕ) (q : Flagged) → IsBetweenIn p
    → AtPrimary no_memory p line printed q → IsBetweenIn q
at-primary no_memory p (boot b) printed q h a = subst IsBetweenIn (sym a.1) h
at-primary no_memory p (arrive bytes) printed q h (inl done) =
    subst IsBetween (sym done.1.1) (record { few = h.few; lone = h.lone })
at-primary no_memory p (arrive bytes) printed q h (inr denied) = subst IsBetweenIn (sym denied.2.1) h
at-primary no_memory p (piece bytes) printed q h a = subst IsBetweenIn (sym a.1) h
at-primary no_memory p (order (Step count)) printed q h a = stepped no_memory count a.0 p a.1 printed q h a.2 a.3
at-primary no_memory p (order Cut) printed q h (inl done) =
    let sealed = done.1.1 in subst IsBetween (sym sealed.cut.left) (none-between (after_cut p.primary sealed.text) refl)
at-primary no_memory p (order Cut) printed q h (inr denied) = subst IsBetweenIn (sym denied.2.1) h
at-primary no_memory p (order (Ack generation number)) printed q h (inl done) =
    subst IsBetweenIn (sym done.1.1) (record { few = h.few; lone = h.lone })
at-primary no_memory p (order (Ack generation number)) printed q h (inr denied) = subst IsBetweenIn (sym denied.2.1) h
at-primary no_memory p (order Alone) printed q h (inl done) =
    subst IsBetweenIn (sym done.1.1) (none-between (after_alone p.primary) refl)
at-primary no_memory p (order Alone) printed q h (inr denied) = subst IsBetweenIn (sym denied.2.1) h
at-primary no_memory p (order Protect) printed q h (inl done) =
    let made = done.1.1 in subst IsBetween (sym made.left) (none-between (after_protect p.primary made.text) refl)
at-primary no_memory p (order Protect) printed q h (inr denied) = subst IsBetweenIn (sym denied.2.1) h
at-primary no_memory p (order other) printed q h a = subst IsBetweenIn (sym a.1) h

at-standby : (no_memory : List ℕ) (b : StandbyNode) (line : Line) (printed : List ℕ) (new : Node)
    → AtStandby no_memory b line printed new → IsBetweenAt new
at-standby no_memory b (boot line) printed new a = subst IsBetweenAt (sym a.1) tt
at-standby no_memory b (arrive bytes) printed new a = subst IsBetweenAt (sym a.1) tt
at-standby no_memory b (piece bytes) printed new (c, fed, left) = subst IsBetweenAt (sym left) tt
at-standby no_memory b (order GoLive) printed new (inl done) = subst IsBetweenAt (sym done.1.1) (none-between (live_of b) refl)
at-standby no_memory b (order GoLive) printed new (inr denied) = subst IsBetweenAt (sym denied.2.1) tt
at-standby no_memory b (order other) printed new a = subst IsBetweenAt (sym a.1) tt

at-nothing : (no_memory : List ℕ) (line : Line) (printed : List ℕ) (new : Node) → AtNothing no_memory line printed new → IsBetweenAt new
at-nothing no_memory (boot b) printed new (inl done) =
    let p = done.1.0 in
    let booted = done.1.1 in
    subst IsBetweenAt (sym done.1.2) (none-between p.primary (ap (λ (r : Flagged). r.primary.live.outbox) booted.primary_is))
at-nothing no_memory (boot b) printed new (inr denied) = subst IsBetweenAt (sym denied.1) tt
at-nothing no_memory (order (Standby pages sectors generation)) printed new (inl done) = subst IsBetweenAt (sym done.1.2) tt
at-nothing no_memory (order (Standby pages sectors generation)) printed new (inr denied) = subst IsBetweenAt (sym denied.1) tt
at-nothing no_memory other printed new a = subst IsBetweenAt (sym a.1) tt

-- a line, and lines one after another
answered : (no_memory : List ℕ) (node : Node) (line : Line) (printed : List ℕ) (new : Node) → IsBetweenAt node
    → NodeAnswers no_memory node line printed new → IsBetweenAt new
answered no_memory nothing line printed new h a = at-nothing no_memory line printed new a
answered no_memory (primary p) line printed new h a = subst IsBetweenAt (sym a.2) (at-primary no_memory p line printed a.0 h a.1)
answered no_memory (standby b) line printed new h a = at-standby no_memory b line printed new a

played : (no_memory : List ℕ) (node : Node) (text printed : List ℕ) (next : Node) → IsBetweenAt node
    → PlaysLine no_memory node text printed next → IsBetweenAt next
played no_memory node text printed next h (is_silence silent none same) = subst IsBetweenAt (sym same) h
played no_memory node text printed next h (answers line loud spelled a) = answered no_memory node line printed next h a
played no_memory node text printed next h (is_bad loud none said same) = subst IsBetweenAt (sym same) h
played no_memory node text printed next h (finds_no_memory line loud spelled wants said same) = subst IsBetweenAt (sym same) h

replied : (no_memory : List ℕ) (node : Node) (line printed : List ℕ) (next : Node) → IsBetweenAt node
    → IsReply no_memory (PlaysLine no_memory) node line printed next → IsBetweenAt next
replied no_memory node line printed next h (is_played short plays) = played no_memory node line printed next h plays
replied no_memory node line printed next h (is_too_long long said same) = subst IsBetweenAt (sym same) h
replied no_memory node line printed next h (is_not_kept some said same) = subst IsBetweenAt (sym same) h

replies-between : (no_memory : List ℕ) (lines : List (List ℕ)) (text : List ℕ) (node last : Node) → IsBetweenAt node
    → Replies (IsReply no_memory (PlaysLine no_memory)) node lines text last → IsBetweenAt last
replies-between no_memory [] text node last h r = subst IsBetweenAt (sym r.1) h
replies-between no_memory (line ∷ lines) text node last h r =
    replies-between no_memory lines r.1 r.2 last (replied no_memory node line r.0 r.2 h r.4) r.5

pub reached-between : (p : Flagged) → IsReached (primary p) → IsBetween p.primary
reached-between p r = replies-between r.0 r.1 r.2 nothing (primary p) tt r.3
