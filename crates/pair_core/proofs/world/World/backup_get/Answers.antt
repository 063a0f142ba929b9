use Rattle.std.proofs.Common.{rules, ◌≡◌, ℕ, ◌+◌, ◌-◌, ◌<◌, ◌≤◌, ◌∙◌, sym, ap, subst, arith, false, Option, None, Some}
use Rattle.std.specs.Prelude.{slice_get}
use Rattle.epoch_snapshot.specs.Checkpoints.{Change}
use Rattle.pair_record.specs.{declared.event.Packet.Packet, declared.event.Refusal.Refusal}
use Rattle.pair_core.specs.Invariant.{Holds}
use Rattle.pair_record.specs.{declared.event.Event.TheVariants.BackupGet, declared.event.Reply.Reply}
use Rattle.pair_core.specs.Nodes.{Nodes, first_text}
use Rattle.pair_record.specs.Modes.{is_alone, mode_refusal}
use Rattle.pair_core.specs.{Pair.{Pair, shown_state}, Replication.Replicates}
use Rattle.pair_record.specs.Protocol.{Record, Outcome, first_refusal, backup_refusals}
use Rattle.pair_core.specs.internal.WorldFields.{pair_of}
use Rattle.pair_record.specs.laws.Modes.{backup_goes}
use Rattle.pair_record.specs.declared.window.Window.{Window}
use Rattle.pair_core.proofs.ReplicationLaws.{commit_replicates}
use Rattle.pair_core.specs.laws.Consistent.{in_mode}
use Rattle.pair_core.specs.Lines.{Lines, packet, with_back, lines_after}
use Rattle.pair_core.specs.laws.{Events.{after_commit, commit_holds, lines_hold, oldest_text}, Lines.{below_at, named-back}}
use Rattle.pair_record.specs.laws.{Tables.{passed, same_generation}, Records.commit_record}
use Rattle.pair_core.specs.laws.Nodes.{reads-whole, reads-shape}
use Rattle.pair_core.proofs.world.World.backup_get.Goals.{After-commit-2}
use Rattle.pair_core.proofs.world.World.backup_get.Goals as goal

-- a packet of this generation names a checkpoint that was cut
names_cut : (w : Pair) → Holds w → (k : ℕ) (p : Packet) (o : Option Packet) → o ≡ slice_get w.protocol.lines.forward k → o ≡ Some p
    → p.generation ≡ w.protocol.state.generation → p.number < w.protocol.state.window.to_cut
names_cut w h k p o e is same =
    below_at w.protocol.state.generation w.protocol.state.window.to_cut w.protocol.lines.forward k (Some p) h.lines.forward (sym is ∙ e) same

-- the number of the next checkpoint to be committed
abbrev next_of : Window → ℕ
next_of w = w.to_commit

-- no node is alone
two : (k : ℕ) {w v : Pair} → w ≡ v → mode_refusal v.protocol.state.mode (BackupGet k) ≡ None → is_alone w.protocol.state.mode ≡ false
two k {w} same goes = backup_goes w.protocol.state.mode (rw same goes)

-- a packet that isn't refused, of no number that was committed, names the next checkpoint, which was cut
names_next : (r : Record) (p : Packet) (n : ℕ) (o : Option Refusal) → o ≡ first_refusal (backup_refusals r p) → o ≡ None
    → (p.generation ≡ r.generation → p.number < r.window.to_cut) → n ≡ r.window.to_commit → n ≤ p.number
    → r.window.to_commit < r.window.to_cut
names_next r p n o is none cut e least = search (arith, rules, same_generation, passed)

-- the line back with one packet more, by its value
one_more : (l from to : Lines) (g h m n : ℕ) → to ≡ with_back from (packet h m) → from ≡ l → h ≡ g → m ≡ n → to ≡ with_back l (packet g n)
one_more l from to g h m n e a b k = cc

pub invariant_of-self-then-packet-number : goal.invariant_of-self-then-packet-number
invariant_of-self-then-packet-number c =
    let w = pair_of c.self.inside in
    let r = w.protocol.state in
    let some : r.window.to_commit - 1 < r.window.to_commit =
    let l = c.if-packet-number.true in let n = ap next_of c.window-number.ensures in omega arith in
    let lines = one_more w.protocol.lines _ _ r.generation _ _ (r.window.to_commit - 1) c.acknowledge.ensures
    c.reserve_acknowledgement.ensures.lines c.generation-generation.ensures (let n = ap next_of c.window-number.ensures in omega arith) in
    subst Holds (λ i. record w { protocol = record w.protocol { lines = sym lines i } })
    (lines_hold w c.self.invariant (with_back w.protocol.lines (packet r.generation (r.window.to_commit - 1)))
    (named-back r w.protocol.lines c.self.invariant.lines (r.window.to_commit - 1) some))

pub oldest-requires-clause-some : goal.oldest-requires-clause-some
oldest-requires-clause-some c =
    let w = pair_of c.self.inside in
    let more = names_next w.protocol.state c.in-Some.packet _ _ c.backup_refusal.ensures.refusal c.in_default-backup_refusal.is
    (names_cut w c.self.invariant c.args.k c.in-Some.packet _ c.packet.ensures c.in-Some.is) (ap next_of c.window-number.ensures)
    c.if-packet-number.false in
    (oldest_text w c.self.invariant c.backup_refusal.ensures.record (two c.args.k c.self.view_is c.requires) more).0

pub oldest-requires-clause-whole : goal.oldest-requires-clause-whole
oldest-requires-clause-whole c =
    let w = pair_of c.self.inside in
    let more = names_next w.protocol.state c.in-Some.packet _ _ c.backup_refusal.ensures.refusal c.in_default-backup_refusal.is
    (names_cut w c.self.invariant c.args.k c.in-Some.packet _ c.packet.ensures c.in-Some.is) (ap next_of c.window-number.ensures)
    c.if-packet-number.false in
    let oldest = oldest_text w c.self.invariant c.backup_refusal.ensures.record (two c.args.k c.self.view_is c.requires) more in
    reads-whole w.nodes.image.shape w.protocol.state.generation w.protocol.state.window.to_commit (shown_state w).guest
    _ _ (first_text w.nodes.sealed) oldest.1

pub commit-requires : goal.commit-requires
commit-requires c =
    let w = pair_of c.self.inside in
    names_next w.protocol.state c.in-Some.packet _ _ c.backup_refusal.ensures.refusal c.in_default-backup_refusal.is
    (names_cut w c.self.invariant c.args.k c.in-Some.packet _ c.packet.ensures c.in-Some.is) (ap next_of c.window-number.ensures)
    c.if-packet-number.false

pub commit-requires-2-clause-some : goal.commit-requires-2-clause-some
commit-requires-2-clause-some c =
    let w = pair_of c.self.inside in
    let more = names_next w.protocol.state c.in-Some.packet _ _ c.backup_refusal.ensures.refusal c.in_default-backup_refusal.is
    (names_cut w c.self.invariant c.args.k c.in-Some.packet _ c.packet.ensures c.in-Some.is) (ap next_of c.window-number.ensures)
    c.if-packet-number.false in
    (oldest_text w c.self.invariant c.backup_refusal.ensures.record (two c.args.k c.self.view_is c.requires) more).0

pub commit-requires-2-clause-shape : goal.commit-requires-2-clause-shape
commit-requires-2-clause-shape c =
    let w = pair_of c.self.inside in
    let more = names_next w.protocol.state c.in-Some.packet _ _ c.backup_refusal.ensures.refusal c.in_default-backup_refusal.is
    (names_cut w c.self.invariant c.args.k c.in-Some.packet _ c.packet.ensures c.in-Some.is) (ap next_of c.window-number.ensures)
    c.if-packet-number.false in
    let oldest = oldest_text w c.self.invariant c.backup_refusal.ensures.record (two c.args.k c.self.view_is c.requires) more in
    ap (λ (checkpoint : Change). checkpoint.shape) c.in_ok-checkpoint.ensures
    ∙ reads-shape w.nodes.image.shape w.protocol.state.generation w.protocol.state.window.to_commit (shown_state w).guest
    _ _ (first_text w.nodes.sealed) oldest.1

-- what is on the line back then
lines_are : (c : After-commit-2) → c.acknowledge-2.new.self.lines
    ≡ with_back (pair_of c.self.inside).protocol.lines
    (packet (pair_of c.self.inside).protocol.state.generation (pair_of c.self.inside).protocol.state.window.to_commit)
lines_are c =
    let w = pair_of c.self.inside in
    let r = w.protocol.state in
    let next : c.commit.new.self.protocol.window.to_commit ≡ r.window.to_commit + 1 =
    ap (λ (o : Outcome). o.1.window.to_commit) c.in-Ok.ensures.ok in
    one_more w.protocol.lines _ _ r.generation _ _ r.window.to_commit c.acknowledge-2.ensures c.reserve_acknowledgement.ensures.lines
    c.generation-generation.ensures (let n = ap next_of c.window-number.ensures in omega arith)

pub invariant_of-self-2 : goal.invariant_of-self-2
invariant_of-self-2 c =
    let w = pair_of c.self.inside in
    let protocol = ap (λ (o : Outcome). o.1) c.in-Ok.ensures.ok in
    let more = names_next w.protocol.state c.in-Some.packet _ _ c.backup_refusal.ensures.refusal c.in_default-backup_refusal.is
    (names_cut w c.self.invariant c.args.k c.in-Some.packet _ c.packet.ensures c.in-Some.is) (ap next_of c.window-number.ensures)
    c.if-packet-number.false in
    let lines = lines_are (goal.at.invariant_of-self-2 c).After-commit-2 in
    subst Holds (λ i. record w {
      protocol = record { state = sym protocol i; lines = sym lines i };
      ports = sym c.commit.ensures.ports i;
      nodes = sym c.commit-2.ensures i;
    })
    (commit_holds w c.self.invariant c.backup_refusal.ensures.record c.keep.ensures.numbers (two c.args.k c.self.view_is c.requires) more)

pub returns : goal.returns
returns c = (
  search rules,
  (let w = pair_of c.self.inside in
      let reply = ap (λ (o : Outcome). o.0) c.in-Ok.ensures.ok in
      let h = c.self.invariant in
      let k = c.backup_refusal.ensures.record in
      let alone = two c.args.k c.self.view_is c.requires in
      let more = names_next w.protocol.state c.in-Some.packet _ _ c.backup_refusal.ensures.refusal c.in_default-backup_refusal.is
      (names_cut w c.self.invariant c.args.k c.in-Some.packet _ c.packet.ensures c.in-Some.is) (ap next_of c.window-number.ensures)
      c.if-packet-number.false in
      let now = in_mode w h k in
      let then = in_mode (after_commit w) (commit_holds w h k c.keep.ensures.numbers alone more) (commit_record w.protocol.state k more) in
      record {
        start = search rules;
        lines = rw (← c.self.view_is) (lines_are (goal.at.returns c).After-commit-2 ∙ ap (lines_after w.protocol) (sym reply));
        replicates = rw (← c.self.view_is) (subst (λ (o : Reply × Nodes). Replicates (BackupGet c.args.k) o.0 w.nodes o.1) (λ i. (
          sym reply i,
          sym
              c.commit-2.ensures i,
        )) (commit_replicates w k alone now then more));
        refused = search rules;
      }),
  search rules,
  search rules,
)
