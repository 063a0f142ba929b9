-- The events of a pair, as laws over definitions: each leads from a pair that keeps what is known of one to another, and serves its clients.
use Rattle.std.proofs.Common.{◌≡◌, ℕ, ◌-◌, ◌<◌, ◌≤◌, List, [], ◌∷◌, length, refl, sym, ap, ◌∙◌, false}
use Rattle.std.proofs.Common.{inl, Option, Some, None}
use Rattle.std.specs.Prelude.{slice_get, map}
use Rattle.epoch_snapshot.specs.Bases.{IsBase}
use Rattle.guest_rules.specs.Guest.{Guest}
use Rattle.failover.specs.declared.mode.{Mode.Mode, Mode.TheVariants.{Paired, Filling, Alone, Stopped}}
use Rattle.pair_record.specs.declared.event.{Event.Event, Event.TheVariants.{Cut, Send, BackupGet}, Reply.Reply}
use Rattle.pair_record.specs.declared.event.{Packet.Packet, Refusal.Refusal}
use Rattle.pair_record.specs.declared.event.Reply.TheVariants as replies
use Rattle.failover.specs.declared.change.Change.TheVariants as changes
use Rattle.pair_record.specs.Modes.{is_stopped, is_alone, primary_refusal, backup_refusal, change_refusal, mode_refusal}
use Rattle.pair_record.specs.Protocol.{Outcome, first_refusal, cut_refusals, cut_done, send_done, allowed, outcome, refused, or_else}
use Rattle.pair_record.specs.Protocol.{backup_refusals, backup_outcome, backup_done}
use Rattle.pair_record.specs.laws.{Records.{cut_record, commit_record}, Numbers.{sealed_numbers, commit_numbers}}
use Rattle.pair_core.specs.{Answering.AnswersEvent, Lines.{packet, packet_of, with_forward, with_back, got}, Nodes.{HasShape, machine_of}}
use Rattle.pair_core.specs.{Pair.Pair, Service.{Serves, HasServed, moment}, Texts.IsText}
use Rattle.pair_core.specs.laws.Consistent.{consistent}
use Rattle.pair_core.specs.laws.{Drops.answers_drop_what_they_may, Serves.one_event_serves}
use Rattle.pair_core.specs.laws.{Events.{after_cut, after_commit, cut_holds, commit_holds, lines_hold}, Lines.{named-sent, named-back}}
use Rattle.pair_core.specs.laws.Outcomes.{done_if_none_refuses, cut_sees_the_pair}
use Rattle.pair_nodes.specs.Matching.{Kept}

-- an event that is answered as the protocol says serves the clients
pub event_serves : (w v : Pair) (event : Event) (reply : Reply) → Kept w → Kept v → v.start ≡ w.start
    → AnswersEvent w.start w.protocol event reply v.protocol → Serves w.start (moment w) event reply (moment v)
event_serves w v event reply k n same answers =
    one_event_serves w v event reply same (consistent w k.holds k.record_is k.numbered) (consistent v n.holds n.record_is n.numbered)
    (answers_drop_what_they_may w k.holds k.record_is event reply v.protocol answers)

-- so it is a run of one event
pub one_event : (w v : Pair) (event : Event) (reply : Reply) → Kept w → Kept v → v.start ≡ w.start
    → AnswersEvent w.start w.protocol event reply v.protocol → HasServed w.start (moment w) (event ∷ []) (reply ∷ []) (moment v)
one_event w v event reply k n same answers = (moment v, event_serves w v event reply k n same answers, refl)

-- the modes in which both nodes run, and in which a standby does
pub both_go : (mode : Mode) → is_stopped mode ≡ false → is_alone mode ≡ false → primary_refusal mode ≡ None
both_go Stopped e f = absurd (cc)
both_go Alone e f = absurd (cc)
both_go other e f = refl

pub standby_goes : (mode : Mode) → is_alone mode ≡ false → backup_refusal mode ≡ None
standby_goes Alone e = absurd (cc)
standby_goes other e = refl

pub both_fail : (mode : Mode) → is_stopped mode ≡ false → is_alone mode ≡ false → change_refusal changes.FailBackup mode ≡ None
both_fail Stopped e f = absurd (cc)
both_fail Alone e f = absurd (cc)
both_fail Paired e f = refl
both_fail Filling e f = refl

-- an event that its mode doesn't refuse
pub in_mode : (w : Pair) (event : Event) (got : Option Packet) (done : Outcome) → mode_refusal w.protocol.state.mode event ≡ None
    → done ≡ allowed w.start w.protocol.state got event → done ≡ outcome w.start w.protocol.state got event
in_mode w event got done none is =
    is ∙ ap (λ (o : Option Refusal). or_else o (refused w.protocol.state) (allowed w.start w.protocol.state got event)) (sym none)

-- CUT
module _ (w : Pair) (k : Kept w) (runs : is_stopped w.protocol.state.mode ≡ false) (two : is_alone w.protocol.state.mode ≡ false)
    (free : first_refusal (cut_refusals w.protocol.state) ≡ None) (few : length w.nodes.live.outbox ≤ 256) (text : List ℕ)
    (is_text : (base : Guest) → IsBase (machine_of w.nodes.live) base → HasShape w.nodes.image.shape w.nodes.live.guest
    → IsText w.nodes.image.shape w.protocol.state.generation w.protocol.state.window.to_cut base w.nodes.live.guest w.nodes.live.outbox text) where
  pub cut_kept : Kept (after_cut w text)
  cut_kept =
      let r = w.protocol.state in
      record {
        holds = cut_holds w k.holds k.record_is k.numbered text is_text;
        record_is = cut_record r k.record_is w.nodes.live.outbox two free;
        numbered = sealed_numbers r w.ports k.numbered r.journal.running [] w.nodes.live.outbox few free;
        clients = k.clients;
      }

  pub cut_answers : AnswersEvent w.start w.protocol Cut (replies.Cut w.protocol.state.generation w.protocol.state.window.to_cut) (after_cut w text).protocol
  cut_answers =
      let r = w.protocol.state in
      let done = cut_done w.nodes.live.outbox r in
      let is : done ≡ allowed w.start r None Cut = done_if_none_refuses r (cut_refusals r) done free ∙ cut_sees_the_pair w k.holds in
      (inl (in_mode w Cut None done (both_go r.mode runs two) is), refl)

-- SEND
module _ (w : Pair) (k : Kept w) (runs : is_stopped w.protocol.state.mode ≡ false) (two : is_alone w.protocol.state.mode ≡ false) where
  abbrev pub after_send : Pair
  after_send = record w {
    protocol = record w.protocol {
      lines = with_forward w.protocol.lines (map (packet_of w.protocol.state.generation) w.protocol.state.pending);
    };
  }

  pub send_kept : Kept after_send
  send_kept = record {
    holds = lines_hold w k.holds after_send.protocol.lines (named-sent w.protocol.state w.protocol.lines k.holds.lines k.record_is.window);
    record_is = k.record_is;
    numbered = k.numbered;
    clients = k.clients;
  }

  pub send_answers : AnswersEvent w.start w.protocol Send (replies.Sent (length w.protocol.state.pending)) after_send.protocol
  send_answers = (inl (in_mode w Send None (send_done w.protocol.state) (both_go w.protocol.state.mode runs two) refl), refl)

-- BACKUPGET
module _ (w : Pair) (k : Kept w) (two : is_alone w.protocol.state.mode ≡ false) (place : ℕ) (p : Packet)
    (there : slice_get w.protocol.lines.forward place ≡ Some p)
    (free : first_refusal (backup_refusals w.protocol.state p) ≡ None) where
  -- what it is answered
  pub get_answers : (done : Outcome) → backup_done w.protocol.state p ≡ done
      → done ≡ outcome w.start w.protocol.state (got w.protocol.lines (BackupGet place)) (BackupGet place)
  get_answers done e =
      let r = w.protocol.state in
      let is : done ≡ backup_outcome r (Some p) = sym e ∙ done_if_none_refuses r (backup_refusals r p) (backup_done r p) free in
      in_mode w (BackupGet place) (got w.protocol.lines (BackupGet place)) done (standby_goes r.mode two)
      (is ∙ ap (λ (o : Option Packet). backup_outcome r o) (sym there))

-- the next one is committed
module _ (w : Pair) (k : Kept w) (two : is_alone w.protocol.state.mode ≡ false)
    (more : w.protocol.state.window.to_commit < w.protocol.state.window.to_cut) where
  pub commit_kept : Kept (after_commit w)
  commit_kept = record {
    holds = commit_holds w k.holds k.record_is k.numbered two more;
    record_is = commit_record w.protocol.state k.record_is more;
    numbered = commit_numbers w.protocol.state w.ports k.numbered;
    clients = k.clients;
  }

-- an earlier one is acknowledged again
module _ (w : Pair) (k : Kept w) (some : w.protocol.state.window.to_commit - 1 < w.protocol.state.window.to_commit) where
  abbrev pub after_again : Pair
  after_again = record w {
    protocol = record w.protocol {
      lines = with_back w.protocol.lines (packet w.protocol.state.generation (w.protocol.state.window.to_commit - 1));
    };
  }

  pub again_kept : Kept after_again
  again_kept = record {
    holds = lines_hold w k.holds after_again.protocol.lines
        (named-back w.protocol.state w.protocol.lines k.holds.lines (w.protocol.state.window.to_commit - 1) some);
    record_is = k.record_is;
    numbered = k.numbered;
    clients = k.clients;
  }
