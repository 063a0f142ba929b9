-- The first form of a command that fits is the one form that fits.
use Rattle.std.proofs.Common.{◌≡◌, ◌≤◌, ℕ, Bool, true, false, cond, List, Option, Some, None, IfSome, refl, ap, arith, ◌∙◌, nat_eq, codes}
use Rattle.std.specs.Option.{option_map_or}
use Rattle.pair_record.specs.declared.event.Event.{Event, TheVariants.{Step, Cut, Send, BackupGet, AckGet, Admit, Deliver, Take}}
use Rattle.pair_record.specs.declared.event.Event.TheVariants.{LoseIn, LoseOut, FailPrimary, FailBackup, GoLive, Protect}
use Rattle.script_player.specs.{Fields.numbered_by, Command.{IsNumbered, IsEvent, IsCommand, word_event, numbered_event, command_of}}
use Rattle.script_player.specs.declared.script.Command.{Command, TheVariants.{Asks, Steps, Sector, Show}}
use Rattle.script_player.specs.laws.Fields.{operand_of-spelled}
use Rattle.script_player.specs.laws.Forms.{Read, same, word, told, one, two, is_numbered, read-spelled}

-- what is spelled so is read so
pub command_of-spelled : (text : List ℕ) (command : Command) → IsCommand text command → command_of text ≡ Some command
command_of-spelled text (Asks Step) is = absurd is
command_of-spelled text (Asks (Deliver client bytes)) is = absurd is
command_of-spelled text (Asks (BackupGet k)) (digits, shape, value) = ap command_of shape ∙ rw value refl
command_of-spelled text (Asks (AckGet k)) (digits, shape, value) = ap command_of shape ∙ rw value refl
command_of-spelled text (Asks (Admit client)) (digits, shape, value) = ap command_of shape ∙ rw value refl
command_of-spelled text (Asks (Take client)) (digits, shape, value) = ap command_of shape ∙ rw value refl
command_of-spelled text (Asks (LoseIn client place)) (first, second, shape, m, n) =
    ap command_of shape ∙ rw (operand_of-spelled first second client m, n) refl
command_of-spelled text (Asks (LoseOut client place)) (first, second, shape, m, n) =
    ap command_of shape ∙ rw (operand_of-spelled first second client m, n) refl
command_of-spelled text (Steps n) ((digits, shape, value), low) =
    let positive : nat_eq n 0 ≡ false = grind arith in ap command_of shape ∙ rw (value, positive) refl
command_of-spelled text (Sector sector) (digits, shape, value) = ap command_of shape ∙ rw value refl
command_of-spelled text other shape = ap command_of shape

-- what is read is spelled so
module _ (text : List ℕ) (event : Event) where
  word_event-read : Read IsEvent text event (word_event text)
  word_event-read =
      word IsEvent text event (codes "cut") Cut (λ e. e) (
      word IsEvent text event (codes "send") Send (λ e. e) (
      word IsEvent text event (codes "fail primary") FailPrimary (λ e. e) (
      word IsEvent text event (codes "fail backup") FailBackup (λ e. e) (
      word IsEvent text event (codes "golive") GoLive (λ e. e) (
      word IsEvent text event (codes "protect") Protect (λ e. e) (
      λ e. cc))))))

  numbered_event-read : Read IsEvent text event (numbered_event text)
  numbered_event-read =
      one IsEvent text event (codes "backup ") (λ k. BackupGet k) (λ k is. is) (
      one IsEvent text event (codes "ack ") (λ k. AckGet k) (λ k is. is) (
      one IsEvent text event (codes "admit ") (λ client. Admit client) (λ client is. is) (
      one IsEvent text event (codes "take ") (λ client. Take client) (λ client is. is) (
      two IsEvent text event (codes "losein ") (λ f. LoseIn f.0 f.1) (λ f is. is) (
      two IsEvent text event (codes "loseout ") (λ f. LoseOut f.0 f.1) (λ f is. is) (
      λ e. cc))))))

module _ (text : List ℕ) (command : Command) where
  asks : (found : Option Event) {others : Option Command} → ((event : Event) → Read IsEvent text event found)
      → Read IsCommand text command others → Read IsCommand text command (option_map_or (λ event. Some (Asks event)) found others)
  asks found is = told IsCommand text command (λ event. Some (Asks event)) found
      (λ event e. same IsCommand text command (Asks event) (is event e))

  steps : (n : ℕ) → IsNumbered (codes "step ") n text → (b : Bool) → nat_eq n 0 ≡ b
      → Read IsCommand text command (cond b None (Some (Steps n)))
  steps n is true e h = cc
  steps n is false e h = let low : 1 ≤ n = grind arith in same IsCommand text command (Steps n) (is, low) h

  command_of-read : Read IsCommand text command (command_of text)
  command_of-read =
      told IsCommand text command (λ n. cond (nat_eq n 0) None (Some (Steps n))) (numbered_by (codes "step ") text)
      (λ n e. steps n (is_numbered (codes "step ") text n e) (nat_eq n 0) refl) (
      asks (word_event text) (word_event-read text) (
      asks (numbered_event text) (numbered_event-read text) (
      one IsCommand text command (codes "sector ") (λ sector. Sector sector) (λ sector is. is) (
      word IsCommand text command (codes "show") Show (λ e. e) (
      λ e. cc)))))

pub command-spelled : (text : List ℕ) (found : Option Command) → found ≡ command_of text → IfSome found (λ command. IsCommand text command)
command-spelled = read-spelled IsCommand command_of command_of-read
