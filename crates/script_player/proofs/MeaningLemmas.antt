-- A line whose event happened is answered, and what was answered is a step of its script.
use Rattle.std.proofs.Common.{◌≡◌, List, ℕ, false, refl, ap}
use Rattle.pair_record.specs.declared.{event.Event.{Event}, event.Reply.{Reply}}
use Rattle.pair_core.specs.Pair.{Pair}
use Rattle.script_player.specs.{Lines.{Line, order}, Meaning.{AsksFor, Happens}}
use Rattle.script_player.specs.Meaning.{IsAnswered, IsLine, answers, beyond, is_silent, playing}
use Rattle.script_player.specs.{declared.player.Turn.Turn, internal.Playing.{IsDone, IsStep, Tells, printed_by}, Printed.told_line}
use Rattle.script_player.specs.declared.script.Command.TheVariants as commands
use Rattle.script_player.specs.declared.player.Turn.TheVariants as turns

pub answered : {no_memory : List ℕ} {old new : Pair} {event : Event} {printed : List ℕ} (line : Line) → AsksFor line event → Happens no_memory old event printed new
    → IsAnswered no_memory old line printed new
answered (order (commands.Steps count)) a h = absurd a
answered (order (commands.Sector sector)) a h = absurd a
answered (order commands.Show) a h = absurd a
answered line a h = (_, a, h)

module _ (no_memory : List ℕ) (old new : Pair) where
  -- a reply that was told is what the line is answered
  pub told-done : (line : Line) (reply : Reply) (turn : Turn) (text : List ℕ) → Tells reply turn text
      → ((printed : List ℕ) → printed ≡ told_line no_memory reply → IsAnswered no_memory old line printed new)
      → IsDone no_memory old line turn text new
  told-done line reply turns.Played text t f = f text (t no_memory)
  told-done line reply (turns.NoMemory w) text t f = f no_memory (rw t refl)
  told-done line reply other text t f = absurd t

  pub done-step : (text : List ℕ) (said : Line) (turn : Turn) (printed : List ℕ) → is_silent text ≡ false → IsLine text said
      → IsDone no_memory old said turn printed new
      → IsStep no_memory (playing old) text turn (printed_by no_memory turn printed) (playing new)
  done-step text said turns.Played printed loud is done = answers said old new refl is done refl
  done-step text said (turns.NoMemory w) printed loud is done = answers said old new refl is done refl
  done-step text said turns.Bad printed loud is done = (beyond old said loud refl is done.0, done.1, ap playing done.2)
  done-step text said other printed loud is done = absurd done
