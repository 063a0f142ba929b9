-- What the live runner is asked for, and who may run.
use Rattle.std.specs.Prelude.{ℕ, zero, ◌==◌, ◌&&◌, not, Bool}
use Rattle.failover.specs.declared.mode.Mode.{Mode}
use Rattle.failover.specs.declared.mode.Mode.TheVariants.{Filling, Alone}
use Rattle.pair_history.specs.HistoryState.{HistoryState}
use Rattle.pair_record.specs.Modes.{is_stopped}
use Rattle.growing_history.specs.LogState.{state_at}
use Rattle.pair_book.specs.declared.runner.Kind.TheVariants.{Nothing, Delta, Full}
use Rattle.pair_book.specs.declared.runner.Kind.{Kind}
use Rattle.pair_book.specs.declared.runner.Want.{Want}
use Rattle.pair_book.specs.Books.{BookState}

-- whether the guest of the runner whose seat has this number runs on: it is the live one's, and the primary hasn't stopped
abbrev pub may_run : HistoryState → BookState → ℕ → Bool
may_run start b number = (number == (state_at start b.steps).runner) && not (is_stopped b.protocol.mode)

-- nothing where a node is alone; a full checkpoint for a new backup, number 0, until it is sealed; else the change since the one before
abbrev pub kind_wanted : Mode → ℕ → Kind
kind_wanted Alone n = Nothing
kind_wanted Filling zero = Full
kind_wanted other n = Delta

-- where nothing is wanted the number is 0, and isn't looked at
abbrev pub number_wanted : Kind → ℕ → ℕ
number_wanted Delta n = n
number_wanted other n = 0

abbrev pub wanted_of : BookState → Want
wanted_of b =
    let kind = kind_wanted b.protocol.mode b.protocol.window.to_cut in
    record { kind = kind; generation = b.protocol.generation; number = number_wanted kind b.protocol.window.to_cut }
