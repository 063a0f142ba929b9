-- Both lives are legal, step by step.
use Rattle.std.proofs.Common.{◌≡◌, [], refl, arith}
use Rattle.frame_ports.specs.Addresses.{IsFrame}
use Rattle.pair_history.specs.Entries.{Frame}
use Rattle.growing_history.specs.LogState.{LegalSteps, state_at}
use Rattle.growing_history.specs.Examples.{two_clients}
use Rattle.growing_history.specs.Lives.{life, marked_life}

pub life-legal : (f : Frame) → IsFrame f → LegalSteps two_clients (life f)
unfolding LegalSteps
life-legal f is = (
  record { may = (refl, tt, refl, refl, (tt, ([], refl))); known = λ e. tt; lawful = λ none. tt },
  (
    record { may = (refl, (λ a. a), refl, refl); known = λ e. tt; lawful = λ none. tt },
    (
      record { may = (refl, tt); known = λ e. (tt, tt); lawful = λ none. (((omega arith, omega arith), is, refl), tt) },
      (
        record { may = (refl, tt, refl, refl, (tt, ([], refl))); known = λ e. tt; lawful = λ none. ((2, f, refl), tt) },
        (
          record { may = (refl, tt, refl, refl, ((tt, tt), ([], refl))); known = λ e. tt; lawful = λ none. ((2, f, refl), tt) },
          (
            record { may = (refl, (λ a. a), refl, refl); known = λ e. tt; lawful = λ none. ((2, f, refl), tt) },
            (
              record { may = (refl, (λ a. a), refl, refl); known = λ e. tt; lawful = λ none. ((2, f, refl), tt) },
              (
                record { may = (refl, refl); known = λ e. tt; lawful = λ none. tt },
                (
                  record { may = (refl, refl, (omega arith, omega arith, omega arith)); known = λ e. tt; lawful = λ none. tt },
                  (
                    record { may = (refl, tt, (tt, ([], refl))); known = λ e. tt; lawful = λ none. tt },
                    (
                      record { may = (refl, tt, (omega arith, omega arith, omega arith)); known = λ e. tt; lawful = λ none. tt },
                      (
                        record { may = (refl, tt, refl, refl, (tt, ([], refl))); known = λ e. tt; lawful = λ none. tt },
                        (
                          record { may = (refl, (λ a. a), refl, refl); known = λ e. tt; lawful = λ none. tt },
                          (
                            record { may = (refl, tt); known = λ e. tt; lawful = λ none. tt },
                            tt,
                          ),
                        ),
                      ),
                    ),
                  ),
                ),
              ),
            ),
          ),
        ),
      ),
    ),
  ),
)

pub life-unmarked : (f : Frame) → (state_at two_clients (life f)).marked ≡ 0
unfolding state_at
life-unmarked f = refl

pub marked-legal : (f : Frame) → LegalSteps two_clients (marked_life f)
unfolding LegalSteps
marked-legal f = (
  record { may = (refl, tt, refl, refl, (tt, ([], refl))); known = λ e. tt; lawful = λ none. tt },
  (
    record { may = (refl, (λ a. a), refl, refl); known = λ e. tt; lawful = λ none. tt },
    (record { may = (refl, tt); known = λ e. (tt, tt); lawful = λ none. absurd (omega (arith, none)) }, tt),
  ),
)
