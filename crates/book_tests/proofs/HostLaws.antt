-- The first runner at its start, with a machine of the guest that makes no step.
use Rattle.std.proofs.Common.{◌≡◌, ℕ, [], length, sym, ap, ◌∙◌, subst}
use Rattle.guest_rules.specs.Guest.{Guest, boot_guest}
use Rattle.pair_history.specs.HistoryState.{HistoryState, start_state}
use Rattle.growing_history.specs.{LogState.first_runner, Views.Member}
use Rattle.pair_book.specs.Settled.{Runs, settled_runner}
use Rattle.book_tests.specs.Machines.{IsLike}

module _ (start : HistoryState) (clients : ℕ) (is : start ≡ start_state 1 1 [] clients) (g : Guest) (boot : g ≡ boot_guest 1 1 []) where
  there : start.guest ≡ g
  there = ap (λ (h : HistoryState). h.guest) is ∙ sym boot

  pub still-like : IsLike start g
  still-like = record { ram = ap (λ (h : Guest). length h.ram) there; sectors = ap (λ (h : Guest). length h.sectors) there }

  pub still-runs : (seat : Member) → seat ≡ record { number = first_runner; steps = [] }
      → Runs start (record { number = first_runner; steps = [] }) (settled_runner start.guest []) → Runs start seat (settled_runner g [])
  still-runs seat first runs =
      subst (λ (x : Member × Guest). Runs start x.0 (settled_runner x.1 [])) (λ i. (sym first i, there i)) runs
