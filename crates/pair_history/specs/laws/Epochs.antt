-- How many entries there are once an epoch was split off the one that runs.
use Rattle.std.proofs.Common.{arith, ◌≡◌, ℕ, zero, suc, ◌+◌, List, [], ◌∷◌, ◌++◌, length, replicate, refl, ap, ◌∙◌}
use Rattle.std.proofs.lemmas.List.{length-append, length-replicate}
use Rattle.pair_history.specs.Entries.{Entry, Ran, Arrive}
use Rattle.pair_history.specs.Epochs.{up_to, behind, guest_epoch}
use Rattle.pair_history.specs.Journal.{Journal, joined, kept_entries, all_entries, sealed_as, entered}
use Rattle.pair_history.specs.laws.Joined.{length-all, length-kept, joined-push}

pub splits : (n : ℕ) (es : List Entry) → up_to n es ++ behind n es ≡ es
splits zero es = refl
splits (suc n) [] = refl
splits (suc n) (Arrive k ∷ es) = ap (λ t. Arrive k ∷ t) (splits n es)
splits (suc n) (e ∷ es) = ap (λ t. e ∷ t) (splits (suc n) es)

-- how many entries an epoch and what is behind it have
pub length-parted : (n steps : ℕ) (es : List Entry) → length (guest_epoch n steps es) + length (behind n es) ≡ length es + steps
length-parted n steps es =
    let whole = ap length (splits n es) in
    let both = length-append (up_to n es) (behind n es) in
    let epoch = length-append (up_to n es) (replicate steps Ran) in
    let ran = length-replicate steps Ran in
    omega arith

module _ (n steps : ℕ) (j : Journal) where
  abbrev es : List Entry
  es = guest_epoch n steps j.running

  abbrev rest : List Entry
  rest = behind n j.running

  -- how many entries are kept once the epoch is sealed
  pub kept-sealed : length (kept_entries (sealed_as es rest j)) ≡ length (kept_entries j) + steps
  kept-sealed =
      let old = length-kept j in
      let new = length-kept (sealed_as es rest j) in
      let pushed = ap length (joined-push j.sealed es) ∙ length-append (joined j.sealed) es in
      let both = length-parted n steps j.running in
      omega arith

  -- and how many there are in all once it stands in the history, which grew by so many
  pub all-entered : length (all_entries (entered es rest j)) ≡ length (all_entries j) + steps
  all-entered =
      let old = length-all j in
      let new = length-all (entered es rest j) in
      let history = length-append j.history (joined j.sealed ++ es) in
      let ahead = length-append (joined j.sealed) es in
      let both = length-parted n steps j.running in
      omega arith
