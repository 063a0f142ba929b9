-- The guest whose words a text spells.
use Rattle.std.proofs.Common.{◌≡◌, ◌<◌, ◌≤◌, ◌*◌, ℕ, List, length, Some, sym, ap, arith, ◌∙◌, codes}
use Rattle.script_player.specs.{Fields.text_after, Guests.{IsGuest, IsWords, NamedGuest, beacon, disk, idle, words}}
use Rattle.script_player.specs.laws.Fields.{text_after-some}
use Rattle.script_player.specs.laws.Options.{some_same}
use Rattle.script_player.proofs.WordsLemmas.{words-long}

-- a text that names words, and how many they are
module _ (pages count : ℕ) (text fields : List ℕ) (front : text_after (codes "words") text ≡ Some fields)
    (counted : (ws : List ℕ) × IsWords fields ws × (length ws ≡ count)) where
  same-front : (other : List ℕ) → text ≡ other → Some fields ≡ text_after (codes "words") other
  same-front other e = sym front ∙ ap (text_after (codes "words")) e

  -- more words than fit
  pub too-many : 1024 * pages < count → (guest : NamedGuest) → IsGuest pages text guest → ⊥
  too-many many idle h = cc (same-front _ h.0)
  too-many many beacon h = cc (same-front _ h.0)
  too-many many (disk sector byte) h = cc (same-front _ h.0.shape)
  too-many many (words ws) h =
      let same = some_same (same-front _ h.0.1) in
      let long = ap length (sym counted.1.shape ∙ same ∙ h.0.2.shape) in
      absurd (omega (arith, words-long counted.0, words-long ws, long, h.1, counted.2))

  -- so many that fit
  pub words-guest : count ≤ 1024 * pages → (guest : NamedGuest) × IsGuest pages text guest
  words-guest fits =
      (words counted.0, ((fields, text_after-some (codes "words") text fields front, counted.1), omega (arith, fits, counted.2)))
