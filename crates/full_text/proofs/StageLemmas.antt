-- A stage that has gone on so far isn't further back once more of its text is made.
use Rattle.std.proofs.Common.{◌≡◌, ◌≤◌, ◌<◌, ℕ, List, [], ◌∷◌, ap, arith, length, refl}
use Rattle.std.proofs.lemmas.List.Sums.{sum_by-cons}
use Rattle.epoch_snapshot.specs.declared.changes.PageChange.{PageChange}
use Rattle.full_text.specs.Full.{IsMadeTo, Making, Searching, record_size, records_size, size}
use Rattle.full_text.specs.MachineTexts.{HasGoneOn}
use Rattle.full_text.specs.declared.stage.FullStage.{FullStage}
use Rattle.full_text.specs.declared.stage.FullStage.TheVariants.{Search, Text}

no-records : (ps : List PageChange) → records_size ps ≡ 0 → ps ≡ []
no-records [] none = refl
no-records (p ∷ ps) none = absurd (omega (arith, none, sum_by-cons record_size p ps))

no-bytes : (bytes : List ℕ) → length bytes ≡ 0 → bytes ≡ []
no-bytes [] none = refl
no-bytes (b ∷ bytes) none = absurd (omega (arith, none))

still-made : (n : ℕ) (f g : Making) → length f.made ≤ length g.made → size g ≡ size f → IsMadeTo n f → IsMadeTo n g
still-made n f g grows same made = λ less.
    let all = made (omega (arith, less, grows)) in
    let pages : records_size f.pages ≡ 0 = ap records_size all.0 in
    let tail : length f.tail ≡ 0 = ap (λ (l : List ℕ). length l) all.1 in
    (no-records g.pages (omega (arith, grows, same, pages, tail)), no-bytes g.tail (omega (arith, grows, same, pages, tail)))

pub made-further : (to : ℕ) (f g : Making) → length f.made ≤ length g.made → size g ≡ size f → (before : FullStage)
    → HasGoneOn 0 before (Text f) → HasGoneOn to before (Text g)
made-further to f g grows same (Search b) gone = λ within. gone (omega arith)
made-further to f g grows same (Text b) gone = still-made _ f g grows same gone

-- one whose pages are all looked at, since bytes behind its head are asked for
pub searched-further : (to : ℕ) (s : Searching) (f : Making) → length s.head < to → (before : FullStage)
    → HasGoneOn 0 before (Search s) → HasGoneOn to before (Text f)
searched-further to s f beyond (Search b) gone = λ within. absurd (omega (arith, beyond, within, ap (λ (t : Searching). length t.head) gone))
searched-further to s f beyond (Text b) gone = absurd gone
