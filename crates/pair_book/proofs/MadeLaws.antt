-- What the runner's text makes: the guest of the sealed state once its epoch is sealed.
use Rattle.std.proofs.Common.{◌≡◌, ℕ, zero, suc, List, [], ◌∷◌, ◌++◌, refl, sym, ap, ◌∙◌, subst, arith}
use Rattle.std.proofs.lemmas.List.{nil_from_length}
use Rattle.pair_history.specs.Entries.{Frame, Entry}
use Rattle.pair_history.specs.HistoryState.{HistoryState, at, sent_along}
use Rattle.pair_history.specs.Failures.{all_land}
use Rattle.growing_history.specs.Steps.{Sealed, RanAlone, Step}
use Rattle.growing_history.specs.LogState.{LogState, Epoch, LegalSteps, state_at, sealed_state, entries_of, and_all_land, after_step}
use Rattle.growing_history.specs.SealedTexts.{IsMade, epoch_sent}
use Rattle.pair_history.specs.laws.Landings.{landings-unmoved}
use Rattle.pair_history.specs.laws.Histories.{at-append}
use Rattle.growing_history.specs.laws.Sealed.{are-sealed}
use Rattle.growing_history.specs.laws.Texts.{makes-same}
use Rattle.pair_book.specs.declared.prepared.Prepared.TheVariants as prepared
use Rattle.pair_book.specs.Made.{Reads, carried, MakesEpoch}
use Rattle.pair_book.specs.Packets.{PacketState}
use Rattle.pair_book.specs.Settled.{epoch_of}
use Rattle.pair_book.proofs.SubmitTies.{entries-push}

-- states that a runner can't tell apart: the same guest, and the same frames wait
abbrev pub Alike : HistoryState → HistoryState → Type 0
Alike h g = (h.guest ≡ g.guest) × (h.waiting ≡ g.waiting)

-- what lands moves neither
landed-alike : (h : HistoryState) (epoch : List Entry) → Alike (at h (and_all_land h epoch)) (at h epoch)
landed-alike h epoch =
    let then = at h epoch in
    let apart = at-append h epoch (all_land then) in
    let leave = landings-unmoved then.boxes then.out then in (
      ap (λ (x : HistoryState). x.guest) apart ∙ leave.0,
      ap (λ (x : HistoryState). x.waiting) apart ∙ leave.1,
    )

-- where an epoch is sealed, the sealed state is the one after it: before a full checkpoint nothing is sealed
pub sealed-alike : (s : LogState) (g n : ℕ) (epoch : List Entry) (text : List ℕ) → (n ≡ 0 → s.sealed ≡ [])
    → Alike (sealed_state (after_step s (Sealed g n epoch text))) (at (sealed_state s) epoch)
sealed-alike s g zero epoch text empty =
    subst (λ (es : List Epoch). Alike (at s.history (and_all_land s.history epoch)) (at (at s.history (entries_of es)) epoch))
    (sym (empty refl)) (landed-alike s.history epoch)
sealed-alike s g (suc n) epoch text empty =
    let e : Epoch = record { number = suc n; entries = epoch; text = text } in
    let same : at s.history (entries_of (s.sealed ++ e ∷ [])) ≡ at (sealed_state s) epoch =
    ap (at s.history) (entries-push s.sealed e) ∙ at-append s.history (entries_of s.sealed) epoch in
    (ap (λ (x : HistoryState). x.guest) same, ap (λ (x : HistoryState). x.waiting) same)

-- where it enters the history and nothing is sealed, too
pub lone-alike : (s : LogState) (epoch : List Entry) → s.sealed ≡ []
    → Alike (sealed_state (after_step s (RanAlone epoch))) (at (sealed_state s) epoch)
lone-alike s epoch none =
    subst
    (λ (es : List Epoch).
    Alike (at (at s.history (and_all_land s.history epoch)) (entries_of es)) (at (at s.history (entries_of es)) epoch))
    (sym none) (landed-alike s.history epoch)

carried-sent : (s : LogState) (n : ℕ) (epoch : List Entry) (fs : List Frame) → fs ≡ sent_along (sealed_state s) epoch
    → carried n fs ≡ epoch_sent s n epoch
carried-sent s zero epoch fs is = refl
carried-sent s (suc n) epoch fs is = is

-- before number 0 nothing is sealed
pub none-before : (start : HistoryState) (steps : List Step) → LegalSteps start steps → (n : ℕ) → n ≡ (state_at start steps).next → n ≡ 0
    → (state_at start steps).sealed ≡ []
none-before start steps legal n next none =
    let count = (are-sealed start steps legal).count in
    nil_from_length (state_at start steps).sealed (omega (arith, count, next, none))

-- so what was prepared is what the step that seals it needs
pub sealed-made : (start : HistoryState) (s : LogState) (c : PacketState) (epoch : List Entry) (arrivals ran : ℕ) (fs : List Frame)
    → epoch ≡ epoch_of s.handed arrivals ran → (c.number ≡ 0 → s.sealed ≡ [])
    → (s.marked ≡ 0 → fs ≡ sent_along (sealed_state s) (epoch_of s.handed arrivals ran))
    → MakesEpoch start s arrivals ran fs (prepared.Checkpoint c)
    → IsMade (Reads start) s (Sealed c.generation c.number epoch c.text)
sealed-made start s c epoch arrivals ran fs is empty sent made =
    λ none.
    let far = sealed_state s in
    makes-same (Reads start) c.number c.text (carried c.number fs) (epoch_sent s c.number epoch) far.guest far.guest
    (at far (epoch_of s.handed arrivals ran)).guest (sealed_state (after_step s (Sealed c.generation c.number epoch c.text))).guest
    (carried-sent s c.number epoch fs (sent none ∙ ap (sent_along far) (sym is))) refl
    (ap (λ (es : List Entry). (at far es).guest) (sym is) ∙ sym (sealed-alike s c.generation c.number epoch c.text empty).0)
    (made none)
