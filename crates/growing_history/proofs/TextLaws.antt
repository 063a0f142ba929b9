-- Where each text was sealed rightly, those that are still to be committed make their guests in turn, and carry what these send.
use Rattle.std.proofs.Common.{◌≡◌, ℕ, zero, suc, List, [], ◌∷◌, ◌++◌, map, take, drop, refl, sym, ap, ◌∙◌, subst, append_assoc, arith}
use Rattle.std.proofs.lemmas.List.{append-nil}
use Rattle.pair_history.specs.Entries.{Entry, Arrive}
use Rattle.pair_history.specs.HistoryState.{HistoryState, at, sent_along}
use Rattle.pair_history.specs.HistoryState as history
use Rattle.pair_history.specs.Order.{AreGuests}
use Rattle.growing_history.specs.Steps.{What, Added, Sealed, RanAlone, Committed, PrimaryFailed, BackupFailed, WentLive, Protected, Step}
use Rattle.failover.specs.declared.mode.Mode.{Mode}
use Rattle.failover.specs.declared.mode.Mode.TheVariants.{Paired, Filling, Alone, Stopped}
use Rattle.growing_history.specs.LogState.{LogState, Epoch, start_of, entries_of, AreOwn, AreKnown}
use Rattle.growing_history.specs.LogState.{under_way, IsAlone, HasBackup, MaySeal, after_step, Needs, state_after, LegalFrom, LegalSteps}
use Rattle.growing_history.specs.LogState.{state_at}
use Rattle.growing_history.specs.SealedTexts.{Reading, Makes, IsMade, AreMadeFrom, AreMade, MakeInTurn}
use Rattle.pair_history.specs.laws.Histories.{at-append, legal-first}
use Rattle.growing_history.specs.laws.Logs.{marked, marks-stay, way-after}
use Rattle.pair_history.specs.laws.Histories.{guests-append, guests-first, guests-second}
use Rattle.growing_history.proofs.Epochs.{takes-first, same_sent}
use Rattle.growing_history.specs.laws.Sealed.{entries-append, sealed-guests}
use Rattle.growing_history.specs.laws.LinesFirst.{GoesFirst, lines-guest}
use Rattle.growing_history.specs.laws.Texts.{makes-same}
use Rattle.failover.specs.Modes.{mode_filled}

-- a node that is alone has nothing sealed
no-alone : (m : Mode) → HasBackup m → IsAlone m → ⊥
no-alone Paired b a = a
no-alone Filling b a = a
no-alone Alone b a = b
no-alone Stopped b a = b

seals-paired : (n : ℕ) (m : Mode) → MaySeal n m → IsAlone m → ⊥
seals-paired zero Paired k a = a
seals-paired zero Filling k a = a
seals-paired zero Alone k a = k
seals-paired zero Stopped k a = a
seals-paired (suc n) m k a = no-alone m k a

filled-alone : (m : Mode) → IsAlone (mode_filled m) → IsAlone m
filled-alone Paired a = a
filled-alone Filling a = a
filled-alone Alone a = a
filled-alone Stopped a = a

alone-empty : (s : LogState) (by : ℕ) (w : What) → Needs s (record { by = by; what = w }) → (IsAlone s.mode → s.sealed ≡ [])
    → IsAlone (after_step s w).mode → (after_step s w).sealed ≡ []
alone-empty s by (Added es) needs e a = e a
alone-empty s by (Sealed g zero epoch text) needs e a = absurd (seals-paired 0 s.mode needs.may.1 a)
alone-empty s by (Sealed g (suc n) epoch text) needs e a = absurd (seals-paired (suc n) s.mode needs.may.1 a)
alone-empty s by (RanAlone epoch) needs e a = e a
alone-empty s by (Committed g n text) needs e a = absurd (needs.may.1 (filled-alone s.mode a))
alone-empty s by PrimaryFailed needs e a = absurd a
alone-empty s by BackupFailed needs e a = refl
alone-empty s by (WentLive r) needs e a = refl
alone-empty s by (Protected b) needs e a = absurd a

-- entries of the clients' lines leave what the guest sends along an epoch that comes after others
sent-added : GoesFirst → (by : ℕ) (es : List Entry) (h : HistoryState) (before epoch later : List Entry) → AreGuests before
    → AreGuests epoch → AreOwn by es → AreKnown (before ++ (epoch ++ later)) h by es → history.Legal h es
    → history.Legal h (before ++ (epoch ++ later)) → sent_along (at (at h es) before) epoch ≡ sent_along (at h before) epoch
sent-added go by es h before epoch later gb ge o k l way =
    same_sent epoch (at (at h es) before) (at h before) ge
    (λ p q is.
    let target = before ++ p in
    let rest = q ++ later in
    let apart : before ++ (epoch ++ later) ≡ target ++ rest =
    ap (λ (es : List Entry). before ++ (es ++ later)) is
    ∙ ap (λ (es : List Entry). before ++ es) (append_assoc p q later)
    ∙ sym (append_assoc before p rest) in
    let gt : AreGuests target = guests-append before p gb (guests-first p q (subst AreGuests is ge)) in
    let k' : AreKnown (target ++ rest) h by es = subst (λ w. AreKnown w h by es) apart k in
    let way' : history.Legal h (target ++ rest) = subst (history.Legal h) apart way in
    ap (λ (x : HistoryState). x.guest) (sym (at-append (at h es) before p))
    ∙ lines-guest (target ++ rest) target (λ n. takes-first n target rest) go by es h gt o k' l (legal-first h target rest way')
    ∙ ap (λ (x : HistoryState). x.guest) (at-append h before p))

module _ (reads : Reading) where
  -- entries of the clients' lines leave it so
  turn-added : GoesFirst → (by : ℕ) (es : List Entry) (h : HistoryState) (sealed : List Epoch) (before more : List Entry) → AreGuests before
      → AreGuests (entries_of sealed) → AreOwn by es → AreKnown (before ++ (entries_of sealed ++ more)) h by es → history.Legal h es
      → history.Legal h (before ++ (entries_of sealed ++ more)) → MakeInTurn reads h before sealed
      → MakeInTurn reads (at h es) before sealed
  turn-added go by es h [] before more gb gs o k l way m = tt
  turn-added go by es h (e ∷ sealed) before more gb gs o k l way m =
      let rest = entries_of sealed ++ more in
      let next = before ++ e.entries in
      let all = before ++ ((e.entries ++ entries_of sealed) ++ more) in
      let own : AreGuests e.entries = guests-first e.entries (entries_of sealed) gs in
      let split : all ≡ before ++ (e.entries ++ rest) = ap (λ l. before ++ l) (append_assoc e.entries (entries_of sealed) more) in
      let apart : all ≡ next ++ rest = split ∙ sym (append_assoc before e.entries rest) in
      let gn : AreGuests next = guests-append before e.entries gb own in
      let k' : AreKnown (next ++ rest) h by es = subst (λ w. AreKnown w h by es) apart k in
      let way' : history.Legal h (next ++ rest) = subst (history.Legal h) apart way in
      let sends =
      sent-added go by es h before e.entries rest gb own o (subst (λ w. AreKnown w h by es) split k) l
      (subst (history.Legal h) split way) in
      let here = lines-guest all before (λ n. takes-first n before ((e.entries ++ entries_of sealed) ++ more)) go by es h gb o k l
      (legal-first h before _ way) in
      let there = lines-guest (next ++ rest) next (λ n. takes-first n next rest) go by es h gn o k' l (legal-first h next rest way') in (
        makes-same reads e.number e.text _ _ _ _ _ _ (sym sends) (sym here) (sym there) m.0,
        turn-added go by es h sealed next more gn (guests-second e.entries (entries_of sealed) gs) o k' l way' m.1,
      )

  -- what comes before may go into the history's state
  turn-shift : (h : HistoryState) (first before : List Entry) (sealed : List Epoch) → MakeInTurn reads h (first ++ before) sealed
      → MakeInTurn reads (at h first) before sealed
  turn-shift h first before [] m = tt
  turn-shift h first before (e ∷ es) m = (
    makes-same reads e.number e.text _ _ _ _ _ _ (ap (λ g. sent_along g e.entries) (at-append h first before))
        (ap (λ (g : HistoryState). g.guest) (at-append h first before))
        (ap (λ l. (at h l).guest) (append_assoc first before e.entries)
        ∙ ap (λ (g : HistoryState). g.guest) (at-append h first (before ++ e.entries))) m.0,
    turn-shift h first (before ++ e.entries) es (subst (λ l. MakeInTurn reads h l es) (append_assoc first before e.entries) m.1),
  )

  -- one more comes last
  turn-last : (h : HistoryState) (before : List Entry) (sealed : List Epoch) (e : Epoch) → MakeInTurn reads h before sealed
      → Makes reads e.number e.text (sent_along (at h (before ++ entries_of sealed)) e.entries) (at h (before ++ entries_of sealed)).guest
      (at h ((before ++ entries_of sealed) ++ e.entries)).guest
      → MakeInTurn reads h before (sealed ++ e ∷ [])
  turn-last h before [] e m n = (
    makes-same reads e.number e.text _ _ _ _ _ _ (ap (λ l. sent_along (at h l) e.entries) (append-nil before))
        (ap (λ l. (at h l).guest) (append-nil before))
        (ap (λ l. (at h (l ++ e.entries)).guest) (append-nil before)) n,
    tt,
  )
  turn-last h before (x ∷ xs) e m n = (
    m.0,
    turn-last h (before ++ x.entries) xs e m.1
        (subst
        (λ l. Makes reads e.number e.text (sent_along (at h l) e.entries) (at h l).guest (at h (l ++ e.entries)).guest)
        (sym (append_assoc before x.entries (entries_of xs))) n),
  )

  -- one step
  turn-step : GoesFirst → (s : LogState) (by : ℕ) (w : What) → Needs s (record { by = by; what = w }) → AreGuests (entries_of s.sealed)
      → history.Legal s.history (under_way s) → s.marked ≡ 0 → (IsAlone s.mode → s.sealed ≡ []) → IsMade reads s w
      → MakeInTurn reads s.history [] s.sealed → MakeInTurn reads (after_step s w).history [] (after_step s w).sealed
  turn-step go s by (Added es) needs g way none empty made m =
      turn-added go by es s.history s.sealed [] (map Arrive s.handed) tt g needs.may (needs.known none)
      (legal-first s.history es _ (needs.lawful none)) way m
  turn-step go s by (Sealed x zero epoch text) needs g way none empty made m = (made none, tt)
  turn-step go s by (Sealed x (suc n) epoch text) needs g way none empty made m =
      let e : Epoch = record { number = suc n; entries = epoch; text = text } in
      let all : entries_of (s.sealed ++ e ∷ []) ≡ entries_of s.sealed ++ epoch =
      entries-append s.sealed (e ∷ []) ∙ ap (λ l. entries_of s.sealed ++ l) (append-nil epoch) in
      turn-last s.history [] s.sealed e m
      (makes-same reads (suc n) text _ _ _ _ _ _ refl refl (ap (λ l. (at s.history l).guest) all) (made none))
  turn-step go s by (RanAlone epoch) needs g way none empty made m =
      subst (λ es. MakeInTurn reads (after_step s (RanAlone epoch)).history [] es) (sym (empty needs.may.1)) tt
  turn-step go s by (Committed x n text) needs g way none empty made m = first_gone s.sealed m
    where
      first_gone : (es : List Epoch) → MakeInTurn reads s.history [] es
          → MakeInTurn reads (at s.history (entries_of (take 1 es))) [] (drop 1 es)
      first_gone [] m = tt
      first_gone (e ∷ es) m = turn-shift s.history (e.entries ++ []) [] es
          (subst (λ l. MakeInTurn reads s.history l es) (sym (append-nil (e.entries ++ []) ∙ append-nil e.entries)) m.1)
  turn-step go s by PrimaryFailed needs g way none empty made m = m
  turn-step go s by BackupFailed needs g way none empty made m = tt
  turn-step go s by (WentLive r) needs g way none empty made m = tt
  turn-step go s by (Protected b) needs g way none empty made m = m

  -- all steps
  turn-steps : GoesFirst → (s : LogState) (xs : List Step) → LegalFrom s xs → AreGuests (entries_of s.sealed)
      → history.Legal s.history (under_way s) → (state_after s xs).marked ≡ 0 → (IsAlone s.mode → s.sealed ≡ []) → AreMadeFrom reads s xs
      → MakeInTurn reads s.history [] s.sealed → MakeInTurn reads (state_after s xs).history [] (state_after s xs).sealed
  turn-steps go s [] l g way none empty made m = m
  turn-steps go s (x ∷ xs) l g way none empty made m =
      let t = after_step s x.what in
      let unmarked : s.marked ≡ 0 = omega (arith, marked s x.what, marks-stay t xs, none) in
      turn-steps go t xs l.1 (sealed-guests s x.by x.what l.0.may g) (way-after s x l.0 unmarked) none
      (alone-empty s x.by x.what l.0 empty) made.1
      (turn-step go s x.by x.what l.0 g way unmarked empty made.0 m)

  pub texts-in-turn : GoesFirst → (h : HistoryState) (xs : List Step) → LegalSteps h xs → AreMade reads h xs → (state_at h xs).marked ≡ 0
      → MakeInTurn reads (state_at h xs).history [] (state_at h xs).sealed
  unfolding LegalSteps state_at AreMade
  texts-in-turn go h xs l made none = turn-steps go (start_of h) xs l tt tt none (λ a. absurd a) made tt
