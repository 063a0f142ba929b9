-- Laws of runs, whatever one event makes of a state.
use Rattle.std.proofs.Common.{◌≡◌, ℕ, zero, suc, List, [], ◌∷◌, ◌++◌, refl, sym, subst, Some}
use Rattle.std.specs.Prelude.{slice_get}
use Rattle.pair_record.specs.{declared.event.Event.Event, declared.event.Reply.Reply}
use Rattle.pair_core.specs.Along.{Along, PointAlong}

module _ {S : Type 0} (Makes : S → Event → Reply → S → Type 0) where
  -- a run after a run
  pub along-append : (es : List Event) (rs : List Reply) (es' : List Event) (rs' : List Reply) (old mid new : S)
      → Along Makes old es rs mid → Along Makes mid es' rs' new → Along Makes old (es ++ es') (rs ++ rs') new
  along-append [] [] es' rs' old mid new run more = subst (λ (s : S). Along Makes s es' rs' new) run more
  along-append [] (r ∷ rs) es' rs' old mid new run more = absurd run
  along-append (e ∷ es) [] es' rs' old mid new run more = absurd run
  along-append (e ∷ es) (r ∷ rs) es' rs' old mid new run more = (run.0, run.1, along-append es rs es' rs' run.0 mid new run.2 more)

  -- a run goes on by one event
  pub along-more : (es : List Event) (rs : List Reply) (old mid new : S) (event : Event) (reply : Reply)
      → Along Makes old es rs mid → Makes mid event reply new → Along Makes old (es ++ event ∷ []) (rs ++ reply ∷ []) new
  along-more es rs old mid new event reply run one =
      along-append es rs (event ∷ []) (reply ∷ []) old mid new run (new, one, refl)

  -- what each event keeps, a run keeps
  module _ (Kept : S → Type 0) (keeps : (e : Event) (r : Reply) (old new : S) → Makes old e r new → Kept old → Kept new) where
    pub along-keeps : (es : List Event) (rs : List Reply) (old new : S) → Along Makes old es rs new → Kept old → Kept new
    along-keeps [] [] old new run p = subst Kept (sym run) p
    along-keeps [] (r ∷ rs) old new run p = absurd run
    along-keeps (e ∷ es) [] old new run p = absurd run
    along-keeps (e ∷ es) (r ∷ rs) old new run p = along-keeps es rs run.0 new run.2 (keeps e r old run.0 run.1 p)

  -- what holds of each event, holds of them along a run
  module _ (Tells : S → Event → Reply → S → Type 0)
      (tells : (e : Event) (r : Reply) (old new : S) → Makes old e r new → Tells old e r new) where
    pub along-tells : (es : List Event) (rs : List Reply) (old new : S) → Along Makes old es rs new → Along Tells old es rs new
    along-tells [] [] old new run = run
    along-tells [] (r ∷ rs) old new run = absurd run
    along-tells (e ∷ es) [] old new run = absurd run
    along-tells (e ∷ es) (r ∷ rs) old new run = (run.0, tells e r old run.0 run.1, along-tells es rs run.0 new run.2)

  -- an event of a run, answered so, has its point there
  pub along-point : (old new : S) (es : List Event) (rs : List Reply) → Along Makes old es rs new → (k : ℕ) (event : Event) (reply : Reply)
      → slice_get es k ≡ Some event → slice_get rs k ≡ Some reply → PointAlong Makes old es rs new k event reply
  along-point old new [] rs run k event reply e f = absurd (cc)
  along-point old new (x ∷ es) [] run k event reply e f = absurd run
  along-point old new (x ∷ es) (r ∷ rs) run zero event reply e f =
      let first : x ≡ event = cc in
      let answer : r ≡ reply = cc in
      record { before = old; done = run.0; up_to = refl; here = rw (← answer) (rw (← first) run.1); from = run.2 }
  along-point old new (x ∷ es) (r ∷ rs) run (suc k) event reply e f =
      let there = along-point run.0 new es rs run.2 k event reply e f in
      record { before = there.before; done = there.done; up_to = (run.0, run.1, there.up_to); here = there.here; from = there.from }
