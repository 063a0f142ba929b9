-- Why a frame that a client delivered is lost.
use Rattle.std.proofs.Common.{◌≡◌, ℕ, List, [], ◌∷◌, refl, ap, ◌∙◌, inl, inr}
use Rattle.pair_history.specs.{Entries.{Entry, DropIn, DropOut}, Failures.dropped_numbers, HistoryState.{HistoryState, after}}
use Rattle.pair_history.specs.Landings.{DropsAtFull, DropsNone}
use Rattle.pair_history.specs.laws.GoingLive.{go_live_numbers}
use Rattle.pair_record.specs.declared.event.Event.{Event}
use Rattle.pair_record.specs.declared.event.Event.TheVariants.{Step, AckGet, LoseIn, LoseOut, FailBackup, GoLive}
use Rattle.pair_record.specs.{declared.event.Reply.Reply, Journal.kept_entries, Protocol.{Record, shown_at}}
use Rattle.pair_core.specs.Drops.{DropsOnly, WhyLost}
use Rattle.pair_record.specs.declared.event.Reply.TheVariants as replies

none : (es : List Entry) → DropsNone es → dropped_numbers es ≡ []
none [] p = refl
none (DropIn n ∷ es) p = absurd p
none (DropOut c place ∷ es) p = absurd p
none (other ∷ es) p = none es p

none_full : (s : HistoryState) (es : List Entry) → DropsAtFull s es → dropped_numbers es ≡ []
none_full s [] p = refl
none_full s (DropIn n ∷ es) p = absurd p
none_full s (DropOut c place ∷ es) p = none_full (after s (DropOut c place)) es p.1
none_full s (other ∷ es) p = none_full (after s other) es p

module _ (start : HistoryState) (old : Record) (es : List Entry) where
  abbrev Why : Event → Type 0
  Why event = WhyLost old event (dropped_numbers es)

  why_in : (c place : ℕ) (reply : Reply) → DropsOnly start old (LoseIn c place) reply es → Why (LoseIn c place)
  why_in c place replies.Dropped p = inr (inl (c, place, p.0, refl, ap dropped_numbers p.3))
  why_in c place other p = inl (none es p)

  why_out : (c place : ℕ) (reply : Reply) → DropsOnly start old (LoseOut c place) reply es → Why (LoseOut c place)
  why_out c place replies.Dropped p = inl (ap dropped_numbers p.1)
  why_out c place other p = inl (none es p)

  why_live : (reply : Reply) → DropsOnly start old GoLive reply es → Why GoLive
  why_live (replies.Live m steps) p =
      inr (inr (refl, ap dropped_numbers p ∙ go_live_numbers (shown_at start old) (kept_entries old.journal)))
  why_live other p = inl (none es p)

  pub why : (event : Event) (reply : Reply) → DropsOnly start old event reply es → Why event
  why (LoseIn c place) reply p = why_in c place reply p
  why (LoseOut c place) reply p = why_out c place reply p
  why GoLive reply p = why_live reply p
  why Step reply p = inl (none_full (shown_at start old) es p)
  why (AckGet k) reply p = inl (none_full (shown_at start old) es p)
  why FailBackup reply p = inl (none_full (shown_at start old) es p)
  why other reply p = inl (none es p)
