-- What happens after what happened, and nothing at all.
use Rattle.std.proofs.Common.{◌≡◌, ℕ, ◌+◌, List, [], ◌∷◌, ◌++◌, refl, sym, ap, ◌∙◌, subst, arith, append_assoc}
use Rattle.pair_history.specs.HistoryState.{HistoryState}
use Rattle.pair_record.specs.declared.event.{Event.Event, Reply.Reply}
use Rattle.pair_core.specs.{Along.Along, Pair.Pair, Service.{Serves, HasServed, moment}}
use Rattle.pair_core.specs.laws.Along.{along-append}
use Rattle.pair_nodes.specs.Matching.{IsServed, Matches}
use Rattle.pair_nodes.specs.Runs.{Call, call_of, calls_in}
use Rattle.pair_nodes.specs.Sites.{Site}

-- the calls of a run, and of one after it
pub calls-append : {S : Type 0} (Makes : S → Event → Reply → S → Type 0) (es : List Event) (rs : List Reply) (fs : List Event) (qs : List Reply)
    (old new : S) → Along Makes old es rs new → calls_in (es ++ fs) (rs ++ qs) ≡ calls_in es rs ++ calls_in fs qs
calls-append Makes [] [] fs qs old new run = refl
calls-append Makes [] (r ∷ rs) fs qs old new run = absurd run
calls-append Makes (e ∷ es) [] fs qs old new run = absurd run
calls-append Makes (e ∷ es) (r ∷ rs) fs qs old new run =
    ap (λ t. call_of e r ++ t) (calls-append Makes es rs fs qs run.0 new run.2)
    ∙ sym (append_assoc (call_of e r) (calls_in es rs) (calls_in fs qs))

-- what happens after what happened
unfoldable pub served_then : (w : Pair) (m n : ℕ) (cs ds : List Call) (s t : Site) (a : IsServed w m cs s) → IsServed a.after n ds t
    → IsServed w (m + n) (cs ++ ds) t
served_then w m n cs ds s t a b =
    let one = a.counts in
    let two = b.counts in
    record {
      events = a.events ++ b.events;
      replies = a.replies ++ b.replies;
      after = b.after;
      start = b.start ∙ a.start;
      run =
          along-append (Serves w.start) a.events a.replies b.events b.replies (moment w) (moment a.after) (moment b.after) a.run
          (subst (λ (u : HistoryState). HasServed u (moment a.after) b.events b.replies (moment b.after)) a.start b.run);
      matches = b.matches;
      counts = omega arith;
      told =
          calls-append (Serves w.start) a.events a.replies b.events b.replies (moment w) (moment a.after) a.run
          ∙ (λ i. a.told i ++ b.told i);
    }

pub nothing_served : (w : Pair) (most : ℕ) (s : Site) → Matches s w → IsServed w most [] s
nothing_served w most s m = record {
  events = [];
  replies = [];
  after = w;
  start = refl;
  run = refl;
  matches = m;
  counts = omega arith;
  told = refl;
}
