-- As long as no later checkpoint is heard of, what is out or held for one is just what it covers.
use Rattle.std.proofs.Common.{◌≡◌, ℕ, ◌+◌, ◌-◌, ◌<◌, ◌≤◌, List, [], ◌∷◌, ◌++◌, refl, sym, ap, ◌∙◌, arith, append_assoc}
use Rattle.std.proofs.{Common.{Bool, true, false, cond, Option, Some, None}, lemmas.List.append-nil, lemmas.Bool.Decides.nat_tests}
use Rattle.std.specs.Prelude.{nat_le, nat_lt}
use Rattle.checkpoint_stream.specs.Sound.{change_in}
use Rattle.epoch_snapshot.specs.Checkpoints.{Change}
use Rattle.output_gate.specs.Epochs.{Epoch, frames_to, after_number}
use Rattle.output_gate.specs.laws.Epochs.{frames_to-append}
use Rattle.pair_record.specs.{declared.event.Refusal.Refusal, Tables.first_refusal, Window.NumberedFrom}
use Rattle.pair_core.specs.{Pair.Pair}
use Rattle.pair_nodes.specs.Frames.{NoneIsHeardBeyond, out_to}
use Rattle.pair_nodes.specs.Matching.{HasRoom, Matches}
use Rattle.pair_nodes.specs.Runs.{Run, Call, adds}
use Rattle.pair_nodes.specs.{Sides.to_commit, StandbyCalls.commit_rows}
use Rattle.pair_nodes.specs.Sites.{Site, Happening, Happens, again_site, commit_site, taken_site, cuts, sends, gets, restarts, commits, hears, stops}
use Rattle.pair_nodes.specs.Sites.{goes_live, protects, steps, lone_steps, comes, goes_alone, delivers, overflows, takes, loses_in, loses_out}
use Rattle.pair_nodes.proofs.{Covered.{first-to, none-to, numbers}, Happenings.happens_served}

-- those up to m, and then those up to n of what is left, are those up to n
left-exactly : (m n a : ℕ) (es : List Epoch) → m ≤ n → NumberedFrom a es → frames_to m es ++ frames_to n (after_number m es) ≡ frames_to n es
left-exactly m n a [] l h = refl
left-exactly m n a (e ∷ es) l h = by_test (left-exactly m n (a + 1) es l h.1) (nat_le a m) refl
  where
    by_test : frames_to m es ++ frames_to n (after_number m es) ≡ frames_to n es → (b : Bool) → nat_le a m ≡ b
        → frames_to m (e ∷ es) ++ frames_to n (after_number m (e ∷ es)) ≡ frames_to n (e ∷ es)
    by_test later false below =
        let low : m < a = grind (arith, nat_tests, below) in
        let all = none-to m a (e ∷ es) low h in
        λ i. all.0 i ++ frames_to n (all.1 i)
    by_test later true from =
        let low : a ≤ m = grind (arith, nat_tests, from) in
        let one = first-to m a e es low h.0 in
        let two = first-to n a e es (omega arith) h.0 in
        (λ i. one.0 i ++ frames_to n (one.1 i)) ∙ append_assoc e.frames (frames_to m es) (frames_to n (after_number m es))
        ∙ ap (λ t. e.frames ++ t) later ∙ sym two.0

-- what is out or held up to n stays so, and n was cut
record Stays (n : ℕ) (s t : Site) : Type 0 where
  pub out : out_to n t ≡ out_to n s
  pub cut : n < t.primary.to_cut

stays : (n : ℕ) (s t : Site) → n < s.primary.to_cut → t.primary ≡ s.primary → t.out ≡ s.out → Stays n s t
stays n s t cut p o = record {
  out = λ i. (o i).now ++ frames_to n (p i).pending;
  cut = let c = ap (λ q. q.to_cut) p in omega arith;
}

taken-stays : (n : ℕ) (s : Site) (c : Change) (o : Option Refusal) → n < s.primary.to_cut → Stays n s (taken_site s c o)
taken-stays n s c (Some why) cut = record { out = refl; cut = cut }
taken-stays n s c None cut = by_test (nat_lt c.number (to_commit s.standby))
  where
    by_test : (b : Bool) → Stays n s (cond b (again_site s) (commit_site s c))
    by_test true = record { out = refl; cut = cut }
    by_test false = record { out = refl; cut = cut }

module _ (n : ℕ) (s : Site) (w : Pair) (m : Matches s w) (cut : n < s.primary.to_cut) where
  same : Stays n s s
  same = record { out = refl; cut = cut }

  one-stays : (x : Happening) (t : Site) → NoneIsHeardBeyond n (x ∷ []) → Happens s x t → Stays n s t
  one-stays (cuts text) t none x =
      let p = s.primary in
      let e : Epoch = record { number = p.to_cut; frames = p.live.outbox } in
      let off : nat_le p.to_cut n ≡ false = grind (arith, nat_tests, cut) in
      let new : frames_to n (e ∷ []) ≡ [] = ap (λ t. cond t (p.live.outbox ++ []) []) off in
      rw x.4 (record {
        out = ap (λ fs. s.out.now ++ fs) (frames_to-append n p.pending (e ∷ []) ∙ ap (λ fs. frames_to n p.pending ++ fs) new
            ∙ append-nil (frames_to n p.pending));
        cut = omega arith;
      })
  one-stays (sends k) t none x = rw x.1.2 (record { out = refl; cut = cut })
  one-stays (gets bytes) t none x = rw x (record { out = refl; cut = cut })
  one-stays restarts t none x = rw x (record { out = refl; cut = cut })
  one-stays commits t none x =
      let c = change_in s.standby.reading in
      let y = taken-stays n s c (first_refusal (commit_rows s.standby c)) cut in
      rw x.1 (record { out = y.out; cut = y.cut })
  one-stays (hears p) t none x =
      let es = s.primary.pending in
      let fs = frames_to p.number es in
      let rest = frames_to n (after_number p.number es) in
      let low = none.0 in
      rw x.2 (record {
        out = append_assoc s.out.now fs rest
            ∙ ap (λ t. s.out.now ++ t) (left-exactly p.number n w.protocol.state.window.to_acknowledge es low (numbers n s w m));
        cut = cut;
      })
  one-stays stops t none x = rw x (record { out = refl; cut = cut })
  one-stays goes_live t none x = absurd none
  one-stays (protects text) t none x = absurd none
  one-stays (steps k) t none x = rw x.2 (record { out = refl; cut = cut })
  one-stays (lone_steps k) t none x = absurd none
  one-stays (comes c) t none x = rw x.1.3 (record { out = refl; cut = cut })
  one-stays goes_alone t none x = absurd none
  one-stays (delivers c bytes) t none x = rw x.4 (record { out = refl; cut = cut })
  one-stays (overflows c bytes) t none x = rw x.3 (record { out = refl; cut = cut })
  one-stays (takes c) t none x = rw x.1 (record { out = refl; cut = cut })
  one-stays (loses_in c place) t none x = rw x.2 (record { out = refl; cut = cut })
  one-stays (loses_out c place) t none x = rw x.2 (record { out = refl; cut = cut })

first-and-rest : (n : ℕ) (x : Happening) (xs : List Happening) → NoneIsHeardBeyond n (x ∷ xs)
    → NoneIsHeardBeyond n (x ∷ []) × NoneIsHeardBeyond n xs
first-and-rest n goes_live xs h = absurd h
first-and-rest n (cuts text) xs h = (tt, h)
first-and-rest n (sends k) xs h = (tt, h)
first-and-rest n (gets bytes) xs h = (tt, h)
first-and-rest n restarts xs h = (tt, h)
first-and-rest n commits xs h = (tt, h)
first-and-rest n (hears p) xs h = ((h.0, tt), h.1)
first-and-rest n stops xs h = (tt, h)
first-and-rest n (protects text) xs h = absurd h
first-and-rest n (steps k) xs h = (tt, h)
first-and-rest n (lone_steps k) xs h = absurd h
first-and-rest n (comes c) xs h = (tt, h)
first-and-rest n goes_alone xs h = absurd h
first-and-rest n (delivers c bytes) xs h = (tt, h)
first-and-rest n (overflows c bytes) xs h = (tt, h)
first-and-rest n (takes c) xs h = (tt, h)
first-and-rest n (loses_in c place) xs h = (tt, h)
first-and-rest n (loses_out c place) xs h = (tt, h)

pub run_stays : (n : ℕ) (xs : List Happening) (s t : Site) (w : Pair) (most : ℕ) (calls : List Call) → Matches s w → HasRoom w most
    → n < s.primary.to_cut → NoneIsHeardBeyond n xs → Run s xs most calls t → out_to n t ≡ out_to n s
run_stays n [] s t w most calls m room cut none run = ap (out_to n) run.0
run_stays n (x ∷ xs) s t w most calls m room cut none run =
    let fits = run.2.few_entries in
    let a = happens_served s run.0 w x most m (omega arith) run.2 run.3 in
    let counts = a.counts in
    let both = first-and-rest n x xs none in
    let one = one-stays n s w m cut x run.0 both.0 run.3 in
    run_stays n xs run.0 t a.after (most - adds s x) run.1 a.matches (omega arith) one.cut both.1 run.5 ∙ one.out
