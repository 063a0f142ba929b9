-- What a backup stands with, and how its image takes a checkpoint in.
use Rattle.std.proofs.Common.{◌≡◌, ℕ, zero, suc, ◌+◌, ◌-◌, ◌≤◌, List, [], ◌∷◌, length, refl, sym, ap, ◌∙◌, subst, arith, true, false}
use Rattle.std.proofs.Common.{Option, Some, None}
use Rattle.std.proofs.lemmas.Bool.{eq-eqb, le-ltb, ne_eqb}
use Rattle.std.proofs.lemmas.List.{length-append, length-map, Sums.sum_by-cons, get_or-map}
use Rattle.std.specs.Prelude.{All, map, ◌==◌, nat_lt, option_map, IsSome, Ok}
use Rattle.backup_image.specs.declared.standing.Standing.{Standing}
use Rattle.backup_image.specs.declared.standing.Staged.TheVariants.{New, Again}
use Rattle.backup_image.specs.Images.{ImageState, answer_at, stage_answer, applied}
use Rattle.backup_image.specs.Kept as images
use Rattle.backup_image.specs.Kept.{count_kept, first_kept}
use Rattle.backup_image.specs.Limits.{number_limit}
use Rattle.epoch_snapshot.specs.Checkpoints.{Change, is_old_delta}
use Rattle.growing_history.specs.Views.{Member}
use Rattle.pair_book.specs.declared.failures.Ack.{Ack}
use Rattle.pair_book.specs.Commits.{Acknowledges, sent_then, first_then, kept_then}
use Rattle.pair_book.specs.Standing.{ack_before, Stands}
use Rattle.pair_history.specs.Entries.{Frame}
use Rattle.pair_history.specs.HistoryState.{HistoryState}
use Rattle.pair_record.specs.Kept.{all_frames}
use Rattle.hypervisor.specs.Backups.{ack_of, last_of, kept_of, ImageStands}

-- THE FRAMES that an image keeps

count-kept : (lists : List (List Frame)) → count_kept lists ≡ length (all_frames lists)
count-kept [] = refl
count-kept (fs ∷ fss) =
    sum_by-cons (λ (gs : List Frame). length gs) fs fss
    ∙ ap (λ (n : ℕ). length fs + n) (count-kept fss)
    ∙ sym (length-append fs (all_frames fss))

-- what holds of each list that a value stands for
pub each-of : {X : Type 0} (f : X → List Frame) (P : List Frame → Type 0) (xs : List X) → All P (map f xs) → All (λ x. P (f x)) xs
each-of f P xs h k d within =
    let long = length-map xs f in
    subst P (get_or-map f xs k d (f d) within) (h k (f d) (omega arith))

-- WHAT IS NEW to an image that stands at the number before

turn : (at : Option Standing) (g n : ℕ) → option_map ack_of at ≡ ack_before g n → answer_at at g n ≡ Ok New
turn None g zero e = refl
turn None g (suc n) e = absurd (cc)
turn (Some at) g zero e = absurd (cc)
turn (Some at) g (suc n) e =
    let same : ack_of at ≡ record { generation = g; number = n } = cc in
    let generation : at.generation ≡ g = ap (λ (a : Ack). a.generation) same in
    let number : at.number ≡ n = ap (λ (a : Ack). a.number) same in
    rw (sym generation) (rw (sym number) (next at.generation at.number))
  where
    next : (g n : ℕ) → answer_at (Some (record { generation = g; number = n })) g (suc n) ≡ Ok New
    next g n =
        let own : (g == g) ≡ true = eq-eqb g g refl in
        let near : nat_lt (n + 1) (suc n) ≡ false = le-ltb (n + 1) (suc n) (omega arith) in
        let same : (suc n == n + 1) ≡ true = eq-eqb (suc n) (n + 1) (omega arith) in
        rw own (rw near (rw same refl))

pub stage-new : (i : ImageState) (c : Change) → is_old_delta c ≡ false → last_of i ≡ ack_before c.generation c.number
    → nat_lt (images.sent_with c i.sent) number_limit ≡ true → stage_answer i c ≡ Ok New
stage-new i c old last numbered =
    let new : answer_at i.stands_at c.generation c.number ≡ Ok New = turn i.stands_at c.generation c.number last in
    rw old (rw new (rw numbered refl))

-- or is there already
there : (at : Option Standing) (g n : ℕ) (ack : Ack) → option_map ack_of at ≡ Some ack → ack.generation ≡ g → n ≤ ack.number
    → answer_at at g n ≡ Ok Again
there None g n ack e generation low = absurd (cc)
there (Some at) g n ack e generation low =
    let same : ack_of at ≡ ack = cc in
    let here : at.generation ≡ g = ap (λ (a : Ack). a.generation) same ∙ generation in
    let number : at.number ≡ ack.number = ap (λ (a : Ack). a.number) same in
    let own : (g == at.generation) ≡ true = eq-eqb g at.generation (sym here) in
    let near : nat_lt (at.number + 1) n ≡ false = le-ltb (at.number + 1) n (omega (arith, number, low)) in
    let other : (n == at.number + 1) ≡ false = ne_eqb n (at.number + 1) (λ (x : n ≡ at.number + 1). omega (arith, number, low, x)) in
    rw own (rw near (rw other refl))

pub stage-again : (i : ImageState) (c : Change) (ack : Ack) → is_old_delta c ≡ false → last_of i ≡ Some ack → Acknowledges true c ack
    → stage_answer i c ≡ Ok Again
stage-again i c ack old last is =
    let again : answer_at i.stands_at c.generation c.number ≡ Ok Again = there i.stands_at c.generation c.number ack last is.0 is.1 in
    rw old (rw again refl)

-- AND ONCE IT HAS TAKEN IT IN
pub stands-applied : (start : HistoryState) (c : Change) (ack : Ack) (seat seat' : Member) (i : ImageState) → Acknowledges false c ack
    → Stands start seat' (applied i (Some c)).guest (Some ack) (sent_then c i.sent) (first_then c i.sent i.kept) (kept_then c i.kept)
    → ImageStands start seat' (applied i (Some c))
stands-applied start c ack seat seat' i is stands =
    let first : first_then c i.sent i.kept ≡ first_kept (kept_of (applied i (Some c))) =
    ap (λ (n : ℕ). sent_then c i.sent + 1 - n) (sym (count-kept (kept_then c i.kept))) in
    subst
    (λ (x : Ack × ℕ). Stands start seat' (applied i (Some c)).guest (Some x.0) (sent_then c i.sent) x.1 (kept_then c i.kept))
    (λ k. (is k, first k)) stands

pub some-standing : (at : Option Standing) → IsSome (option_map ack_of at) → IsSome at
some-standing None some = absurd (cc)
some-standing (Some at) some = refl
