-- What two clients have seen are points of one history.
use Rattle.std.proofs.Common.{◌≡◌, ℕ, ◌+◌, List, [], ◌∷◌, ◌++◌, length, Bool, true, false, cond, refl, sym, ap, ◌∙◌, subst, arith}
use Rattle.std.proofs.Common.{length-append}
use Rattle.std.proofs.lemmas.List.{append-nil}
use Rattle.pair_history.specs.Entries as entries
use Rattle.pair_history.specs.Entries.{Entry}
use Rattle.pair_history.specs.HistoryState.{HistoryState}
use Rattle.growing_history.specs.Entries.{is_of, own_entries}
use Rattle.growing_history.specs.Steps.{Step, Begins}
use Rattle.growing_history.specs.LogState.{history_of}
use Rattle.hypervisor.specs.Clients.{ClientState, own, Learns}
use Rattle.hypervisor.specs.Service.{AreOfOneGuest, ShareOneHistory}

own-append : (c : ℕ) (xs ys : List Entry) → own_entries c (xs ++ ys) ≡ own_entries c xs ++ own_entries c ys
own-append c [] ys = refl
own-append c (e ∷ xs) ys = by_test (is_of c e) (own-append c xs ys)
  where
    by_test : (t : Bool) → own_entries c (xs ++ ys) ≡ own_entries c xs ++ own_entries c ys
        → cond t (e ∷ own_entries c (xs ++ ys)) (own_entries c (xs ++ ys)) ≡ cond t (e ∷ own_entries c xs)
        (own_entries c xs) ++ own_entries c ys
    by_test true is = ap (λ (l : List Entry). e ∷ l) is
    by_test false is = is

nothing : {X : Type 0} (xs : List X) → length xs ≡ 0 → xs ≡ []
nothing [] e = refl
nothing (x ∷ xs) e = absurd (omega (arith, e))

-- what goes on without an entry of the client's had none on the way
own-between : (c : ℕ) (xs ys zs : List Entry) → entries.Begins xs ys → entries.Begins ys zs → own_entries c zs ≡ own_entries c xs
    → own_entries c ys ≡ own_entries c xs
own-between c xs ys zs a b e =
    let more = own_entries c a.0 in
    let rest = own_entries c b.0 in
    let first : own_entries c ys ≡ own_entries c xs ++ more = ap (own_entries c) a.1 ∙ own-append c xs a.0 in
    let all : own_entries c zs ≡ own_entries c ys ++ rest = ap (own_entries c) b.1 ∙ own-append c ys b.0 in
    let m : length (own_entries c ys) ≡ length (own_entries c xs) + length more = ap length first ∙ length-append (own_entries c xs) more in
    let n : length (own_entries c zs) ≡ length (own_entries c ys) + length rest = ap length all ∙ length-append (own_entries c ys) rest in
    let o : length (own_entries c zs) ≡ length (own_entries c xs) = ap length e in
    let none : more ≡ [] = nothing more (omega (arith, m, n, o)) in
    first ∙ (ap (λ (l : List Entry). own_entries c xs ++ l) none ∙ append-nil (own_entries c xs))

-- a longer list of steps has a longer history
abbrev pub GrowsLaw : Type 0
GrowsLaw = (h : HistoryState) (xs ys : List Step) → Begins xs ys → entries.Begins (history_of h xs) (history_of h ys)

-- The other learned from the one, and then the one from the other.
pub shared : (start : HistoryState) (one one' other other' : ClientState) → Learns start one.seen other other'
    → Learns start other'.seen one one' → AreOfOneGuest start other'.seen → GrowsLaw → ShareOneHistory start one other
shared start one one' other other' first second guest grows =
    let all = other'.seen in
    let from = grows start one.seen all first.told in
    let to = grows start all one'.seen second.told in
    let kept : own_entries one.number (history_of start one'.seen) ≡ own start one =
    ap (λ (n : ℕ). own_entries n (history_of start one'.seen)) (sym second.number) ∙ second.own in
    record {
      all = all;
      legal = first.legal;
      guest = guest;
      one = record {
        begins = from;
        own = own-between one.number (history_of start one.seen) (history_of start all) (history_of start one'.seen) from to kept;
      };
      other = record {
        begins = grows start other.seen all first.seen;
        own = ap (λ (n : ℕ). own_entries n (history_of start all)) (sym first.number) ∙ first.own;
      };
    }

-- where the badge has what was told, and who learns is as it was before it told something itself
pub relearned : (start : HistoryState) (seen told : List Step) (c mid c' : ClientState) → told ≡ seen → mid ≡ c → Learns start told mid c'
    → Learns start seen c c'
relearned start seen told c mid c' badge same l =
    subst (λ (s : List Step). Learns start s c c') badge (subst (λ (m : ClientState). Learns start told m c') same l)
