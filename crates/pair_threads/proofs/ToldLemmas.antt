-- What a client's answers tell, action by action.
use Rattle.std.proofs.Common.{◌≡◌, ℕ, ◌+◌, ◌<◌, suc, List, [], ◌∷◌, ◌++◌, length, take, get_or, refl, sym, ap, subst, ◌∙◌, arith}
use Rattle.std.proofs.Common.{append_assoc, append-nil, length-append, add-one, Vec, Global}
use Rattle.std.proofs.Math.Seq.{take-suc}
use Rattle.std.proofs.lemmas.List.{length-take-le}
use Rattle.pair_history.specs.Entries as entries
use Rattle.pair_history.specs.Entries.{Entry}
use Rattle.pair_history.specs.HistoryState.{HistoryState}
use Rattle.pair_record.specs.declared.event.Refusal.{Refusal}
use Rattle.pair_record.specs.declared.event.Refusal.TheVariants.{Full, BadFrame, NoClient, Stopped, Behind, NotPaired, AlreadyPaired}
use Rattle.pair_record.specs.declared.event.Refusal.TheVariants.{NoImage, Stale, Gap, NoMemory, CutNeeded, Exhausted, OldVersion}
use Rattle.pair_record.specs.declared.event.Reply.{Reply}
use Rattle.pair_record.specs.declared.event.Reply.TheVariants as replies
use Rattle.pair_run.specs.declared.run_file.Action.{Action}
use Rattle.pair_run.specs.declared.run_file.Action.TheVariants as actions
use Rattle.growing_history.specs.Entries.{own_entries}
use Rattle.growing_history.specs.LogState.{history_of}
use Rattle.hypervisor.specs.Clients.{ClientState, own, Calls, RefusesDelivery}
use Rattle.hypervisor.specs.Refusals.{MayRefuseDelivery}
use Rattle.pair_threads.specs.Told.{entry_told, entries_told, MayAnswer, MayAnswerAll}
use Rattle.pair_threads.specs.internal.Scripts.{Tells}

-- a call's entry is one more of the client's own
pub called : (start : HistoryState) (e : Entry) (old new : ClientState) → Calls start e old new → own start new ≡ own start old ++ e ∷ []
called start e old new is = ap (λ n. own_entries n (history_of start new.seen)) is.number ∙ is.entry.mine

-- after a refusal there is none
pub uncalled : (start : HistoryState) (old new : ClientState) → new ≡ old → own start new ≡ own start old ++ []
uncalled start old new same = ap (own start) same ∙ sym (append-nil (own start old))

module _ (start : HistoryState) (old new : ClientState) where
  module _ (bytes : Vec ℕ Global) (why : Refusal) (may : MayRefuseDelivery bytes.items why) where
    as-before : entry_told old.number (actions.Deliver bytes) (replies.Refused why) ≡ [] → new ≡ old
        → Tells start (actions.Deliver bytes) (replies.Refused why) old new
    as-before none same = record {
      number = ap (λ (c : ClientState). c.number) same;
      may = may;
      own = uncalled start old new same ∙ ap (λ (es : List Entry). own start old ++ es) (sym none);
    }

  -- of a delivery that was refused
  pub not-delivered : (bytes : Vec ℕ Global) (why : Refusal) → MayRefuseDelivery bytes.items why
      → RefusesDelivery start (record { items = bytes.items }) why old new
      → Tells start (actions.Deliver bytes) (replies.Refused why) old new
  not-delivered bytes Full may a = record {
    number = a.0.number;
    may = may;
    own = called start (entries.Refused old.number (record { items = bytes.items })) old new a.0;
  }
  not-delivered bytes BadFrame may a = as-before bytes BadFrame may refl a
  not-delivered bytes NoClient may a = as-before bytes NoClient may refl a
  not-delivered bytes Stopped may a = as-before bytes Stopped may refl a
  not-delivered bytes Behind may a = as-before bytes Behind may refl a
  not-delivered bytes NotPaired may a = as-before bytes NotPaired may refl a
  not-delivered bytes AlreadyPaired may a = as-before bytes AlreadyPaired may refl a
  not-delivered bytes NoImage may a = as-before bytes NoImage may refl a
  not-delivered bytes Stale may a = as-before bytes Stale may refl a
  not-delivered bytes Gap may a = as-before bytes Gap may refl a
  not-delivered bytes (NoMemory m) may a = as-before bytes (NoMemory m) may refl a
  not-delivered bytes CutNeeded may a = as-before bytes CutNeeded may refl a
  not-delivered bytes Exhausted may a = as-before bytes Exhausted may refl a
  not-delivered bytes OldVersion may a = as-before bytes OldVersion may refl a

-- one action more
told-more : (c : ℕ) (does : List Action) (action : Action) (answers : List Reply) (reply : Reply) → length answers ≡ length does
    → entries_told c (does ++ action ∷ []) (answers ++ reply ∷ []) ≡ entries_told c does answers ++ entry_told c action reply
told-more c [] action [] reply same = append-nil (entry_told c action reply)
told-more c [] action (r ∷ rs) reply same = absurd (cc)
told-more c (d ∷ ds) action [] reply same = absurd (cc)
told-more c (d ∷ ds) action (r ∷ rs) reply same =
    ap (λ es. entry_told c d r ++ es) (told-more c ds action rs reply (omega (arith, same)))
    ∙ sym (append_assoc (entry_told c d r) (entries_told c ds rs) (entry_told c action reply))

-- each answer is one that the action may get, and one more
may-more : (does : List Action) (action : Action) (answers : List Reply) (reply : Reply) → MayAnswerAll does answers → MayAnswer action reply
    → MayAnswerAll (does ++ action ∷ []) (answers ++ reply ∷ [])
may-more [] action [] reply may one = (one, tt)
may-more [] action (r ∷ rs) reply may one = absurd may
may-more (d ∷ ds) action [] reply may one = absurd may
may-more (d ∷ ds) action (r ∷ rs) reply may one = (may.0, may-more ds action rs reply may.1 one)

-- So many actions were made, and this is what the answers to them tell.
pub record HasMadeSome (start : HistoryState) (does : List Action) (count : ℕ) (answers : List Reply) (old new : ClientState) : Type 0 where
  pub number : new.number ≡ old.number
  pub some : length answers ≡ count
  pub may : MayAnswerAll (take count does) answers
  pub own : own start new ≡ own start old ++ entries_told old.number (take count does) answers

pub none-made : (start : HistoryState) (does : List Action) (answers : List Reply) (client : ClientState) → answers ≡ []
    → HasMadeSome start does 0 answers client client
none-made start does answers client none = record {
  number = refl;
  some = ap length none;
  may = subst (λ (rs : List Reply). MayAnswerAll [] rs) (sym none) tt;
  own = sym (append-nil (own start client));
}

pub one-more-made : (start : HistoryState) (does : List Action) (count : ℕ) (answers : List Reply) (old now new : ClientState)
    (action : Action) (reply : Reply) → HasMadeSome start does count answers old now → count < length does → action ≡ get_or does count action
    → Tells start action reply now new
    → HasMadeSome start does (count + 1) (answers ++ reply ∷ []) old new
one-more-made start does count answers old now new action reply made low is tells =
    let some = made.some in
    let before = take count does in
    let all : take (suc count) does ≡ before ++ action ∷ [] =
    take-suc does count action low ∙ ap (λ (x : Action). before ++ x ∷ []) (sym is) in
    let more : entries_told old.number (take (suc count) does) (answers ++ reply ∷ []) ≡ entries_told old.number before answers ++ entry_told old.number action reply =
    ap (λ (xs : List Action). entries_told old.number xs (answers ++ reply ∷ [])) all
    ∙ told-more old.number before action answers reply (some ∙ sym (length-take-le count does (omega arith))) in
    let here : entry_told now.number action reply ≡ entry_told old.number action reply = ap (λ n. entry_told n action reply) made.number in
    record {
      number = tells.number ∙ made.number;
      some = omega (arith, length-append answers (reply ∷ []));
      may =
          subst (λ (xs : List Action). MayAnswerAll xs (answers ++ reply ∷ [])) (sym (ap (λ k. take k does) (add-one count) ∙ all))
          (may-more before action answers reply made.may tells.may);
      own = tells.own
          ∙ (ap (λ es. own start now ++ es) here
          ∙ (ap (λ es. es ++ entry_told old.number action reply) made.own
          ∙ (append_assoc (own start old) (entries_told old.number before answers) (entry_told old.number action reply)
          ∙ ap (λ es. own start old ++ es) (sym (ap (λ k. entries_told old.number (take k does) (answers ++ reply ∷ [])) (add-one count) ∙ more)))));
    }
