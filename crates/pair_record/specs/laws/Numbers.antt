-- The numbers of frames: no frame that the gate holds, or will hold, has come for a client yet, whatever happens.
use Rattle.std.proofs.Common.{◌≡◌, ℕ, zero, suc, ◌+◌, ◌-◌, ◌<◌, ◌≤◌, List, [], ◌∷◌, ◌++◌, length, take, replicate, get_or, set, refl, sym}
use Rattle.std.proofs.Common.{ap, ◌∙◌, inl, inr, arith, Bool, true, false, cond, Option, None, Some, subst}
use Rattle.std.proofs.{lemmas.Bool.Decides.nat_tests, lemmas.Bool.{ltb-true, ltb-false, cases_lt}, lemmas.List.length-append}
use Rattle.std.proofs.{lemmas.List.{length-take, take-append-drop}, lemmas.List.Elements.All-set}
use Rattle.std.specs.Prelude.{All, nat_le, nat_lt, slice_index_or}
use Rattle.frame_ports.specs.{Lands.{landed_at, put_count}, Numbers.{is_new, after_landing, renumbered}, Ports.PortsState}
use Rattle.frame_ports.specs.{Addresses.targets_of, Limits.number_limit}
use Rattle.output_gate.specs.{Epochs.{Epoch, epoch as epoch_of, frames_of, frames_to, after_number}, Landings.{clients_for, landed_for}}
use Rattle.output_gate.specs.{Landings.{ports_after, landed_count, AreBelow}, Gate.{GateState, first_held as gate_first}}
use Rattle.output_gate.specs.laws.{New.{boxes-after, landed_count-new}, Ports.rest_same-after, Epochs.frames_of-append}
use Rattle.pair_history.specs.Entries.{Frame, Entry}
use Rattle.pair_record.specs.{declared.event.Refusal.Refusal, declared.event.Refusal.TheVariants.{Behind, Exhausted}, Limits.last_frame}
use Rattle.pair_record.specs.{Limits.most_pending, Window.{committed_of, uncommitted_of, committed_count}, FailureActs.first_uncommitted}
use Rattle.pair_record.specs.{FailureActs.live_done, Protocol.{Record, first_refusal, cut_refusals, frames_run_out, seal_done}}
use Rattle.pair_record.specs.{Protocol.{commit_done, ack_done, failure_done, begin_done, full_done, protect_done}, Record.AreNumbered}
use Rattle.pair_record.specs.Record.{first_held, ports_landed, ports_after_ack, ports_after_all}
use Rattle.pair_history.specs.Journal.{Journal}
use Rattle.pair_record.specs.laws.{Windows.frames_of-push, Modes.filled_alone, Tables.passed}

-- NUMBERS BELOW a limit

abbrev Below : ℕ → List ℕ → Type 0
Below end ns = All (λ k. k < end) ns

more_below : (m n : ℕ) (ns : List ℕ) → m ≤ n → Below m ns → Below n ns
more_below m n ns l h k d i = let x = h k d i in omega arith

module _ (n end : ℕ) (f : Frame) (within : n < end) where
  landing_below : (p : PortsState) (c : ℕ) → Below end p.numbers → Below end (after_landing p c n f).numbers
  landing_below p c h = by_test (is_new p c n)
    where
      by_test : (t : Bool)
          → Below end (cond t (record p { numbers = set p.numbers (c - 1) n; boxes = landed_at p.boxes c f }) p).numbers
      by_test true = All-set (λ k. k < end) p.numbers (c - 1) n within h
      by_test false = h

  for_below : (cs : List ℕ) (p : PortsState) → Below end p.numbers → Below end (landed_for p cs n f).numbers
  for_below [] p h = h
  for_below (c ∷ cs) p h = for_below cs (after_landing p c n f) (landing_below p c h)

pub after_below : (fs : List Frame) (first end : ℕ) (p : PortsState) → first + length fs ≤ end → Below end p.numbers
    → Below end (ports_after p first fs).numbers
after_below [] first end p l h = h
after_below (f ∷ fs) first end p l h =
    after_below fs (first + 1) end (landed_for p (clients_for p f) first f) (omega arith)
    (for_below first end f (omega arith) (clients_for p f) p h)

-- the frames below a number, wherever they begin
cut_below : (fs : List Frame) (first end : ℕ) (p : PortsState) → Below end p.numbers
    → Below end (ports_after p first (take (end - first) fs)).numbers
cut_below fs first end p h = elim (cases_lt first end) [
  | inl low ↦ let some = length-take (end - first) fs in after_below (take (end - first) fs) first end p (omega arith) h
  | inr high ↦
      let none : end - first ≡ 0 = omega arith in
      subst (λ n. Below end (ports_after p first (take n fs)).numbers) (sym none) h
]

none_below : (n count : ℕ) → 0 < n → Below n (replicate count 0)
none_below n (suc count) l zero d i = l
none_below n (suc count) l (suc k) d i = none_below n count l k d (omega arith)
none_below n zero l k d i = absurd (omega arith)

-- FRAMES THAT CAME FOR NO CLIENT land as if they had no number

past : (ns : List ℕ) (i : ℕ) → length ns ≤ i → get_or ns i 0 ≡ 0
past [] i l = refl
past (n ∷ ns) zero l = absurd (omega arith)
past (n ∷ ns) (suc i) l = past ns i (omega arith)

module _ (p : PortsState) (first : ℕ) (some : 0 < first) (h : Below first p.numbers) where
  pub each_below : AreBelow p first
  each_below = record { below = λ c low high. by_place (c - 1) (nat_lt (c - 1) (length p.numbers)) refl }
    where
      by_place : (i : ℕ) (t : Bool) → nat_lt i (length p.numbers) ≡ t → slice_index_or p.numbers i 0 < first
      by_place i true e = h i 0 (ltb-true i (length p.numbers) e)
      by_place i false e = let l = ltb-false i (length p.numbers) e in let n = past p.numbers i (omega arith) in omega arith

  pub landed_new : (fs : List Frame) → ports_after p first fs ≡ ports_landed p first fs
  landed_new fs =
      let rest = rest_same-after p first fs in
      λ i. record (ports_after p first fs) { next = rest.0 i; inboxes = rest.1 i; boxes = boxes-after p first fs each_below i }

  pub put_new : (fs : List Frame) → landed_count p first fs ≡ put_count p.boxes (targets_of (length p.boxes) fs)
  put_new fs = landed_count-new p first fs each_below

-- WHAT THE GATE HOLDS, in number

parted : (n : ℕ) (es : List Epoch) → length (frames_to n es) + length (frames_of (after_number n es)) ≡ length (frames_of es)
parted n [] = refl
parted n (e ∷ es) = by_test (nat_le e.number n) (parted n es)
  where
    by_test : (t : Bool) → length (frames_to n es) + length (frames_of (after_number n es)) ≡ length (frames_of es)
        → length (cond t (e.frames ++ frames_to n es) (frames_to n es)) + length (frames_of (cond t (after_number n es) (e ∷ after_number n es)))
        ≡ length (e.frames ++ frames_of es)
    by_test true h =
        let a = length-append e.frames (frames_to n es) in
        let b = length-append e.frames (frames_of es) in
        omega arith
    by_test false h =
        let a = length-append e.frames (frames_of (after_number n es)) in
        let b = length-append e.frames (frames_of es) in
        omega arith

-- by whether their checkpoint is committed
pub in_two : (r : Record) → length (frames_of r.pending)
    ≡ length (frames_of (committed_of r.window r.pending)) + length (frames_of (uncommitted_of r.window r.pending))
in_two r =
    let owed = committed_of r.window r.pending in
    let others = uncommitted_of r.window r.pending in
    ap (λ (es : List Epoch). length (frames_of es)) (sym (take-append-drop (committed_count r.window) r.pending))
    ∙ ap (λ (fs : List Frame). length fs) (frames_of-append owed others) ∙ length-append (frames_of owed) (frames_of others)

-- where nothing is pending, the first frame that is held would be the next one
pub first_lone : (r : Record) → r.pending ≡ [] → first_held r ≡ r.next_frame
first_lone r none =
    let a : length (frames_of r.pending) ≡ 0 = ap (λ (es : List Epoch). length (frames_of es)) none in
    omega arith

-- EACH EVENT keeps what is true of the numbers

room_for : (next : ℕ) → nat_lt last_frame next ≡ false → next ≤ last_frame
room_for next e = grind (arith, nat_tests)

module _ (r : Record) (p : PortsState) (h : AreNumbered r p) where
  pub first_positive : 0 < first_held r
  first_positive = let a = h.held in omega arith

  -- what the gate gives its frames, and their numbers, where they land first
  pub landed_ports : (fs : List Frame) → ports_after p (first_held r) fs ≡ ports_landed p (first_held r) fs
  landed_ports fs = landed_new p (first_held r) first_positive h.new fs

  pub landed_counted : (fs : List Frame) → landed_count p (first_held r) fs ≡ put_count p.boxes (targets_of (length p.boxes) fs)
  landed_counted fs = put_new p (first_held r) first_positive h.new fs

  -- where a cut isn't refused
  numbers_left : first_refusal (cut_refusals r) ≡ None → frames_run_out r ≡ false
  numbers_left free =
      let others : Option Refusal = cond (frames_run_out r) (Some Exhausted) None in
      let row = passed (nat_le most_pending (length r.pending)) Behind (cond (nat_le number_limit r.window.to_cut) (Some Exhausted) others) free in
      let next = passed (nat_le number_limit r.window.to_cut) Exhausted others row.1 in
      (passed (frames_run_out r) Exhausted None next.1).0

  -- no frame from that number on has come, and what the gate lets go lands so
  module _ (first : ℕ) (is : first ≡ first_held r) where
    pub none_came : AreBelow p first
    none_came = subst (AreBelow p) (sym is) (each_below p (first_held r) first_positive h.new)

    module _ (held fs : List Frame) (are : held ≡ fs) where
      pub let_go_ports : ports_after p first held ≡ ports_landed p (first_held r) fs
      let_go_ports = (λ i. ports_after p (is i) (are i)) ∙ landed_ports fs

      pub let_go_count : landed_count p first held ≡ put_count p.boxes (targets_of (length p.boxes) fs)
      let_go_count = (λ i. landed_count p (is i) (are i)) ∙ landed_counted fs

  -- also where frames are held behind the others
  pub first_same : (n : ℕ) (fs : List Frame) (g : GateState) → g ≡ record { next = r.next_frame + length fs; epochs = r.pending ++ epoch_of n fs ∷ [] }
      → gate_first g ≡ first_held r
  first_same n fs g is =
      let next = ap (λ (x : GateState). x.next) is in
      let all = ap (λ (x : GateState). length (frames_of x.epochs)) is
      ∙ ap (λ (gs : List Frame). length gs) (frames_of-push r.pending (epoch_of n fs)) ∙ length-append (frames_of r.pending) fs in
      let some = h.held in
      omega arith

  -- where nothing is pending these are the next
  module _ (first : ℕ) (fs : List Frame) (is : first ≡ r.next_frame) (none : r.pending ≡ []) where
    first_next : first ≡ first_held r
    first_next = is ∙ sym (first_lone r none)

    pub lone_came : AreBelow p first
    lone_came = none_came first first_next

    pub lone_ports : ports_after p first fs ≡ ports_landed p r.next_frame fs
    lone_ports = let_go_ports first first_next fs fs refl ∙ ap (λ n. ports_landed p n fs) (first_lone r none)

  -- an epoch is sealed
  module _ (epoch rest : List Entry) (fs : List Frame) where
    pub seal_numbers : r.next_frame + length fs ≤ last_frame + 256 → AreNumbered (seal_done epoch rest fs r).1 p
    seal_numbers few =
        let e : Epoch = record { number = r.window.to_cut; frames = fs } in
        let a = ap (λ (t : List Frame). length t) (frames_of-push r.pending e) ∙ length-append (frames_of r.pending) fs in
        let b = h.held in
        record {
          held = omega arith;
          new = more_below (first_held r) _ p.numbers (omega arith) h.new;
          left = omega arith;
          left_in_pair = λ t some. omega arith;
        }

    pub sealed_numbers : length fs ≤ 256 → first_refusal (cut_refusals r) ≡ None → AreNumbered (seal_done epoch rest fs r).1 p
    sealed_numbers few free =
        let room = room_for r.next_frame (numbers_left free) in
        seal_numbers (omega arith)

  pub commit_numbers : AreNumbered (commit_done r).1 p
  commit_numbers = record {
    held = h.held;
    new = h.new;
    left = h.left;
    left_in_pair = λ t some. h.left_in_pair (sym (filled_alone r.mode) ∙ t) some;
  }

  pub ack_numbers : (n : ℕ) → AreNumbered (ack_done p.boxes r n).1 (ports_after_ack p r n)
  ack_numbers n =
      let a = parted n r.pending in
      let b = h.held in
      let end = r.next_frame - length (frames_of (after_number n r.pending)) in
      record {
        held = omega arith;
        new = after_below (frames_to n r.pending) (first_held r) end p (omega arith) (more_below (first_held r) end p.numbers (omega arith) h.new);
        left = h.left;
        left_in_pair = h.left_in_pair;
      }

  -- all that the gate holds lands, and then these
  pub failure_numbers : (epoch rest : List Entry) (fs : List Frame) → r.next_frame + length fs ≤ last_frame + 512
      → AreNumbered (failure_done epoch rest p.boxes fs r).1 (ports_after_all p fs r)
  failure_numbers epoch rest fs few =
      let a = length-append (frames_of r.pending) fs in
      let b = h.held in
      let end = r.next_frame + length fs - 0 in
      record {
        held = omega arith;
        new = after_below (frames_of r.pending ++ fs) (first_held r) end p (omega arith) (more_below (first_held r) end p.numbers (omega arith) h.new);
        left = omega arith;
        left_in_pair = λ t some. absurd (cc);
      }

  -- where nothing is pending these land
  pub lone_numbers : (j : Journal) (fs : List Frame) → length fs ≤ 256 → frames_run_out r ≡ false → r.pending ≡ []
      → AreNumbered (record r { journal = j; next_frame = r.next_frame + length fs }) (ports_landed p r.next_frame fs)
  lone_numbers j fs few free none =
      let a : length (frames_of r.pending) ≡ 0 = ap (λ (es : List Epoch). length (frames_of es)) none in
      let b = room_for r.next_frame free in
      let c = h.held in
      let end = r.next_frame + length fs - length (frames_of r.pending) in
      record {
        held = omega arith;
        new = after_below fs r.next_frame end p (omega arith) (more_below (first_held r) end p.numbers (omega arith) h.new);
        left = omega arith;
        left_in_pair = λ t some. omega arith;
      }

  -- what a backup brings lands, as far as it was committed, and what the gate holds of other checkpoints is given up
  pub live_numbers : (landed : List Entry) (steps first : ℕ) (fs : List Frame)
      → AreNumbered (live_done landed steps r).1 (ports_after p first (take (first_uncommitted r - first) fs))
  live_numbers landed steps first fs =
      let a = in_two r in
      let b = h.held in
      let c = h.left in
      let end = first_uncommitted r in
      record {
        held = omega arith;
        new =
            more_below end (end - 0) _ (omega arith)
            (cut_below fs first end p (more_below (first_held r) end p.numbers (omega arith) h.new));
        left = omega arith;
        left_in_pair = λ t some. absurd (cc);
      }

  -- a new backup's full checkpoint has still to be sealed
  pub begin_numbers : r.pending ≡ [] → AreNumbered (begin_done r).1 p
  begin_numbers none =
      let a : length (frames_of r.pending) ≡ 0 = ap (λ (es : List Epoch). length (frames_of es)) none in
      let b = h.held in
      record {
        held = omega arith;
        new = more_below (first_held r) _ p.numbers (omega arith) h.new;
        left = h.left;
        left_in_pair = λ t some. absurd (omega arith);
      }

-- which no frame waits for, and then it is sealed, and frames are numbered anew
pub full_numbers : (r : Record) (p : PortsState) → r.pending ≡ [] → AreNumbered (full_done r).1 (renumbered p)
full_numbers r p none =
    let e : Epoch = record { number = r.window.to_cut; frames = [] } in
    let a : length (frames_of (r.pending ++ e ∷ [])) ≡ 0 = ap (λ (es : List Epoch). length (frames_of (es ++ e ∷ []))) none in
    record {
      held = omega arith;
      new = more_below 1 _ _ (omega arith) (none_below 1 (length p.boxes) (omega arith));
      left = omega arith;
      left_in_pair = λ t some. omega arith;
    }

pub protect_numbers : (r : Record) (p : PortsState) → AreNumbered (protect_done r).1 (renumbered p)
protect_numbers r p = full_numbers (begin_done r).1 p refl

-- what is the same record with the same ports is numbered too
pub same_numbers : (r q : Record) (p o : PortsState) → q ≡ r → o ≡ p → AreNumbered r p → AreNumbered q o
same_numbers r q p o e f h = subst (λ x. AreNumbered x o) (sym e) (subst (AreNumbered r) (sym f) h)
