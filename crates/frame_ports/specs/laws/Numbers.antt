-- What a landing under a number does, by whether it is new for the client; what it keeps, and whose number rises.
use Rattle.std.proofs.Common.{◌≡◌, ℕ, ◌-◌, ◌<◌, ◌≤◌, ◌≢◌, Bool, true, false, if◌then◌else◌, ◌⊎◌, ⊎_elim, inl, inr, List, length}
use Rattle.std.proofs.Common.{slice_index_or, slice_set, refl, sym, ◌∙◌, ap, subst, arith, length-set}
use Rattle.std.proofs.lemmas.Bool.{ltb-true, ltb-false, lt-ltb, le-ltb, cases_eq, cases_lt}
use Rattle.std.proofs.lemmas.List.{get_or-set_same, get_or-set_other, set_past}
use Rattle.arrayvec.specs.ArrayVec.{ArrayVec}
use Rattle.frame_ports.specs.Addresses.{IsFrame}
use Rattle.frame_ports.specs.Lands.{has_room, landed_at}
use Rattle.frame_ports.specs.Numbers.{last_come, is_new, landing, after_landing}
use Rattle.frame_ports.specs.Ports.{PortsState, IsPorts, IsClient}
use Rattle.frame_ports.specs.declared.landing.Landing.TheVariants.{In, Dropped, Old}
use Rattle.frame_ports.specs.laws.Lands.{length-landed_at, boxes-landed_at}

module _ (s : PortsState) (c n : ℕ) (f : ArrayVec ℕ) where
  -- the ports after a frame that is new
  abbrev pub landed_new : PortsState
  landed_new = record s { numbers = slice_set s.numbers (c - 1) n; boxes = landed_at s.boxes c f }

  -- a landing by the test
  pub after_landing-new : is_new s c n ≡ true → after_landing s c n f ≡ landed_new
  after_landing-new new = ap (λ b. if b then landed_new else s) new

  pub after_landing-old : is_new s c n ≡ false → after_landing s c n f ≡ s
  after_landing-old old = ap (λ b. if b then landed_new else s) old

  pub landing-new : is_new s c n ≡ true → landing s c n ≡ (if has_room s.boxes c then In else Dropped)
  landing-new new = ap (λ b. if b then (if has_room s.boxes c then In else Dropped) else Old) new

  pub landing-old : is_new s c n ≡ false → landing s c n ≡ Old
  landing-old old = ap (λ b. if b then (if has_room s.boxes c then In else Dropped) else Old) old

  -- and by the numbers
  pub new_from : last_come s c < n → is_new s c n ≡ true
  new_from lt = lt-ltb (last_come s c) n lt

  pub old_from : n ≤ last_come s c → is_new s c n ≡ false
  old_from le = le-ltb (last_come s c) n le

  -- a landing keeps the counts, the inboxes and the next number
  pub boxes_count : length (after_landing s c n f).boxes ≡ length s.boxes
  boxes_count = by_test (is_new s c n)
    where
      by_test : (b : Bool) → length (let t : PortsState = if b then landed_new else s in t).boxes ≡ length s.boxes
      by_test true = length-landed_at s.boxes c f
      by_test false = refl

  pub numbers_count : length (after_landing s c n f).numbers ≡ length s.numbers
  numbers_count = by_test (is_new s c n)
    where
      by_test : (b : Bool) → length (let t : PortsState = if b then landed_new else s in t).numbers ≡ length s.numbers
      by_test true = length-set s.numbers (c - 1) n
      by_test false = refl

  pub next_same : (after_landing s c n f).next ≡ s.next
  next_same = by_test (is_new s c n)
    where
      by_test : (b : Bool) → (let t : PortsState = if b then landed_new else s in t).next ≡ s.next
      by_test true = refl
      by_test false = refl

  pub inboxes_same : (after_landing s c n f).inboxes ≡ s.inboxes
  inboxes_same = by_test (is_new s c n)
    where
      by_test : (b : Bool) → (let t : PortsState = if b then landed_new else s in t).inboxes ≡ s.inboxes
      by_test true = refl
      by_test false = refl

  -- the client's number rises to that of the frame, and none falls
  pub number_reaches : c - 1 < length s.numbers → n ≤ last_come (after_landing s c n f) c
  number_reaches inside = by_test (is_new s c n) refl
    where
      by_test : (b : Bool) → is_new s c n ≡ b → n ≤ last_come (let t : PortsState = if b then landed_new else s in t) c
      by_test true new = omega (arith, get_or-set_same s.numbers (c - 1) n 0 inside)
      by_test false old = ltb-false (last_come s c) n old

  pub number_is : c - 1 < length s.numbers → last_come s c < n → last_come (after_landing s c n f) c ≡ n
  number_is inside new = ap (λ (t : PortsState). last_come t c) (after_landing-new (new_from new))
      ∙ get_or-set_same s.numbers (c - 1) n 0 inside

  pub number_other : (d : ℕ) → 1 ≤ c → 1 ≤ d → d ≢ c → last_come (after_landing s c n f) d ≡ last_come s d
  number_other d cpos dpos other = by_test (is_new s c n)
    where
      by_test : (b : Bool) → last_come (let t : PortsState = if b then landed_new else s in t) d ≡ last_come s d
      by_test true = get_or-set_other s.numbers (c - 1) (d - 1) n 0 (λ e. other (omega arith))
      by_test false = refl

  -- a client's number after a landing: the one before, or that of the frame where it was new
  number_cases : (d : ℕ) → (last_come (after_landing s c n f) d ≡ last_come s d)
      ⊎ ((last_come (after_landing s c n f) d ≡ n) × (last_come s d < n))
  number_cases d = by_test (is_new s c n) refl
    where
      set_cases : last_come s c < n → (slice_index_or (slice_set s.numbers (c - 1) n) (d - 1) 0 ≡ last_come s d)
          ⊎ ((slice_index_or (slice_set s.numbers (c - 1) n) (d - 1) 0 ≡ n) × (last_come s d < n))
      set_cases new =
          ⊎_elim
          (λ (same : (d - 1) ≡ (c - 1)). ⊎_elim
          (λ inside. inr (
            ap (λ k. slice_index_or (slice_set s.numbers (c - 1) n) k 0) same ∙ get_or-set_same s.numbers (c - 1) n 0 inside,
            subst (λ k. slice_index_or s.numbers k 0 < n) (sym same) new,
          ))
          (λ past. inl (ap (λ (l : List ℕ). slice_index_or l (d - 1) 0) (set_past s.numbers (c - 1) n past)))
          (cases_lt (c - 1) (length s.numbers)))
          (λ other. inl (get_or-set_other s.numbers (c - 1) (d - 1) n 0 other))
          (cases_eq (d - 1) (c - 1))

      by_test : (b : Bool) → is_new s c n ≡ b → (last_come (let t : PortsState = if b then landed_new else s in t) d ≡ last_come s d)
          ⊎ ((last_come (let t : PortsState = if b then landed_new else s in t) d ≡ n) × (last_come s d < n))
      by_test true new = set_cases (ltb-true (last_come s c) n new)
      by_test false old = inl refl

  pub number_rises : (d : ℕ) → last_come s d ≤ last_come (after_landing s c n f) d
  number_rises d = ⊎_elim (λ same. omega arith) (λ raised. omega arith) (number_cases d)

  pub number_at_most : (d m : ℕ) → last_come s d ≤ m → n ≤ m → last_come (after_landing s c n f) d ≤ m
  number_at_most d m before frame = ⊎_elim (λ same. omega arith) (λ raised. omega arith) (number_cases d)

  -- it leaves ports that are ports
  pub ports-after_landing : IsFrame f → IsClient s c → IsPorts s → IsPorts (after_landing s c n f)
  ports-after_landing frame client ok = by_test (is_new s c n)
    where
      new : IsPorts landed_new
      new =
          let same : length (landed_at s.boxes c f) ≡ length s.boxes = length-landed_at s.boxes c f in
          record {
            next = ok.next;
            clients = (omega (arith, same, ok.clients.0), omega (arith, same, ok.clients.1));
            pairs = ok.pairs ∙ sym same;
            numbered = length-set s.numbers (c - 1) n ∙ ok.numbered ∙ sym same;
            inboxes = ok.inboxes;
            boxes = boxes-landed_at s.boxes c f frame (omega arith) ok.boxes;
          }

      by_test : (b : Bool) → IsPorts (if b then landed_new else s)
      by_test true = new
      by_test false = ok
