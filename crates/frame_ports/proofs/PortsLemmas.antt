-- How a change of one ring changes what contracts see of the ports.
use Rattle.std.proofs.Common.{
  ◌≡◌,
  ℕ,
  ◌-◌,
  ◌<◌,
  ◌≤◌,
  true,
  List,
  [],
  ◌∷◌,
  ◌++◌,
  length,
  take,
  drop,
  slice_index_or,
  All,
  remove,
  refl,
  sym,
  ◌∙◌,
  ap,
  subst,
  arith,
  length-append,
  length-set,
  IfSome,
  slice_get,
  zero,
  suc,
  replicate,
  lit≤,
  nat_lt,
  is_some,
  Result,
  Ok,
  Err,
  OnOk,
  if◌then◌else◌,
}
use Rattle.std.proofs.lemmas.Bool.{lt-ltb, le-ltb}
use Rattle.std.proofs.lemmas.Bool.Decides.{nat_tests}
use Rattle.frame_ports.specs.declared.errors.PortError.TheVariants.{NoClient}
use Rattle.std.proofs.Math.ListN.{length-take, length-drop}
use Rattle.std.proofs.lemmas.List.{length-map, length-replicate, map-set, get_or-map, length_push}
use Rattle.std.proofs.lemmas.List.Elements.{
  All-set,
  All-take,
  All-drop,
  All-append,
  All-push,
  All-head,
  All-tail,
  All-replicate,
  All-nil,
  All-same,
}
use Rattle.std.specs.Vec.{with_item}
use Rattle.arrayvec.specs.ArrayVec.{ArrayVec}
use Rattle.circular_buffer.specs.Buffer.{Buffer, buffer}
use Rattle.frame_ports.specs.Addresses.{IsFrame}
use Rattle.frame_ports.specs.Lands.{list_of}
use Rattle.frame_ports.specs.Ports.{
  PortsState,
  IsPorts,
  empty_ports,
  for_client,
  IsInbox,
  IsBox,
  IsClient,
  is_client,
  inbox_of,
  box_of,
  with_inbox,
  with_box,
}
use Rattle.frame_ports.specs.internal.Fields.{rings_items, ports_state, AreFields}
use Rattle.frame_ports.specs.Limits.{max_clients, inbox_frames, box_frames, number_limit}
use Rattle.frame_ports.specs.declared.ports.Ports.TheInside.{Inside}

module _ {X : Type 0} where
  -- the list of a client is what its ring holds
  pub list_of-ring : (rings : List (Buffer X)) (c : ℕ) (r : Buffer X) → c - 1 < length rings → r ≡ slice_index_or rings (c - 1) r →
      list_of (rings_items rings) c ≡ r.items
  list_of-ring rings c r inside read =
      get_or-map (λ (b : Buffer X). b.items) rings (c - 1) r [] inside ∙ sym (ap (λ (b : Buffer X). b.items) read)

  -- a fact of each element, at the element that was read
  pub at_ring : (P : Buffer X → Type 0) (rings : List (Buffer X)) (i : ℕ) (r : Buffer X) → i < length rings → r ≡ slice_index_or rings i r →
      All P rings → P r
  at_ring P rings i r inside read all = subst P (sym read) (all i r inside)

-- a client's number, from the test
pub client_from_test : (s : PortsState) (c : ℕ) → is_client s c ≡ true → IsClient s c
client_from_test s c h = grind arith

module _ (p : Inside) (c : ℕ) where
  -- what an inbox and a box hold, and how much they can hold
  pub inbox_at : (r : Buffer (ℕ × ArrayVec ℕ)) → AreFields p → IsClient (ports_state p) c → r ≡ slice_index_or p.inboxes.items (c - 1) r →
      (inbox_of (ports_state p) c ≡ r.items) × IsInbox r.items × (r.capacity ≡ inbox_frames)
  inbox_at r ok client read =
      let pairs : length p.inboxes.items ≡ length p.boxes.items =
      sym (length-map p.inboxes.items (λ (b : Buffer (ℕ × ArrayVec ℕ)). b.items)) ∙ ok.state.pairs
      ∙ length-map p.boxes.items (λ (b : Buffer (ArrayVec ℕ)). b.items) in
      let count : length (rings_items p.boxes.items) ≡ length p.boxes.items =
      length-map p.boxes.items (λ (b : Buffer (ArrayVec ℕ)). b.items) in
      let inside : c - 1 < length p.inboxes.items = omega arith in
      let inside' : c - 1 < length (rings_items p.inboxes.items) =
      omega (arith, length-map p.inboxes.items (λ (b : Buffer (ℕ × ArrayVec ℕ)). b.items)) in
      let same : inbox_of (ports_state p) c ≡ r.items = list_of-ring p.inboxes.items c r inside read in (
        same,
        subst IsInbox same (ok.state.inboxes (c - 1) [] inside'),
        at_ring (λ b. b.capacity ≡ inbox_frames) p.inboxes.items (c - 1) r
            inside read ok.inboxes,
      )

  pub box_at : (r : Buffer (ArrayVec ℕ)) → AreFields p → IsClient (ports_state p) c → r ≡ slice_index_or p.boxes.items (c - 1) r →
      (box_of (ports_state p) c ≡ r.items) × IsBox r.items × (r.capacity ≡ box_frames)
  box_at r ok client read =
      let count : length (rings_items p.boxes.items) ≡ length p.boxes.items =
      length-map p.boxes.items (λ (b : Buffer (ArrayVec ℕ)). b.items) in
      let inside : c - 1 < length p.boxes.items = omega arith in
      let inside' : c - 1 < length (rings_items p.boxes.items) = omega arith in
      let same : box_of (ports_state p) c ≡ r.items = list_of-ring p.boxes.items c r inside read in (
        same,
        subst IsBox same (ok.state.boxes (c - 1) [] inside'),
        at_ring (λ b. b.capacity ≡ box_frames) p.boxes.items (c - 1) r inside
            read ok.boxes,
      )

  -- the ports with one ring changed
  abbrev pub inbox_put : ℕ → Buffer (ℕ × ArrayVec ℕ) → Inside
  inbox_put n r = record { next = n; inboxes = with_item p.inboxes (c - 1) r; boxes = p.boxes; numbers = p.numbers }

  abbrev pub box_put : Buffer (ArrayVec ℕ) → Inside
  box_put r = record { next = p.next; inboxes = p.inboxes; boxes = with_item p.boxes (c - 1) r; numbers = p.numbers }

  -- what contracts see of them
  pub state-inbox_put : (n : ℕ) (r : Buffer (ℕ × ArrayVec ℕ)) →
      ports_state (inbox_put n r) ≡ record (with_inbox (ports_state p) c r.items) { next = n }
  state-inbox_put n r = ap (λ (l : List (List (ℕ × ArrayVec ℕ))). let s : PortsState =
      record { next = n; inboxes = l; boxes = rings_items p.boxes.items; numbers = p.numbers.items } in s)
      (map-set (λ (b : Buffer (ℕ × ArrayVec ℕ)). b.items) p.inboxes.items (c - 1) r)

  pub state-box_put : (r : Buffer (ArrayVec ℕ)) → ports_state (box_put r) ≡ with_box (ports_state p) c r.items
  state-box_put r = ap (λ (l : List (List (ArrayVec ℕ))). let s : PortsState =
      record { next = p.next; inboxes = rings_items p.inboxes.items; boxes = l; numbers = p.numbers.items } in s)
      (map-set (λ (b : Buffer (ArrayVec ℕ)). b.items) p.boxes.items (c - 1) r)

  -- they are ports again
  pub fields-inbox_put : (n : ℕ) (r : Buffer (ℕ × ArrayVec ℕ)) → AreFields p → (1 ≤ n) × (n ≤ number_limit) → IsInbox r.items →
      r.capacity ≡ inbox_frames → AreFields (inbox_put n r)
  fields-inbox_put n r ok number inbox capacity = record {
    state = subst IsPorts (sym (state-inbox_put n r)) (record {
      next = number;
      clients = ok.state.clients;
      pairs = length-set (rings_items p.inboxes.items) (c - 1) r.items ∙ ok.state.pairs;
      numbered = ok.state.numbered;
      inboxes = All-set IsInbox (rings_items p.inboxes.items) (c - 1) r.items inbox ok.state.inboxes;
      boxes = ok.state.boxes;
    });
    inboxes = All-set (λ b. b.capacity ≡ inbox_frames) p.inboxes.items (c - 1) r capacity ok.inboxes;
    boxes = ok.boxes;
  }

  pub fields-box_put : (r : Buffer (ArrayVec ℕ)) → AreFields p → IsBox r.items → r.capacity ≡ box_frames → AreFields (box_put r)
  fields-box_put r ok box capacity =
      let same = length-set (rings_items p.boxes.items) (c - 1) r.items in
      record {
        state = subst IsPorts (sym (state-box_put r)) (record {
          next = ok.state.next;
          clients = (omega (arith, same, ok.state.clients.0), omega (arith, same, ok.state.clients.1));
          pairs = ok.state.pairs ∙ sym same;
          numbered = ok.state.numbered ∙ sym same;
          inboxes = ok.state.inboxes;
          boxes = All-set IsBox (rings_items p.boxes.items) (c - 1) r.items box ok.state.boxes;
        });
        inboxes = ok.inboxes;
        boxes = All-set (λ b. b.capacity ≡ box_frames) p.boxes.items (c - 1) r capacity ok.boxes;
      }

-- parts of a list of frames
module _ {X : Type 0} (P : X → Type 0) where
  pub All-remove : (xs : List X) (i : ℕ) → All P xs → All P (remove xs i)
  All-remove xs i all = All-append P (take i xs) (drop (suc i) xs) (All-take P i xs all) (All-drop P (suc i) xs all)

  pub IfSome-slice_get : (xs : List X) (i : ℕ) → All P xs → IfSome (slice_get xs i) P
  IfSome-slice_get [] i all = tt
  IfSome-slice_get (x ∷ xs) zero all = All-head P x xs all
  IfSome-slice_get (x ∷ xs) (suc i) all = IfSome-slice_get xs i (All-tail P x xs all)

pub length-remove-le : {X : Type 0} (xs : List X) (i n : ℕ) → length xs ≤ n → length (take i xs ++ drop (suc i) xs) ≤ n
length-remove-le xs i n le = omega (arith, length-append (take i xs) (drop (suc i) xs), length-take i xs, length-drop (suc i) xs)

pub inbox-drop : (xs : List (ℕ × ArrayVec ℕ)) → IsInbox xs → IsInbox (drop 1 xs)
inbox-drop xs ok = (omega (arith, length-drop 1 xs, ok.0), All-drop (λ x. IsFrame x.1) 1 xs ok.1)

pub inbox-remove : (xs : List (ℕ × ArrayVec ℕ)) (i : ℕ) → IsInbox xs → IsInbox (remove xs i)
inbox-remove xs i ok = (length-remove-le xs i inbox_frames ok.0, All-remove (λ x. IsFrame x.1) xs i ok.1)

pub inbox-push : (xs : List (ℕ × ArrayVec ℕ)) (x : ℕ × ArrayVec ℕ) → length xs < inbox_frames → IsFrame x.1 → IsInbox xs →
    IsInbox (xs ++ x ∷ [])
inbox-push xs x room frame ok = (omega (arith, length_push xs x), All-push (λ y. IsFrame y.1) xs x ok.1 frame)

pub box-drop : (xs : List (ArrayVec ℕ)) → IsBox xs → IsBox (drop 1 xs)
box-drop xs ok = (omega (arith, length-drop 1 xs, ok.0), All-drop IsFrame 1 xs ok.1)

pub box-remove : (xs : List (ArrayVec ℕ)) (i : ℕ) → IsBox xs → IsBox (remove xs i)
box-remove xs i ok = (length-remove-le xs i box_frames ok.0, All-remove IsFrame xs i ok.1)

pub box-push : (xs : List (ArrayVec ℕ)) (f : ArrayVec ℕ) → length xs < box_frames → IsFrame f → IsBox xs → IsBox (xs ++ f ∷ [])
box-push xs f room frame ok = (omega (arith, length_push xs f), All-push IsFrame xs f ok.1 frame)

-- the ports after one ring became another, where contracts see them as s
module _ (p : Inside) (c : ℕ) (s : PortsState) (seen : ports_state p ≡ s) (ok : AreFields p) (client : IsClient s c) where
  client' : IsClient (ports_state p) c
  client' = subst (λ (t : PortsState). IsClient t c) (sym seen) client

  pub inbox_seen : (r : Buffer (ℕ × ArrayVec ℕ)) → r ≡ slice_index_or p.inboxes.items (c - 1) r → (inbox_of s c ≡ r.items) × IsInbox r.items
      × (r.capacity ≡ inbox_frames)
  inbox_seen r read =
      let at = inbox_at p c r ok client' read in
      (subst (λ (t : PortsState). inbox_of t c ≡ r.items) seen at.0, at.1, at.2)

  pub box_seen : (r : Buffer (ArrayVec ℕ)) → r ≡ slice_index_or p.boxes.items (c - 1) r →
      (box_of s c ≡ r.items) × IsBox r.items × (r.capacity ≡ box_frames)
  box_seen r read =
      let at = box_at p c r ok client' read in
      (subst (λ (t : PortsState). box_of t c ≡ r.items) seen at.0, at.1, at.2)

  pub box_changed : (f : List (ArrayVec ℕ) → List (ArrayVec ℕ)) (r r' : Buffer (ArrayVec ℕ)) → r ≡ slice_index_or p.boxes.items (c - 1) r →
      r' ≡ buffer (f r.items) r.capacity → (IsBox r.items → IsBox (f r.items)) →
      AreFields (box_put p c r') × (ports_state (box_put p c r') ≡ with_box s c (f (box_of s c)))
  box_changed f r r' read change keep =
      let at = box_seen r read in
      let items : r'.items ≡ f r.items = ap (λ (b : Buffer (ArrayVec ℕ)). b.items) change in
      let capacity : r'.capacity ≡ r.capacity = ap (λ (b : Buffer (ArrayVec ℕ)). b.capacity) change in (
        fields-box_put p c r' ok (subst IsBox (sym items) (keep at.1)) (capacity ∙ at.2),
        state-box_put p c r' ∙ ap (λ (xs : List (ArrayVec ℕ)). with_box (ports_state p) c xs) (items ∙ ap f (sym at.0))
            ∙ ap (λ (t : PortsState). with_box t c (f (box_of s c))) seen,
      )

  pub inbox_changed : (n : ℕ) (f : List (ℕ × ArrayVec ℕ) → List (ℕ × ArrayVec ℕ)) (r r' : Buffer (ℕ × ArrayVec ℕ)) →
      (1 ≤ n) × (n ≤ number_limit) → r ≡ slice_index_or p.inboxes.items (c - 1) r → r' ≡ buffer (f r.items) r.capacity →
      (IsInbox r.items → IsInbox (f r.items)) → AreFields (inbox_put p c n r')
      × (ports_state (inbox_put p c n r') ≡ record (with_inbox s c (f (inbox_of s c))) { next = n })
  inbox_changed n f r r' number read change keep =
      let at = inbox_seen r read in
      let items : r'.items ≡ f r.items = ap (λ (b : Buffer (ℕ × ArrayVec ℕ)). b.items) change in
      let capacity : r'.capacity ≡ r.capacity = ap (λ (b : Buffer (ℕ × ArrayVec ℕ)). b.capacity) change in
      let put : List (ℕ × ArrayVec ℕ) → PortsState → PortsState = λ xs t. record (with_inbox t c xs) { next = n } in (
        fields-inbox_put p c n r' ok number (subst IsInbox (sym items) (keep at.1)) (capacity ∙ at.2),
        state-inbox_put p c n r' ∙ ap (λ (xs : List (ℕ × ArrayVec ℕ)). put xs (ports_state p)) (items ∙ ap f (sym at.0))
            ∙ ap (λ (t : PortsState). put (f (inbox_of s c)) t) seen,
      )

  -- the same where the next number stays
  pub inbox_changed_alone : (f : List (ℕ × ArrayVec ℕ) → List (ℕ × ArrayVec ℕ)) (r r' : Buffer (ℕ × ArrayVec ℕ)) →
      r ≡ slice_index_or p.inboxes.items (c - 1) r → r' ≡ buffer (f r.items) r.capacity → (IsInbox r.items → IsInbox (f r.items)) →
      AreFields (inbox_put p c p.next r') × (ports_state (inbox_put p c p.next r') ≡ with_inbox s c (f (inbox_of s c)))
  inbox_changed_alone f r r' read change keep =
      let put = inbox_changed p.next f r r' ok.state.next read change keep in (
        put.0,
        put.1 ∙ ap (λ (n : ℕ). let t : PortsState = record (with_inbox s c (f (inbox_of s c))) { next = n } in t)
            (ap (λ (t : PortsState). t.next) seen),
      )

-- rings with no items
module _ {X : Type 0} where
  pub rings_items-empty : (n k : ℕ) → rings_items (replicate n (buffer {X = X} [] k)) ≡ replicate n []
  rings_items-empty zero k = refl
  rings_items-empty (suc n) k = ap (λ (l : List (List X)). [] ∷ l) (rings_items-empty n k)

pub ports-empty : (n : ℕ) → 1 ≤ n → n ≤ max_clients → IsPorts (empty_ports n)
ports-empty n some few =
    let nobox : List (ArrayVec ℕ) = [] in
    let noinbox : List (ℕ × ArrayVec ℕ) = [] in
    record {
      next = (lit≤ tt, lit≤ tt);
      clients = (omega (arith, length-replicate n nobox), omega (arith, length-replicate n nobox));
      pairs = length-replicate n noinbox ∙ sym (length-replicate n nobox);
      numbered = length-replicate n 0 ∙ sym (length-replicate n nobox);
      inboxes = All-replicate IsInbox n [] (lit≤ tt, All-nil (λ x. IsFrame x.1));
      boxes = All-replicate IsBox n [] (lit≤ tt, All-nil IsFrame);
    }

module _ (p : Inside) (n : ℕ) (next : p.next ≡ 1) (inboxes : p.inboxes.items ≡ replicate n (buffer [] inbox_frames))
    (boxes : p.boxes.items ≡ replicate n (buffer [] box_frames)) (numbers : p.numbers.items ≡ replicate n 0) where
  pub state-empty : ports_state p ≡ empty_ports n
  state-empty =
      let inboxes_are = ap (λ (l : List (Buffer (ℕ × ArrayVec ℕ))). rings_items l) inboxes ∙ rings_items-empty n inbox_frames in
      let boxes_are = ap (λ (l : List (Buffer (ArrayVec ℕ))). rings_items l) boxes ∙ rings_items-empty n box_frames in
      cc (next, inboxes_are, boxes_are, numbers)

  pub fields-empty : 1 ≤ n → n ≤ max_clients → AreFields p
  fields-empty some few = record {
    state = subst IsPorts (sym state-empty) (ports-empty n some few);
    inboxes = All-same (λ b. b.capacity ≡ inbox_frames) p.inboxes.items (replicate n (buffer [] inbox_frames)) inboxes
        (All-replicate (λ b. b.capacity ≡ inbox_frames) n (buffer [] inbox_frames) refl);
    boxes = All-same (λ b. b.capacity ≡ box_frames) p.boxes.items (replicate n (buffer [] box_frames)) boxes
        (All-replicate (λ b. b.capacity ≡ box_frames) n (buffer [] box_frames) refl);
  }

-- the fields with other numbers, of as many clients, and what contracts see of them
module _ (p : Inside) (ns : ArrayVec ℕ) (ok : AreFields p) where
  abbrev pub numbers_put : Inside
  numbers_put = record p { numbers = ns }

  pub fields-numbers_put : length ns.items ≡ length (rings_items p.boxes.items) → AreFields numbers_put
  fields-numbers_put same = record {
    state = record {
      next = ok.state.next;
      clients = ok.state.clients;
      pairs = ok.state.pairs;
      numbered = same;
      inboxes = ok.state.inboxes;
      boxes = ok.state.boxes;
    };
    inboxes = ok.inboxes;
    boxes = ok.boxes;
  }

  pub state-numbers_put : (s : PortsState) → ports_state p ≡ s → ◌≡◌ {A = PortsState} (ports_state numbers_put) (record s { numbers = ns.items })
  state-numbers_put s seen = ap (λ (t : PortsState). let u : PortsState = record t { numbers = ns.items } in u) seen

-- a fact that needs no answer, at an answer
pub on_ok : {A E P : Type 0} (r : Result A E) → P → OnOk r P
on_ok (Ok x) h = h
on_ok (Err e) h = tt

-- whether an element is there
pub is_some-slice_get : {X : Type 0} (xs : List X) (i : ℕ) → is_some (slice_get xs i) ≡ nat_lt i (length xs)
is_some-slice_get [] i = sym (le-ltb i 0 (omega arith))
is_some-slice_get (x ∷ xs) zero = sym (lt-ltb 0 (length (x ∷ xs)) (omega arith))
is_some-slice_get (x ∷ xs) (suc i) = is_some-slice_get xs i ∙ tests
  where
    tests : nat_lt i (length xs) ≡ nat_lt (suc i) (suc (length xs))
    tests = grind (arith, nat_tests)

-- an answer for a client
pub answer_for_client : {A : Type 0} (s : PortsState) (c : ℕ) (a b : A) → is_client s c ≡ true → a ≡ b → Ok a ≡ for_client s c b
answer_for_client s c a b client same = ap (λ x. Ok x) same ∙ sym (ap (λ t. if t then Ok b else Err NoClient) client)
