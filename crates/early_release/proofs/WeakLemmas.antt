-- What lands was held, whenever it lands.
use Rattle.std.proofs.Common.{
  ◌≡◌,
  ℕ,
  ◌+◌,
  ◌-◌,
  ◌<◌,
  Bool,
  true,
  false,
  if◌then◌else◌,
  nat_le,
  ◌⊎◌,
  ⊎_elim,
  inl,
  inr,
  List,
  [],
  ◌∷◌,
  ◌++◌,
  length,
  get_or,
  refl,
  sym,
  ◌∙◌,
  ap,
  subst,
  All,
}
use Rattle.std.proofs.lemmas.Bool.{cases_eq, cases_lt}
use Rattle.std.proofs.lemmas.List.{get_or-set_same, get_or-set_other, set_past, append-nil}
use Rattle.std.proofs.lemmas.List.Elements.{
  Contains-push_cases,
  Contains-append_cases,
  Contains-append_left,
  Contains-append_right,
  All-contains_itself,
  All-head,
  All-tail,
}
use Rattle.std.specs.List.{Contains}
use Rattle.arrayvec.specs.ArrayVec.{ArrayVec}
use Rattle.frame_ports.specs.Lands.{list_of, with_list, has_room, landed_at}
use Rattle.frame_ports.specs.Numbers.{is_new, after_landing}
use Rattle.frame_ports.specs.Ports.{PortsState, box_of}
use Rattle.frame_ports.specs.laws.Numbers.{landed_new}
use Rattle.output_gate.specs.Epochs.{Epoch, epoch, frames_of, frames_to}
use Rattle.output_gate.specs.Landings.{clients_for, landed_for, ports_after}
use Rattle.output_gate.specs.laws.Epochs.{frames_of-append}
use Rattle.output_gate.specs.laws.Ports.{next_same-after, inboxes_same-after}
use Rattle.early_release.specs.Weak.{OnlyLands}

module _ (held : List (ArrayVec ℕ)) where
  -- one landing of a held frame adds only that frame
  landed_contains : (boxes : List (List (ArrayVec ℕ))) (d : ℕ) (g : ArrayVec ℕ) → Contains held g → (c : ℕ) (f : ArrayVec ℕ) →
      Contains (list_of (landed_at boxes d g) c) f → Contains (list_of boxes c) f ⊎ Contains held f
  landed_contains boxes d g was c f = by_room (has_room boxes d)
    where
      same_box : (c - 1) ≡ (d - 1) → d - 1 < length boxes → Contains (list_of (with_list boxes d (list_of boxes d ++ g ∷ [])) c) f →
          Contains (list_of boxes c) f ⊎ Contains held f
      same_box same inside h =
          let pushed : list_of (with_list boxes d (list_of boxes d ++ g ∷ [])) c ≡ list_of boxes d ++ g ∷ [] =
          ap (λ k. get_or (with_list boxes d (list_of boxes d ++ g ∷ [])) k []) same
          ∙ get_or-set_same boxes (d - 1) (list_of boxes d ++ g ∷ []) [] inside in
          ⊎_elim
          (λ before. inl (subst (λ k. Contains (get_or boxes k []) f) (sym same) before))
          (λ this. inr (subst (λ x. Contains held x) this was))
          (Contains-push_cases (list_of boxes d) g f (subst (λ l. Contains l f) pushed h))

      by_room : (b : Bool) → Contains (list_of (if b then with_list boxes d (list_of boxes d ++ g ∷ []) else boxes) c) f →
          Contains (list_of boxes c) f ⊎ Contains held f
      by_room true h =
          ⊎_elim
          (λ same. ⊎_elim
          (λ inside. same_box same inside h)
          (λ past. inl (subst (λ l. Contains (list_of l c) f) (set_past boxes (d - 1) (list_of boxes d ++ g ∷ []) past) h))
          (cases_lt (d - 1) (length boxes)))
          (λ other. inl (subst (λ l. Contains l f) (get_or-set_other boxes (d - 1) (c - 1) (list_of boxes d ++ g ∷ []) [] other) h))
          (cases_eq (c - 1) (d - 1))
      by_room false h = inl h

  -- so does a landing under a number
  numbered_contains : (p : PortsState) (d n : ℕ) (g : ArrayVec ℕ) → Contains held g → (c : ℕ) (f : ArrayVec ℕ) →
      Contains (box_of (after_landing p d n g) c) f → Contains (box_of p c) f ⊎ Contains held f
  numbered_contains p d n g was c f = by_number (is_new p d n)
    where
      by_number : (b : Bool) → Contains (box_of (let q : PortsState = if b then landed_new p d n g else p in q) c) f →
          Contains (box_of p c) f ⊎ Contains held f
      by_number true h = landed_contains p.boxes d g was c f h
      by_number false h = inl h

  for_contains : (p : PortsState) (cs : List ℕ) (n : ℕ) (g : ArrayVec ℕ) → Contains held g → (c : ℕ) (f : ArrayVec ℕ) →
      Contains (box_of (landed_for p cs n g) c) f → Contains (box_of p c) f ⊎ Contains held f
  for_contains p [] n g was c f h = inl h
  for_contains p (d ∷ cs) n g was c f h =
      ⊎_elim
      (λ before. numbered_contains p d n g was c f before)
      (λ is_held. inr is_held)
      (for_contains (after_landing p d n g) cs n g was c f h)

  after_contains : (p : PortsState) (first : ℕ) (fs : List (ArrayVec ℕ)) → All (Contains held) fs → (c : ℕ) (f : ArrayVec ℕ) →
      Contains (box_of (ports_after p first fs) c) f → Contains (box_of p c) f ⊎ Contains held f
  after_contains p first [] all c f h = inl h
  after_contains p first (g ∷ fs) all c f h =
      ⊎_elim
      (λ before. for_contains p (clients_for p g) first g (All-head (Contains held) g fs all) c f before)
      (λ is_held. inr is_held)
      (after_contains (landed_for p (clients_for p g) first g) (first + 1) fs (All-tail (Contains held) g fs all) c f h)

-- frames that landed were held
pub only_lands : (p : PortsState) (first : ℕ) (fs : List (ArrayVec ℕ)) → OnlyLands fs p (ports_after p first fs)
only_lands p first fs =
    let q = ports_after p first fs in
    record {
      boxes = λ c f h. after_contains fs p first fs (All-contains_itself fs) c f h;
      rest =
          ap (λ (n : ℕ). let t : PortsState = record q { next = n } in t) (next_same-after p first fs)
          ∙ ap (λ (l : List (List (ℕ × ArrayVec ℕ))). let t : PortsState = record q { next = p.next; inboxes = l } in t)
          (inboxes_same-after p first fs);
    }

-- and where more was held
pub only_lands_some : (held fs : List (ArrayVec ℕ)) (p q : PortsState) → ((f : ArrayVec ℕ) → Contains fs f → Contains held f) →
    OnlyLands fs p q → OnlyLands held p q
only_lands_some held fs p q some h = record {
  boxes = λ c f inside. ⊎_elim (λ before. inl before) (λ was. inr (some f was)) (h.boxes c f inside);
  rest = h.rest;
}

-- the frames up to a number are among all
pub up_to_among_all : (n : ℕ) (es : List Epoch) (f : ArrayVec ℕ) → Contains (frames_to n es) f → Contains (frames_of es) f
up_to_among_all n [] f h = h
up_to_among_all n (e ∷ es) f h = by_number (nat_le e.number n) (λ g. up_to_among_all n es f g) h
  where
    by_number : (b : Bool) → (Contains (frames_to n es) f → Contains (frames_of es) f) →
        Contains (if b then e.frames ++ frames_to n es else frames_to n es) f → Contains (e.frames ++ frames_of es) f
    by_number true rest g =
        ⊎_elim
        (λ first. Contains-append_left e.frames (frames_of es) f first)
        (λ later. Contains-append_right e.frames (frames_of es) f (rest later))
        (Contains-append_cases e.frames (frames_to n es) f g)
    by_number false rest g = Contains-append_right e.frames (frames_of es) f (rest g)

-- all frames, with one epoch more
pub frames_of-push : (es : List Epoch) (n : ℕ) (fs : List (ArrayVec ℕ)) → frames_of (es ++ epoch n fs ∷ []) ≡ frames_of es ++ fs
frames_of-push es n fs = frames_of-append es (epoch n fs ∷ []) ∙ ap (λ (l : List (ArrayVec ℕ)). frames_of es ++ l) (append-nil fs)
