-- What the two nodes keep along steps, arrivals and cuts.
use Rattle.std.proofs.Common.{rules, ◌≡◌, ℕ, zero, suc, ◌+◌, ◌-◌, ◌*◌, ◌/◌, ◌<◌, ◌≤◌, List, [], ◌∷◌, ◌++◌, length, refl, sym, ap}
use Rattle.std.proofs.{Common.{◌∙◌, subst, arith, Bool, true, false}, Math.Bridge.le_prop}
use Rattle.std.proofs.lemmas.List.{append-nil, length-append, length-replicate}
use Rattle.std.specs.Prelude.{slice_range}
use Rattle.guest_rules.specs.{Dirty.is_in, declared.shapes.Shape.Shape, Guest.{Guest, State, boot_guest}, Step.{next, sent, arrived}}
use Rattle.guest_rules.specs.{Limits.most_pages, Runs.{after_steps, marked_in, sent_in}}
use Rattle.guest_rules.specs.laws.{Apart.arrived-apart, Listed.run-listed}
use Rattle.guest_rules.specs.laws.Kept.{boot-kept, next-kept, arrived-kept, next-disk_bytes}
use Rattle.epoch_snapshot.specs.{Bases.{IsBase, IsCheckpointOver}, Checkpoints.Change, Cuts.sector_of, Images.image_of}
use Rattle.checkpoint_stream.specs.{declared.place.Place.TheVariants.Whole, ReadBack.ReadsBack, Readings.{begun, fed}, Sound.change_in}
use Rattle.pair_history.specs.Entries.{Frame}
use Rattle.pair_history.specs.Moves.{Move, Steps, Arrives, guest_along, frames_along}
use Rattle.pair_history.specs.laws.Moves.{guest_along-append}
use Rattle.pair_record.specs.Accords.{all_moves}
use Rattle.pair_record.specs.laws.Accords.{all_moves-push}
use Rattle.pair_core.specs.Invariant.{first_moves, AreSealed, AreNodes, IsBacked}
use Rattle.pair_core.specs.Nodes.{Node, Nodes, HasShape, node_of, machine_of, settled_node, start_nodes, after_run, with_arrival}
use Rattle.pair_core.specs.{Nodes.{with_sealed, first_text, later_texts, read_as}, Texts.IsText}

-- Sizes

after_steps-bytes : (n : ℕ) (g : Guest) → length (after_steps n g).sectors ≡ length g.sectors
unfolding after_steps
after_steps-bytes zero g = refl
after_steps-bytes (suc n) g = after_steps-bytes n (next g) ∙ next-disk_bytes g

pub shape-after_steps : (n : ℕ) (s : Shape) (g : Guest) → HasShape s g → HasShape s (after_steps n g)
unfolding after_steps
shape-after_steps zero s g h = h
shape-after_steps (suc n) s g h =
    let kept = next-kept g h.records in
    shape-after_steps n s (next g) (record { records = kept.rules; ram = kept.bytes ∙ h.ram; sectors = next-disk_bytes g ∙ h.sectors })

pub shape-arrived : (f : Frame) (s : Shape) (g : Guest) → HasShape s g → HasShape s (arrived g f)
shape-arrived f s g h =
    let kept = arrived-kept g f h.records in
    record { records = kept.rules; ram = kept.bytes ∙ h.ram; sectors = ap length (arrived-apart g f).1 ∙ h.sectors }

shape-next : (s : Shape) (g : Guest) → HasShape s g → HasShape s (next g)
unfolding after_steps
shape-next s g h = shape-after_steps 1 s g h

pub shape-moves : (s : Shape) (g : Guest) (ms : List Move) → HasShape s g → HasShape s (guest_along g ms)
shape-moves s g [] h = h
shape-moves s g (Steps ∷ ms) h = shape-moves s (next g) ms (shape-next s g h)
shape-moves s g (Arrives n f ∷ ms) h = shape-moves s (arrived g f) ms (shape-arrived f s g h)

pub shape-boot : (s : Shape) (image : List ℕ) → length image ≤ 4096 * s.pages → HasShape s (boot_guest s.pages s.sectors image)
unfolding boot_guest
shape-boot s image fits = search (arith, rules, boot-kept, length-append, length-replicate)

-- What the live machine was last settled at

sector-slice : (bytes : List ℕ) (i : ℕ) → slice_range bytes (512 * i) (512 * i + 512) ≡ sector_of bytes i
sector-slice bytes i = search (arith, rules)

unlisted : (a b : Bool) → (a ≡ true → b ≡ true) → b ≡ false → a ≡ false
unlisted true b f e = search (arith, rules)
unlisted false b f e = refl

pub base-after_run : (n : ℕ) (x : Nodes) (b : Guest) → IsBase (machine_of x.live) b → IsBase (machine_of (after_run n x).live) b
base-after_run n x b h =
    let g = x.live.guest in
    let size = after_steps-bytes n g in
    let listed = run-listed n g x.live.dirty in
    record {
      ram = h.ram;
      size = h.size ∙ sym size;
      sectors = λ i low none.
          h.sectors i (subst (λ (k : ℕ). i < k / 512) size low)
          (unlisted (is_in i x.live.dirty) (is_in i (marked_in n g x.live.dirty)) (listed.stays i) none)
          ∙ sym (sector-slice g.sectors i) ∙ sym (listed.others i none) ∙ sector-slice (after_steps n g).sectors i;
    }

pub base-with_arrival : (f : Frame) (x : Nodes) (b : Guest) → IsBase (machine_of x.live) b → IsBase (machine_of (with_arrival x f).live) b
base-with_arrival f x b h = search (arith, rules, arrived-apart)

pub base-settled : (g : Guest) → IsBase (machine_of (settled_node g)) g
base-settled g = record { ram = refl; size = refl; sectors = λ i low none. refl }

-- Texts

module _ (shape : Shape) (generation n : ℕ) (before after : Guest) (sent : List Frame) (text : List ℕ)
    (h : IsText shape generation n before after sent text) where
  pub reads-whole : (fed (begun shape 0) text).place ≡ Whole
  unfolding ReadsBack
  reads-whole = ap (λ s. (fed (begun s 0) text).place) (sym h.of_shape) ∙ (h.reads_back 0).0

  pub reads-as : read_as shape text ≡ h.change
  unfolding ReadsBack
  reads-as = ap (λ s. change_in (fed (begun s 0) text)) (sym h.of_shape) ∙ (h.reads_back 0).1

  pub reads-shape : (read_as shape text).shape ≡ shape
  reads-shape = ap (λ (c : Change). c.shape) reads-as ∙ h.of_shape

  pub reads-version : (read_as shape text).version ≡ 2
  reads-version = ap (λ (c : Change). c.version) reads-as ∙ h.of_version

  pub reads-frames : (read_as shape text).frames ≡ sent
  reads-frames = ap (λ (c : Change). c.frames) reads-as ∙ h.frames

-- a shape is its two numbers
abbrev made : (pages sectors : ℕ) → 1 ≤ pages → pages ≤ most_pages → 1 ≤ sectors → sectors ≤ 32768 → Shape
made pages sectors a b c d = record { pages = pages; sectors = sectors; some_pages = a; most_pages = b; some_sectors = c; most_sectors = d }

same-pages : (m n k : ℕ) (a : 1 ≤ m) (b : m ≤ most_pages) (c : 1 ≤ k) (d : k ≤ 32768) → m ≡ n → (a' : 1 ≤ n) (b' : n ≤ most_pages)
    → made m k a b c d ≡ made n k a' b' c d
same-pages m n k a b c d e = rw (← e) (λ a' b'. λ i. made m k (le_prop {n = 1} {m = m} a a' i) (le_prop {n = m} {m = most_pages} b b' i) c d)

same-sectors : (m n k : ℕ) (a : 1 ≤ k) (b : k ≤ most_pages) (c : 1 ≤ m) (d : m ≤ 32768) → m ≡ n → (c' : 1 ≤ n) (d' : n ≤ 32768)
    → made k m a b c d ≡ made k n a b c' d'
same-sectors m n k a b c d e = rw (← e) (λ c' d'. λ i. made k m a b (le_prop {n = 1} {m = m} c c' i) (le_prop {n = m} {m = 32768} d d' i))

same-shape : (s t : Shape) → s.pages ≡ t.pages → s.sectors ≡ t.sectors → s ≡ t
same-shape s t p q =
    same-pages s.pages t.pages s.sectors s.some_pages s.most_pages s.some_sectors s.most_sectors p t.some_pages t.most_pages
    ∙ same-sectors s.sectors t.sectors t.pages t.some_pages t.most_pages s.some_sectors s.most_sectors q t.some_sectors t.most_sectors

-- a machine's delta is of its shape
cut-shape : (old listed : List ℕ) (sent : List Frame) (m : State) (generation number : ℕ) (c : Change) (shape : Shape)
    → IsCheckpointOver old listed sent m generation number c
    → HasShape shape m.guest → c.shape ≡ shape
cut-shape old listed sent m generation number c shape cut sized = search (arith, rules, same-shape)

-- the text of a machine's delta makes the machine's guest of the one that the machine was last settled at, and carries what was cut
pub delta-text : (old listed : List ℕ) (sent : List Frame) (m : State) (generation number : ℕ) (c : Change) (shape : Shape)
    (text : List ℕ) (base : Guest) → IsCheckpointOver old listed sent m generation number c → ReadsBack c text → image_of c base ≡ m.guest → HasShape shape m.guest
    → IsText shape generation number base m.guest sent text
delta-text old listed sent m generation number c shape text base cut reads image sized = search (arith, rules, cut-shape)

-- whichever pages count as written, it is the same base
pub base-of : (m : State) (base : Guest) → IsBase (machine_of (node_of m)) base → IsBase m base
base-of m base h = record { ram = h.ram; size = h.size; sectors = h.sectors }

module _ (shape : Shape) (generation : ℕ) where
  pub length-sealed : (n : ℕ) (g : Guest) (mss : List (List Move)) (texts : List (List ℕ)) → AreSealed shape generation n g mss texts
      → length texts ≡ length mss
  length-sealed n g [] [] h = refl
  length-sealed n g [] (t ∷ texts) h = absurd h
  length-sealed n g (ms ∷ mss) [] h = absurd h
  length-sealed n g (ms ∷ mss) (t ∷ texts) h = ap suc (length-sealed (n + 1) (guest_along g ms) mss texts h.1)

  pub first-sealed : (n : ℕ) (g : Guest) (ms : List Move) (mss : List (List Move)) (texts : List (List ℕ))
      → AreSealed shape generation n g (ms ∷ mss) texts
      → IsText shape generation n g (guest_along g ms) (frames_along g ms) (first_text texts)
  first-sealed n g ms mss [] h = absurd h
  first-sealed n g ms mss (t ∷ texts) h = h.0

  pub later-sealed : (n : ℕ) (g : Guest) (ms : List Move) (mss : List (List Move)) (texts : List (List ℕ))
      → AreSealed shape generation n g (ms ∷ mss) texts → AreSealed shape generation (n + 1) (guest_along g ms) mss (later_texts texts)
  later-sealed n g ms mss [] h = absurd h
  later-sealed n g ms mss (t ∷ texts) h = h.1

  sealed-push : (n : ℕ) (g : Guest) (mss : List (List Move)) (texts : List (List ℕ)) (ms : List Move) (m : ℕ) (text : List ℕ)
      → AreSealed shape generation n g mss texts
      → n + length mss ≡ m
      → IsText shape generation m (guest_along g (all_moves mss)) (guest_along (guest_along g (all_moves mss)) ms)
      (frames_along (guest_along g (all_moves mss)) ms) text
      → AreSealed shape generation n g (mss ++ ms ∷ []) (texts ++ text ∷ [])
  sealed-push n g [] [] ms m text h e t =
      let same : m ≡ n = omega arith in
      (rw (← same) t, tt)
  sealed-push n g [] (x ∷ texts) ms m text h e t = absurd h
  sealed-push n g (xs ∷ mss) [] ms m text h e t = absurd h
  sealed-push n g (xs ∷ mss) (x ∷ texts) ms m text h e t =
      let along = guest_along-append g xs (all_moves mss) in (
        h.0,
        sealed-push (n + 1) (guest_along g xs) mss texts ms m text h.1 (omega arith)
            (rw (← along) t),
      )

-- The backup, whatever the live machine is, if it was last settled at the guest of the last cut

pub backed-live : (generation n : ℕ) (g : Guest) (mss : List (List Move)) (x : Nodes) (live : Node) → IsBacked generation n g mss x
    → IsBase (machine_of live) (guest_along g (all_moves mss)) → IsBacked generation n g mss (record x { live = live })
backed-live generation n g mss x live b base = search (arith, rules)

-- Cut

first-push : (mss : List (List Move)) (ms : List Move) → 0 < length mss → first_moves mss ≡ first_moves (mss ++ ms ∷ [])
first-push [] ms l = absurd (omega arith)
first-push (x ∷ mss) ms l = refl

pub nodes-cut : (alone : Bool) (generation n : ℕ) (g : Guest) (mss : List (List Move)) (ran : List Move) (x : Nodes) (m : ℕ)
    (text : List ℕ)
    → AreNodes alone generation n g mss ran x → n + length mss ≡ m
    → (alone ≡ false → IsText x.image.shape generation m (guest_along g (all_moves mss)) x.live.guest x.live.outbox text)
    → AreNodes alone generation n g (mss ++ ran ∷ []) [] (with_sealed x text)
nodes-cut alone generation n g mss ran x m text h e t =
    search (arith, rules, all_moves-push, append-nil, base-settled, first-push, guest_along-append, length-sealed, sealed-push)

-- Where both nodes boot

pub nodes-start : (s : Shape) (image : List ℕ) → length image ≤ 4096 * s.pages
    → AreNodes false 1 1 (boot_guest s.pages s.sectors image) [] [] (start_nodes s image)
nodes-start s image fits = record {
  first_generation = omega arith;
  last_generation = omega arith;
  backed = λ e. record {
    follows = λ l. record { image = refl; stands_at = refl };
    fills = λ none. absurd (omega arith);
    staged = refl;
    image_shape = shape-boot s image fits;
    sealed = tt;
    base = base-settled (boot_guest s.pages s.sectors image);
  };
  live = refl;
  outbox = refl;
  shape = shape-boot s image fits;
}

-- How much is sent

none_of : (fs : List Frame) → length fs ≡ 0 → fs ≡ []
none_of [] e = refl
none_of (f ∷ fs) e = absurd (omega arith)

-- steps of which only the last sends send no more frames than it
few_by_last : ((g : Guest) → length (sent g) ≤ 64) → (n : ℕ) (g : Guest) → sent_in n g ≡ [] → length (sent_in (suc n) g) ≤ 64
unfolding sent_in
few_by_last most zero g quiet = let e = length-append (sent g) [] in let m = most g in omega arith
few_by_last most (suc n) g quiet =
    let e = length-append (sent g) (sent_in n (next g)) in
    let l = length-append (sent g) (sent_in (suc n) (next g)) in
    let q = ap length quiet in
    let later = few_by_last most n (next g) (none_of (sent_in n (next g)) (omega arith)) in
    omega arith

pub few_sent : ((g : Guest) → length (sent g) ≤ 64) → (n : ℕ) (g : Guest) → sent_in (n - 1) g ≡ [] → length (sent_in n g) ≤ 64
unfolding sent_in
few_sent most zero g quiet = omega arith
few_sent most (suc n) g quiet = search (arith, rules, few_by_last)
