-- What a table of refusals says where it refuses nothing, and where a loss or a full inbox is told.
use Rattle.std.proofs.Common.{◌≡◌, ℕ, ◌<◌, ◌≤◌, List, [], ◌∷◌, length, refl, ap, arith, Bool, true, false, Option, None, Some}
use Rattle.std.proofs.{Common.{rules, ◌+◌, cond}, lemmas.Bool.Decides.nat_tests, lemmas.Bool.{leb-true, eq-eqb}}
use Rattle.std.proofs.{lemmas.Bool.{leb-false, lt-ltb, lt-leb}, Common.{sym, ◌∙◌}, lemmas.Option.slice_get_within}
use Rattle.std.specs.Prelude.{slice_get, option_map, not, nat_le, nat_lt, ◌==◌, ◌&&◌}
use Rattle.frame_ports.specs.{Addresses.IsFrame, Limits.{inbox_frames, number_limit}}
use Rattle.pair_history.specs.Entries.{Frame, Entry, DropIn, DropOut}
use Rattle.pair_record.specs.declared.event.Refusal.TheVariants.{Full, BadFrame, NoClient, Exhausted, Stale, Gap}
use Rattle.pair_record.specs.Protocol.{Record, Outcome, Row}
use Rattle.pair_record.specs.Protocol.{first_refusal, exhausts, is_among, is_bad_length, deliver_refusals, take_refusals, loss_refusals}
use Rattle.pair_record.specs.Protocol.{loss_of, loss_done, loss_reply, lost_in, lost_out}
use Rattle.pair_record.specs.{Protocol.{ack_refusals, acknowledge_refusals, let_go}, declared.event.Packet.Packet}
use Rattle.pair_history.specs.Journal.{all_entries}

-- no row applies: the first doesn't, nor do the others
pub passed : {A : Type 0} (t : Bool) (x : A) (o : Option A) → cond t (Some x) o ≡ None → (t ≡ false) × (o ≡ None)
passed true x o e = absurd (cc)
passed false x o e = (refl, e)

pub has_room_for : (r : Record) (more : ℕ) → exhausts r more ≡ false → length (all_entries r.journal) + more < number_limit
has_room_for r more e = leb-false number_limit (length (all_entries r.journal) + more) e

-- an acknowledgement of this generation
pub ack_row : (boxes : List (List Frame)) (r : Record) (p : Packet) → p.generation ≡ r.generation
    → first_refusal (ack_refusals boxes r p) ≡ cond (exhausts r (length (let_go boxes r p.number))) (Some Exhausted) None
ack_row boxes r p same = search (arith, rules, eq-eqb)

-- a packet of the current generation
pub same_generation : (a b : ℕ) → not (a == b) ≡ false → a ≡ b
same_generation a b e = grind (arith, nat_tests)

-- a frame's length, by a table that didn't refuse it
pub frame_range : (bytes : List ℕ) → is_bad_length (length bytes) ≡ false → IsFrame (record { items = bytes })
frame_range bytes e = grind (arith, nat_tests)

-- a client's number, by a table that didn't refuse it
pub client_range : (c count : ℕ) → not (is_among c count) ≡ false → (1 ≤ c) × (c ≤ count)
client_range c count e = grind (arith, nat_tests)

-- A DELIVERY: what its rows say where none holds, and where it finds a full inbox

abbrev rows : Bool → Bool → Bool → Bool → Bool → Bool → List Row
rows nobody bad out word full last =
    (nobody, NoClient) ∷ (bad, BadFrame) ∷ (out, Exhausted) ∷ (word, Exhausted) ∷ (full, Full) ∷ (last, Exhausted) ∷ []

full_rows : (a b c d e f : Bool) → first_refusal (rows a b c d e f) ≡ Some Full → (a ≡ false) × (b ≡ false) × (d ≡ false) × (e ≡ true)
full_rows true b c d e f p = absurd (cc)
full_rows false true c d e f p = absurd (cc)
full_rows false false true d e f p = absurd (cc)
full_rows false false false true e f p = absurd (cc)
full_rows false false false false true f p = (refl, refl, refl, refl)
full_rows false false false false false true p = absurd (cc)
full_rows false false false false false false p = absurd (cc)

module _ (word_full : Bool) (count : ℕ) (inbox : List (ℕ × Frame)) (number : ℕ) (r : Record) (c : ℕ) (bytes : List ℕ) where
  pub delivery_free : first_refusal (deliver_refusals word_full count inbox number r c bytes) ≡ None
      → (1 ≤ c) × (c ≤ count) × IsFrame (record { items = bytes }) × (word_full ≡ false)
  delivery_free free =
      let client = passed _ _ _ free in
      let good = passed _ _ _ client.1 in
      let range = client_range c count client.0 in
      (range.0, range.1, frame_range bytes good.0, (passed _ _ _ (passed _ _ _ good.1).1).0)

  pub delivery_full : first_refusal (deliver_refusals word_full count inbox number r c bytes) ≡ Some Full
      → (1 ≤ c) × (c ≤ count) × IsFrame (record { items = bytes }) × (word_full ≡ false) × (inbox_frames ≤ length inbox)
  delivery_full is =
      let h = full_rows (not (is_among c count)) (is_bad_length (length bytes)) (exhausts r 1) word_full (nat_le inbox_frames (length inbox))
      (nat_le number_limit number) is in
      let range = client_range c count h.0 in
      (range.0, range.1, frame_range bytes h.1, h.2, leb-true inbox_frames (length inbox) h.3)

-- A CALL OF A CLIENT'S that no row refuses

pub entry_free : (word_full : Bool) (r : Record) (count c : ℕ) → first_refusal (take_refusals word_full count r c) ≡ None
    → (1 ≤ c) × (c ≤ count) × (word_full ≡ false)
entry_free word_full r count c free =
    let client = passed _ _ _ free in
    let range = client_range c count client.0 in
    (range.0, range.1, (passed _ _ _ (passed _ _ _ client.1).1).0)

-- AN ACKNOWLEDGEMENT that no row refuses; and where no number beyond the last commit can come, and the word isn't full

pub acknowledge_free : (word_full : Bool) (boxes : List (List Frame)) (r : Record) (p : Packet)
    → first_refusal (acknowledge_refusals word_full boxes r p) ≡ None
    → (p.generation ≡ r.generation) × (p.number < r.window.to_commit) × (exhausts r (length (let_go boxes r p.number)) ≡ false)
    × (0 < length (let_go boxes r p.number) → word_full ≡ false)
acknowledge_free word_full boxes r p free =
    let stale = passed _ _ _ free in
    let gap = passed _ _ _ stale.1 in
    let out = passed _ _ _ gap.1 in
    let word = passed _ _ _ out.1 in (
      same_generation p.generation r.generation stale.0,
      leb-false r.window.to_commit p.number gap.0,
      out.0,
      λ some. ap (λ t. t && word_full) (sym (lt-ltb 0 (length (let_go boxes r p.number)) some)) ∙ word.0,
    )

pub acknowledge_as : (boxes : List (List Frame)) (r : Record) (p : Packet) → (p.generation ≡ r.generation → p.number < r.window.to_commit)
    → first_refusal (acknowledge_refusals false boxes r p) ≡ first_refusal (ack_refusals boxes r p)
acknowledge_as boxes r p known = by_test (not (p.generation == r.generation)) refl
  where
    leaving : ℕ
    leaving = length (let_go boxes r p.number)

    never : (b : Bool) → b && false ≡ false
    never true = refl
    never false = refl

    fewer : (gap out word : Bool) → gap ≡ false → word ≡ false
        → first_refusal ((gap, Gap) ∷ (out, Exhausted) ∷ (word, Exhausted) ∷ []) ≡ first_refusal ((out, Exhausted) ∷ [])
    fewer true out word a b = absurd (cc)
    fewer false out true a b = absurd (cc)
    fewer false out false a b = refl

    by_test : (stale : Bool) → not (p.generation == r.generation) ≡ stale
        → first_refusal ((stale, Stale) ∷ (nat_le r.window.to_commit p.number, Gap) ∷ (exhausts r leaving, Exhausted)
        ∷ (nat_lt 0 leaving && false, Exhausted) ∷ [])
        ≡ first_refusal ((stale, Stale) ∷ (exhausts r leaving, Exhausted) ∷ [])
    by_test true e = refl
    by_test false e =
        fewer (nat_le r.window.to_commit p.number) (exhausts r leaving) (nat_lt 0 leaving && false)
        (lt-leb r.window.to_commit p.number (known (same_generation p.generation r.generation e))) (never (nat_lt 0 leaving))

-- A LOSS: which frame of an inbox and of a box was dropped, and that none was there

module _ (word_full : Bool) (r now : Record) (count c place : ℕ) (is_there : Bool) where
  pub lost_waiting : (inbox : List (ℕ × Frame)) → is_there ≡ true
      → first_refusal (loss_refusals word_full count r c (lost_in inbox place)) ≡ None
      → (loss_reply is_there, now) ≡ loss_of r (lost_in inbox place)
      → (n : ℕ) × (f : Frame) × (slice_get inbox place ≡ Some (n, f)) × (now ≡ (loss_done r (DropIn n)).1) × (1 ≤ c) × (c ≤ count)
      × (word_full ≡ false)
  lost_waiting inbox there free is = by_frame (slice_get inbox place) is_there refl there free is
    where
      entry : ℕ × Frame → Entry
      entry x = DropIn x.0

      by_frame : (o : Option (ℕ × Frame)) (b : Bool) → slice_get inbox place ≡ o → b ≡ true
          → first_refusal (loss_refusals word_full count r c (option_map entry o)) ≡ None → (loss_reply b, now) ≡ loss_of r (option_map entry o)
          → (n : ℕ) × (f : Frame) × (slice_get inbox place ≡ Some (n, f)) × (now ≡ (loss_done r (DropIn n)).1) × (1 ≤ c) × (c ≤ count)
          × (word_full ≡ false)
      by_frame o false e t free is = absurd (cc)
      by_frame None true e t free is = let k = ap (λ (o : Outcome). o.0) is in absurd (cc)
      by_frame (Some x) true e t free is =
          let k = entry_free word_full r count c free in
          (x.0, x.1, e, ap (λ (o : Outcome). o.1) is, k.0, k.1, k.2)

  pub lost_landed : (box : List Frame) → is_there ≡ true → first_refusal (loss_refusals word_full count r c (lost_out c box place)) ≡ None
      → (loss_reply is_there, now) ≡ loss_of r (lost_out c box place)
      → (lost_out c box place ≡ Some (DropOut c place)) × (place < length box) × (now ≡ (loss_done r (DropOut c place)).1) × (1 ≤ c)
      × (c ≤ count) × (word_full ≡ false)
  lost_landed box there free is = by_frame (slice_get box place) is_there refl there free is
    where
      entry : Frame → Entry
      entry f = DropOut c place

      by_frame : (o : Option Frame) (b : Bool) → slice_get box place ≡ o → b ≡ true
          → first_refusal (loss_refusals word_full count r c (option_map entry o)) ≡ None → (loss_reply b, now) ≡ loss_of r (option_map entry o)
          → (option_map entry (slice_get box place) ≡ Some (DropOut c place)) × (place < length box) × (now ≡ (loss_done r (DropOut c place)).1)
          × (1 ≤ c) × (c ≤ count) × (word_full ≡ false)
      by_frame o false e t free is = absurd (cc)
      by_frame None true e t free is = let k = ap (λ (o : Outcome). o.0) is in absurd (cc)
      by_frame (Some f) true e t free is =
          let k = entry_free word_full r count c free in
          (ap (option_map entry) e, slice_get_within box place f e, ap (λ (o : Outcome). o.1) is, k.0, k.1, k.2)

pub lost_none : (r now : Record) (is_there : Bool) (o : Option Entry) → is_there ≡ false → (loss_reply is_there, now) ≡ loss_of r o
    → (o ≡ None) × (now ≡ r)
lost_none r now true o there e = absurd (cc)
lost_none r now false None there e = (refl, ap (λ (o : Outcome). o.1) e)
lost_none r now false (Some x) there e = let k = ap (λ (o : Outcome). o.0) e in absurd (cc)
