-- The bag of messages: what was sent stays sent.
use Rattle.std.proofs.Common.{◌≡◌, ℕ, zero, suc, ◌-◌, ◌≤◌, List, [], ◌∷◌, ◌++◌, length, refl, sym, ap, ◌∙◌, subst, arith, Bool, true, false, Some}
use Rattle.std.specs.Prelude.{slice_get, not}
use Rattle.guest_rules.specs.declared.shapes.Shape.{Shape}
use Rattle.pair_record.specs.declared.event.Packet.{Packet}
use Rattle.failover.specs.declared.mode.{Mode.Mode, Mode.TheVariants.{Paired, Filling, Alone, Stopped}}
use Rattle.pair_record.specs.{Modes.is_alone, Record.SuitsMode}
use Rattle.pair_core.specs.{Lines.{AreBelow, packet}, Pair.{Pair, InMode}, Replication.{next_number, number_after}}
use Rattle.pair_core.specs.laws.Consistent.{in_mode}
use Rattle.pair_nodes.specs.Matching.{Kept, IsNumbered, AreNumberedFrom, WasSent, WasAcknowledged, Fits, HasRoom, Matches, IsServed, site_of}
use Rattle.pair_nodes.specs.Networks.{Output}
use Rattle.pair_nodes.specs.Runs.{Premises, adds, calls_by}
use Rattle.pair_nodes.specs.Sites.{Site, Happening, Happens}
use Rattle.pair_nodes.proofs.Places.{place-stays, place-split, place-last}

-- what holds of the sites that match, holds of those that are so
pub at_site : (s t : Site) (w : Pair) (x : Happening) (most : ℕ) → Matches s w → HasRoom w (adds s x) → Premises s x most → Happens s x t
    → ((kept texts : List (List ℕ)) (acks : List Packet) (out : Output) (came : List ℕ) → Fits w kept texts acks out came
    → HasRoom w (adds (site_of w kept texts acks out came) x) → Premises (site_of w kept texts acks out came) x most
    → Happens (site_of w kept texts acks out came) x t
    → IsServed w (adds (site_of w kept texts acks out came) x) (calls_by (site_of w kept texts acks out came) x) t)
    → IsServed w (adds s x) (calls_by s x) t
at_site s t w x most m room fair h f =
    let there = f s.primary.texts s.texts s.acks s.out s.came m.fits (subst (λ (u : Site). HasRoom w (adds u x)) m.is room)
    (subst (λ (u : Site). Premises u x most) m.is fair) (subst (λ (u : Site). Happens u x t) m.is h) in
    subst (λ (u : Site). IsServed w (adds u x) (calls_by u x) t) (sym m.is) there

pub matches_so : (t : Site) (v : Pair) (kept texts : List (List ℕ)) (acks : List Packet) (out : Output) (came : List ℕ)
    → t ≡ site_of v kept texts acks out came → Fits v kept texts acks out came → Matches t v
matches_so t v kept texts acks out came e f =
    let there : Matches (site_of v kept texts acks out came) v = record { is = refl; fits = f } in
    subst (λ (u : Site). Matches u v) (sym e) there

-- whether there is a standby, by what the primary has
pub has-standby : (t : Bool) → not t ≡ true → t ≡ false
has-standby false e = refl
has-standby true e = absurd (cc)

pub has-none : (mode : Mode) → not (is_alone mode) ≡ false → mode ≡ Alone
has-none Alone e = refl
has-none Paired e = absurd (cc)
has-none Filling e = absurd (cc)
has-none Stopped e = absurd (cc)

-- another pair's shape
pub series-shape : (s t : Shape) (generation n : ℕ) (ts : List (List ℕ)) → t ≡ s → AreNumberedFrom s generation n ts
    → AreNumberedFrom t generation n ts
series-shape s t generation n ts e h = subst (λ u. AreNumberedFrom u generation n ts) (sym e) h

-- a text that was sent stays so, where it may still be committed as the sealed one
pub sent_on : (w v : Pair) → v.nodes.image.shape ≡ w.nodes.image.shape
    → ((k : ℕ) (p : Packet) → slice_get w.protocol.lines.forward k ≡ Some p → slice_get v.protocol.lines.forward k ≡ Some p)
    → (text : List ℕ) (s : WasSent w text)
    → (s.generation ≡ v.protocol.state.generation → v.protocol.state.window.to_commit ≤ s.number
    → slice_get v.nodes.sealed (s.number - v.protocol.state.window.to_commit) ≡ Some text)
    → WasSent v text
sent_on w v shape stays text s next = record {
  generation = s.generation;
  number = s.number;
  is = subst (λ u. IsNumbered u s.generation s.number text) (sym shape) s.is;
  place = s.place;
  sent = stays s.place (packet s.generation s.number) s.sent;
  next = next;
}

-- one acknowledgement more
pub acked_on : (w v : Pair) (acks : List Packet) (p : Packet) → v.protocol.lines.back ≡ w.protocol.lines.back ++ p ∷ []
    → ((k : ℕ) (q : Packet) → slice_get acks k ≡ Some q → WasAcknowledged w q)
    → (k : ℕ) (q : Packet) → slice_get (acks ++ p ∷ []) k ≡ Some q → WasAcknowledged v q
acked_on w v acks p is old k q e =
    let back = w.protocol.lines.back in
    let last : slice_get v.protocol.lines.back (length back) ≡ Some p = rw is (place-last back p) in
    place-split acks p k q (λ x. WasAcknowledged v x)
    (λ j there. let was = old j q there in (was.0, rw is (place-stays back (p ∷ []) was.0 q was.1)))
    (length back, last) e

-- a packet on the line is of no later generation
pub at_most : (g n : ℕ) (ps : List Packet) (k : ℕ) (p : Packet) → AreBelow g n ps → slice_get ps k ≡ Some p → p.generation ≤ g
at_most g n [] k p h e = absurd (cc)
at_most g n (q ∷ ps) zero p h e =
    let same : q ≡ p = cc in
    subst (λ (x : Packet). x.generation ≤ g) same h.0
at_most g n (q ∷ ps) (suc k) p h e = at_most g n ps k p h.2 e

-- the image takes the next checkpoint to be committed next
pub next_is : (w : Pair) → Kept w → is_alone w.protocol.state.mode ≡ false → next_number w.nodes ≡ w.protocol.state.window.to_commit
next_is w k two = by_mode w.protocol.state.mode two (in_mode w k.holds k.record_is) k.record_is.suits
  where
    by_mode : (mode : Mode) → is_alone mode ≡ false → InMode mode w → SuitsMode mode w.protocol.state.window
        → next_number w.nodes ≡ w.protocol.state.window.to_commit
    by_mode Filling two m s = ap number_after m.1.empty ∙ sym s
    by_mode Alone two m s = absurd (cc)
    by_mode other two m s = ap number_after m.1.stands_at ∙ omega arith
