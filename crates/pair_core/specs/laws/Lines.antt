-- Laws of the lines.
use Rattle.std.proofs.Common.{rules, ◌≡◌, ℕ, zero, suc, ◌+◌, ◌-◌, ◌<◌, ◌≤◌, List, [], ◌∷◌}
use Rattle.std.proofs.Common.{◌++◌, length, refl, sym, ap, ◌∙◌, arith, append_assoc}
use Rattle.std.proofs.{Common.{Result, Ok, Err, OnOk, OnErr}, lemmas.List.map-append}
use Rattle.std.specs.Prelude.{map, Option, None, Some, slice_get, slice_index_or, IfSome}
use Rattle.lossy_line.specs.Lines.{Packets}
use Rattle.output_gate.specs.Epochs.{Epoch}
use Rattle.pair_record.specs.declared.event.Packet.{Packet}
use Rattle.pair_core.specs.Lines.{packet, packet_of, packets_from, AreBelow}
use Rattle.pair_core.specs.Lines.{Lines, with_forward, with_back, AreNamed}
use Rattle.pair_core.specs.internal.LinesFields.{packets_of, KeepsAll}
use Rattle.pair_record.specs.Window.{NumberedFrom, IsWindow}
use Rattle.pair_record.specs.declared.window.Window.{Window}
use Rattle.pair_record.specs.Protocol.{Record}

-- the next packet, and those behind it
pub packets_from-next : (g n e : ℕ) → n < e → packets_from g n (e - n) ≡ packet g n ∷ packets_from g (n + 1) (e - (n + 1))
packets_from-next g n e h = let k : e - n ≡ suc (e - (n + 1)) = omega arith in ap (packets_from g n) k

pub packets_from-more : (old : List (Option Packet)) (g n e : ℕ) → n < e
    → (old ++ Some (packet g n) ∷ []) ++ map Some (packets_from g (n + 1) (e - (n + 1))) ≡ old ++ map Some (packets_from g n (e - n))
packets_from-more old g n e h = append_assoc old (Some (packet g n) ∷ []) (map Some (packets_from g (n + 1) (e - (n + 1))))
    ∙ ap (λ t. old ++ map Some t) (sym (packets_from-next g n e h))

-- one packet for each pending checkpoint
pub packets_from-numbered : (g n : ℕ) (es : List Epoch) → NumberedFrom n es → packets_from g n (length es) ≡ map (packet_of g) es
packets_from-numbered g n [] h = refl
packets_from-numbered g n (e ∷ es) h = ap (λ k. packet g k ∷ packets_from g (n + 1) (length es)) (sym h.0)
    ∙ ap (λ t. packet g e.number ∷ t) (packets_from-numbered g (n + 1) es h.1)

-- what follows from a fact of success
pub on_ok : {T E A B : Type 0} (r : Result T E) → (A → B) → OnOk r A → OnOk r B
on_ok (Ok _) f a = f a
on_ok (Err _) f a = a

-- A line on which nothing was dropped, and its packets

-- the packet of a number
pub packet-at : (os : List (Option Packet)) (k : ℕ) → KeepsAll os → slice_index_or os k None ≡ slice_get (packets_of os) k
packet-at os k h = ap (λ t. slice_index_or t k None) h ∙ at (packets_of os) k
  where
    at : (ps : List Packet) (k : ℕ) → slice_index_or (map Some ps) k None ≡ slice_get ps k
    at [] k = refl
    at (p ∷ ps) zero = refl
    at (p ∷ ps) (suc k) = at ps k

-- after a send, those that were sent follow
pub packets_of-sent : (os new : List (Option Packet)) (ps : List Packet) → new ≡ os ++ map Some ps → packets_of new ≡ packets_of os ++ ps
packets_of-sent os new ps e = ap packets_of e ∙ more os
  where
    all : (ps : List Packet) → packets_of (map Some ps) ≡ ps
    all [] = refl
    all (p ∷ ps) = ap (λ t. p ∷ t) (all ps)

    more : (os : List (Option Packet)) → packets_of (os ++ map Some ps) ≡ packets_of os ++ ps
    more [] = all ps
    more (None ∷ os) = more os
    more (Some p ∷ os) = ap (λ t. p ∷ t) (more os)

-- a send drops none
pub keeps_all-sent : (os new : List (Option Packet)) (ps : List Packet) → KeepsAll os → new ≡ os ++ map Some ps → KeepsAll new
keeps_all-sent os new ps h e = e ∙ ap (λ t. t ++ map Some ps) h ∙ sym (map-append Some (packets_of os) ps)
    ∙ sym (ap (map Some) (packets_of-sent os new ps e))

-- the same where memory may be refused
pub keeps_all-after : {T E : Type 0} (r : Result T E) (old new : Packets Packet) (ps : List Packet) → KeepsAll old.packets
    → OnOk r (new.packets ≡ old.packets ++ map Some ps) → OnErr r (new ≡ old) → KeepsAll new.packets
keeps_all-after (Ok _) old new ps h ok err = keeps_all-sent old.packets new.packets ps h ok
keeps_all-after (Err _) old new ps h ok err = rw err h

-- What the packets of a line name

AreBelow-append : (g n : ℕ) (ps qs : List Packet) → AreBelow g n ps → AreBelow g n qs → AreBelow g n (ps ++ qs)
AreBelow-append g n [] qs h k = k
AreBelow-append g n (p ∷ ps) qs h k = (h.0, h.1, AreBelow-append g n ps qs h.2 k)

pub AreBelow-more : (g n m : ℕ) (ps : List Packet) → n ≤ m → AreBelow g n ps → AreBelow g m ps
AreBelow-more g n m [] l h = tt
AreBelow-more g n m (p ∷ ps) l h = (h.0, λ e. let k = h.1 e in omega arith, AreBelow-more g n m ps l h.2)

-- the packets of numbered checkpoints
AreBelow-numbered : (g n m : ℕ) (es : List Epoch) → NumberedFrom n es → n + length es ≤ m → AreBelow g m (map (packet_of g) es)
AreBelow-numbered g n m [] h l = tt
AreBelow-numbered g n m (e ∷ es) h l = (omega arith, λ s. omega arith, AreBelow-numbered g (n + 1) m es h.1 (omega arith))

-- in the next generation every packet is of an earlier one
AreBelow-next : (g n m : ℕ) (ps : List Packet) → AreBelow g n ps → AreBelow (g + 1) m ps
AreBelow-next g n m [] h = tt
AreBelow-next g n m (p ∷ ps) h = (let l = h.0 in omega arith, λ e. let l = h.0 in absurd (omega arith), AreBelow-next g n m ps h.2)

-- what a packet on the line names
pub below_at : (g n : ℕ) (ps : List Packet) (k : ℕ) (o : Option Packet) → AreBelow g n ps → o ≡ slice_get ps k
    → IfSome o (λ p. p.generation ≡ g → p.number < n)
below_at g n [] k None h e = tt
below_at g n [] k (Some p) h e = absurd (cc)
below_at g n (q ∷ ps) zero None h e = tt
below_at g n (q ∷ ps) zero (Some p) h e = search (arith, rules)
below_at g n (q ∷ ps) (suc k) o h e = below_at g n ps k o h.2 e

-- What the packets name after each event that sends some, or that changes what there is to name

pub sent_are : (r : Record) → IsWindow r.window r.pending
    → packets_from r.generation r.window.to_acknowledge (r.window.to_cut - r.window.to_acknowledge) ≡ map (packet_of r.generation) r.pending
sent_are r k =
    let e : r.window.to_cut - r.window.to_acknowledge ≡ length r.pending = let p = k.count in omega arith in
    ap (packets_from r.generation r.window.to_acknowledge) e
    ∙ packets_from-numbered r.generation r.window.to_acknowledge r.pending k.numbers

module _ (r : Record) (l : Lines) (h : AreNamed r.generation r.window l) where
  pub named-sent : IsWindow r.window r.pending
      → AreNamed r.generation r.window (with_forward l (map (packet_of r.generation) r.pending))
  named-sent k = record {
    forward =
        AreBelow-append r.generation r.window.to_cut l.forward (map (packet_of r.generation) r.pending) h.forward
        (AreBelow-numbered r.generation r.window.to_acknowledge r.window.to_cut r.pending k.numbers (let p = k.count in omega arith));
    back = h.back;
  }

  pub named-back : (n : ℕ) → n < r.window.to_commit → AreNamed r.generation r.window (with_back l (packet r.generation n))
  named-back n below = record {
    forward = h.forward;
    back =
        AreBelow-append r.generation r.window.to_commit l.back (packet r.generation n ∷ []) h.back (omega arith, λ s. below, tt);
  }

  pub named-more : (w : Window) → r.window.to_cut ≤ w.to_cut → r.window.to_commit ≤ w.to_commit → AreNamed r.generation w l
  named-more w cut commit = record {
    forward = AreBelow-more r.generation r.window.to_cut w.to_cut l.forward cut h.forward;
    back = AreBelow-more r.generation r.window.to_commit w.to_commit l.back commit h.back;
  }

  pub named-next : (w : Window) → AreNamed (r.generation + 1) w l
  named-next w = record {
    forward = AreBelow-next r.generation r.window.to_cut w.to_cut l.forward h.forward;
    back = AreBelow-next r.generation r.window.to_commit w.to_commit l.back h.back;
  }
