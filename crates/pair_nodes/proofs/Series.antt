-- The texts that a primary keeps, by their numbers.
use Rattle.std.proofs.Common.{◌≡◌, ℕ, zero, suc, ◌+◌, ◌<◌, List, [], ◌∷◌, ◌++◌, length, drop, ap, ◌∙◌, subst, arith, Some}
use Rattle.std.specs.Prelude.{slice_get, map}
use Rattle.guest_rules.specs.{declared.shapes.Shape.Shape, Guest.Guest}
use Rattle.checkpoint_stream.specs.ReadBack.{ReadsBack}
use Rattle.output_gate.specs.Epochs.{Epoch}
use Rattle.pair_history.specs.Entries.{Frame}
use Rattle.pair_record.specs.Window.{NumberedFrom}
use Rattle.pair_core.specs.{Lines.{packet, packet_of}, Nodes.read_as, Texts.IsText}
use Rattle.pair_nodes.specs.Matching.{IsNumbered, AreNumberedFrom}

-- a text that makes a guest of another has its number
pub numbered : (shape : Shape) (generation n : ℕ) (before after : Guest) (sent : List Frame) (text : List ℕ)
    → IsText shape generation n before after sent text → IsNumbered shape generation n text
numbered shape generation n before after sent text t = record {
  change = t.change;
  reads_back = t.reads_back;
  of_version = t.of_version;
  of_shape = t.of_shape;
  of_generation = t.of_generation;
  of_number = t.of_number;
}

-- what it reads as
pub numbered-reads : (shape : Shape) (generation n : ℕ) (text : List ℕ) → (t : IsNumbered shape generation n text)
    → read_as shape text ≡ t.change
unfolding ReadsBack
numbered-reads shape generation n text t =
    subst (λ (s : Shape). read_as s text ≡ t.change) t.of_shape (t.reads_back 0).1

module _ (shape : Shape) (generation : ℕ) where
  pub series-push : (n : ℕ) (ts : List (List ℕ)) (m : ℕ) (t : List ℕ) → AreNumberedFrom shape generation n ts → n + length ts ≡ m
      → IsNumbered shape generation m t → AreNumberedFrom shape generation n (ts ++ t ∷ [])
  series-push n [] m t h e is = let same : m ≡ n = omega arith in (subst (λ k. IsNumbered shape generation k t) same is, tt)
  series-push n (x ∷ ts) m t h e is = (h.0, series-push (n + 1) ts m t h.1 (omega arith) is)

  pub series-at : (n : ℕ) (ts : List (List ℕ)) (k : ℕ) (t : List ℕ) → AreNumberedFrom shape generation n ts → slice_get ts k ≡ Some t
      → IsNumbered shape generation (n + k) t
  series-at n [] k t h e = absurd (cc)
  series-at n (x ∷ ts) zero t h e =
      let same : x ≡ t = cc in
      let place : n ≡ n + 0 = omega arith in
      subst (λ k. IsNumbered shape generation k t) place (subst (IsNumbered shape generation n) same h.0)
  series-at n (x ∷ ts) (suc k) t h e =
      let place : (n + 1) + k ≡ n + suc k = omega arith in
      subst (λ k. IsNumbered shape generation k t) place (series-at (n + 1) ts k t h.1 e)

  pub series-drop : (n k : ℕ) (ts : List (List ℕ)) → AreNumberedFrom shape generation n ts → AreNumberedFrom shape generation (n + k) (drop k ts)
  series-drop n zero ts h = let place : n ≡ n + 0 = omega arith in subst (λ m. AreNumberedFrom shape generation m ts) place h
  series-drop n (suc k) [] h = tt
  series-drop n (suc k) (x ∷ ts) h =
      let place : (n + 1) + k ≡ n + suc k = omega arith in
      subst (λ m. AreNumberedFrom shape generation m (drop k ts)) place (series-drop (n + 1) k ts h.1)

-- the packets of numbered checkpoints
pub packet-at : (g n : ℕ) (es : List Epoch) (k : ℕ) → NumberedFrom n es → k < length es
    → slice_get (map (packet_of g) es) k ≡ Some (packet g (n + k))
packet-at g n [] k h l = absurd (omega arith)
packet-at g n (e ∷ es) zero h l =
    let same : e.number ≡ n + 0 = h.0 ∙ omega arith in
    ap (λ (m : ℕ). Some (packet g m)) same
packet-at g n (e ∷ es) (suc k) h l =
    let place : (n + 1) + k ≡ n + suc k = omega arith in
    packet-at g (n + 1) es k h.1 (omega arith) ∙ ap (λ (m : ℕ). Some (packet g m)) place
