-- An answer that is written in parts.
use Rattle.std.proofs.Common.{◌≡◌, ℕ, List, [], ◌++◌, Result, Ok, Err, false, append_assoc, ◌∙◌, ap, refl, ◌∷◌, ◌/◌, ◌%◌}
use Rattle.std.proofs.Common.{◌+◌, ◌<◌, length, suc, sym, take, drop, get_or, add-one, append-nil}
use Rattle.std.proofs.{lemmas.{List.take-append-drop, Grind.flat_map-append}, Math.Seq.drop-cons}
use Rattle.pair_history.specs.Entries.{Frame}
use Rattle.node_player.specs.Printed.{frame_line, frame_lines}
use Rattle.std.specs.Prelude.{slice_index}
use Rattle.hex.specs.Hex.{encode_lower, encode_with, lower_digits}
use Rattle.std.proofs.KnownBytes.{Appends-nil, Appends-trans}
use Rattle.script_player.specs.Streams.{Writing, Writes, WritesFront, IsPut}
use Rattle.script_player.specs.laws.Written.{front-after}
use Rattle.node_player.specs.internal.Puts.{HasPut}

pub put-none : (o : Writing) → HasPut o o []
put-none o = record { all = Appends-nil o.bytes; well = λ e. e }

-- more is to be written than what failed
pub front-longer : (o o' : Writing) (text : List ℕ) (more : List ℕ) → WritesFront o o' text → WritesFront o o' (text ++ more)
front-longer o o' text more w = record {
  front = (
    w.front.0,
    w.front.1 ++ more,
    ap (λ t. t ++ more) w.front.2 ∙ append_assoc w.front.0 w.front.1 more,
    w.front.3,
  );
  badly = w.badly;
}

module _ {o m : Writing} {text : List ℕ} (before : HasPut o m text) where
  -- a part more
  pub put-more : (o' : Writing) (part : List ℕ) → Writes m o' part × (m.failed ≡ false) → HasPut o o' (text ++ part)
  put-more o' part put = record {
    all = Appends-trans o.bytes m.bytes o'.bytes text part before.all put.0.all;
    well = λ e. before.well put.1;
  }

  -- the last part
  pub put-last : {T E : Type 0} (o' : Writing) (part : List ℕ) (r : Result T E) → IsPut m o' r part → IsPut o o' r (text ++ part)
  put-last o' part (Ok done) put = (
    record { all = Appends-trans o.bytes m.bytes o'.bytes text part before.all put.0.all; well = put.0.well },
    before.well put.1,
  )
  put-last o' part (Err e) put = front-after o m o' text before.all part put

  -- a write fails
  pub put-failed : (o' : Writing) (part more : List ℕ) → WritesFront m o' part → WritesFront o o' (text ++ (part ++ more))
  put-failed o' part more w = front-after o m o' text before.all (part ++ more) (front-longer m o' part more w)

-- ---- digits and frames

pub digits-append : (digits xs ys : List ℕ) → encode_with digits (xs ++ ys) ≡ encode_with digits xs ++ encode_with digits ys
unfolding encode_with
digits-append digits [] ys = refl
digits-append digits (x ∷ xs) ys =
    ap (λ t. slice_index digits (x / 16) ∷ slice_index digits (x % 16) ∷ t) (digits-append digits xs ys)

-- a line whose word and first digits were written or stand in a piece, with the digits of a chunk put last into that piece
module _ (done piece word front : List ℕ) (before : done ++ piece ≡ word ++ encode_lower front) where
  -- what is written then is the same, up to what comes later
  pub line-goes-on : (chunk others bytes tail : List ℕ) → bytes ≡ front ++ (chunk ++ others)
      → word ++ (encode_lower bytes ++ tail) ≡ done ++ ((piece ++ encode_lower chunk) ++ (encode_lower others ++ tail))
  line-goes-on chunk others bytes tail e =
      let first = encode_lower front in
      let own = encode_lower chunk in
      let rest = encode_lower others in
      let all : encode_lower bytes ≡ first ++ (own ++ rest) =
      ap encode_lower e ∙ digits-append lower_digits front (chunk ++ others)
      ∙ ap (λ t. first ++ t) (digits-append lower_digits chunk others) in
      ap (λ t. word ++ (t ++ tail)) all
      ∙ ap (λ t. word ++ t) (append_assoc first (own ++ rest) tail ∙ ap (λ t. first ++ t) (append_assoc own rest tail))
      ∙ sym (append_assoc word first (own ++ (rest ++ tail)))
      ∙ ap (λ t. t ++ (own ++ (rest ++ tail))) (sym before)
      ∙ append_assoc done piece (own ++ (rest ++ tail))
      ∙ ap (λ t. done ++ t) (sym (append_assoc piece own (rest ++ tail)))

  -- the piece is written, and is empty again
  pub piece-written : (chunk : List ℕ) → (done ++ (piece ++ encode_lower chunk)) ++ [] ≡ word ++ encode_lower (front ++ chunk)
  piece-written chunk =
      let own = encode_lower chunk in
      append-nil (done ++ (piece ++ own)) ∙ sym (append_assoc done piece own) ∙ ap (λ t. t ++ own) before
      ∙ append_assoc word (encode_lower front) own ∙ ap (λ t. word ++ t) (sym (digits-append lower_digits front chunk))

-- a line, a text behind it in three parts, and a newline
pub long-text : (head bytes first others between last : List ℕ) → bytes ≡ first ++ others → others ≡ between ++ last
    → head ++ (bytes ++ 10 ∷ []) ≡ (head ++ (first ++ [])) ++ (between ++ (last ++ 10 ∷ []))
long-text head bytes first others between last split again =
    ap (λ t. head ++ (t ++ 10 ∷ [])) (split ∙ ap (λ t. first ++ t) again)
    ∙ ap (λ t. head ++ t) (append_assoc first (between ++ last) (10 ∷ []) ∙ ap (λ t. first ++ t) (append_assoc between last (10 ∷ [])))
    ∙ sym (append_assoc head first (between ++ (last ++ 10 ∷ [])))
    ∙ ap (λ t. (head ++ t) ++ (between ++ (last ++ 10 ∷ []))) (sym (append-nil first))

-- frames up to one, that one, and those after it
pub lines-from : (frames : List Frame) (i : ℕ) (frame : Frame) → i < length frames → get_or frames i frame ≡ frame
    → frame_lines frames ≡ frame_lines (take i frames) ++ (frame_line frame ++ frame_lines (drop (i + 1) frames))
lines-from frames i frame low is =
    let back : drop i frames ≡ frame ∷ drop (i + 1) frames =
    rw (add-one, drop-cons frames i frame) (ap (λ f. f ∷ drop (suc i) frames) is) in
    ap frame_lines (sym (take-append-drop i frames)) ∙ flat_map-append frame_line (take i frames) (drop i frames)
    ∙ ap (λ t. frame_lines (take i frames) ++ frame_lines t) back
