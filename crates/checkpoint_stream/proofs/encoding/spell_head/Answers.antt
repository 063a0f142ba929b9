use Rattle.std.proofs.Common.{◌≡◌, ◌≤◌, ◌+◌, ◌-◌, ◌∙◌, ◌++◌, ℕ, List, ap, sym, get_or, take, drop, length, refl, arith}
use Rattle.std.proofs.Common.{append_assoc, take-append-drop, length-take-le, length-append, length-drop}
use Rattle.std.{proofs.lemmas.List.Elements.All-more, specs.Int.{w64, to_le_bytes}}
use Rattle.checkpoint_stream.specs.{HeadTable.{head_table, row_at, bytes_of, bytes_in}, declared.rules.{Row.Row, Width.Width}}
use Rattle.checkpoint_stream.specs.declared.rules.Width.TheVariants.{Two, Four, Eight}
use Rattle.checkpoint_stream.proofs.{HeadFits.IsWord, Numbers.{length-head_table, width-most}, Feeding.take-filled}
use Rattle.checkpoint_stream.proofs.Spelling.{advance, finish, number_units-drop, number_units-done, all-seen}
use Rattle.checkpoint_stream.proofs.encoding.spell_head.Goals as goal

bytes-front : (w : Width) (n : ℕ) → bytes_of w n ≡ take (bytes_in w) (to_le_bytes w64 n)
unfolding bytes_of
bytes-front Two n = refl
bytes-front Four n = refl
bytes-front Eight n = refl

-- bytes are written after those that stand, and the first of them count
written : (at w : ℕ) (held bytes rest : List ℕ) → length held ≡ at → w ≤ length bytes →
    take (at + w) (held ++ (bytes ++ rest)) ≡ held ++ take w bytes
written at w held bytes rest long inside =
    let count : length (take w bytes) ≡ w = length-take-le w bytes inside in
    let regrouped : held ++ (bytes ++ rest) ≡ held ++ (take w bytes ++ (drop w bytes ++ rest))
    = ap (λ (l : List ℕ). held ++ (l ++ rest)) (sym (take-append-drop w bytes))
    ∙ ap (λ (l : List ℕ). held ++ l) (append_assoc (take w bytes) (drop w bytes) rest) in
    ap (λ (l : List ℕ). take (at + w) l) regrouped
    ∙ take-filled (at + w) held (take w bytes) (drop w bytes ++ rest) (omega (arith, long, count))

length-written : (at k : ℕ) (xs ys : List ℕ) → k ≡ length ys → at + k ≤ length xs →
    length (take at xs ++ (ys ++ drop k (drop at xs))) ≡ length xs
length-written at k xs ys e h =
    omega (
      arith,
      length-append (take at xs) (ys ++ drop k (drop at xs)),
      length-append ys (drop k (drop at xs)),
      length-take-le at xs (omega arith),
      length-drop k (drop at xs),
      length-drop at xs,
    )

pub loop-i-preserved : goal.loop-i-preserved
unfolding row_at
loop-i-preserved c =
    let l = c.loop-i in
    let w = c.bytes-at.result in
    let n : ℕ = get_or c.args.head.now l.i 0 in
    let held : List ℕ = take l.at l.bytes in
    let bytes : List ℕ = c.copy_from_slice.new.self in
    let spelled : bytes ≡ to_le_bytes w64 n = c.copy_from_slice.ensures.after ∙ c.to_le_bytes.ensures in
    let eight : length bytes ≡ 8 = ap length spelled in
    let room : l.at + 8 ≤ length l.bytes = omega (arith, l.invariant.room, l.invariant.long) in
    let inside : w ≤ 8 = omega (arith, c.bytes-at.ensures, width-most c.head_row.result.width) in
    let is : take (l.at + w) (held ++ (bytes ++ drop (l.at + 8 - l.at) (drop l.at l.bytes))) ≡ held ++ bytes_of (row_at l.i).width n
    = written l.at w held bytes _ (length-take-le l.at l.bytes (omega (arith, room))) (omega (arith, inside, eight))
    ∙ ap (λ (k : List ℕ). held ++ take w k) spelled
    ∙ ap (λ (k : ℕ). held ++ take k (to_le_bytes w64 n)) c.bytes-at.ensures
    ∙ ap (λ (k : List ℕ). held ++ k) (sym (bytes-front c.head_row.result.width n))
    ∙ ap (λ (row : Row). held ++ bytes_of row.width n) c.head_row.ensures in
    record {
      room = omega (arith, inside);
      long = length-written l.at (l.at + 8 - l.at) l.bytes bytes (omega (arith, eight)) (omega (arith, room)) ∙ l.invariant.long;
      spelled = advance held _ _ _ _ _ l.invariant.spelled
          (number_units-drop head_table c.args.head.now l.i _ 0 (omega (arith, length-head_table)) (omega arith)) is;
      width = All-more IsWord c.args.head.now l.i 0 (omega arith) l.invariant.width (omega arith);
    }

pub returns : goal.returns
returns c = record {
  count = omega arith;
  spelled = finish (take c.loop-i.at c.loop-i.bytes) _ _ c.loop-i.invariant.spelled
      (number_units-done head_table _ c.loop-i.i (omega (arith, length-head_table)));
  width = all-seen IsWord c.args.head.now c.loop-i.i (omega arith) c.loop-i.invariant.width;
}
