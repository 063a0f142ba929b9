-- Bytes that were put into the middle of a list.
use Rattle.std.proofs.Common.{◌≡◌, ℕ, ◌+◌, ◌-◌, ◌≤◌, List, ◌++◌, sym, ap, ◌∙◌, arith, length, length-take-le, length-drop, take, drop}
use Rattle.std.proofs.{Common.append_assoc, lemmas.List.{take_all, drop-drop}}
use borrow.Rule.Slice.PartMut.{put_mid}
use Rattle.virtqueue.specs.Memory.{written}

-- all that is gathered goes into a part that is as long
pub put_written : (places chunk new : List ℕ) (start len : ℕ) → chunk ≡ take (length (take (start + len - start) (drop start places))) new →
    length new ≡ len → start + len ≤ length places → put_mid start (start + len - start) places chunk ≡ written places start new
put_written places chunk new start len is count within =
    let part : List ℕ = take (start + len - start) (drop start places) in
    let part_len : length part ≡ len = omega (
      arith,
      length-take-le (start + len - start) (drop start places)
          (omega (arith, length-drop start places)),
    ) in
    let whole : chunk ≡ new = is ∙ take_all (length part) new (omega (arith, part_len, count)) in
    let end : start + (start + len - start) ≡ start + length new = omega (arith, count) in
    ap (λ ys. take start places ++ (ys ++ drop (start + len - start) (drop start places))) whole
    ∙ (ap (λ ys. take start places ++ (new ++ ys)) (drop-drop (start + len - start) start places ∙ ap (λ n. drop n places) end)
    ∙ sym (append_assoc (take start places) new (drop (start + length new) places)))
