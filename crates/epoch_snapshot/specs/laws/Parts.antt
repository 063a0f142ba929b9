-- Parts of bytes, before and after some of them are replaced.
use Rattle.std.proofs.Common.{◌≡◌, ℕ, zero, suc, ◌+◌, ◌-◌, ◌*◌, ◌<◌, ◌≤◌, List, ◌++◌, length, take, drop, sym, ap, ◌∙◌, arith}
use Rattle.std.proofs.{Common.length-append, Math.Seq.take-add, lemmas.List.{take_at, drop_at, drop-drop, take-append-drop, take-append-le}}
use Rattle.std.proofs.lemmas.List.{length-take-le, length-drop, drop-append-le, take_all, append_assoc}
use Rattle.guest_rules.specs.Bytes.{with_bytes}

-- the part that was replaced
pub part-same : (xs new : List ℕ) (at n : ℕ) → length new ≡ n → at + n ≤ length xs → take n (drop at (with_bytes xs at new)) ≡ new
part-same xs new at n e fits =
    ap (take n) (drop_at (take at xs) (new ++ drop (at + length new) xs) at (length-take-le at xs (omega arith)))
    ∙ take_at new (drop (at + length new) xs) n e

-- a part before it
pub part-below : (xs new : List ℕ) (at b n : ℕ) → b + n ≤ at → at + length new ≤ length xs →
    take n (drop b (with_bytes xs at new)) ≡ take n (drop b xs)
part-below xs new at b n below fits =
    let front : length (take at xs) ≡ at = length-take-le at xs (omega arith) in
    let rest : length (drop b (take at xs)) ≡ at - b = omega (arith, length-drop b (take at xs)) in
    let whole : take at xs ++ drop at xs ≡ xs = take-append-drop at xs in
    ap (take n) (drop-append-le b (take at xs) (new ++ drop (at + length new) xs) (omega arith))
    ∙ take-append-le n (drop b (take at xs)) (new ++ drop (at + length new) xs) (omega arith)
    ∙ sym (take-append-le n (drop b (take at xs)) (drop at xs) (omega arith))
    ∙ ap (take n) (sym (drop-append-le b (take at xs) (drop at xs) (omega arith)))
    ∙ ap (λ l. take n (drop b l)) whole

-- a part after it
pub part-above : (xs new : List ℕ) (at b n : ℕ) → at + length new ≤ b → at + length new ≤ length xs →
    take n (drop b (with_bytes xs at new)) ≡ take n (drop b xs)
part-above xs new at b n above fits =
    let front : length (take at xs) ≡ at = length-take-le at xs (omega arith) in
    let long : length (take at xs ++ new) ≡ at + length new = omega (arith, length-append (take at xs) new) in
    let gap : (at + length new) + (b - (at + length new)) ≡ b = omega arith in
    ap (λ k. take n (drop k (with_bytes xs at new))) (sym gap)
    ∙ ap (take n) (sym (drop-drop (b - (at + length new)) (at + length new) (with_bytes xs at new))
    ∙ ap (λ l. drop (b - (at + length new)) (drop (at + length new) l)) (sym (append_assoc (take at xs) new (drop (at + length new) xs)))
    ∙ ap (drop (b - (at + length new))) (drop_at (take at xs ++ new) (drop (at + length new) xs) (at + length new) long)
    ∙ drop-drop (b - (at + length new)) (at + length new) xs)
    ∙ ap (λ k. take n (drop k xs)) gap

-- bytes that have the same parts of n bytes are the same
same_fronts : (k n : ℕ) (xs ys : List ℕ) → ((i : ℕ) → i < k → take n (drop (n * i) xs) ≡ take n (drop (n * i) ys)) →
    take (n * k) xs ≡ take (n * k) ys
same_fronts zero n xs ys same =
    let e : n * zero ≡ 0 = omega arith in
    ap (λ m. take m xs) e ∙ sym (ap (λ m. take m ys) e)
same_fronts (suc k) n xs ys same =
    let e : n * suc k ≡ n * k + n = omega arith in
    ap (λ m. take m xs) e
    ∙ take-add (n * k) n xs
    ∙ (λ j. same_fronts k n xs ys (λ i below. same i (omega arith)) j ++ same k (omega arith) j)
    ∙ sym (take-add (n * k) n ys)
    ∙ sym (ap (λ m. take m ys) e)

pub same_from_parts : (k n : ℕ) (xs ys : List ℕ) → length xs ≡ n * k → length ys ≡ n * k →
    ((i : ℕ) → i < k → take n (drop (n * i) xs) ≡ take n (drop (n * i) ys)) → xs ≡ ys
same_from_parts k n xs ys e f same =
    sym (take_all (n * k) xs (omega arith)) ∙ same_fronts k n xs ys same ∙ take_all (n * k) ys (omega arith)
