-- Laws of stored histories.
use Rattle.std.proofs.Common.{◌≡◌, ℕ, ◌+◌, ◌≤◌, List, [], ◌∷◌, ◌++◌, length, replicate, take, drop, sym, ap, ◌∙◌, append_assoc, arith}
use Rattle.std.proofs.lemmas.List.{length-append, length-replicate, replicate-append-replicate, take-append-le, drop-append-le, length-drop}
use Rattle.std.proofs.Math.Seq.{take-length}
use Rattle.pair_history.specs.Entries as whole
use Rattle.pair_history.specs.declared.stored.StoredEntry.{StoredEntry}
use Rattle.pair_history.specs.declared.stored.StoredEntry.TheVariants.{Ran}
use Rattle.pair_history.specs.internal.Packed.{width, with_bytes, widths, unpacked}
use Rattle.std.proofs.lemmas.List.{append-nil}

pub widths-push : (es : List StoredEntry) (e : StoredEntry) → widths (es ++ e ∷ []) ≡ widths es + width e
widths-push [] e = omega arith
widths-push (x ∷ es) e = let rest = widths-push es e in omega arith

-- an entry goes last, and the bytes of its frame too
pub unpacked-push : (es : List StoredEntry) (bytes : List ℕ) (e : StoredEntry) (more : List ℕ)
    → widths es ≡ length bytes → width e ≡ length more
    → unpacked (es ++ e ∷ []) (bytes ++ more) ≡ unpacked es bytes ++ with_bytes e more
unpacked-push [] [] e more all last = rw last (rw (take-length more) (append-nil (with_bytes e more)))
unpacked-push [] (b ∷ bytes) e more all last = absurd (omega arith)
unpacked-push (x ∷ es) bytes e more all last =
    let within : width x ≤ length bytes = omega arith in
    let others : widths es ≡ length (drop (width x) bytes) = let len = length-drop (width x) bytes in omega arith in
    rw (take-append-le (width x) bytes more within) (rw (drop-append-le (width x) bytes more within)
    (ap (λ t. with_bytes x (take (width x) bytes) ++ t) (unpacked-push es (drop (width x) bytes) e more others last)
    ∙ sym (append_assoc (with_bytes x (take (width x) bytes)) (unpacked es (drop (width x) bytes)) (with_bytes e more))))

-- steps go last, and have no bytes
pub unpacked-ran : (es : List StoredEntry) (steps : ℕ) (bytes : List ℕ)
    → unpacked (es ++ Ran steps ∷ []) bytes ≡ unpacked es bytes ++ replicate steps whole.Ran
unpacked-ran [] steps bytes = append-nil (replicate steps whole.Ran)
unpacked-ran (x ∷ es) steps bytes =
    ap (λ t. with_bytes x (take (width x) bytes) ++ t) (unpacked-ran es steps (drop (width x) bytes))
    ∙ sym (append_assoc (with_bytes x (take (width x) bytes)) (unpacked es (drop (width x) bytes)) (replicate steps whole.Ran))

-- what `History` needs of its stored entries
pub ruleset log_laws = (widths-push, unpacked-push, unpacked-ran, append_assoc, length-append, length-replicate, replicate-append-replicate)
