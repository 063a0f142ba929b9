-- A page all of whose bytes are 0 doesn't change over a memory that is all zero.
use Rattle.std.proofs.lemmas.List.{ext_get_or, take-replicate, drop-replicate, length-take-le, length-drop, length-replicate}
use Rattle.std.proofs.lemmas.List.{get_or-replicate, Elements.All-get_or}
use Rattle.std.proofs.Common.{◌≡◌, ℕ, ◌+◌, ◌-◌, ◌*◌, ◌≤◌, List, length, take, drop, replicate, All, sym, ap, ◌∙◌, arith}
use Rattle.std.specs.Prelude.{slice_range}
use Rattle.epoch_snapshot.specs.Cuts.{changed_pages}
use Rattle.epoch_snapshot.specs.laws.Pages.{changed_pages-same}

zeros : (xs : List ℕ) (n : ℕ) → length xs ≡ n → All (λ (b : ℕ). b ≡ 0) xs → xs ≡ replicate n 0
zeros xs n long all =
    ext_get_or 0 _ _ (long ∙ sym (length-replicate {A = ℕ} n 0))
    (λ i here. All-get_or (λ (b : ℕ). b ≡ 0) xs i 0 here all ∙ sym (get_or-replicate n i 0 0 (omega (arith, here, long))))

length_range : (xs : List ℕ) (at n : ℕ) → at + n ≤ length xs → length (slice_range xs at (at + n)) ≡ n
length_range xs at n within =
    let width : at + n - at ≡ n = omega arith in
    length-take-le (at + n - at) (drop at xs) (omega (arith, length-drop at xs)) ∙ width

zero_range : (long at n : ℕ) → at + n ≤ long → slice_range (replicate {A = ℕ} long 0) at (at + n) ≡ replicate n 0
zero_range long at n within =
    let width : at + n - at ≡ n = omega arith in
    ap (take {A = ℕ} (at + n - at)) (drop-replicate at long 0)
    ∙ take-replicate (at + n - at) (long - at) 0 (omega arith)
    ∙ ap (λ k. replicate {A = ℕ} k 0) width

pub zero_page_skipped : (ram : List ℕ) (page : ℕ) → 4096 * page + 4096 ≤ length ram →
    All (λ (b : ℕ). b ≡ 0) (slice_range ram (4096 * page) (4096 * page + 4096)) →
    changed_pages (replicate (length ram) 0) ram (page + 1) ≡ changed_pages (replicate (length ram) 0) ram page
zero_page_skipped ram page within all =
    let bytes : List ℕ = slice_range ram (4096 * page) (4096 * page + 4096) in
    changed_pages-same (replicate (length ram) 0) ram page
    (zeros bytes 4096 (length_range ram (4096 * page) 4096 within) all ∙ sym (zero_range (length ram) (4096 * page) 4096 within))
