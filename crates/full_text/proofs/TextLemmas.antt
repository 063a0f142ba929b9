-- What is put of a full checkpoint is its text.
use Rattle.std.proofs.Common.{◌≡◌, ℕ, ◌+◌, ◌-◌, ◌*◌, ◌^◌, ◌<◌, List, [], ◌∷◌, ◌++◌, length, map, take, drop, refl, sym}
use Rattle.std.proofs.Common.{ap, ◌∙◌, arith, append_assoc, All}
use Rattle.std.proofs.lemmas.List.{append-nil, length-append, length-map, map-append, take_at}
use Rattle.std.proofs.lemmas.List.Elements.{All-head, All-tail}
use Rattle.std.specs.Prelude.{count_ones, slice_range}
use Rattle.epoch_snapshot.specs.declared.changes.PageChange.{PageChange}
use Rattle.epoch_snapshot.specs.Blocks.{block_numbers, set_blocks}
use Rattle.epoch_snapshot.specs.Checkpoints.{Change}
use Rattle.epoch_snapshot.specs.Cuts.{block_change, changed_blocks, changed_sectors, sector_of}
use Rattle.guest_rules.specs.Guest.{Guest}
use Rattle.guest_rules.specs.declared.shapes.Shape.{Shape}
use Rattle.checkpoint_stream.specs.HeadTable.{bytes_of, head_table}
use Rattle.checkpoint_stream.specs.Text.{head_numbers, number_units, page_units, sector_units, frame_units, joined, text}
use Rattle.checkpoint_stream.specs.declared.rules.Width.TheVariants.{Four, Eight}
use Rattle.full_text.specs.Full.{zeros, blank}
use Rattle.full_text.specs.internal.CutRecords.{record_of, records}
use Rattle.full_text.proofs.RecordLemmas.{OnesAreNamed, records-cons}

-- what the law `texts_are_their_parts` says, as the lemmas here take it
abbrev pub HasParts : Type 0
HasParts = (c : Change) → c.version ≡ 2 → text c ≡ joined (number_units head_table (head_numbers c))
    ++ ((bytes_of Four (length c.pages) ++ joined (page_units c.pages c.blocks))
    ++ ((bytes_of Four (length c.sectors) ++ joined (sector_units c.sectors)) ++ (bytes_of Four (length c.frames) ++ joined (frame_units c.frames))))

abbrev pub PageIsSpelled : Type 0
PageIsSpelled = (p : PageChange) (ps : List PageChange) (own later : List (List ℕ)) → length own ≡ count_ones p.mask
    → joined (page_units (p ∷ ps) (own ++ later)) ≡ (bytes_of Four p.page ++ bytes_of Eight p.mask ++ joined own) ++ joined (page_units ps later)

own-numbers : (p : PageChange) → block_numbers (p ∷ []) ≡ map (λ i. 64 * p.page + i) (set_blocks p.mask)
unfolding block_numbers
own-numbers p = append-nil (map (λ i. 64 * p.page + i) (set_blocks p.mask))

numbers-cons : (p : PageChange) (ps : List PageChange) → block_numbers (p ∷ ps) ≡ block_numbers (p ∷ []) ++ block_numbers ps
unfolding block_numbers
numbers-cons p ps = ap (λ l. l ++ block_numbers ps) (sym (append-nil (map (λ i. 64 * p.page + i) (set_blocks p.mask))))

blocks-cons : (ram : List ℕ) (p : PageChange) (ps : List PageChange)
    → changed_blocks (zeros ram) ram (p ∷ ps) ≡ changed_blocks (zeros ram) ram (p ∷ []) ++ changed_blocks (zeros ram) ram ps
blocks-cons ram p ps =
    ap (map (block_change (zeros ram) ram)) (numbers-cons p ps)
    ∙ map-append (block_change (zeros ram) ram) (block_numbers (p ∷ [])) (block_numbers ps)

length-own : OnesAreNamed → (ram : List ℕ) (p : PageChange) → p.mask < 2 ^ 64 → length (changed_blocks (zeros ram) ram (p ∷ [])) ≡ count_ones p.mask
length-own ones ram p fits =
    length-map (block_numbers (p ∷ [])) (block_change (zeros ram) ram)
    ∙ ap (λ l. length l) (own-numbers p)
    ∙ length-map (set_blocks p.mask) (λ i. 64 * p.page + i)
    ∙ ones p.mask fits

-- the records of pages are the units of a checkpoint that has their blocks
pub records-text : OnesAreNamed → PageIsSpelled → (ram : List ℕ) (ps : List PageChange) → All (λ (p : PageChange). p.mask < 2 ^ 64) ps
    → records ram ps ≡ joined (page_units ps (changed_blocks (zeros ram) ram ps))
unfolding records page_units joined
records-text ones spelled ram [] fits = refl
records-text ones spelled ram (p ∷ ps) fits =
    records-cons ram p ps
    ∙ ap (λ l. record_of ram p ++ l) (records-text ones spelled ram ps (All-tail (λ (p : PageChange). p.mask < 2 ^ 64) p ps fits))
    ∙ sym (spelled p ps (changed_blocks (zeros ram) ram (p ∷ [])) (changed_blocks (zeros ram) ram ps)
    (length-own ones ram p (All-head (λ (p : PageChange). p.mask < 2 ^ 64) p ps fits)))
    ∙ ap (λ bs. joined (page_units (p ∷ ps) bs)) (sym (blocks-cons ram p ps))

-- a full checkpoint's text: its head, its page records with their count, and its sectors, after which it counts no frames
pub text-whole : HasParts → OnesAreNamed → PageIsSpelled → (c : Change) (ram head pages tail : List ℕ) → c.version ≡ 2 → c.frames ≡ []
    → All (λ (p : PageChange). p.mask < 2 ^ 64) c.pages
    → c.blocks ≡ changed_blocks (zeros ram) ram c.pages → head ≡ joined (number_units head_table (head_numbers c))
    → pages ≡ bytes_of Four (length c.pages)
    → tail ≡ (bytes_of Four (length c.sectors) ++ joined (sector_units c.sectors)) ++ bytes_of Four 0
    → (head ++ pages) ++ (records ram c.pages ++ tail) ≡ text c
unfolding frame_units joined
text-whole parts ones spelled c ram head pages tail second none fits blocks h p t =
    let last : bytes_of Four (length c.frames) ++ joined (frame_units c.frames) ≡ bytes_of Four 0 =
    ap (λ fs. bytes_of Four (length fs) ++ joined (frame_units fs)) none ∙ append-nil (bytes_of Four 0) in
    let same : records ram c.pages ≡ joined (page_units c.pages c.blocks) =
    records-text ones spelled ram c.pages fits ∙ ap (λ bs. joined (page_units c.pages bs)) (sym blocks) in
    append_assoc head pages (records ram c.pages ++ tail)
    ∙ (λ i. h i ++ (p i ++ (same i ++ t i)))
    ∙ ap (λ l. joined (number_units head_table (head_numbers c)) ++ l) (sym (append_assoc (bytes_of Four (length c.pages))
    (joined (page_units c.pages c.blocks)) _))
    ∙ ap (λ l. joined (number_units head_table (head_numbers c)) ++ ((bytes_of Four (length c.pages) ++ joined (page_units c.pages c.blocks))
    ++ ((bytes_of Four (length c.sectors) ++ joined (sector_units c.sectors)) ++ l))) (sym last)
    ∙ sym (parts c second)

-- ---- a checkpoint of no pages and no sectors: three counts of nothing stand behind its head

abbrev pub nothing : List ℕ
nothing = (bytes_of Four 0 ++ joined (page_units [] []))
    ++ ((bytes_of Four 0 ++ joined (sector_units [])) ++ (bytes_of Four 0 ++ joined (frame_units [])))

pub blank-spelled : HasParts → (shape : Shape) (g : Guest) (generation : ℕ)
    → text (blank shape g generation) ≡ joined (number_units head_table (head_numbers (blank shape g generation))) ++ nothing
blank-spelled parts shape g generation = parts (blank shape g generation) refl

pub length-nothing : length nothing ≡ 12
unfolding joined page_units sector_units frame_units bytes_of
length-nothing = refl

pub front-of : (out head rest : List ℕ) (n : ℕ) → out ≡ head ++ rest → length rest ≡ 12 → n + 12 ≡ length out → take n out ≡ head
front-of out head rest n e long count =
    ap (take n) e ∙ take_at head rest n (omega (arith, ap (λ (l : List ℕ). length l) e, length-append head rest, long, count))

pub sector-slice : (bytes : List ℕ) (i : ℕ) → slice_range bytes (512 * i) (512 * i + 512) ≡ sector_of bytes i
sector-slice bytes i = let e : (512 * i + 512) - 512 * i ≡ 512 = omega arith in ap (λ n. take n (drop (512 * i) bytes)) e

-- one sector's record more is put
sectors-last : (disk before : List ℕ) (n : ℕ) → joined (sector_units (changed_sectors disk (before ++ n ∷ [])))
    ≡ joined (sector_units (changed_sectors disk before)) ++ (bytes_of Four n ++ sector_of disk n)
unfolding joined sector_units
sectors-last disk [] n = ap (λ l. bytes_of Four n ++ l) (append-nil (sector_of disk n))
sectors-last disk (b ∷ before) n =
    let rest = joined (sector_units (changed_sectors disk before)) in
    ap (λ l. bytes_of Four b ++ (sector_of disk b ++ l)) (sectors-last disk before n)
    ∙ sym (append_assoc (bytes_of Four b) (sector_of disk b ++ rest) (bytes_of Four n ++ sector_of disk n)
    ∙ ap (λ l. bytes_of Four b ++ l) (append_assoc (sector_of disk b) rest (bytes_of Four n ++ sector_of disk n)))

pub sector-put : (disk before used xs ys zs : List ℕ) (n : ℕ) → used ≡ before ++ n ∷ []
    → ys ≡ xs ++ joined (sector_units (changed_sectors disk before)) → zs ≡ ys ++ (bytes_of Four n ++ sector_of disk n)
    → zs ≡ xs ++ joined (sector_units (changed_sectors disk used))
sector-put disk before used xs ys zs n more so_far put =
    put
    ∙ ap (λ l. l ++ (bytes_of Four n ++ sector_of disk n)) so_far
    ∙ append_assoc xs (joined (sector_units (changed_sectors disk before))) (bytes_of Four n ++ sector_of disk n)
    ∙ ap (λ l. xs ++ l) (sym (ap (λ l. joined (sector_units (changed_sectors disk l))) more ∙ sectors-last disk before n))

pub no-sectors : joined (sector_units []) ≡ []
unfolding joined sector_units
no-sectors = refl

-- the count is put over the first bytes
pub count-set : (n : ℕ) (given empty start made set later : List ℕ) → given ≡ bytes_of Four n → empty ≡ [] → start ≡ empty ++ bytes_of Four 0
    → made ≡ start ++ later → set ≡ take 0 made ++ (given ++ drop (0 + length given) made) → set ≡ bytes_of Four n ++ later
unfolding bytes_of
count-set n given empty start made set later is none first more put =
    put
    ∙ (λ i. take 0 (more i) ++ (is i ++ drop (0 + length (is i)) (more i)))
    ∙ ap (λ l. take 0 (l ++ later) ++ (bytes_of Four n ++ drop 4 (l ++ later))) (first ∙ ap (λ l. l ++ bytes_of Four 0) none)
