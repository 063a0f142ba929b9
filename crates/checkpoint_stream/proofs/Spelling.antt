-- A loop that puts the units of a list at the end of some bytes, one element after another.
use Rattle.std.proofs.Common.{◌≡◌, ℕ, ◌+◌, ◌<◌, ◌≤◌, List, [], ◌∷◌, ◌++◌, length, take, drop, get_or, refl, sym, ◌∙◌, ap, append_assoc}
use Rattle.std.proofs.{Common.{count_ones, All, take_all, subst}, lemmas.List.{append-nil, drop_all, drop_more, Concat.flat_map-cons}}
use Rattle.std.specs.List.{flat_map}
use Rattle.epoch_snapshot.specs.{declared.changes.{PageChange.PageChange, SectorChange.SectorChange}, Checkpoints.Change}
use Rattle.checkpoint_stream.specs.{declared.rules.{Row.Row, Width.TheVariants.{Four, Eight}}, HeadTable.{bytes_of, head_table}, Text.text}
use Rattle.checkpoint_stream.specs.Text.{units, units_of_frames, head_numbers, joined, number_units, page_units, sector_units, frame_units}
use Rattle.arrayvec.specs.ArrayVec.{ArrayVec}

-- one more element is put: its bytes stood at the front of what was to come
pub advance : (out unit put rest before whole : List ℕ) → out ++ before ≡ whole → before ≡ unit ++ rest → put ≡ out ++ unit →
    put ++ rest ≡ whole
advance out unit put rest before whole so_far front is =
    ap (λ (l : List ℕ). l ++ rest) is ∙ append_assoc out unit rest ∙ ap (λ (l : List ℕ). out ++ l) (sym front) ∙ so_far

-- nothing is to come
pub finish : (out before whole : List ℕ) → out ++ before ≡ whole → before ≡ [] → out ≡ whole
finish out before whole so_far nothing = sym (append-nil out) ∙ ap (λ (l : List ℕ). out ++ l) (sym nothing) ∙ so_far

units-at : (rows : List Row) (ns : List ℕ) (row : Row) (n : ℕ) →
    joined (number_units (row ∷ rows) (n ∷ ns)) ≡ bytes_of row.width n ++ joined (number_units rows ns)
unfolding joined number_units
units-at rows ns row n = refl

pub number_units-drop : (rows : List Row) (ns : List ℕ) (i : ℕ) (row : Row) (n : ℕ) → i < length rows → i < length ns →
    joined (number_units (drop i rows) (drop i ns)) ≡ bytes_of (get_or rows i row).width (get_or ns i n)
    ++ joined (number_units (drop (i + 1) rows) (drop (i + 1) ns))
number_units-drop rows ns i row n h k =
    rw (drop_more rows i row h, drop_more ns i n k) (units-at (drop (i + 1) rows) (drop (i + 1) ns) (get_or rows i row) (get_or ns i n))

pub number_units-done : (rows : List Row) (ns : List ℕ) (i : ℕ) → length rows ≤ i → joined (number_units (drop i rows) ns) ≡ []
unfolding joined number_units
number_units-done rows ns i h = rw (drop_all i rows h) refl

pub sector-at : (s : SectorChange) (ss : List SectorChange) →
    joined (sector_units (s ∷ ss)) ≡ bytes_of Four s.sector ++ (s.bytes ++ joined (sector_units ss))
unfolding joined sector_units
sector-at s ss = refl

pub sector_units-drop : (ss : List SectorChange) (i : ℕ) (d : SectorChange) → i < length ss →
    joined (sector_units (drop i ss)) ≡ (bytes_of Four (get_or ss i d).sector ++ (get_or ss i d).bytes)
    ++ joined (sector_units (drop (i + 1) ss))
sector_units-drop ss i d h =
    rw (drop_more ss i d h) (sector-at (get_or ss i d) (drop (i + 1) ss)
    ∙ sym (append_assoc (bytes_of Four (get_or ss i d).sector) (get_or ss i d).bytes (joined (sector_units (drop (i + 1) ss)))))

pub sector_units-done : (ss : List SectorChange) (i : ℕ) → length ss ≤ i → joined (sector_units (drop i ss)) ≡ []
unfolding joined sector_units
sector_units-done ss i h = rw (drop_all i ss h) refl

pub joined-append : (us vs : List (List ℕ)) → joined (us ++ vs) ≡ joined us ++ joined vs
unfolding joined
joined-append [] vs = refl
joined-append (u ∷ us) vs = ap (λ (l : List ℕ). u ++ l) (joined-append us vs) ∙ sym (append_assoc u (joined us) (joined vs))

page-at : (p : PageChange) (ps : List PageChange) (blocks : List (List ℕ)) →
    joined (page_units (p ∷ ps) blocks)
    ≡ bytes_of Four p.page ++ (bytes_of Eight p.mask ++ joined (take (count_ones p.mask) blocks
    ++ page_units ps (drop (count_ones p.mask) blocks)))
unfolding joined page_units
page-at p ps blocks = refl

page-spelled : (p : PageChange) (ps : List PageChange) (blocks : List (List ℕ)) →
    joined (page_units (p ∷ ps) blocks)
    ≡ (bytes_of Four p.page ++ bytes_of Eight p.mask ++ joined (take (count_ones p.mask) blocks))
    ++ joined (page_units ps (drop (count_ones p.mask) blocks))
page-spelled p ps blocks =
    page-at p ps blocks
    ∙ ap (λ (l : List ℕ). bytes_of Four p.page ++ (bytes_of Eight p.mask
    ++ l)) (joined-append (take (count_ones p.mask) blocks) (page_units ps (drop (count_ones p.mask) blocks)))
    ∙ sym (append_assoc (bytes_of Four p.page) (bytes_of Eight p.mask) _)
    ∙ sym (append_assoc (bytes_of Four p.page ++ bytes_of Eight p.mask) _ _)

pub page_units-drop : (ps : List PageChange) (blocks : List (List ℕ)) (i : ℕ) (d : PageChange) → i < length ps →
    joined (page_units (drop i ps) blocks)
    ≡ (bytes_of Four (get_or ps i d).page ++ bytes_of Eight (get_or ps i d).mask ++ joined (take (count_ones (get_or ps i d).mask) blocks))
    ++ joined (page_units (drop (i + 1) ps) (drop (count_ones (get_or ps i d).mask) blocks))
page_units-drop ps blocks i d h = rw (drop_more ps i d h) (page-spelled (get_or ps i d) (drop (i + 1) ps) blocks)

pub page_units-done : (ps : List PageChange) (blocks : List (List ℕ)) (i : ℕ) → length ps ≤ i → joined (page_units (drop i ps) blocks) ≡ []
unfolding joined page_units
page_units-done ps blocks i h = rw (drop_all i ps h) refl

pub page_units-split : (ps : List PageChange) (blocks own later : List (List ℕ)) (i : ℕ) (d : PageChange) → i < length ps →
    own ≡ take (count_ones (get_or ps i d).mask) blocks → later ≡ drop (count_ones (get_or ps i d).mask) blocks →
    joined (page_units (drop i ps) blocks)
    ≡ (bytes_of Four (get_or ps i d).page ++ bytes_of Eight (get_or ps i d).mask ++ joined own)
    ++ joined (page_units (drop (i + 1) ps) later)
page_units-split ps blocks own later i d h front back = rw (front, back) (page_units-drop ps blocks i d h)

-- the parts of a text, put one after another
pub assembled : (start head count pages sectors_count sectors one two three four five : List ℕ) → start ≡ [] → one ≡ start ++ head →
    two ≡ one ++ count →
    three ≡ two ++ pages → four ≡ three ++ sectors_count → five ≡ four ++ sectors →
    five ≡ head ++ ((count ++ pages) ++ (sectors_count ++ sectors))
assembled start head count pages sectors_count sectors one two three four five e0 e1 e2 e3 e4 e5 =
    e5 ∙ ap (λ (l : List ℕ). l ++ sectors) (e4 ∙ ap (λ (l : List ℕ). l ++ sectors_count) (e3 ∙ ap (λ (l : List ℕ). l ++ pages)
    (e2 ∙ ap (λ (l : List ℕ). l ++ count) (e1 ∙ ap (λ (l : List ℕ). l ++ head) e0)))) ∙ simp append_assoc

-- and the frames after them
pub assembled-frames : (head pages sectors frames_count frames five six seven : List ℕ) → five ≡ head ++ (pages ++ sectors) →
    six ≡ five ++ frames_count → seven ≡ six ++ frames → seven ≡ head ++ (pages ++ (sectors ++ (frames_count ++ frames)))
assembled-frames head pages sectors frames_count frames five six seven e5 e6 e7 =
    e7 ∙ ap (λ (l : List ℕ). l ++ frames) (e6 ∙ ap (λ (l : List ℕ). l ++ frames_count) e5) ∙ simp append_assoc

-- what is true of each element of a list, element after element
pub all-seen : {X : Type 0} (P : X → Type 0) (xs : List X) (i : ℕ) → length xs ≤ i → All P (take i xs) → All P xs
all-seen P xs i h all = subst (All P) (take_all i xs h) all

joined-cons : (u : List ℕ) (us : List (List ℕ)) → joined (u ∷ us) ≡ u ++ joined us
unfolding joined
joined-cons u us = refl

pub put-after : (a b c d : List ℕ) → a ≡ b → c ≡ d → a ++ c ≡ b ++ d
put-after a b c d e f = ap (λ (l : List ℕ). l ++ c) e ∙ ap (λ (l : List ℕ). b ++ l) f

pub text-spelled : (c : Change) →
    text c ≡ joined (number_units head_table (head_numbers c)) ++ ((bytes_of Four (length c.pages) ++ joined (page_units c.pages c.blocks))
    ++ ((bytes_of Four (length c.sectors) ++ joined (sector_units c.sectors)) ++ joined (units_of_frames c.version c.frames)))
unfolding text units
text-spelled c =
    joined-append (number_units head_table (head_numbers c)) _
    ∙ ap (λ (l : List ℕ). joined (number_units head_table (head_numbers c))
    ++ l) (joined-append (bytes_of Four (length c.pages) ∷ page_units c.pages c.blocks) _
    ∙ put-after _ _ _ _ (joined-cons _ _) (joined-append (bytes_of Four (length c.sectors) ∷ sector_units c.sectors) _
    ∙ ap (λ (l : List ℕ). l ++ joined (units_of_frames c.version c.frames)) (joined-cons _ _)))

-- what follows the sector records in version 2
pub frames-spelled : (version : ℕ) (fs : List (ArrayVec ℕ)) → version ≡ 2 →
    joined (units_of_frames version fs) ≡ bytes_of Four (length fs) ++ joined (frame_units fs)
frames-spelled version fs e = ap (λ (n : ℕ). joined (units_of_frames n fs)) e ∙ joined-cons _ _

-- the parts of a checkpoint, put one after another, are its text
pub encoded : (c : Change) (numbers : List ℕ) (pages : List PageChange) (blocks : List (List ℕ)) (sectors : List SectorChange)
    (frames : List (ArrayVec ℕ)) (start one two three four five six seven : List ℕ) → numbers ≡ head_numbers c → pages ≡ c.pages →
    blocks ≡ c.blocks → sectors ≡ c.sectors → frames ≡ c.frames → c.version ≡ 2 → start ≡ [] →
    one ≡ start ++ joined (number_units head_table numbers) → two ≡ one ++ bytes_of Four (length pages) →
    three ≡ two ++ joined (page_units pages blocks) → four ≡ three ++ bytes_of Four (length sectors) →
    five ≡ four ++ joined (sector_units sectors) → six ≡ five ++ bytes_of Four (length frames) → seven ≡ six ++ joined (frame_units frames) →
    seven ≡ text c
encoded c numbers pages blocks sectors frames start one two three four five six seven n p b s f version e0 e1 e2 e3 e4 e5 e6 e7 =
    assembled-frames (joined (number_units head_table numbers)) (bytes_of Four (length pages) ++ joined (page_units pages blocks))
    (bytes_of Four (length sectors) ++ joined (sector_units sectors)) (bytes_of Four (length frames)) (joined (frame_units frames)) five six
    seven
    (assembled start (joined (number_units head_table numbers)) (bytes_of Four (length pages)) (joined (page_units pages blocks))
    (bytes_of Four (length sectors)) (joined (sector_units sectors)) one two three four five e0 e1 e2 e3 e4 e5) e6 e7
    ∙ (λ i. joined (number_units head_table (n i)) ++ ((bytes_of Four (length (p i)) ++ joined (page_units (p i) (b i)))
    ++ ((bytes_of Four (length (s i)) ++ joined (sector_units (s i))) ++ (bytes_of Four (length (f i)) ++ joined (frame_units (f i))))))
    ∙ ap (λ (l : List ℕ). joined (number_units head_table (head_numbers c)) ++ ((bytes_of Four (length c.pages)
    ++ joined (page_units c.pages c.blocks)) ++ ((bytes_of Four (length c.sectors) ++ joined (sector_units c.sectors)) ++ l)))
    (sym (frames-spelled c.version c.frames version))
    ∙ sym (text-spelled c)

pub frame-at : (f : ArrayVec ℕ) (fs : List (ArrayVec ℕ)) →
    joined (frame_units (f ∷ fs)) ≡ bytes_of Four (length f.items) ++ (f.items ++ joined (frame_units fs))
unfolding joined frame_units
frame-at f fs = refl

pub frame_units-drop : (fs : List (ArrayVec ℕ)) (i : ℕ) (d : ArrayVec ℕ) → i < length fs →
    joined (frame_units (drop i fs)) ≡ (bytes_of Four (length (get_or fs i d).items) ++ (get_or fs i d).items)
    ++ joined (frame_units (drop (i + 1) fs))
frame_units-drop fs i d h =
    rw (drop_more fs i d h) (frame-at (get_or fs i d) (drop (i + 1) fs)
    ∙ sym (append_assoc (bytes_of Four (length (get_or fs i d).items)) (get_or fs i d).items (joined (frame_units (drop (i + 1) fs)))))

pub frame_units-done : (fs : List (ArrayVec ℕ)) (i : ℕ) → length fs ≤ i → joined (frame_units (drop i fs)) ≡ []
unfolding joined frame_units
frame_units-done fs i h = rw (drop_all i fs h) refl

-- the bytes of blocks that lie one after another
pub joined-flat : (us : List (List ℕ)) → flat_map (λ u. u) us ≡ joined us
unfolding joined
joined-flat [] = refl
joined-flat (u ∷ us) = flat_map-cons (λ (l : List ℕ). l) u us ∙ ap (λ (l : List ℕ). u ++ l) (joined-flat us)
