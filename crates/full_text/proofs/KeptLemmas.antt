-- What is kept of pages, and the records that are made of it.
use Rattle.std.proofs.Common.{◌≡◌, ◌≢◌, ℕ, zero, suc, ◌+◌, ◌-◌, ◌*◌, ◌<◌, ◌≤◌, List, [], ◌∷◌, ◌++◌, length, map, take, drop, replicate, get_or, refl, sym, ap}
use Rattle.std.proofs.Common.{◌∙◌, arith, append_assoc, All, Option, None, Some, set, option_map}
use Rattle.std.proofs.lemmas.List.{append-nil, length-append, length-drop, drop-append-le, take-append-le, take_all, drop_at, drop_all, drop-drop, map-set}
use Rattle.std.proofs.lemmas.List.{get_or-set_same, get_or-set_other}
use Rattle.std.proofs.lemmas.List.Elements.{All-head, All-tail, All-weaker}
use Rattle.guest_rules.specs.Pages.{page_of}
use Rattle.epoch_snapshot.specs.declared.changes.PageChange.{PageChange}
use Rattle.epoch_snapshot.specs.Blocks.{block_in, set_blocks}
use Rattle.checkpoint_stream.specs.HeadTable.{bytes_of}
use Rattle.checkpoint_stream.specs.Text.{joined}
use Rattle.checkpoint_stream.specs.declared.rules.Width.TheVariants.{Four, Eight}
use Rattle.full_text.specs.Full.{AreIn, Making, kept_or, page_at, page_record, page_records, whole}
use Rattle.full_text.specs.internal.CutRecords.{records}
use Rattle.full_text.specs.internal.KeptFields.{page_from, place_end}
use Rattle.full_text.proofs.RecordLemmas.{OwnAreRecorded, next}

-- ---- how pages are kept

page-longer : (bytes more : List ℕ) (place : ℕ) → place + 4096 ≤ length bytes → page_from (bytes ++ more) place ≡ page_from bytes place
page-longer bytes more place within =
    ap (take ((place + 4096) - place)) (drop-append-le place bytes more (omega arith))
    ∙ take-append-le ((place + 4096) - place) (drop place bytes) more (omega (arith, length-drop place bytes))

page-last : (bytes page : List ℕ) (place : ℕ) → place ≡ length bytes → length page ≡ 4096 → page_from (bytes ++ page) place ≡ page
page-last bytes page place end long =
    ap (take ((place + 4096) - place)) (drop_at bytes page place (sym end)) ∙ take_all ((place + 4096) - place) page (omega arith)

pub kept-longer : (bytes more : List ℕ) (places : List (Option ℕ)) → All (λ (at : Option ℕ). place_end at ≤ length bytes) places
    → map (λ (at : Option ℕ). option_map (page_from (bytes ++ more)) at) places ≡ map (λ (at : Option ℕ). option_map (page_from bytes) at) places
kept-longer bytes more [] fits = refl
kept-longer bytes more (None ∷ places) fits =
    ap (λ (l : List (Option (List ℕ))). None ∷ l)
    (kept-longer bytes more places (All-tail (λ (at : Option ℕ). place_end at ≤ length bytes) None places fits))
kept-longer bytes more (Some place ∷ places) fits =
    λ i. Some (page-longer bytes more place (All-head (λ (at : Option ℕ). place_end at ≤ length bytes) (Some place) places fits) i)
    ∷ kept-longer bytes more places (All-tail (λ (at : Option ℕ). place_end at ≤ length bytes) (Some place) places fits) i

-- one page more is kept
pub kept-put : (bytes page all : List ℕ) (places : List (Option ℕ)) (n place : ℕ)
    → All (λ (at : Option ℕ). place_end at ≤ length bytes) places → place ≡ length bytes → length page ≡ 4096 → all ≡ bytes ++ page
    → map (λ (at : Option ℕ). option_map (page_from all) at) (set places n (Some place))
    ≡ set (map (λ (at : Option ℕ). option_map (page_from bytes) at) places) n (Some page)
kept-put bytes page all places n place fits end long is =
    ap (λ (l : List ℕ). map (λ (at : Option ℕ). option_map (page_from l) at) (set places n (Some place))) is
    ∙ map-set (λ (at : Option ℕ). option_map (page_from (bytes ++ page)) at) places n (Some place)
    ∙ (λ i. set (kept-longer bytes page places fits i) n (Some (page-last bytes page place end long i)))

pub places-longer : (bytes more all : List ℕ) (places : List (Option ℕ)) → all ≡ bytes ++ more
    → All (λ (at : Option ℕ). place_end at ≤ length bytes) places → All (λ (at : Option ℕ). place_end at ≤ length all) places
places-longer bytes more all places is fits =
    All-weaker (λ (at : Option ℕ). place_end at ≤ length bytes) (λ (at : Option ℕ). place_end at ≤ length all)
    (λ at within. omega (arith, within, ap (λ (l : List ℕ). length l) is, length-append bytes more)) places fits

none-replicate : (bytes : List ℕ) (n page : ℕ)
    → get_or (map (λ (at : Option ℕ). option_map (page_from bytes) at) (replicate n None)) page None ≡ None
none-replicate bytes zero page = refl
none-replicate bytes (suc n) zero = refl
none-replicate bytes (suc n) (suc page) = none-replicate bytes n page

-- places of pages that aren't kept change nothing
pub more-places : (bytes : List ℕ) (places : List (Option ℕ)) (n page : ℕ)
    → get_or (map (λ (at : Option ℕ). option_map (page_from bytes) at) (places ++ replicate n None)) page None
    ≡ get_or (map (λ (at : Option ℕ). option_map (page_from bytes) at) places) page None
more-places bytes [] n page = none-replicate bytes n page
more-places bytes (at ∷ places) n zero = refl
more-places bytes (at ∷ places) n (suc page) = more-places bytes places n page

pub more-seen : (bytes now : List ℕ) (places others : List (Option ℕ)) (k n page : ℕ) → now ≡ bytes → others ≡ take k places ++ replicate n None
    → length places ≤ k
    → get_or (map (λ (at : Option ℕ). option_map (page_from now) at) others) page None
    ≡ get_or (map (λ (at : Option ℕ). option_map (page_from bytes) at) places) page None
more-seen bytes now places others k n page same more all =
    (λ i. get_or (map (λ (at : Option ℕ). option_map (page_from (same i)) at) (more i)) page None)
    ∙ ap (λ (l : List (Option ℕ)). get_or (map (λ (at : Option ℕ). option_map (page_from bytes) at) (l ++ replicate n None)) page None)
    (take_all k places all)
    ∙ more-places bytes places n page

pub same-seen : (bytes now : List ℕ) (places others : List (Option ℕ)) (page : ℕ) → now ≡ bytes → others ≡ places
    → get_or (map (λ (at : Option ℕ). option_map (page_from now) at) others) page None
    ≡ get_or (map (λ (at : Option ℕ). option_map (page_from bytes) at) places) page None
same-seen bytes now places others page same is =
    λ i. get_or (map (λ (at : Option ℕ). option_map (page_from (same i)) at) (is i)) page None

-- ---- what pages have, where one more is kept

pub set-here : (ram : List ℕ) (kept : List (Option (List ℕ))) (page : ℕ) (bytes : List ℕ) → page < length kept
    → page_at ram (set kept page (Some bytes)) page ≡ bytes
set-here ram kept page bytes within = ap (kept_or (page_of ram page)) (get_or-set_same kept page (Some bytes) None within)

pub set-other : (ram : List ℕ) (kept : List (Option (List ℕ))) (page q : ℕ) (bytes : List ℕ) → q ≢ page
    → page_at ram (set kept page (Some bytes)) q ≡ page_at ram kept q
set-other ram kept page q bytes apart = ap (kept_or (page_of ram q)) (get_or-set_other kept page q (Some bytes) None apart)

-- ---- records

pub records-cons : (f : ℕ → List ℕ) (p : PageChange) (ps : List PageChange) → page_records f (p ∷ ps) ≡ page_record (f p.page) p ++ page_records f ps
unfolding page_records
records-cons f p ps = refl

pub records-agree : (f g : ℕ → List ℕ) (ps : List PageChange) → All (λ (p : PageChange). f p.page ≡ g p.page) ps
    → page_records f ps ≡ page_records g ps
unfolding page_records
records-agree f g [] same = refl
records-agree f g (p ∷ ps) same =
    λ i. page_record (All-head (λ (p : PageChange). f p.page ≡ g p.page) p ps same i) p
    ++ records-agree f g ps (All-tail (λ (p : PageChange). f p.page ≡ g p.page) p ps same) i

pub records-none : (f : ℕ → List ℕ) → page_records f [] ≡ []
unfolding page_records
records-none f = refl

pub record-put : (bytes xs ys zs out : List ℕ) (p : PageChange) → ys ≡ xs ++ bytes_of Four p.page → zs ≡ ys ++ bytes_of Eight p.mask
    → out ≡ zs ++ joined (map (λ i. block_in bytes i) (set_blocks p.mask)) → out ≡ xs ++ page_record bytes p
record-put bytes xs ys zs out p e f g =
    let blocks = joined (map (λ i. block_in bytes i) (set_blocks p.mask)) in
    g
    ∙ ap (λ l. l ++ blocks) (f ∙ ap (λ l. l ++ bytes_of Eight p.mask) e ∙ append_assoc xs (bytes_of Four p.page) (bytes_of Eight p.mask))
    ∙ append_assoc xs (bytes_of Four p.page ++ bytes_of Eight p.mask) blocks

pub records-next : (f : ℕ → List ℕ) (xs ys : List ℕ) (ps : List PageChange) (i : ℕ) (d : PageChange) → i < length ps
    → ys ≡ xs ++ page_record (f (get_or ps i d).page) (get_or ps i d)
    → ys ++ page_records f (drop (i + 1) ps) ≡ xs ++ page_records f (drop i ps)
records-next f xs ys ps i d within e =
    ap (λ l. l ++ page_records f (drop (i + 1) ps)) e
    ∙ append_assoc xs (page_record (f (get_or ps i d).page) (get_or ps i d)) (page_records f (drop (i + 1) ps))
    ∙ ap (λ l. xs ++ l) (sym (records-cons f (get_or ps i d) (drop (i + 1) ps)) ∙ ap (page_records f) (sym (next ps i d within)))

-- what is kept for the pages that are left makes their text
pub whole-agree : (ram settled : List ℕ) (f : Making) → All (λ (p : PageChange). page_at ram f.kept p.page ≡ page_at settled f.kept p.page) f.pages
    → whole ram f ≡ whole settled f
whole-agree ram settled f same = ap (λ l. f.made ++ (l ++ f.tail)) (records-agree (page_at ram f.kept) (page_at settled f.kept) f.pages same)

pub whole-same : (settled made tail : List ℕ) (kept before : List (Option (List ℕ))) (pages : List PageChange)
    → ((q : ℕ) → page_at settled kept q ≡ page_at settled before q)
    → made ++ (page_records (page_at settled kept) pages ++ tail) ≡ made ++ (page_records (page_at settled before) pages ++ tail)
whole-same settled made tail kept before pages same = λ i. made ++ (page_records (λ q. same q i) pages ++ tail)

-- where nothing is kept, they are those of a cut over zeros
pub records-plain : OwnAreRecorded → (ram : List ℕ) (ps : List PageChange) → AreIn (length ram) ps → page_records (page_at ram []) ps ≡ records ram ps
unfolding page_records records
records-plain own ram [] within = refl
records-plain own ram (p ∷ ps) within =
    let here = All-head (λ (p : PageChange). 4096 * p.page + 4096 ≤ length ram) p ps within in
    let later = All-tail (λ (p : PageChange). 4096 * p.page + 4096 ≤ length ram) p ps within in
    λ i. (bytes_of Four p.page ++ bytes_of Eight p.mask ++ joined (own ram p here i)) ++ records-plain own ram ps later i

-- ---- the last records are made, and of the tail behind them a part

pub make-end : (f : ℕ → List ℕ) (made out all tail left : List ℕ) (pages slice : List PageChange) (next r : ℕ)
    → out ++ page_records f (drop r slice) ≡ made ++ page_records f slice → slice ≡ drop next pages → length pages ≤ next + r
    → all ++ left ≡ out ++ tail → all ++ (page_records f (drop (next + r) pages) ++ left) ≡ made ++ (page_records f (drop next pages) ++ tail)
make-end f made out all tail left pages slice next r e is past put =
    let none : drop (next + r) pages ≡ [] = drop_all (next + r) pages past in
    let gone : drop r slice ≡ [] = ap (drop r) is ∙ drop-drop r next pages ∙ none in
    let records : out ≡ made ++ page_records f slice =
    sym (append-nil out) ∙ ap (λ l. out ++ l) (sym (records-none f)) ∙ ap (λ ps. out ++ page_records f ps) (sym gone) ∙ e in
    ap (λ ps. all ++ (page_records f ps ++ left)) none
    ∙ ap (λ l. all ++ (l ++ left)) (records-none f)
    ∙ put
    ∙ ap (λ l. l ++ tail) records
    ∙ append_assoc made (page_records f slice) tail
    ∙ ap (λ ps. made ++ (page_records f ps ++ tail)) is

pub whole-made : (ram : List ℕ) (f : Making) → f.pages ≡ [] → f.tail ≡ [] → whole ram f ≡ f.made
whole-made ram f pages tail =
    (λ i. f.made ++ (page_records (page_at ram f.kept) (pages i) ++ tail i))
    ∙ ap (λ l. f.made ++ (l ++ [])) (records-none (page_at ram f.kept))
    ∙ append-nil f.made
