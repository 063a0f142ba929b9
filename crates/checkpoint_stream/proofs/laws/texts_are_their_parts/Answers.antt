use Rattle.std.proofs.{Common.{ℕ, List, ◌∷◌, ◌++◌, count_ones, length, sym, ap, ◌∙◌, arith}, lemmas.List.{take_at, drop_at}}
use Rattle.checkpoint_stream.specs.{declared.rules.Width.TheVariants.Four, HeadTable.{bytes_of, head_table}}
use Rattle.checkpoint_stream.specs.Text.{head_numbers, number_units, page_units, sector_units, joined}
use Rattle.checkpoint_stream.proofs.{Spelling.{frames-spelled, joined-append, page_units-split, text-spelled}, TextSizes.text_size}
use Rattle.checkpoint_stream.proofs.laws.texts_are_their_parts.Goals as goal

pub returns-clause-parts : goal.returns-clause-parts
returns-clause-parts _ = λ c second.
    text-spelled c
    ∙ ap (λ (l : List ℕ). joined (number_units head_table (head_numbers c))
    ++ ((bytes_of Four (length c.pages) ++ joined (page_units c.pages c.blocks))
    ++ ((bytes_of Four (length c.sectors) ++ joined (sector_units c.sectors)) ++ l))) (frames-spelled c.version c.frames second)

pub returns-clause-page : goal.returns-clause-page
returns-clause-page _ = λ p ps own later long.
    page_units-split (p ∷ ps) (own ++ later) own later 0 p (omega arith) (sym (take_at own later (count_ones p.mask) long))
    (sym (drop_at own later (count_ones p.mask) long))

pub returns-clause-joined : goal.returns-clause-joined
returns-clause-joined _ = joined-append

pub returns-clause-short : goal.returns-clause-short
returns-clause-short _ = text_size
