-- The records of pages as a cut over zeros has them.
use Rattle.std.specs.Prelude.{ℕ, List, [], ◌∷◌, ◌++◌}
use Rattle.epoch_snapshot.specs.declared.changes.PageChange.{PageChange}
use Rattle.epoch_snapshot.specs.Cuts.{changed_blocks}
use Rattle.checkpoint_stream.specs.HeadTable.{bytes_of}
use Rattle.checkpoint_stream.specs.Text.{joined}
use Rattle.checkpoint_stream.specs.declared.rules.Width.TheVariants.{Four, Eight}
use Rattle.full_text.specs.Full.{zeros}

abbrev pub record_of : List ℕ → PageChange → List ℕ
record_of ram p = bytes_of Four p.page ++ bytes_of Eight p.mask ++ joined (changed_blocks (zeros ram) ram (p ∷ []))

unfoldable pub records : List ℕ → List PageChange → List ℕ
records ram [] = []
records ram (p ∷ ps) = record_of ram p ++ records ram ps
