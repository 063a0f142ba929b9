use Rattle.std.proofs.lemmas.List.{get_or_default}
use Rattle.checkpoint_stream.specs.HeadTable.{row_at, head_table}
use Rattle.checkpoint_stream.proofs.rules.head_row.Goals as goal

pub returns : goal.returns
unfolding row_at head_table
returns c = get_or_default head_table c.args.index _ _ c.requires
