use Rattle.checkpoint_stream.specs.Readings.{begun}
use Rattle.backup_image.proofs.StreamLemmas.{follows-all, one-reading, texts-are-read}
use Rattle.backup_image.proofs.laws.stopped_streams_leave_whole_checkpoints.Goals as goal

pub returns-clause-stopped : goal.returns-clause-stopped
returns-clause-stopped c shape offset i calls bare = follows-all calls (begun shape offset) i bare

pub returns-clause-one : goal.returns-clause-one
returns-clause-one c start bytes cs ds p q = one-reading cs ds start bytes p q

pub returns-clause-written : goal.returns-clause-written
returns-clause-written c shape offset cs d front rest all k is some =
    texts-are-read c.text_is_read_back.ensures c.each_byte_is_needed.ensures shape cs offset d front rest all k is some
